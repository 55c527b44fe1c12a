-- A server that has a part of a setup's or rebuild's frames answers no search.
use Rattle.std.proofs.Common.{◌≡◌, ℕ, suc, ◌+◌, ◌*◌, ◌<◌, ◌≤◌, Bool, true, false, List, [], ◌∷◌, ◌++◌, length, map, refl, sym, ap, ◌∙◌, subst, arith, length-append}
use Rattle.std.specs.List.{AllByRecursion}
use Rattle.std.specs.Option.{option_map_or}
use Rattle.std.specs.Prelude.{if◌then◌else◌, Option, Some, None}
use Rattle.list_packing.specs.Parts.{parts}
use Rattle.client_registry.proofs.FromEnd.{from_end}
use Rattle.client_registry.specs.Epochs.{next_begins, setup_renewed}
use Rattle.client_registry.specs.Run.{History, Offsets, last_run, at_first}
use Rattle.client_registry.specs.Setup.{Setup}
use Rattle.keyed_fn.specs.KeyedFn.{KeyedFn}
use Rattle.server_core.specs.State as server
use Rattle.server_core.specs.State.{ServerState, is_ready}
use Rattle.server_core.specs.Step.{taken, answers, step}
use Rattle.sse_frames.specs.Frames.{Entry, FrameText, SetupBegin, SetupDict, SetupArray, SetupEnd, SearchFrame}
use Rattle.sse_frames.specs.Order.{by_bytes}
use Rattle.sse_frames.specs.Replies.{ReplyText, OutOfPlace}
use Rattle.sse_frames.specs.SentParts.{numbered, dict_frames, array_frames, setup_frames}
use Rattle.sse_model.proofs.Counts.{AllByRecursion-append, AllByRecursion-each}
use Rattle.sse_model.specs.Histories.{frames_sent}
use Rattle.sse_model.specs.Names.{Table, table}
use Rattle.sse_model.specs.Positions.{sealed, ranks_of, entry_positions, block_positions}
use Rattle.sse_model.specs.Wire.{labels_in, frames_of_setup}
use Rattle.sse_server.specs.Taken.{taken_all}
use Rattle.two_level.specs.Shape.{Shape}
use Rattle.world_model.proofs.Lists.{but_last-push}
use Rattle.world_model.specs.Events.{but_last}
use Rattle.world_model.specs.Rules.{AreAccepted, IsFront}
use Rattle.world_rules.proofs.Answered.{taken_all-append}
use Rattle.world_rules.proofs.Numbered.{history_of-push, accepted-push, frames_next, sends}
use Rattle.world_rules.specs.Changes.{Change, SetsUp, Adds, Deletes, Renews, history_of}
use Rattle.world_rules.specs.Rules.{accepts, replies_to, store_rules}

-- a frame after which a server isn't ready, if it wasn't before
abbrev pub IsInside : FrameText → Type 0
IsInside frame = (s : ServerState) → is_ready s.stage ≡ false → is_ready (taken s frame).stage ≡ false

stays : (s : ServerState) (frames : List FrameText) → AllByRecursion IsInside frames → is_ready s.stage ≡ false → is_ready (taken_all s frames).stage ≡ false
stays s [] all e = e
stays s (x ∷ xs) all e = stays (taken s x) xs all.1 (all.0 s e)

all_numbered : (q : ℕ) (gs : List (ℕ → FrameText)) → AllByRecursion (λ g. (n : ℕ) → IsInside (g n)) gs → AllByRecursion IsInside (numbered q gs)
all_numbered q [] all = tt
all_numbered q (g ∷ gs) all = (all.0 q, all_numbered (q + 1) gs all.1)

numbered-append : (q : ℕ) (xs ys : List (ℕ → FrameText)) → numbered q (xs ++ ys) ≡ numbered q xs ++ numbered (q + length xs) ys
numbered-append q [] ys = let e : q ≡ q + 0 = omega arith in ap (λ n. numbered n ys) e
numbered-append q (x ∷ xs) ys = let e : q + 1 + length xs ≡ q + suc (length xs) = omega arith in ap (λ rest. x q ∷ rest) (numbered-append (q + 1) xs ys ∙ ap (λ n. numbered (q + 1) xs ++ numbered n ys) e)

-- the first of a list that is one longer than another are the first of that other
front_of : (front rest all : List FrameText) (last : FrameText) → front ++ rest ≡ all ++ last ∷ [] → length front ≤ length all → (more : List FrameText) × (front ++ more ≡ all)
front_of [] rest all last e l = (all, refl)
front_of (x ∷ front) rest [] last e l = absurd (omega (arith, l))
front_of (x ∷ front) rest (y ∷ all) last e l =
    let tails : front ++ rest ≡ all ++ last ∷ [] = ap tail e in
    let heads : x ≡ y = some_is x y (ap first e) in
    let deeper = front_of front rest all last tails (omega (arith, l)) in
    (deeper.0, (λ i. heads i ∷ deeper.1 i))
  where
    tail : List FrameText → List FrameText
    tail [] = []
    tail (z ∷ zs) = zs

    first : List FrameText → Option FrameText
    first [] = None
    first (z ∷ zs) = Some z

    some_is : (a b : FrameText) → Some a ≡ Some b → a ≡ b
    some_is a b p = cc

all_front : (xs ys : List FrameText) → AllByRecursion IsInside (xs ++ ys) → AllByRecursion IsInside xs
all_front [] ys all = tt
all_front (x ∷ xs) ys all = (all.0, all_front xs ys all.1)

module _ (q : ℕ) (shape : Shape) (entries blocks : List Entry) where
  abbrev begun : FrameText
  begun = SetupBegin q shape.b shape.big (length entries) (length blocks)

  abbrev inside : List (ℕ → FrameText)
  inside = dict_frames shape entries ++ array_frames shape blocks

  P : (ℕ → FrameText) → Type 0
  P g = (k : ℕ) → IsInside (g k)

  all_inside : AllByRecursion (λ g. (k : ℕ) → IsInside (g k)) inside
  unfolding P
  all_inside =
      AllByRecursion-append P (dict_frames shape entries) (array_frames shape blocks)
      (AllByRecursion-each P (λ part k. SetupDict k (1 + 8 * shape.b) part) (λ part k s e. e) (parts 1024 (by_bytes (λ entry. entry.label) entries)))
      (AllByRecursion-each P (λ part k. SetupArray k (8 * shape.big) (map (λ block. block.text) part)) (λ part k s e. e) (parts 256 (by_bytes (λ block. block.label) blocks)))

  -- within a setup's frames a server isn't ready, whatever it was before
  pub setup_stays : (s : ServerState) (front rest : List FrameText) → front ++ rest ≡ setup_frames q shape entries blocks → 1 ≤ length front → length front < length (setup_frames q shape entries blocks)
      → is_ready (taken_all s front).stage ≡ false
  setup_stays s [] rest e some l = absurd (omega (arith, some))
  setup_stays s (x ∷ front) rest e some l =
      let middle = numbered (q + 1) inside in
      let ending : numbered (q + 1) (inside ++ (λ k. SetupEnd k) ∷ []) ≡ middle ++ SetupEnd (q + 1 + length inside) ∷ [] = numbered-append (q + 1) inside ((λ k. SetupEnd k) ∷ []) in
      let same : setup_frames q shape entries blocks ≡ begun ∷ middle ++ SetupEnd (q + 1 + length inside) ∷ [] =
      ap (λ rest. begun ∷ rest) ending
      in
      let long : length (setup_frames q shape entries blocks) ≡ suc (length middle + 1) = ap length same ∙ ap (λ (n : ℕ). suc n) (length-append middle (SetupEnd (q + 1 + length inside) ∷ [])) in
      let head : x ≡ begun = some_is x begun (ap first (e ∙ same)) in
      let part = front_of front rest middle (SetupEnd (q + 1 + length inside)) (ap tail (e ∙ same)) (omega (arith, l, long)) in
      let all : AllByRecursion IsInside front = all_front front part.0 (subst (AllByRecursion IsInside) (sym part.1) (all_numbered (q + 1) inside all_inside)) in
      subst (λ y. is_ready (taken_all (taken s y) front).stage ≡ false) (sym head) (stays (taken s begun) front all refl)
    where
      tail : List FrameText → List FrameText
      tail [] = []
      tail (z ∷ zs) = zs

      first : List FrameText → Option FrameText
      first [] = None
      first (z ∷ zs) = Some z

      some_is : (a b : FrameText) → Some a ≡ Some b → a ≡ b
      some_is a b p = cc

-- and says of a search that it is out of place
pub unready : (f : KeyedFn) (s : ServerState) (token : List ℕ) → is_ready s.stage ≡ false → (step f s (SearchFrame token)).1 ≡ OutOfPlace ∷ []
unready f s token e = ap replies_by e
  where
    replies_by : Bool → List ReplyText
    replies_by b = let came : ServerState × List ReplyText = option_map_or (λ reply. (s, reply ∷ [])) (if b then None else Some OutOfPlace) (taken s (SearchFrame token), answers f s (SearchFrame token)) in came.1

-- A part of the last change's frames.

-- what begins with a whole list and more
split_front : (xs ys front rest : List FrameText) → front ++ rest ≡ xs ++ ys → length xs ≤ length front → (part : List FrameText) × (front ≡ xs ++ part) × (part ++ rest ≡ ys)
split_front [] ys front rest e l = (front, refl, e)
split_front (x ∷ xs) ys [] rest e l = absurd (omega (arith, l))
split_front (x ∷ xs) ys (y ∷ front) rest e l =
    let deeper = split_front xs ys front rest (ap tail e) (omega (arith, l)) in
    (deeper.0, (λ i. some_is y x (ap first e) i ∷ deeper.1 i), deeper.2)
  where
    tail : List FrameText → List FrameText
    tail [] = []
    tail (z ∷ zs) = zs

    first : List FrameText → Option FrameText
    first [] = None
    first (z ∷ zs) = Some z

    some_is : (a b : FrameText) → Some a ≡ Some b → a ≡ b
    some_is a b p = cc

module _ (f : KeyedFn) (key : List ℕ) where
  of_setup : (t : Table) (o : Offsets) (s : Setup) (state : ServerState) (part rest : List FrameText) → part ++ rest ≡ frames_of_setup t o s → 1 ≤ length part → length part < length (frames_of_setup t o s)
      → is_ready (taken_all state part).stage ≡ false
  of_setup t o s state part rest e some l =
      let ranks = ranks_of (labels_in t (block_positions o.epoch s)) in
      setup_stays o.frame s.shape (map (sealed t ranks) (entry_positions o.epoch s)) (map (sealed t ranks) (block_positions o.epoch s)) state part rest e some l

  -- only a setup and a renewal have more than one frame
  of_change : (h : History) (c : Change) (state : ServerState) (part rest : List FrameText) → accepts f key h c ≡ true → part ++ rest ≡ frames_next f key h c → 1 ≤ length part
      → length part < length (frames_next f key h c) → is_ready (taken_all state part).stage ≡ false
  of_change h (SetsUp s) state part rest ok e some l = of_setup (table f s.shape (λ epoch. key)) at_first s state part rest e some l
  of_change None (Adds d) state part rest ok e some l = absurd (omega (arith, l))
  of_change (Some es) (Adds d) state part rest ok e some l = absurd (omega (arith, some, l))
  of_change None (Deletes id) state part rest ok e some l = absurd (omega (arith, l))
  of_change (Some es) (Deletes id) state part rest ok e some l = absurd (omega (arith, some, l))
  of_change None (Renews own) state part rest ok e some l = absurd (omega (arith, l))
  of_change (Some es) (Renews own) state part rest ok e some l = let s = setup_renewed (last_run es) in of_setup (table f s.shape (λ epoch. own)) (next_begins es) s state part rest e some l

  -- Promise P303, also here
  -- a server that has some of the last change's frames and not all answers no search
  pub partly_answers_none : (commands : List Change) (taken : List FrameText) (token : List ℕ) → AreAccepted (store_rules f key) commands → IsFront taken (frames_sent f key (history_of commands))
      → length (frames_sent f key (history_of (but_last commands))) < length taken → length taken < length (frames_sent f key (history_of commands)) → replies_to f key taken (SearchFrame token) ≡ OutOfPlace ∷ []
  partly_answers_none commands taken token =
      from_end (λ commands. AreAccepted (store_rules f key) commands → IsFront taken (frames_sent f key (history_of commands)) → length (frames_sent f key (history_of (but_last commands))) < length taken
      → length taken < length (frames_sent f key (history_of commands)) → replies_to f key taken (SearchFrame token) ≡ OutOfPlace ∷ [])
      (λ are front more less. absurd (omega (arith, less))) push commands
    where
      push : (xs : List Change) (c : Change) → (AreAccepted (store_rules f key) xs → IsFront taken (frames_sent f key (history_of xs)) → length (frames_sent f key (history_of (but_last xs))) < length taken
          → length taken < length (frames_sent f key (history_of xs)) → replies_to f key taken (SearchFrame token) ≡ OutOfPlace ∷ [])
          → AreAccepted (store_rules f key) (xs ++ c ∷ []) → IsFront taken (frames_sent f key (history_of (xs ++ c ∷ []))) → length (frames_sent f key (history_of (but_last (xs ++ c ∷ [])))) < length taken
          → length taken < length (frames_sent f key (history_of (xs ++ c ∷ []))) → replies_to f key taken (SearchFrame token) ≡ OutOfPlace ∷ []
      push xs c had are front more less =
          let h = history_of xs in
          let ok : accepts f key h c ≡ true = (accepted-push (store_rules f key) [] xs c are).1 in
          let first = frames_sent f key h in
          let next = frames_next f key h c in
          let whole : frames_sent f key (history_of (xs ++ c ∷ [])) ≡ first ++ next = ap (frames_sent f key) (history_of-push xs c) ∙ (sends f key h c ok).is in
          let before : length first < length taken = subst (λ cs. length (frames_sent f key (history_of cs)) < length taken) (but_last-push xs c) more in
          let parts = split_front first next taken front.0 (front.1 ∙ whole) (omega (arith, before)) in
          let size : length taken ≡ length first + length parts.0 = ap length parts.1 ∙ length-append first parts.0 in
          let all : length (frames_sent f key (history_of (xs ++ c ∷ []))) ≡ length first + length next = ap length whole ∙ length-append first next in
          let state : taken_all server.at_first taken ≡ taken_all (taken_all server.at_first first) parts.0 = ap (taken_all server.at_first) parts.1 ∙ taken_all-append server.at_first first parts.0 in
          let inside = of_change h c (taken_all server.at_first first) parts.0 front.0 ok parts.2 (omega (arith, before, size)) (omega (arith, less, size, all)) in
          unready f (taken_all server.at_first taken) token (ap (λ s. is_ready s.stage) state ∙ inside)
