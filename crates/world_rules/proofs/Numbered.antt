-- The frames of accepted changes are numbered from 0 without a gap.
use Rattle.std.proofs.Common.{◌≡◌, ℕ, zero, suc, ◌+◌, ◌*◌, ◌≤◌, ◌==◌, ◌&&◌, Bool, true, false, List, [], ◌∷◌, ◌++◌, length, map, filter, slice_get, is_none, Option, None, Some, refl, sym, ap, ◌∙◌, subst, arith, append_assoc, append-nil, length-append}
use Rattle.std.specs.Prelude.{fold, is_some, if◌then◌else◌}
use Rattle.std.specs.List.{AllByRecursion}
use Rattle.std.specs.Option.{option_map_or}
use Rattle.std.proofs.lemmas.Bool.{true≢false}
use Rattle.list_packing.specs.Parts.{parts}
use Rattle.keyed_fn.specs.KeyedFn.{KeyedFn}
use Rattle.client_registry.proofs.FromEnd.{from_end}
use Rattle.client_registry.proofs.SizedLaws.{update_frames-push}
use Rattle.client_registry.specs.Acceptance.{frames_needed}
use Rattle.client_registry.specs.Command.{Command, Add, Delete, is_update}
use Rattle.client_registry.specs.Sized.{update_frames}
use Rattle.client_registry.specs.Epochs.{begins, next_begins, with_commands, setup_renewed}
use Rattle.client_registry.specs.Histories.{empty, frames_in}
use Rattle.client_registry.specs.Run.{History, Epochs, From, Renewed, Offsets, last_run, at_first}
use Rattle.client_registry.specs.Setup.{Setup}
use Rattle.sse_frames.specs.Frames.{Entry, FrameText, Hello, SetupBegin, SetupDict, SetupArray, SetupEnd, AddFrame, DeleteFrame, SearchFrame, update_number}
use Rattle.sse_frames.specs.Order.{by_bytes}
use Rattle.sse_frames.specs.Replies.{ReplyText, Number, OutOfPlace}
use Rattle.sse_frames.specs.SentParts.{numbered, dict_frames, array_frames, setup_frames}
use Rattle.sse_model.proofs.Counts.{length-frames_of_setup, AllByRecursion-append, AllByRecursion-each}
use Rattle.sse_model.proofs.HistoryLaws.{frames_sent-begun, frames_sent-longer, frames_sent-renewed}
use Rattle.sse_model.specs.Histories.{frames_sent, frames_of_first, frames_of_next, frames_of_renewal}
use Rattle.sse_model.specs.Names.{Table, table}
use Rattle.sse_model.specs.Positions.{sealed, ranks_of, entry_positions, block_positions}
use Rattle.sse_model.specs.Wire.{labels_in, frames_of_setup}
use Rattle.server_core.specs.Refusal.{in_place, clash}
use Rattle.server_core.specs.State as server
use Rattle.server_core.specs.State.{ServerState}
use Rattle.server_core.specs.Step.{taken}
use Rattle.sse_server.specs.Taken.{taken_all}
use Rattle.two_level.specs.Shape.{Shape}
use Rattle.world_model.specs.Rules.{Rules, AreNumbered, AreAccepted, AreAcceptedBehind, AreTaken, AreTakenBehind}
use Rattle.world_rules.specs.Changes.{Change, SetsUp, Adds, Deletes, Renews, with_change, history_of}
use Rattle.world_rules.specs.Rules.{number_in, accepts, takes, store_rules}

-- Frames whose numbers go on from q.

abbrev pub GoOn : ℕ → List FrameText → Type 0
GoOn q [] = Unit {0}
GoOn q (frame ∷ frames) = (update_number frame ≡ Some q) × GoOn (q + 1) frames

goes_on-numbered : (q : ℕ) (gs : List (ℕ → FrameText)) → AllByRecursion (λ g. (n : ℕ) → update_number (g n) ≡ Some n) gs → GoOn q (numbered q gs)
goes_on-numbered q [] all = tt
goes_on-numbered q (g ∷ gs) all = (all.0 q, goes_on-numbered (q + 1) gs all.1)

goes_on-append : (q : ℕ) (xs ys : List FrameText) → GoOn q xs → GoOn (q + length xs) ys → GoOn q (xs ++ ys)
goes_on-append q [] ys first rest = let e : q + 0 ≡ q = omega arith in subst (λ n. GoOn n ys) e rest
goes_on-append q (x ∷ xs) ys first rest =
    let e : q + suc (length xs) ≡ q + 1 + length xs = omega arith in
    (first.0, goes_on-append (q + 1) xs ys first.1 (subst (λ n. GoOn n ys) e rest))

goes_on-setup : (q : ℕ) (shape : Shape) (entries blocks : List Entry) → GoOn q (setup_frames q shape entries blocks)
goes_on-setup q shape entries blocks =
    goes_on-numbered q ((λ n. SetupBegin n shape.b shape.big (length entries) (length blocks)) ∷ dict_frames shape entries ++ array_frames shape blocks ++ last) (
      (λ n. refl),
      AllByRecursion-append P (dict_frames shape entries ++ array_frames shape blocks) last
          (AllByRecursion-append P (dict_frames shape entries) (array_frames shape blocks)
          (AllByRecursion-each P (λ part n. SetupDict n (1 + 8 * shape.b) part) (λ part n. refl) (parts 1024 (by_bytes (λ entry. entry.label) entries)))
          (AllByRecursion-each P (λ part n. SetupArray n (8 * shape.big) (map (λ block. block.text) part)) (λ part n. refl) (parts 256 (by_bytes (λ block. block.label) blocks))))
          ((λ n. refl), tt),
    )
  where
    P : (ℕ → FrameText) → Type 0
    P g = (n : ℕ) → update_number (g n) ≡ Some n

    last : List (ℕ → FrameText)
    last = (λ n. SetupEnd n) ∷ []

goes_on-frames : (t : Table) (o : Offsets) (s : Setup) → GoOn o.frame (frames_of_setup t o s)
goes_on-frames t o s =
    let ranks = ranks_of (labels_in t (block_positions o.epoch s)) in
    goes_on-setup o.frame s.shape (map (sealed t ranks) (entry_positions o.epoch s)) (map (sealed t ranks) (block_positions o.epoch s))

number_there : (q : ℕ) (frames : List FrameText) (i : ℕ) (frame : FrameText) → GoOn q frames → slice_get frames i ≡ Some frame → number_in frame ≡ q + i
number_there q [] i frame on e = grind (arith, e)
number_there q (x ∷ xs) zero frame on e =
    let same : x ≡ frame = some_is x frame e in
    let n : number_in x ≡ q = ap (λ n. option_map_or (λ k. k) n 0) on.0 in
    ap number_in (sym same) ∙ n ∙ omega arith
  where
    some_is : (a b : FrameText) → Some a ≡ Some b → a ≡ b
    some_is a b p = cc
number_there q (x ∷ xs) (suc i) frame on e = number_there (q + 1) xs i frame on.1 e ∙ omega arith

-- Changes.

-- one change more
pub history_of-push : (h : List Change) (c : Change) → history_of (h ++ c ∷ []) ≡ with_change (history_of h) c
history_of-push h c = from empty h
  where
    from : (start : History) (xs : List Change) → fold with_change start (xs ++ c ∷ []) ≡ with_change (fold with_change start xs) c
    from start [] = refl
    from start (x ∷ xs) = from (with_change start x) xs

-- accepted ones with one more
pub accepted-push : {C F W A : Type 0} (rules : Rules C F W A) (past h : List C) (c : C) → AreAcceptedBehind rules past (h ++ c ∷ []) → AreAcceptedBehind rules past h × (rules.accepts (past ++ h) c ≡ true)
accepted-push rules past [] c are = (tt, subst (λ before. rules.accepts before c ≡ true) (sym (append-nil past)) are.0)
accepted-push rules past (x ∷ xs) c are =
    let rest = accepted-push rules (past ++ x ∷ []) xs c are.1 in
    ((are.0, rest.0), subst (λ before. rules.accepts before c ≡ true) (append_assoc past (x ∷ []) xs) rest.1)

-- of epochs with one update more
frames_in-update : (es : Epochs) (c : Command) → frames_in (Some (with_commands (c ∷ []) es)) ≡ (begins es).frame + (update_frames (last_run es) + length (filter is_update (c ∷ [])))
frames_in-update (From o run) c = ap (λ n. o.frame + n) (update_frames-push run c)
frames_in-update (Renewed before own run) c = ap (λ n. (next_begins before).frame + n) (update_frames-push run c)

-- the frames of one change more
abbrev pub frames_next : KeyedFn → (key : List ℕ) → History → Change → List FrameText
frames_next f key h (SetsUp s) = frames_of_first f key s
frames_next f key h (Adds d) = frames_of_next f key h (Add d ∷ [])
frames_next f key h (Deletes id) = frames_of_next f key h (Delete id ∷ [])
frames_next f key h (Renews own) = frames_of_renewal f own h

pub record Sends (f : KeyedFn) (key : List ℕ) (h : History) (c : Change) : Type 0 where
  pub is : frames_sent f key (with_change h c) ≡ frames_sent f key h ++ frames_next f key h c
  pub on : GoOn (frames_in h) (frames_next f key h c)
  pub some : 1 ≤ length (frames_next f key h c)
  pub count : frames_in (with_change h c) ≡ frames_in h + length (frames_next f key h c)

module _ (f : KeyedFn) (key : List ℕ) where
  none_false : false ≡ true → ⊥
  none_false e = true≢false (sym e)

  pub sends : (h : History) (c : Change) → accepts f key h c ≡ true → Sends f key h c
  sends (Some es) (SetsUp s) ok = absurd (none_false ok)
  sends None (SetsUp s) ok =
      let long = length-frames_of_setup (table f s.shape (λ epoch. key)) at_first s in
      record {
        is = frames_sent-begun f key s;
        on = goes_on-frames (table f s.shape (λ epoch. key)) at_first s;
        some = omega (arith, long);
        count = omega (arith, long);
      }
  sends None (Adds d) ok = absurd (none_false ok)
  sends (Some es) (Adds d) ok = record {
    is = frames_sent-longer f key (Some es) (Add d ∷ []);
    on = (ap (λ (n : ℕ). Some n) (number es), tt);
    some = omega arith;
    count = frames_in-update es (Add d) ∙ omega arith;
  }
    where
      number : (es : Epochs) → (begins es).frame + frames_needed (last_run es).setup + length (filter is_update (last_run es).later) ≡ (begins es).frame + (frames_needed (last_run es).setup + length (filter is_update (last_run es).later))
      number es = omega arith
  sends None (Deletes id) ok = absurd (none_false ok)
  sends (Some es) (Deletes id) ok = record {
    is = frames_sent-longer f key (Some es) (Delete id ∷ []);
    on = (ap (λ (n : ℕ). Some n) (number es), tt);
    some = omega arith;
    count = frames_in-update es (Delete id) ∙ omega arith;
  }
    where
      number : (es : Epochs) → (begins es).frame + frames_needed (last_run es).setup + length (filter is_update (last_run es).later) ≡ (begins es).frame + (frames_needed (last_run es).setup + length (filter is_update (last_run es).later))
      number es = omega arith
  sends None (Renews own) ok = absurd (none_false ok)
  sends (Some es) (Renews own) ok =
      let s = setup_renewed (last_run es) in
      let t = table f s.shape (λ epoch. own) in
      let long = length-frames_of_setup t (next_begins es) s in
      record {
        is = frames_sent-renewed f key (Some es) own;
        on = goes_on-frames t (next_begins es) s;
        some = omega (arith, long);
        count = omega (arith, long);
      }

  -- the frames of a history: numbered from 0, and as many as it takes
  pub record AreGapless (h : History) : Type 0 where
    pub on : GoOn 0 (frames_sent f key h)
    pub count : length (frames_sent f key h) ≡ frames_in h

  pub gapless : (changes : List Change) → AreAccepted (store_rules f key) changes → AreGapless (history_of changes)
  gapless = from_end (λ changes. AreAccepted (store_rules f key) changes → AreGapless (history_of changes)) (λ are. record { on = tt; count = refl }) push
    where
      push : (xs : List Change) (c : Change) → (AreAccepted (store_rules f key) xs → AreGapless (history_of xs)) → AreAccepted (store_rules f key) (xs ++ c ∷ []) → AreGapless (history_of (xs ++ c ∷ []))
      push xs c had are =
          let both = accepted-push (store_rules f key) [] xs c are in
          let before = had both.0 in
          let now = sends (history_of xs) c both.1 in
          let frames = frames_sent f key (history_of xs) in
          let next = frames_next f key (history_of xs) c in
          let size : 0 + length frames ≡ frames_in (history_of xs) = omega (arith, before.count) in
          let long : length (frames_sent f key (with_change (history_of xs) c)) ≡ length frames + length next = ap length now.is ∙ length-append frames next in
          subst AreGapless (sym (history_of-push xs c)) (record {
            on = subst (GoOn 0) (sym now.is) (goes_on-append 0 frames next before.on (subst (λ q. GoOn q next) (sym size) now.on));
            count = omega (arith, long, before.count, now.count);
          })

-- Frames that a server took.

next_taken : (s : ServerState) (frame : FrameText) → is_some (update_number frame) ≡ true → (taken s frame).next ≡ s.next + 1
next_taken s Hello e = absurd (true≢false (sym e))
next_taken s (SetupBegin q b big m a) e = refl
next_taken s (SetupDict q width entries) e = refl
next_taken s (SetupArray q width blocks) e = refl
next_taken s (SetupEnd q) e = refl
next_taken s (AddFrame q entries numbers) e = refl
next_taken s (DeleteFrame q numbers) e = refl
next_taken s (SearchFrame token) e = absurd (true≢false (sym e))

pub next_after : (s : ServerState) (frames : List FrameText) → AllByRecursion (λ frame. is_some (update_number frame) ≡ true) frames → (taken_all s frames).next ≡ s.next + length frames
next_after s [] all = omega arith
next_after s (x ∷ xs) all = next_after (taken s x) xs all.1 ∙ omega (arith, next_taken s x all.0)

module _ (f : KeyedFn) (key : List ℕ) where
  first_of : (a b : Bool) → (a && b) ≡ true → a ≡ true
  first_of true b e = refl
  first_of false b e = e

  -- they are update frames
  pub are_updates : (past frames : List FrameText) → AreTakenBehind (store_rules f key) past frames → AllByRecursion (λ frame. is_some (update_number frame) ≡ true) frames
  are_updates past [] are = tt
  are_updates past (x ∷ xs) are = (first_of (is_some (update_number x)) _ are.0, are_updates (past ++ x ∷ []) xs are.1)

  -- and the next one has the number of all that it took
  takes_next : (taken : List FrameText) (frame : FrameText) → AreTaken (store_rules f key) taken → takes f key taken frame ≡ true → number_in frame ≡ length taken
  takes_next taken frame are e =
      let count : (taken_all server.at_first taken).next ≡ length taken = next_after server.at_first taken (are_updates [] taken are) ∙ omega arith in
      by (update_number frame) (taken_all server.at_first taken) (if in_place (taken_all server.at_first taken) frame then clash (taken_all server.at_first taken) frame else Some OutOfPlace) e ∙ count
    where
      by_test : (q n : ℕ) (b : Bool) (other : Option ReplyText) → (q == n) ≡ b → is_none (if b then other else Some (Number n)) ≡ true → q ≡ n
      by_test q n true other same ok = grind (arith, same)
      by_test q n false other same ok = absurd (true≢false (sym ok))

      by : (number : Option ℕ) (s : ServerState) (other : Option ReplyText) → (is_some number && is_none (if option_map_or (λ q. q == s.next) number true then other else Some (Number s.next))) ≡ true
          → option_map_or (λ q. q) number 0 ≡ s.next
      by None s other ok = absurd (true≢false (sym ok))
      by (Some q) s other ok = by_test q s.next (q == s.next) other refl ok

  -- so the store is numbered
  pub store_numbered : AreNumbered (store_rules f key)
  store_numbered = record {
    none = refl;
    grows = λ h c are ok. let now = sends f key (history_of h) c ok in (frames_next f key (history_of h) c, sym (ap (frames_sent f key) (history_of-push h c) ∙ now.is));
    some =
        λ h c are ok.
        let now = sends f key (history_of h) c ok in
        let e : length (frames_sent f key (history_of (h ++ c ∷ []))) ≡ length (frames_sent f key (history_of h)) + length (frames_next f key (history_of h) c) =
        ap length (ap (frames_sent f key) (history_of-push h c) ∙ now.is) ∙ length-append (frames_sent f key (history_of h)) (frames_next f key (history_of h) c)
        in
        omega (arith, e, now.some);
    numbered = λ h i frame are there. number_there 0 (frames_sent f key (history_of h)) i frame (gapless f key h are).on there ∙ omega arith;
    next = takes_next;
  }
