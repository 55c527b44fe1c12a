-- Each encrypted text of a history's frames is one of its texts under its pad.
use Rattle.std.proofs.Common.{◌≡◌, ℕ, ◌+◌, ◌*◌, Bool, true, false, List, [], ◌∷◌, ◌++◌, length, map, All, Contains, Some, refl, ap, ◌∙◌}
use Rattle.std.specs.Prelude.{flat_map, if◌then◌else◌}
use Rattle.std.specs.List.{AllByRecursion}
use Rattle.std.proofs.lemmas.List.Elements.{All-from_recursion, recursion_from_All, Contains-append_left, Contains-append_right, All-contains_itself}
use Rattle.keyed_fn.specs.KeyedFn.{KeyedFn}
use Rattle.keyed_fn.specs.Xored.{xored}
use Rattle.list_packing.proofs.PartsLemmas.{All-parts}
use Rattle.list_packing.specs.Parts.{parts}
use Rattle.client_registry.specs.Command.{Command, Add, Delete, Search}
use Rattle.client_registry.specs.Epochs.{next_begins}
use Rattle.client_registry.specs.Over.{over}
use Rattle.client_registry.specs.Run.{Run, Offsets, Epochs, From, Renewed}
use Rattle.client_registry.specs.Setup.{Setup}
use Rattle.sse_frames.specs.Frames.{Entry, FrameText, SetupBegin, SetupDict, SetupArray, SetupEnd}
use Rattle.sse_frames.specs.Order.{by_bytes, insert_by, is_below}
use Rattle.sse_frames.specs.SentParts.{numbered, dict_frames, array_frames, setup_frames}
use Rattle.sse_model.proofs.Counts.{AllByRecursion-append}
use Rattle.sse_model.proofs.InputLaws.{value_of-input}
use Rattle.sse_model.proofs.Members.{Contains-map}
use Rattle.sse_model.specs.Histories.{table_at, frames_sent}
use Rattle.sse_model.specs.Names.{Table}
use Rattle.sse_model.specs.Positions.{Position, sealed, ranks_of, entry_positions, block_positions, addition_positions}
use Rattle.sse_model.specs.Wire.{labels_in, frames_of_setup, frames_of, next_number, wire}
use Rattle.two_level.specs.Shape.{Shape}
use Rattle.world_model.proofs.Lists.{all_mono}
use Rattle.world_rules.specs.Covered.{PadText, pad_texts_of, next_pad_texts, pad_texts_in, Cover, cover_under, covers_in, texts_in, IsCovered}

-- an encrypted text is one of these under its pad, whose value a table has
abbrev IsUnder : Table → List PadText → List ℕ → Type 0
IsUnder t texts text = (n : PadText) × Contains texts n × (text ≡ xored n.1 (t n.0))

-- what holds of each holds of each in order
all_insert : {X : Type 0} (P : X → Type 0) (key : X → List ℕ) (x : X) (xs : List X) → P x → AllByRecursion P xs → AllByRecursion P (insert_by key x xs)
all_insert P key x [] p all = (p, tt)
all_insert P key x (y ∷ ys) p all = by_test (is_below (key y) (key x)) (all.0, all_insert P key x ys p all.1) (p, all)
  where
    by_test : (b : Bool) → AllByRecursion P (y ∷ insert_by key x ys) → AllByRecursion P (x ∷ y ∷ ys) → AllByRecursion P (if b then y ∷ insert_by key x ys else x ∷ y ∷ ys)
    by_test true one other = one
    by_test false one other = other

all_by_bytes : {X : Type 0} (P : X → Type 0) (key : X → List ℕ) (xs : List X) → AllByRecursion P xs → AllByRecursion P (by_bytes key xs)
all_by_bytes P key [] all = tt
all_by_bytes P key (x ∷ xs) all = all_insert P key x (by_bytes key xs) all.0 (all_by_bytes P key xs all.1)

all_map : {X Y : Type 0} (P : Y → Type 0) (g : X → Y) (xs : List X) → AllByRecursion (λ x. P (g x)) xs → AllByRecursion P (map g xs)
all_map P g [] all = tt
all_map P g (x ∷ xs) all = (all.0, all_map P g xs all.1)

all_unmap : {X Y : Type 0} (P : Y → Type 0) (g : X → Y) (xs : List X) → AllByRecursion P (map g xs) → AllByRecursion (λ x. P (g x)) xs
all_unmap P g [] all = tt
all_unmap P g (x ∷ xs) all = (all.0, all_unmap P g xs all.1)

module _ (t : Table) (o : Offsets) (texts : List PadText) where
  -- the encrypted texts of these positions, whose texts are among these
  sealed_under : (ranks : List ℕ) (positions : List Position) → ((n : PadText) → Contains (pad_texts_of ranks positions) n → Contains texts n)
      → AllByRecursion (λ (e : Entry). IsUnder t texts e.text) (map (sealed t ranks) positions)
  sealed_under ranks positions within =
      all_map (λ (e : Entry). IsUnder t texts e.text) (sealed t ranks) positions
      (all_mono (λ p. Contains (pad_texts_of ranks positions) (p.pad, p.clear ranks)) (λ p. IsUnder t texts (sealed t ranks p).text) (λ p there. ((p.pad, p.clear ranks), within (p.pad, p.clear ranks) there, refl)) positions
      (all_unmap (Contains (pad_texts_of ranks positions)) (λ p. (p.pad, p.clear ranks)) positions (recursion_from_All (Contains (pad_texts_of ranks positions)) (pad_texts_of ranks positions) (All-contains_itself (pad_texts_of ranks positions)))))

  parted : {X : Type 0} (P : X → Type 0) (width : ℕ) (xs : List X) → AllByRecursion P xs → AllByRecursion (λ part. AllByRecursion P part) (parts width xs)
  parted P width xs all =
      all_mono (λ part. All P part) (λ part. AllByRecursion P part) (λ part each. recursion_from_All P part each) (parts width xs)
      (recursion_from_All (λ part. All P part) (parts width xs) (All-parts P width xs (All-from_recursion P xs all)))

  numbered_covered : (q : ℕ) (gs : List (ℕ → FrameText)) → AllByRecursion (λ g. (n : ℕ) → AllByRecursion (IsUnder t texts) (texts_in (g n))) gs → AllByRecursion (λ frame. AllByRecursion (IsUnder t texts) (texts_in frame)) (numbered q gs)
  numbered_covered q [] all = tt
  numbered_covered q (g ∷ gs) all = (all.0 q, numbered_covered (q + 1) gs all.1)

  setup_covered : (q : ℕ) (shape : Shape) (entries blocks : List Entry) → AllByRecursion (λ (e : Entry). IsUnder t texts e.text) entries → AllByRecursion (λ (e : Entry). IsUnder t texts e.text) blocks
      → AllByRecursion (λ frame. AllByRecursion (IsUnder t texts) (texts_in frame)) (setup_frames q shape entries blocks)
  setup_covered q shape entries blocks es bs =
      numbered_covered q ((λ n. SetupBegin n shape.b shape.big (length entries) (length blocks)) ∷ dict_frames shape entries ++ array_frames shape blocks ++ last) (
        (λ n. tt),
        AllByRecursion-append P (dict_frames shape entries ++ array_frames shape blocks) last
            (AllByRecursion-append P (dict_frames shape entries) (array_frames shape blocks)
            (all_map P (λ part n. SetupDict n (1 + 8 * shape.b) part) (parts 1024 (by_bytes (λ entry. entry.label) entries))
            (all_mono (λ part. AllByRecursion (λ (e : Entry). IsUnder t texts e.text) part) (λ part. (n : ℕ) → AllByRecursion (IsUnder t texts) (map (λ (e : Entry). e.text) part))
            (λ part each n. all_map (IsUnder t texts) (λ (e : Entry). e.text) part each) (parts 1024 (by_bytes (λ entry. entry.label) entries))
            (parted (λ (e : Entry). IsUnder t texts e.text) 1024 (by_bytes (λ entry. entry.label) entries) (all_by_bytes (λ (e : Entry). IsUnder t texts e.text) (λ entry. entry.label) entries es))))
            (all_map P (λ part n. SetupArray n (8 * shape.big) (map (λ block. block.text) part)) (parts 256 (by_bytes (λ block. block.label) blocks))
            (all_mono (λ part. AllByRecursion (λ (e : Entry). IsUnder t texts e.text) part) (λ part. (n : ℕ) → AllByRecursion (IsUnder t texts) (map (λ (e : Entry). e.text) part))
            (λ part each n. all_map (IsUnder t texts) (λ (e : Entry). e.text) part each) (parts 256 (by_bytes (λ block. block.label) blocks))
            (parted (λ (e : Entry). IsUnder t texts e.text) 256 (by_bytes (λ block. block.label) blocks) (all_by_bytes (λ (e : Entry). IsUnder t texts e.text) (λ block. block.label) blocks bs)))))
            ((λ n. tt), tt),
      )
    where
      P : (ℕ → FrameText) → Type 0
      P g = (n : ℕ) → AllByRecursion (IsUnder t texts) (texts_in (g n))

      last : List (ℕ → FrameText)
      last = (λ n. SetupEnd n) ∷ []

  next_covered : (s : Setup) (q : ℕ) (past : List Command) (c : Command) → ((n : PadText) → Contains (next_pad_texts o.epoch s past c) n → Contains texts n)
      → AllByRecursion (λ frame. AllByRecursion (IsUnder t texts) (texts_in frame)) (frames_of t o.epoch s q past c)
  next_covered s q past (Add d) within =
      let entries = map (sealed t []) (addition_positions o.epoch s past d) in
      (all_map (IsUnder t texts) (λ (e : Entry). e.text) (by_bytes (λ entry. entry.label) entries) (all_by_bytes (λ (e : Entry). IsUnder t texts e.text) (λ entry. entry.label) entries (sealed_under [] (addition_positions o.epoch s past d) within)), tt)
  next_covered s q past (Delete id) within = (tt, tt)
  next_covered s q past (Search word) within = (tt, tt)

  later_covered : (s : Setup) (past cs : List Command) → ((n : PadText) → Contains (flat_map (λ text. text) (over (next_pad_texts o.epoch s) past cs)) n → Contains texts n)
      → AllByRecursion (λ frame. AllByRecursion (IsUnder t texts) (texts_in frame)) (flat_map (λ frames. frames) (over (λ past c. frames_of t o.epoch s (next_number o s past) past c) past cs))
  later_covered s past [] within = tt
  later_covered s past (c ∷ cs) within =
      let now = next_pad_texts o.epoch s past c in
      let rest = flat_map (λ text. text) (over (next_pad_texts o.epoch s) (past ++ c ∷ []) cs) in
      AllByRecursion-append (λ frame. AllByRecursion (IsUnder t texts) (texts_in frame)) (frames_of t o.epoch s (next_number o s past) past c)
      (flat_map (λ frames. frames) (over (λ past c. frames_of t o.epoch s (next_number o s past) past c) (past ++ c ∷ []) cs))
      (next_covered s (next_number o s past) past c (λ n there. within n (Contains-append_left now rest n there)))
      (later_covered s (past ++ c ∷ []) cs (λ n there. within n (Contains-append_right now rest n there)))

-- each encrypted text of a run's frames is one of the run's texts
texts_covered : (t : Table) (o : Offsets) (run : Run) → AllByRecursion (λ frame. AllByRecursion (IsUnder t (pad_texts_in t o run)) (texts_in frame)) (flat_map (λ frames. frames) (wire t o run))
texts_covered t o run =
    let s = run.setup in
    let ranks = ranks_of (labels_in t (block_positions o.epoch s)) in
    let entries = pad_texts_of ranks (entry_positions o.epoch s) in
    let blocks = pad_texts_of ranks (block_positions o.epoch s) in
    let rest = flat_map (λ text. text) (over (next_pad_texts o.epoch s) [] run.later) in
    let all = pad_texts_in t o run in
    AllByRecursion-append (λ frame. AllByRecursion (IsUnder t all) (texts_in frame)) (frames_of_setup t o s) (flat_map (λ frames. frames) (over (λ past c. frames_of t o.epoch s (next_number o s past) past c) [] run.later))
    (setup_covered t o all o.frame s.shape (map (sealed t ranks) (entry_positions o.epoch s)) (map (sealed t ranks) (block_positions o.epoch s))
    (sealed_under t o all ranks (entry_positions o.epoch s) (λ n there. Contains-append_left (entries ++ blocks) rest n (Contains-append_left entries blocks n there)))
    (sealed_under t o all ranks (block_positions o.epoch s) (λ n there. Contains-append_left (entries ++ blocks) rest n (Contains-append_right entries blocks n there))))
    (later_covered t o all s [] run.later (λ n there. Contains-append_right (entries ++ blocks) rest n there))

-- Epoch by epoch.

module _ (f : KeyedFn) where
  -- under its pad, which is at an input under the epoch's key
  of_run : (own : List ℕ) (o : Offsets) (run : Run) (text : List ℕ) → IsUnder (table_at f own run) (pad_texts_in (table_at f own run) o run) text
      → IsCovered f (map (cover_under own run.setup.shape) (pad_texts_in (table_at f own run) o run)) text
  of_run own o run text under =
      let n = (under.0).0 in (
        cover_under own run.setup.shape under.0,
        Contains-map (cover_under own run.setup.shape) (pad_texts_in (table_at f own run) o run) under.0 under.1,
        under.2 ∙ ap (xored (under.0).1) (value_of-input f run.setup.shape own n.word n.kind n.number),
      )

  more_covers : (covers others : List Cover) → ((c : Cover) → Contains covers c → Contains others c) → (frames : List FrameText)
      → AllByRecursion (λ frame. AllByRecursion (IsCovered f covers) (texts_in frame)) frames → AllByRecursion (λ frame. AllByRecursion (IsCovered f others) (texts_in frame)) frames
  more_covers covers others within frames =
      all_mono (λ frame. AllByRecursion (IsCovered f covers) (texts_in frame)) (λ frame. AllByRecursion (IsCovered f others) (texts_in frame))
      (λ frame. all_mono (IsCovered f covers) (IsCovered f others) (λ text p. (p.0, within p.0 p.1, p.2)) (texts_in frame)) frames

  run_covered : (own : List ℕ) (o : Offsets) (run : Run)
      → AllByRecursion (λ frame. AllByRecursion (IsCovered f (map (cover_under own run.setup.shape) (pad_texts_in (table_at f own run) o run))) (texts_in frame)) (flat_map (λ frames. frames) (wire (table_at f own run) o run))
  run_covered own o run =
      let t = table_at f own run in
      all_mono (λ frame. AllByRecursion (IsUnder t (pad_texts_in t o run)) (texts_in frame)) (λ frame. AllByRecursion (IsCovered f (map (cover_under own run.setup.shape) (pad_texts_in t o run))) (texts_in frame))
      (λ frame. all_mono (IsUnder t (pad_texts_in t o run)) (IsCovered f (map (cover_under own run.setup.shape) (pad_texts_in t o run))) (of_run own o run) (texts_in frame)) (flat_map (λ frames. frames) (wire t o run)) (texts_covered t o run)

  -- Promise P304, also here
  pub frames_covered : (key : List ℕ) (es : Epochs) → AllByRecursion (λ frame. AllByRecursion (IsCovered f (covers_in f key (Some es))) (texts_in frame)) (frames_sent f key (Some es))
  frames_covered key (From o run) = run_covered key o run
  frames_covered key (Renewed before own run) =
      let o = next_begins before in
      let t = table_at f own run in
      let first = covers_in f key (Some before) in
      let rest = map (cover_under own run.setup.shape) (pad_texts_in t o run) in
      AllByRecursion-append (λ frame. AllByRecursion (IsCovered f (first ++ rest)) (texts_in frame)) (frames_sent f key (Some before)) (flat_map (λ frames. frames) (wire t o run))
      (more_covers first (first ++ rest) (Contains-append_left first rest) (frames_sent f key (Some before)) (frames_covered key before))
      (more_covers rest (first ++ rest) (Contains-append_right first rest) (flat_map (λ frames. frames) (wire t o run)) (run_covered own o run))
