-- The frames of an update depend on the updates before it and on itself, and on no search.
use Rattle.std.proofs.Common.{◌≡◌, ℕ, ◌+◌, ◌*◌, Bool, true, false, cond, not, List, [], ◌∷◌, ◌++◌, length, map, filter, refl, sym, ap, ◌∙◌, subst, append_assoc}
use Rattle.std.specs.Prelude.{flat_map}
use Rattle.std.proofs.lemmas.List.Elements.{filter-append}
use Rattle.client_registry.proofs.LiveLaws.{live-updates, is_listed-updates, counter-updates}
use Rattle.client_registry.proofs.OverLaws.{over-filter}
use Rattle.client_registry.specs.Acceptance.{frames_needed}
use Rattle.client_registry.specs.Command.{Command, Add, Delete, Search, is_update}
use Rattle.client_registry.specs.Document.{Document}
use Rattle.client_registry.specs.Over.{over, kept_by}
use Rattle.client_registry.specs.Run.{Offsets}
use Rattle.client_registry.specs.Setup.{Setup}
use Rattle.sse_frames.specs.Frames.{Entry, FrameText, SetupBegin, SetupDict, SetupArray, SetupEnd, AddFrame, DeleteFrame, SearchFrame, be64}
use Rattle.sse_frames.specs.Order.{by_bytes}
use Rattle.sse_frames.specs.SentParts.{numbered, dict_frames, array_frames, setup_frames}
use Rattle.list_packing.specs.Parts.{parts}
use Rattle.two_level.specs.Shape.{Shape}
use Rattle.sse_model.proofs.Prefixes.{run_of, frames_by}
use Rattle.sse_model.specs.Names.{name, PlusLabel, PlusPad, Table}
use Rattle.sse_model.specs.Positions.{sealed, ranks_of, entry_positions, block_positions, addition_positions, fresh_words, listed_words}
use Rattle.sse_model.specs.Wire.{labels_in, frames_of_setup, numbers_of_words, words_live, frames_of, next_number, wire}

-- What an addition sends.

fresh_words-updates : (s : Setup) (past : List Command) (d : Document) → fresh_words s (filter is_update past) d ≡ fresh_words s past d
fresh_words-updates s past d = λ i. filter (λ word. not (is_listed-updates s past word d.id i)) d.words

listed_words-updates : (s : Setup) (past : List Command) (d : Document) → listed_words s (filter is_update past) d ≡ listed_words s past d
listed_words-updates s past d = λ i. filter (λ word. is_listed-updates s past word d.id i) d.words

-- the new entries of an addition
pub addition_positions-updates : (epoch : ℕ) (s : Setup) (past : List Command) (d : Document) → addition_positions epoch s (filter is_update past) d ≡ addition_positions epoch s past d
addition_positions-updates epoch s past d = λ i. map (λ word. record {
  label = name epoch word PlusLabel (counter-updates s past word i);
  pad = name epoch word PlusPad (counter-updates s past word i);
  clear = λ ranks. be64 d.id;
}) (fresh_words-updates s past d i)

-- The frames of one command.

-- the frames of a command are those that it has with no search before it
pub frames_of-updates : (t : Table) (epoch : ℕ) (s : Setup) (q : ℕ) (past : List Command) (c : Command) → frames_of t epoch s q (filter is_update past) c ≡ frames_of t epoch s q past c
frames_of-updates t epoch s q past (Add d) = λ i.
    AddFrame q (by_bytes (λ entry. entry.label) (map (sealed t []) (addition_positions-updates epoch s past d i)))
    (numbers_of_words t epoch d.id (listed_words-updates s past d i)) ∷ []
frames_of-updates t epoch s q past (Delete id) = λ i.
    DeleteFrame q (numbers_of_words t epoch id (words_live (live-updates s.documents past i) id)) ∷ []
frames_of-updates t epoch s q past (Search word) = refl

filter-updates : (past : List Command) → filter is_update (filter is_update past) ≡ filter is_update past
filter-updates [] = refl
filter-updates (Add d ∷ cs) = ap (λ rest. Add d ∷ rest) (filter-updates cs)
filter-updates (Delete id ∷ cs) = ap (λ rest. Delete id ∷ rest) (filter-updates cs)
filter-updates (Search word ∷ cs) = filter-updates cs

-- and so is its number
pub next_number-updates : (o : Offsets) (s : Setup) (past : List Command) → next_number o s (filter is_update past) ≡ next_number o s past
next_number-updates o s past = ap (λ cs. o.frame + frames_needed s + length cs) (filter-updates past)

frames_by-updates : (t : Table) (o : Offsets) (s : Setup) (past : List Command) (c : Command) → frames_by t o s (filter is_update past) c ≡ frames_by t o s past c
frames_by-updates t o s past c =
    ap (λ q. frames_of t o.epoch s q (filter is_update past) c) (next_number-updates o s past)
    ∙ frames_of-updates t o.epoch s (next_number o s past) past c

-- The frames of a run.

-- the wire of a run's updates is that of the run without what its searches have
pub wire-updates : (t : Table) (o : Offsets) (s : Setup) (cs : List Command) → wire t o (run_of s (filter is_update cs)) ≡ frames_of_setup t o s ∷ kept_by is_update cs (over (frames_by t o s) [] cs)
wire-updates t o s cs =
    ap (λ rest. frames_of_setup t o s ∷ rest) (over-filter (frames_by t o s) is_update (λ past c e. frames_by-updates t o s past c) [] cs)

-- whether a frame is no search's
abbrev pub is_no_search : FrameText → Bool
is_no_search (SearchFrame token) = false
is_no_search _ = true

-- the same frames, where none of them is a search's
kept_parts : {X : Type 0} (g : X → ℕ → FrameText) → ((x : X) (q : ℕ) → is_no_search (g x q) ≡ true)
    → (xs : List X) (rest : List (ℕ → FrameText)) → ((q : ℕ) → filter is_no_search (numbered q rest) ≡ numbered q rest)
    → (q : ℕ) → filter is_no_search (numbered q (map g xs ++ rest)) ≡ numbered q (map g xs ++ rest)
kept_parts g none [] rest h q = h q
kept_parts g none (x ∷ xs) rest h q =
    let others = numbered (q + 1) (map g xs ++ rest) in
    ap (λ b. cond b (g x q ∷ filter is_no_search others) (filter is_no_search others)) (none x q)
    ∙ ap (λ frames. g x q ∷ frames) (kept_parts g none xs rest h (q + 1))

-- a setup sends no search
pub setup_frames-no_search : (q : ℕ) (shape : Shape) (entries blocks : List Entry) → filter is_no_search (setup_frames q shape entries blocks) ≡ setup_frames q shape entries blocks
setup_frames-no_search q shape entries blocks =
    let ending : List (ℕ → FrameText) = (λ q. SetupEnd q) ∷ [] in
    let cells = parts 1024 (by_bytes (λ (entry : Entry). entry.label) entries) in
    let array = parts 256 (by_bytes (λ (block : Entry). block.label) blocks) in
    ap (λ frames. SetupBegin q shape.b shape.big (length entries) (length blocks) ∷ frames)
    (subst (λ rest. filter is_no_search (numbered (q + 1) rest) ≡ numbered (q + 1) rest) (sym (append_assoc (dict_frames shape entries) (array_frames shape blocks) ending))
    (kept_parts (λ part q. SetupDict q (1 + 8 * shape.b) part) (λ part q. refl) cells (array_frames shape blocks ++ ending)
    (kept_parts (λ part q. SetupArray q (8 * shape.big) (map (λ block. block.text) part)) (λ part q. refl) array ending (λ q. refl)) (q + 1)))

-- an update sends no search, and a search nothing else
frames_by-no_search : (t : Table) (o : Offsets) (s : Setup) (past : List Command) (c : Command) → filter is_no_search (frames_by t o s past c) ≡ cond (is_update c) (frames_by t o s past c) []
frames_by-no_search t o s past (Add d) = refl
frames_by-no_search t o s past (Delete id) = refl
frames_by-no_search t o s past (Search word) = refl

-- Promise P160, also here
-- so the frames of a run's updates are those of the run that are no search's
pub frames-updates : (t : Table) (o : Offsets) (s : Setup) (cs : List Command)
    → flat_map (λ frames. frames) (wire t o (run_of s (filter is_update cs))) ≡ filter is_no_search (flat_map (λ frames. frames) (wire t o (run_of s cs)))
frames-updates t o s cs =
    ap (flat_map (λ frames. frames)) (wire-updates t o s cs)
    ∙ (λ i. sym first i ++ each [] cs i)
    ∙ sym (filter-append is_no_search (frames_of_setup t o s) (flat_map (λ frames. frames) (over (frames_by t o s) [] cs)))
  where
    first : filter is_no_search (frames_of_setup t o s) ≡ frames_of_setup t o s
    first =
        let ranks = ranks_of (labels_in t (block_positions o.epoch s)) in
        setup_frames-no_search o.frame s.shape (map (sealed t ranks) (entry_positions o.epoch s)) (map (sealed t ranks) (block_positions o.epoch s))

    each : (past xs : List Command) → flat_map (λ frames. frames) (kept_by is_update xs (over (frames_by t o s) past xs)) ≡ filter is_no_search (flat_map (λ frames. frames) (over (frames_by t o s) past xs))
    each past [] = refl
    each past (x ∷ xs) =
        by (is_update x) (frames_by-no_search t o s past x) (each (past ++ x ∷ []) xs)
        ∙ sym (filter-append is_no_search (frames_by t o s past x) (flat_map (λ frames. frames) (over (frames_by t o s) (past ++ x ∷ []) xs)))
      where
        rest : List (List FrameText)
        rest = over (frames_by t o s) (past ++ x ∷ []) xs

        by : (b : Bool) → filter is_no_search (frames_by t o s past x) ≡ cond b (frames_by t o s past x) []
            → flat_map (λ frames. frames) (kept_by is_update xs rest) ≡ filter is_no_search (flat_map (λ frames. frames) rest)
            → flat_map (λ frames. frames) (cond b (frames_by t o s past x ∷ kept_by is_update xs rest) (kept_by is_update xs rest))
            ≡ filter is_no_search (frames_by t o s past x) ++ filter is_no_search (flat_map (λ frames. frames) rest)
        by true e h = λ i. sym e i ++ h i
        by false e h = λ i. sym e i ++ h i
