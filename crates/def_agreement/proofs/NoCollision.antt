-- A history without collisions has none in its setup, and none in its last command.
use Rattle.std.proofs.Common.{◌≡◌, ℕ, Bool, true, not, List, [], ◌∷◌, ◌++◌, map, filter, Option, Some, None, refl, sym, ap, subst, arith}
use Rattle.std.specs.Option.{option_or}
use Rattle.std.specs.Prelude.{Contains, bytes_eq, option_map, slice_index}
use Rattle.std.specs.Cmp.Lexicographic.{bytes_decides}
use Rattle.std.specs.List.{IsDistinct}
use Rattle.std.proofs.lemmas.List.Concat.{flat_map-append}
use Rattle.std.proofs.lemmas.List.Elements.{All-contains, Contains-append_left, Contains-push}
use Rattle.client_registry.proofs.DistinctLaws.{IsDistinct-words, first_clash-places}
use Rattle.client_registry.proofs.OrderLaws.{AreApart-from_IsDistinct}
use Rattle.client_registry.proofs.ShownLaws.{live_apart}
use Rattle.client_registry.proofs.SizedLaws.{IsHistory-front}
use Rattle.client_registry.specs.Command.{Command, Add, Delete, Search}
use Rattle.client_registry.specs.FirstClash.{first_clash}
use Rattle.client_registry.specs.Histories.{begun_by, longer, renewed, IsKept}
use Rattle.client_registry.specs.Epochs.{next_begins, setup_renewed}
use Rattle.client_registry.specs.Live.{live, is_listed, counter}
use Rattle.client_registry.specs.Run.{Run, History, Offsets, Epochs, From, Renewed, last_run, at_first}
use Rattle.client_registry.specs.Setup.{Setup}
use Rattle.client_registry.specs.Sized.{IsHistory, is_accepted, IsSizedCommand}
use Rattle.keyed_fn.specs.KeyedFn.{KeyedFn}
use Rattle.sse_frames.proofs.Sorted.{AllDiffer}
use Rattle.sse_model.proofs.Apart.{IsDistinct-filter}
use Rattle.sse_model.proofs.Collisions.{joined}
use Rattle.sse_model.proofs.DrawnOnce.{live_are_documents, IsDistinct-words_live}
use Rattle.sse_model.proofs.Members.{Contains-map, Contains-of_filter}
use Rattle.sse_model.proofs.Prefixes.{run_of}
use Rattle.sse_model.proofs.SealedEntries.{AllDiffer-words}
use Rattle.sse_model.proofs.SentNumbers.{are_accepted-push, drawn_before, added_is_drawn, relisted_is_drawn, deleted_is_drawn}
use Rattle.sse_model.specs.Compared.{Labels, Places, Numbers, positions_of, equal_among, collision_of_setup, collision_of_numbers, collision_of}
use Rattle.sse_model.specs.Drawn.{drawn, probed, is_compared, AreDistinct, IsCollisionFree}
use Rattle.sse_model.specs.Histories.{table_at, collision_of_first, collision_of_renewal, collision_of_next, HasNoCollision}
use Rattle.sse_model.specs.Names.{Name, Kind, name, PlusLabel, Revocation, class_of, Table, table}
use Rattle.sse_model.specs.Positions.{fresh_words}
use Rattle.sse_model.specs.Wire.{words_live}
use Rattle.def_agreement.proofs.Counted.{addition_position}
use Rattle.def_agreement.proofs.Ranks.{places_apart}
use Rattle.def_agreement.proofs.Tags.{labels_differ, tags_differ}

-- a table without collisions tells apart what is drawn
AreDistinct-drawn : (t : Table) (o : Offsets) (run : Run) → IsCollisionFree t o run → AreDistinct t (joined (drawn o run))
AreDistinct-drawn t o run free =
    let among = λ (n : Name) (within : Contains (joined (drawn o run)) n).
    subst (λ names. Contains names n) (sym (flat_map-append (λ m. m) (drawn o run) (probed o run))) (Contains-append_left (joined (drawn o run)) (joined (probed o run)) n within) in
    λ x y here there. free x y (among x here) (among y there)

-- different values have no first clash
first_clash-none : (xs : List (List ℕ)) → AllDiffer xs → first_clash xs ≡ None
first_clash-none xs differ = by (first_clash xs) refl
  where
    by : (o : Option (ℕ × ℕ)) → first_clash xs ≡ o → o ≡ None
    by None e = refl
    by (Some (i, j)) e =
        let places = first_clash-places xs i j e in
        absurd (omega (arith, places.order, places_apart xs i j differ (omega (arith, places.order, places.within)) places.within places.same))

-- a run without collisions has none in its setup
pub setup-none : (t : Table) (o : Offsets) (s : Setup) → IsCollisionFree t o (record { setup = s; later = [] }) → collision_of_setup t o.epoch s ≡ None
setup-none t o s free =
    let run : Run = record { setup = s; later = [] } in
    let apart = AreDistinct-drawn t o run free in
    λ i. option_or (option_map (λ places. Labels places.0 places.1) (first_clash-none _ (labels_differ t o run apart) i))
    (option_map (λ places. Places places.0 places.1) (first_clash-none _ (tags_differ t o run apart) i))

-- Promise P161 (inside): If no values of a history collide, the client finds no collision.
--   assumes: kept limits, no collision
-- a setup without collisions has no two equal values that have to differ
pub collision_of_first-none : (f : KeyedFn) (key : List ℕ) (s : Setup) → HasNoCollision f key (begun_by s) → collision_of_first f key s ≡ None
collision_of_first-none f key s free = setup-none (table f s.shape (λ epoch. key)) at_first s free

-- nor has a renewal after which there is none
pub collision_of_renewal-none : (f : KeyedFn) (key own : List ℕ) (h : History) → HasNoCollision f key (renewed own h) → collision_of_renewal f own h ≡ None
collision_of_renewal-none f key own None free = refl
collision_of_renewal-none f key own (Some es) free = let s = setup_renewed (last_run es) in setup-none (table f s.shape (λ epoch. own)) (next_begins es) s free.1

-- One command more.

-- different values of the words that pass have no clash among them
equal_among-none : (keep : List ℕ → Bool) (value : List ℕ → List ℕ) (words : List (List ℕ)) → AllDiffer (map value (filter keep words)) → equal_among keep value words ≡ None
equal_among-none keep value words differ =
    ap (option_map (λ (places : ℕ × ℕ). (slice_index (positions_of keep words) places.0, slice_index (positions_of keep words) places.1)))
    (first_clash-none (map value (filter keep words)) differ)

module _ (t : Table) (o : Offsets) (s : Setup) (past : List Command) (c : Command) (history : IsHistory (run_of s (past ++ c ∷ []))) (free : IsCollisionFree t o (run_of s (past ++ c ∷ []))) where
  abbrev names : List Name
  names = joined (drawn o (run_of s (past ++ c ∷ [])))

  front : IsHistory (run_of s past)
  front = IsHistory-front s past (c ∷ []) history

  accepted : is_accepted s past c ≡ true
  accepted = (are_accepted-push s past c history.accepted).1

  sized : IsSizedCommand c
  sized = All-contains IsSizedCommand (past ++ c ∷ []) c history.each (Contains-push past c)

  -- of different words no two that pass have equal values of one kind, where their names are drawn and compared
  equal_names-none : (kind : Kind) (number : List ℕ → ℕ) (keep : List ℕ → Bool) (words : List (List ℕ))
      → ((v w : List ℕ) → class_of (name o.epoch v kind (number v)) ≡ class_of (name o.epoch w kind (number w)))
      → ((w : List ℕ) → is_compared (class_of (name o.epoch w kind (number w))) ≡ true)
      → IsDistinct bytes_eq words → ((w : List ℕ) → Contains (filter keep words) w → Contains names (name o.epoch w kind (number w)))
      → equal_among keep (λ w. t (name o.epoch w kind (number w))) words ≡ None
  equal_names-none kind number keep words class compared distinct here =
      equal_among-none keep (λ w. t (name o.epoch w kind (number w))) words
      (AllDiffer-words (λ w. t (name o.epoch w kind (number w))) (filter keep words) (IsDistinct-filter bytes_eq bytes_decides keep words distinct)
      (λ v w first second same. ap (λ (n : Name). n.word)
      (AreDistinct-drawn t o (run_of s (past ++ c ∷ [])) free (name o.epoch v kind (number v)) (name o.epoch w kind (number w)) (here v first) (here w second) refl (class v w) (compared v) same)))

  -- so no two numbers that it sends of different words with one identifier are equal
  numbers-none : (id : ℕ) (keep : List ℕ → Bool) (words : List (List ℕ)) → IsDistinct bytes_eq words → ((w : List ℕ) → Contains (filter keep words) w → Contains names (name o.epoch w Revocation id))
      → collision_of_numbers t o.epoch id keep words ≡ None
  numbers-none id keep words distinct here =
      ap (option_map (λ (places : ℕ × ℕ). Numbers places.0 places.1)) (equal_names-none Revocation (λ w. id) keep words (λ v w. refl) (λ w. refl) distinct here)

-- the last command of a history without collisions has no two equal values that have to differ
collision_of-none : (t : Table) (o : Offsets) (s : Setup) (past : List Command) (c : Command) → IsHistory (run_of s (past ++ c ∷ [])) → IsCollisionFree t o (run_of s (past ++ c ∷ []))
    → collision_of t o.epoch s past c ≡ None
collision_of-none t o s past (Add d) history free =
    let distinct : IsDistinct bytes_eq d.words = IsDistinct-words d.words (sized t o s past (Add d) history free).accepted in
    let labels = equal_names-none t o s past (Add d) history free PlusLabel (counter s past) (λ word. not (is_listed s past word d.id)) d.words (λ v w. refl) (λ w. refl) distinct
    (λ w within. (added_is_drawn o s past d (addition_position o.epoch s past d.id w) (Contains-map (addition_position o.epoch s past d.id) (fresh_words s past d) w within)).0) in
    let numbers = numbers-none t o s past (Add d) history free d.id (λ word. is_listed s past word d.id) d.words distinct
    (λ w within. drawn_before o s past (Add d) (name o.epoch w Revocation d.id)
    (relisted_is_drawn o s past d w (front t o s past (Add d) history free).accepted (accepted t o s past (Add d) history free) within)) in
    λ i. option_or (option_map (λ (places : ℕ × ℕ). Labels places.0 places.1) (labels i)) (numbers i)
collision_of-none t o s past (Delete id) history free =
    let before = front t o s past (Delete id) history free in
    let words = words_live (live s.documents past) id in
    let distinct = IsDistinct-words_live (live s.documents past) id
    (live_apart s (AreApart-from_IsDistinct (map (λ d. d.id) s.documents) before.collected.different) past before.accepted)
    (live_are_documents s.documents past before.collected.are_documents before.each) in
    numbers-none t o s past (Delete id) history free id (λ word. true) words distinct
    (λ w within. deleted_is_drawn o s past id w before.accepted (Contains-of_filter (λ word. true) words w within).0)
collision_of-none t o s past (Search word) history free = refl

-- Promise P161, also here
-- a command that leaves a history without collisions has no two equal values that have to differ
pub collision_of_next-none : (f : KeyedFn) (key : List ℕ) (h : History) (c : Command) → IsKept (longer (c ∷ []) h) → HasNoCollision f key (longer (c ∷ []) h)
    → collision_of_next f key h (c ∷ []) ≡ None
collision_of_next-none f key None c kept free = refl
collision_of_next-none f key (Some (From o run)) c kept free = ap (λ o. option_or o None) (collision_of-none (table_at f key run) o run.setup run.later c kept.0 free)
collision_of_next-none f key (Some (Renewed before own run)) c kept free =
    ap (λ o. option_or o None) (collision_of-none (table_at f own run) (next_begins before) run.setup run.later c kept.0.2 free.1)
