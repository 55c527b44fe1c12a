-- Entries made of drawn names have the sizes of their kind, and those of different words have different labels.
use Rattle.std.proofs.Common.{◌≡◌, ◌≢◌, ℕ, ◌+◌, true, false, List, [], ◌∷◌, map, sym, ap, ◌∙◌, subst, refl}
use Rattle.std.specs.Prelude.{Contains, bytes_eq}
use Rattle.std.specs.List.{AllByRecursion, IsDistinct, range_with_len}
use Rattle.std.proofs.lemmas.Bool.{true≢false}
use Rattle.std.proofs.lemmas.Cmp.{nat_list_eq_equiv}
use Rattle.std.proofs.lemmas.List.Concat.{flat_map-append}
use Rattle.std.proofs.lemmas.List.Elements.{Contains-append_left}
use Rattle.client_registry.specs.Acceptance.{dummy_entries, dummy_blocks}
use Rattle.client_registry.specs.Run.{Run, Offsets}
use Rattle.client_registry.specs.Setup.{Setup, setup_words}
use Rattle.two_level.specs.Shape.{Shape}
use Rattle.sse_frames.proofs.Sorted.{AllDiffer}
use Rattle.sse_frames.specs.Frames.{IsBytes, IsEntry}
use Rattle.sse_model.proofs.Collisions.{joined}
use Rattle.sse_model.proofs.Counts.{AllByRecursion-append, AllByRecursion-each}
use Rattle.sse_model.proofs.Members.{Contains-head, Contains-cons}
use Rattle.sse_model.proofs.Texts.{HasText, IsBytes-xored}
use Rattle.sse_model.specs.Drawn.{drawn, probed, is_compared, AreDistinct, IsCollisionFree}
use Rattle.sse_model.specs.Names.{Name, name, Kind, Table, class_of, size_at, cell_size, block_size}
use Rattle.sse_model.specs.Positions.{Position, word_blocks, sealed, entries_from, blocks_from, block_position, dummy_entry, dummy_block, entry_positions, block_positions}
use Rattle.sse_model.specs.Values.{IsValue}

-- the table gives these names values of their sizes, different ones to different names of one epoch and one compared class
pub record IsTold (s : Shape) (t : Table) (names : List Name) : Type 0 where
  pub values : (n : Name) → Contains names n → IsValue s t n
  pub apart : AreDistinct t names

-- so does the table of a collision-free run, for what it draws
pub IsTold-drawn : (t : Table) (o : Offsets) (run : Run) → IsCollisionFree t o run
    → ((n : Name) → Contains (joined (drawn o run)) n → IsValue run.setup.shape t n) → IsTold run.setup.shape t (joined (drawn o run))
IsTold-drawn t o run free values =
    let within = λ (n : Name) (h : Contains (joined (drawn o run)) n).
    subst (λ names. Contains names n) (sym (flat_map-append (λ n. n) (drawn o run) (probed o run))) (Contains-append_left (joined (drawn o run)) (joined (probed o run)) n h) in
    record { values = values; apart = λ x y here there. free x y (within x here) (within y there) }

-- Sizes.

-- a position whose label has 16 bytes and whose pad has so many
abbrev pub HasNames : Shape → ℕ → Position → Type 0
HasNames s size p = (size_at s p.label.kind p.label.number ≡ 16) × (size_at s p.pad.kind p.pad.number ≡ size)

-- a position whose names are among these
abbrev pub IsNamed : List Name → Position → Type 0
IsNamed names p = Contains names p.label × Contains names p.pad

-- positions whose names are told, encrypted, are entries
pub entries_are : (s : Shape) (t : Table) (names : List Name) (size : ℕ) (ranks : List ℕ) (positions : List Position) → IsTold s t names
    → AllByRecursion (HasText size ranks) positions → AllByRecursion (HasNames s size) positions → AllByRecursion (IsNamed names) positions
    → AllByRecursion (IsEntry size) (map (sealed t ranks) positions)
entries_are s t names size ranks [] told texts sizes named = tt
entries_are s t names size ranks (p ∷ ps) told texts sizes named =
    let label : IsBytes 16 (t p.label) = subst (λ (n : ℕ). IsBytes n (t p.label)) sizes.0.0 (told.values p.label named.0.0) in
    let pad : IsBytes size (t p.pad) = subst (λ (n : ℕ). IsBytes n (t p.pad)) sizes.0.1 (told.values p.pad named.0.1) in (
      record { label = label; text = IsBytes-xored size (p.clear ranks) (t p.pad) texts.0 pad },
      entries_are s t names size ranks ps told texts.1 sizes.1 named.1,
    )

cells_named_from : (epoch : ℕ) (s : Setup) (words : List (List ℕ)) (first : ℕ) → AllByRecursion (HasNames s.shape (cell_size s.shape)) (entries_from epoch s first words)
cells_named_from epoch s [] first = tt
cells_named_from epoch s (word ∷ words) first = ((refl, refl), cells_named_from epoch s words (first + word_blocks s word))

-- a setup's cells have a label and a cell's pad each
pub cells_have_names : (epoch : ℕ) (s : Setup) → AllByRecursion (HasNames s.shape (cell_size s.shape)) (entry_positions epoch s)
cells_have_names epoch s =
    AllByRecursion-append (HasNames s.shape (cell_size s.shape)) (entries_from epoch s 0 (setup_words s)) (map (dummy_entry epoch s) (range_with_len 0 (dummy_entries s)))
    (cells_named_from epoch s (setup_words s) 0) (AllByRecursion-each (HasNames s.shape (cell_size s.shape)) (dummy_entry epoch s) (λ i. (refl, refl)) (range_with_len 0 (dummy_entries s)))

each_has_names : (epoch : ℕ) (s : Setup) (first : ℕ) (word : List ℕ) (numbers : List ℕ) → AllByRecursion (HasNames s.shape (block_size s.shape)) (map (block_position epoch s first word) numbers)
each_has_names epoch s first word [] = tt
each_has_names epoch s first word (i ∷ numbers) = ((refl, refl), each_has_names epoch s first word numbers)

blocks_named_from : (epoch : ℕ) (s : Setup) (words : List (List ℕ)) (first : ℕ) → AllByRecursion (HasNames s.shape (block_size s.shape)) (blocks_from epoch s first words)
blocks_named_from epoch s [] first = tt
blocks_named_from epoch s (word ∷ words) first =
    AllByRecursion-append (HasNames s.shape (block_size s.shape)) (map (block_position epoch s first word) (range_with_len 0 (word_blocks s word))) (blocks_from epoch s (first + word_blocks s word) words)
    (each_has_names epoch s first word (range_with_len 0 (word_blocks s word))) (blocks_named_from epoch s words (first + word_blocks s word))

-- its blocks have a tag and a block's pad each
pub blocks_have_names : (epoch : ℕ) (s : Setup) → AllByRecursion (HasNames s.shape (block_size s.shape)) (block_positions epoch s)
blocks_have_names epoch s =
    AllByRecursion-append (HasNames s.shape (block_size s.shape)) (blocks_from epoch s 0 (setup_words s)) (map (dummy_block epoch s) (range_with_len 0 (dummy_blocks s)))
    (blocks_named_from epoch s (setup_words s) 0) (AllByRecursion-each (HasNames s.shape (block_size s.shape)) (dummy_block epoch s) (λ j. (refl, refl)) (range_with_len 0 (dummy_blocks s)))

-- Differences.

differs : (value : List ℕ → List ℕ) (word : List ℕ) (words : List (List ℕ)) → AllByRecursion (λ w. bytes_eq word w ≡ false) words
    → ((w : List ℕ) → Contains words w → value word ≡ value w → word ≡ w) → AllByRecursion (λ v. value word ≢ v) (map value words)
differs value word [] apart one = tt
differs value word (w ∷ ws) apart one = (
  λ same. true≢false (sym (nat_list_eq_equiv.refl word) ∙ ap (bytes_eq word) (one w (Contains-head w ws) same) ∙ apart.0),
  differs value word ws apart.1 (λ v within. one v (Contains-cons w ws v within)),
)

-- where equal values are of one word, those of different words differ
pub AllDiffer-words : (value : List ℕ → List ℕ) (words : List (List ℕ)) → IsDistinct bytes_eq words
    → ((v w : List ℕ) → Contains words v → Contains words w → value v ≡ value w → v ≡ w) → AllDiffer (map value words)
unfolding IsDistinct
AllDiffer-words value [] apart one = tt
AllDiffer-words value (w ∷ ws) apart one = (
  differs value w ws apart.0 (λ v within. one w v (Contains-head w ws) (Contains-cons w ws v within)),
  AllDiffer-words value ws apart.1 (λ u v here there. one u v (Contains-cons w ws u here) (Contains-cons w ws v there)),
)

-- values of told names of one kind and of different words differ
pub AllDiffer-names : (s : Shape) (t : Table) (names : List Name) (epoch : ℕ) (kind : Kind) (number : List ℕ → ℕ) (words : List (List ℕ)) → IsTold s t names
    → ((v w : List ℕ) → class_of (name epoch v kind (number v)) ≡ class_of (name epoch w kind (number w)))
    → ((w : List ℕ) → is_compared (class_of (name epoch w kind (number w))) ≡ true)
    → IsDistinct bytes_eq words
    → ((w : List ℕ) → Contains words w → Contains names (name epoch w kind (number w)))
    → AllDiffer (map (λ w. t (name epoch w kind (number w))) words)
AllDiffer-names s t names epoch kind number words told class compared distinct drawn =
    AllDiffer-words (λ w. t (name epoch w kind (number w))) words distinct
    (λ v w here there same. ap (λ (n : Name). n.word)
    (told.apart (name epoch v kind (number v)) (name epoch w kind (number w)) (drawn v here) (drawn w there) refl (class v w) (compared v) same))
