-- The relabelled table gives each name that the other run draws a value of its size.
use Rattle.std.proofs.Common.{◌≡◌, ℕ, zero, suc, Bool, true, false, not, List, [], ◌∷◌, ◌++◌, length, map, filter, refl, sym, ap, ◌∙◌, subst, Some, None}
use Rattle.std.specs.Prelude.{Contains, Option, flat_map, if◌then◌else◌}
use Rattle.std.specs.List.{AllByRecursion, list_any}
use Rattle.std.proofs.lemmas.List.{length-map}
use Rattle.std.proofs.lemmas.List.Elements.{All-contains, All-from_recursion}
use Rattle.std.proofs.lemmas.List.FromFn.{length-map-range_with_len}
use Rattle.two_level.specs.Shape.{Shape}
use Rattle.client_registry.specs.Command.{Command, Add, Delete, Search}
use Rattle.client_registry.specs.Live.{live}
use Rattle.client_registry.specs.Over.{over}
use Rattle.client_registry.specs.Run.{Run, Offsets}
use Rattle.client_registry.specs.Sized.{IsHistory}
use Rattle.keyed_fn.specs.Xored.{xored}
use Rattle.sse_frames.specs.Frames.{IsBytes}
use Rattle.def_leakage.proofs.Names.{names_drawn}
use Rattle.def_leakage.proofs.Places.{none_is_some}
use Rattle.def_leakage.specs.DrawnValues.{Drawing, ForEntry, ForBlock, ForNumber, ForToken, drawings_by, drawings}
use Rattle.def_leakage.specs.CommandLeaks.{leak}
use Rattle.def_leakage.specs.Relabelled.{Use, uses_at, uses_in, shifted, relabelled}
use Rattle.sse_model.proofs.Counts.{AllByRecursion-append, AllByRecursion-each}
use Rattle.sse_model.proofs.Members.{Contains-map}
use Rattle.sse_model.proofs.SealedEntries.{HasNames, cells_have_names, blocks_have_names}
use Rattle.sse_model.proofs.Texts.{HasText, IsBytes-be64, IsBytes-xored, cells_have_texts, blocks_have_texts}
use Rattle.sse_model.specs.Drawn.{was_sent, searches_for}
use Rattle.sse_model.specs.Names.{Class, Tokens, ListLabels, CellPads, BlockPads, PlusLabels, PlusPads, Revocations, PlaceTags, Kind, Token, ListLabel, ListPad, PlusLabel, PlusPad, Revocation, PlaceTag, DummyLabel, DummyCell, DummyTag, DummyBlock, Table, name, class_at, cell_size, block_size, size_at}
use Rattle.sse_model.specs.Positions.{Position, entry_positions, block_positions, addition_positions, fresh_words}
use Rattle.sse_model.specs.Values.{IsValue}
use Rattle.sse_model.specs.Wire.{labels_in, words_live}
use Rattle.def_relabelling.proofs.CollisionFree.{AreOfOneClass, classes}
use Rattle.def_relabelling.proofs.KeptValues.{first_ranks, of_map}
use Rattle.def_relabelling.proofs.OwnValues.{IsOwn}
use Rattle.def_relabelling.proofs.Pairs.{partner_of, paired-both, paired-parts}
use Rattle.def_relabelling.proofs.SameDrawings.{AreTexts, AreAlike, setups}
use Rattle.def_relabelling.proofs.SameDraws.{drawn_uses, probed_uses, names_in_lists, alike_drawn, own_drawn}
use Rattle.def_relabelling.proofs.FirstPlaces.{some_inside}
use Rattle.def_relabelling.specs.Tables.{IsTableFor}

-- Sizes.

pub size_in : Shape → Class → ℕ
size_in s Tokens = 160
size_in s ListLabels = 16
size_in s CellPads = cell_size s
size_in s BlockPads = block_size s
size_in s PlusLabels = 16
size_in s PlusPads = 8
size_in s Revocations = 16
size_in s PlaceTags = 16

-- names of one class have values of one size
pub size_of_class : (s : Shape) (kind : Kind) (number : ℕ) → size_at s kind number ≡ size_in s (class_at kind number)
unfolding size_in
size_of_class s Token number = refl
size_of_class s ListLabel number = refl
size_of_class s ListPad zero = refl
size_of_class s ListPad (suc i) = refl
size_of_class s PlusLabel number = refl
size_of_class s PlusPad number = refl
size_of_class s Revocation number = refl
size_of_class s PlaceTag number = refl
size_of_class s DummyLabel number = refl
size_of_class s DummyCell number = refl
size_of_class s DummyTag number = refl
size_of_class s DummyBlock number = refl

-- a plaintext has the size of the pad that covers it
abbrev pub IsCovered : Shape → Use → Type 0
IsCovered s u = (text : List ℕ) → u.text ≡ Some text → IsBytes (size_at s u.name.kind u.name.number) text

covered_at : (s : Shape) (size : ℕ) (ranks : List ℕ) (p : Position) → HasText size ranks p → HasNames s size p → AllByRecursion (IsCovered s) (uses_at ranks p)
covered_at s size ranks p has names = (
  (λ text e. none_is_some text e),
  ((λ text e. subst (λ bytes. IsBytes (size_at s p.pad.kind p.pad.number) bytes) (some_inside (p.clear ranks) text e) (subst (λ n. IsBytes n (p.clear ranks)) (sym names.1) has)), tt),
)

abbrev AreCovered : Shape → List ℕ → Drawing → Type 0
AreCovered s ranks d = AllByRecursion (IsCovered s) (uses_in ranks d)

module _ (s : Shape) (ranks : List ℕ) where
  entries_covered : (size : ℕ) (ps : List Position) → AllByRecursion (HasText size ranks) ps → AllByRecursion (HasNames s size) ps → AllByRecursion (AreCovered s ranks) (map ForEntry ps)
  entries_covered size [] texts names = tt
  entries_covered size (p ∷ ps) texts names = (covered_at s size ranks p texts.0 names.0, entries_covered size ps texts.1 names.1)

  blocks_covered : (size : ℕ) (ps : List Position) → AllByRecursion (HasText size ranks) ps → AllByRecursion (HasNames s size) ps → AllByRecursion (AreCovered s ranks) (map ForBlock ps)
  blocks_covered size [] texts names = tt
  blocks_covered size (p ∷ ps) texts names = (covered_at s size ranks p texts.0 names.0, blocks_covered size ps texts.1 names.1)

  joined_covered : (ds : List Drawing) → AllByRecursion (AreCovered s ranks) ds → AllByRecursion (IsCovered s) (flat_map (uses_in ranks) ds)
  joined_covered [] all = tt
  joined_covered (d ∷ ds) all = AllByRecursion-append (IsCovered s) (uses_in ranks d) (flat_map (uses_in ranks) ds) all.0 (joined_covered ds all.1)

  lists_covered : (dss : List (List Drawing)) → AllByRecursion (AllByRecursion (AreCovered s ranks)) dss → AllByRecursion (IsCovered s) (flat_map (flat_map (uses_in ranks)) dss)
  lists_covered [] all = tt
  lists_covered (ds ∷ dss) all = AllByRecursion-append (IsCovered s) (flat_map (uses_in ranks) ds) (flat_map (flat_map (uses_in ranks)) dss) (joined_covered ds all.0) (lists_covered dss all.1)

module _ (o : Offsets) (run : Run) (history : IsHistory run) (ranks : List ℕ) (enough : length ranks ≡ length (block_positions o.epoch run.setup)) where
  command_covered : (past : List Command) (c : Command) → AllByRecursion (AreCovered run.setup.shape ranks) (drawings_by o.epoch run.setup past c)
  command_covered past (Add d) =
      entries_covered run.setup.shape ranks 8 (addition_positions o.epoch run.setup past d)
      (AllByRecursion-each (HasText 8 ranks) _ (λ w. IsBytes-be64 d.id) (fresh_words run.setup past d))
      (AllByRecursion-each (HasNames run.setup.shape 8) _ (λ w. (refl, refl)) (fresh_words run.setup past d))
  command_covered past (Delete id) =
      AllByRecursion-each (AreCovered run.setup.shape ranks) (λ word. ForNumber (name o.epoch word Revocation id)) (λ word. ((λ text e. none_is_some text e), tt))
      (filter (λ word. not (was_sent run.setup past word id)) (words_live (live run.setup.documents past) id))
  command_covered past (Search word) = by (list_any (searches_for word) past)
    where
      by : (b : Bool) → AllByRecursion (AreCovered run.setup.shape ranks) (if b then [] else ForToken (name o.epoch word Token 0) ∷ [])
      by true = tt
      by false = (((λ text e. none_is_some text e), tt), tt)

  later_covered : (past later : List Command) → AllByRecursion (AllByRecursion (AreCovered run.setup.shape ranks)) (over (drawings_by o.epoch run.setup) past later)
  later_covered past [] = tt
  later_covered past (c ∷ cs) = (command_covered past c, later_covered (past ++ c ∷ []) cs)

  -- each plaintext of what a run draws has the size of its pad
  pub all_covered : AllByRecursion (IsCovered run.setup.shape) (drawn_uses o run ranks)
  all_covered =
      lists_covered run.setup.shape ranks (drawings o run) (
        AllByRecursion-append (AreCovered run.setup.shape ranks) (map ForEntry (entry_positions o.epoch run.setup)) (map ForBlock (block_positions o.epoch run.setup))
            (entries_covered run.setup.shape ranks (cell_size run.setup.shape) (entry_positions o.epoch run.setup) (cells_have_texts o.epoch run.setup history.setup ranks enough) (cells_have_names o.epoch run.setup))
            (blocks_covered run.setup.shape ranks (block_size run.setup.shape) (block_positions o.epoch run.setup) (blocks_have_texts o.epoch run.setup history.setup ranks enough) (blocks_have_names o.epoch run.setup)),
        later_covered [] run.later,
      )

-- Values.

-- a value that is shifted from one text to another of its size keeps its size
shifted_sized : (size : ℕ) (value : List ℕ) (a b : Option (List ℕ)) → AreTexts a b → IsBytes size value → ((text : List ℕ) → a ≡ Some text → IsBytes size text) → ((text : List ℕ) → b ≡ Some text → IsBytes size text)
    → IsBytes size (shifted value a b)
shifted_sized size value None None alike is from to = is
shifted_sized size value None (Some other) alike is from to = absurd alike
shifted_sized size value (Some text) None alike is from to = absurd alike
shifted_sized size value (Some text) (Some other) alike is from to =
    IsBytes-xored size (xored value text) other (IsBytes-xored size value text is (from text refl)) (to other refl)

module _ (o : Offsets) (run other : Run) (t : Table) (history : IsHistory run) (history2 : IsHistory other) (leaks : leak o run ≡ leak o other) (values : IsTableFor t o run) where
  -- Promise P152, also here
  pub sized_there : IsTableFor (relabelled o run other t) o other
  sized_there n within =
      let ranks = first_ranks o run other t history history2 leaks in
      let m = relabelled o run other t in
      let drawn1 = drawn_uses o run ranks in
      let drawn2 = drawn_uses o other ranks in
      let alike = setups o run other leaks in
      let enough : length ranks ≡ length (block_positions o.epoch run.setup) =
      length-map-range_with_len _ 0 (length (labels_in t (block_positions o.epoch run.setup))) ∙ length-map (block_positions o.epoch run.setup) (λ p. t p.label) in
      let b = of_map (λ (x : Use). x.name) drawn2 n (subst (λ ns. Contains ns n) (sym (names_in_lists ranks (drawings o other) ∙ ap (flat_map (λ ns. ns)) (names_drawn o other))) within) in
      let both_alike = alike_drawn o run other t history2 leaks ranks ranks in
      let one_class = (paired-parts AreOfOneClass AreAlike drawn1 (probed_uses o run) drawn2 (probed_uses o other) both_alike (classes o run other t history history2 leaks)).0 in
      let a = partner_of (λ x y. AreAlike x y × (AreOfOneClass x y × IsOwn m t x y)) drawn1 drawn2
      (paired-both AreAlike (λ x y. AreOfOneClass x y × IsOwn m t x y) drawn1 drawn2 both_alike (paired-both AreOfOneClass (IsOwn m t) drawn1 drawn2 one_class (own_drawn o run other t history2 leaks))) b.0 b.1 in
      let from = All-contains (IsCovered run.setup.shape) drawn1 a.0 (All-from_recursion (IsCovered run.setup.shape) drawn1 (all_covered o run history ranks enough)) a.1 in
      let to = All-contains (IsCovered other.setup.shape) drawn2 b.0 (All-from_recursion (IsCovered other.setup.shape) drawn2 (all_covered o other history2 ranks (enough ∙ alike.blocks))) b.1 in
      let size : size_at run.setup.shape a.0.name.kind a.0.name.number ≡ size_at other.setup.shape b.0.name.kind b.0.name.number =
      size_of_class run.setup.shape a.0.name.kind a.0.name.number ∙ (λ i. size_in (alike.shape i) (a.2.1.0.class i)) ∙ sym (size_of_class other.setup.shape b.0.name.kind b.0.name.number) in
      let value = values a.0.name (subst (λ ns. Contains ns a.0.name) (names_in_lists ranks (drawings o run) ∙ ap (flat_map (λ ns. ns)) (names_drawn o run)) (Contains-map (λ (x : Use). x.name) drawn1 a.0 a.1)) in
      subst (λ k. IsValue other.setup.shape m k) b.2
      (subst (λ bytes. IsBytes (size_at other.setup.shape b.0.name.kind b.0.name.number) bytes) (sym a.2.1.1)
      (shifted_sized (size_at other.setup.shape b.0.name.kind b.0.name.number) (t a.0.name) a.0.text b.0.text a.2.0 (subst (λ k. IsBytes k (t a.0.name)) size value)
      (λ text e. subst (λ k. IsBytes k text) size (from text e)) to))
