-- Each keystream segment of a history is as long as the plaintext that it covers.
use Rattle.std.proofs.Common.{◌≡◌, ℕ, Bool, true, false, not, List, [], ◌∷◌, ◌++◌, length, map, filter, refl, sym, ◌∙◌, if◌then◌else◌}
use Rattle.std.specs.List.{AllByRecursion, list_any}
use Rattle.std.proofs.lemmas.List.FromFn.{length-map-range_with_len}
use Rattle.std.proofs.lemmas.List.{length-map}
use Rattle.client_registry.specs.Command.{Command, Add, Delete, Search}
use Rattle.client_registry.specs.Live.{live}
use Rattle.client_registry.specs.Over.{over}
use Rattle.client_registry.specs.Run.{Run, Offsets}
use Rattle.client_registry.specs.Sized.{IsHistory}
use Rattle.keyed_fn.specs.KeyedFn.{KeyedFn, IsKeyedFn}
use Rattle.def_leakage.specs.DrawnValues.{Drawing, ForEntry, ForBlock, ForNumber, ForToken, drawings_by, drawings}
use Rattle.sse_model.proofs.Counts.{AllByRecursion-append, AllByRecursion-each}
use Rattle.sse_model.proofs.KeyValues.{IsValue-table}
use Rattle.sse_model.proofs.SealedEntries.{HasNames, cells_have_names, blocks_have_names}
use Rattle.sse_model.proofs.Texts.{HasText, IsBytes-be64, cells_have_texts, blocks_have_texts}
use Rattle.sse_model.specs.Drawn.{searches_for, was_sent}
use Rattle.sse_model.specs.Histories.{table_of}
use Rattle.sse_model.specs.Names.{Table, name, Revocation, Token, cell_size, block_size}
use Rattle.sse_model.specs.Positions.{Position, block_positions, entry_positions, addition_positions, fresh_words, ranks_of}
use Rattle.sse_model.specs.Wire.{labels_in, words_live}

-- the plaintext of a position is as long as its pad
abbrev pub IsAsLong : Table → (ranks : List ℕ) → Position → Type 0
IsAsLong t ranks p = length (p.clear ranks) ≡ length (t p.pad)

-- so is that of an encrypted text that is drawn; nothing else that is drawn has one
abbrev pub IsCovered : Table → (ranks : List ℕ) → Drawing → Type 0
IsCovered t ranks (ForEntry p) = IsAsLong t ranks p
IsCovered t ranks (ForBlock p) = IsAsLong t ranks p
IsCovered t ranks (ForNumber n) = Unit {0}
IsCovered t ranks (ForToken n) = Unit {0}

module _ (f : KeyedFn) (laws : IsKeyedFn f) (keys : ℕ → List ℕ) (o : Offsets) (run : Run) (history : IsHistory run) where
  abbrev t : Table
  t = table_of f keys run

  abbrev ranks : List ℕ
  ranks = ranks_of (labels_in t (block_positions o.epoch run.setup))

  length-ranks : length ranks ≡ length (block_positions o.epoch run.setup)
  length-ranks = length-map-range_with_len _ 0 (length (labels_in t (block_positions o.epoch run.setup))) ∙ length-map (block_positions o.epoch run.setup) (λ p. t p.label)

  as_long : (size : ℕ) (p : Position) → HasText size ranks p → HasNames run.setup.shape size p → IsAsLong t ranks p
  as_long size p text names = text.size_is ∙ sym names.1 ∙ sym (IsValue-table f laws run.setup.shape keys p.pad).size_is

  entries : (size : ℕ) (ps : List Position) → AllByRecursion (HasText size ranks) ps → AllByRecursion (HasNames run.setup.shape size) ps → AllByRecursion (IsCovered t ranks) (map ForEntry ps)
  entries size [] texts names = tt
  entries size (p ∷ ps) texts names = (as_long size p texts.0 names.0, entries size ps texts.1 names.1)

  blocks : (size : ℕ) (ps : List Position) → AllByRecursion (HasText size ranks) ps → AllByRecursion (HasNames run.setup.shape size) ps → AllByRecursion (IsCovered t ranks) (map ForBlock ps)
  blocks size [] texts names = tt
  blocks size (p ∷ ps) texts names = (as_long size p texts.0 names.0, blocks size ps texts.1 names.1)

  by_command : (past : List Command) (c : Command) → AllByRecursion (IsCovered t ranks) (drawings_by o.epoch run.setup past c)
  by_command past (Add d) =
      entries 8 (addition_positions o.epoch run.setup past d)
      (AllByRecursion-each (HasText 8 ranks) _ (λ w. IsBytes-be64 d.id) (fresh_words run.setup past d))
      (AllByRecursion-each (HasNames run.setup.shape 8) _ (λ w. (refl, refl)) (fresh_words run.setup past d))
  by_command past (Delete id) =
      AllByRecursion-each (IsCovered t ranks) (λ word. ForNumber (name o.epoch word Revocation id)) (λ word. tt)
      (filter (λ word. not (was_sent run.setup past word id)) (words_live (live run.setup.documents past) id))
  by_command past (Search word) = by (list_any (searches_for word) past)
    where
      by : (b : Bool) → AllByRecursion (IsCovered t ranks) (if b then [] else ForToken (name o.epoch word Token 0) ∷ [])
      by true = tt
      by false = (tt, tt)

  by_later : (past later : List Command) → AllByRecursion (AllByRecursion (IsCovered t ranks)) (over (drawings_by o.epoch run.setup) past later)
  by_later past [] = tt
  by_later past (c ∷ cs) = (by_command past c, by_later (past ++ c ∷ []) cs)

  -- Promise P168, also here
  -- each text that a history draws, under any keys, is as long as its keystream segment
  pub covered : AllByRecursion (AllByRecursion (IsCovered (table_of f keys run) (ranks_of (labels_in (table_of f keys run) (block_positions o.epoch run.setup))))) (drawings o run)
  covered = (
    AllByRecursion-append (IsCovered t ranks) (map ForEntry (entry_positions o.epoch run.setup)) (map ForBlock (block_positions o.epoch run.setup))
        (entries (cell_size run.setup.shape) (entry_positions o.epoch run.setup) (cells_have_texts o.epoch run.setup history.setup ranks length-ranks) (cells_have_names o.epoch run.setup))
        (blocks (block_size run.setup.shape) (block_positions o.epoch run.setup) (blocks_have_texts o.epoch run.setup history.setup ranks length-ranks) (blocks_have_names o.epoch run.setup)),
    by_later [] run.later,
  )
