-- The value of a numbered name under a key is that of the name in the key's table.
use Rattle.std.proofs.Common.{◌≡◌, ℕ, zero, suc, ◌^◌, ◌<◌, true, List, [], length, map, position, get_or, Option, None, Some, is_some, option_map, refl, sym, ap, ◌∙◌, subst, arith}
use Rattle.std.specs.Prelude.{Contains, bytes_eq, slice_get, unwrap_or}
use Rattle.std.specs.List.{list_any}
use Rattle.std.specs.Cmp.Lexicographic.{same_text}
use Rattle.std.proofs.lemmas.Bool.{true≢false}
use Rattle.std.proofs.lemmas.List.{length-map}
use Rattle.std.proofs.lemmas.List.Quantifiers.{position-Some}
use Rattle.std.proofs.lemmas.Option.{slice_get-get_or, slice_get-map, slice_get_past}
use Rattle.client_registry.proofs.Positions.{is_some-position}
use Rattle.client_registry.specs.Run.{Run, Offsets}
use Rattle.client_registry.specs.Sized.{run_words}
use Rattle.leakage_values.proofs.OwnNames.{is_own, own_names}
use Rattle.leakage_values.specs.Numbered.{kind_in_code, no_number, number_of_word, number_for, numbered}
use Rattle.keyed_fn.specs.KeyedFn.{KeyedFn}
use Rattle.def_comparison.proofs.UsedNames.{Contains-of_first_names}
use Rattle.def_comparison.specs.UsedNames.{all_names, names}
use Rattle.sse_model.specs.Histories.{table_at}
use Rattle.sse_model.specs.Names.{Name, Kind, Token, ListLabel, ListPad, PlusLabel, PlusPad, Revocation, PlaceTag, DummyLabel, DummyCell, DummyTag, DummyBlock, name, value_of}
use Rattle.two_level.specs.Shape.{Shape}
use Rattle.leakage_sheets.specs.ByKeys.{value_by_own, value_by_number}
use Rattle.leakage_sheets.specs.OwnKeys.{OwnKeys, own_keys}
use Rattle.word_keys.specs.KeyPair.{dummy_keys}

module _ (f : KeyedFn) (s : Shape) (master : List ℕ) (words : List (List ℕ)) where
  abbrev kept : List OwnKeys
  kept = map (own_keys f master) words

  -- the keys at a word's number are its own
  own_at_number : (word : List ℕ) → list_any (bytes_eq word) words ≡ true → slice_get kept (number_of_word words word) ≡ Some (own_keys f master word)
  own_at_number word among = by (position (bytes_eq word) words) refl (is_some-position (bytes_eq word) words ∙ among)
    where
      by : (o : Option ℕ) → position (bytes_eq word) words ≡ o → is_some o ≡ true → slice_get kept (unwrap_or o no_number) ≡ Some (own_keys f master word)
      by None at some = absurd (true≢false (sym some))
      by (Some i) at some =
          let found = position-Some (bytes_eq word) words i [] at in
          slice_get-map (own_keys f master) words i
          ∙ ap (option_map (own_keys f master)) (slice_get-get_or words i [] found.0 ∙ ap Some (sym (same_text word (get_or words i []) (sym found.1))))

  -- at the number of no word there are none
  none_at : length words < 2 ^ 32 → slice_get kept no_number ≡ None
  none_at few = slice_get_past kept no_number (omega (arith, length-map words (own_keys f master), few))

  of_kind : length words < 2 ^ 32 → (epoch : ℕ) (word : List ℕ) (kind : Kind) (number : ℕ) → is_own words (name epoch word kind number) ≡ true
      → value_by_own f s (dummy_keys f master) (slice_get kept (number_for words kind word)) (kind_in_code kind) number ≡ value_of f s master word kind number
  of_kind few epoch word Token number own = ap (λ o. value_by_own f s (dummy_keys f master) o (kind_in_code Token) number) (own_at_number word own)
  of_kind few epoch word ListLabel number own = ap (λ o. value_by_own f s (dummy_keys f master) o (kind_in_code ListLabel) number) (own_at_number word own)
  of_kind few epoch word ListPad zero own = ap (λ o. value_by_own f s (dummy_keys f master) o (kind_in_code ListPad) zero) (own_at_number word own)
  of_kind few epoch word ListPad (suc i) own = ap (λ o. value_by_own f s (dummy_keys f master) o (kind_in_code ListPad) (suc i)) (own_at_number word own)
  of_kind few epoch word PlusLabel number own = ap (λ o. value_by_own f s (dummy_keys f master) o (kind_in_code PlusLabel) number) (own_at_number word own)
  of_kind few epoch word PlusPad number own = ap (λ o. value_by_own f s (dummy_keys f master) o (kind_in_code PlusPad) number) (own_at_number word own)
  of_kind few epoch word Revocation number own = ap (λ o. value_by_own f s (dummy_keys f master) o (kind_in_code Revocation) number) (own_at_number word own)
  of_kind few epoch word PlaceTag number own = ap (λ o. value_by_own f s (dummy_keys f master) o (kind_in_code PlaceTag) number) (own_at_number word own)
  of_kind few epoch word DummyLabel number own = ap (λ o. value_by_own f s (dummy_keys f master) o (kind_in_code DummyLabel) number) (none_at few)
  of_kind few epoch word DummyCell number own = ap (λ o. value_by_own f s (dummy_keys f master) o (kind_in_code DummyCell) number) (none_at few)
  of_kind few epoch word DummyTag number own = ap (λ o. value_by_own f s (dummy_keys f master) o (kind_in_code DummyTag) number) (none_at few)
  of_kind few epoch word DummyBlock number own = ap (λ o. value_by_own f s (dummy_keys f master) o (kind_in_code DummyBlock) number) (none_at few)

-- Promise P40, also here
-- of the names of a history
pub value-numbered : (f : KeyedFn) (key : List ℕ) (o : Offsets) (run : Run) (n : Name) → length (run_words run) < 2 ^ 32 → Contains (names o run) n
    → value_by_number f run.setup.shape key (run_words run) (numbered (run_words run) n) ≡ table_at f key run n
value-numbered f key o run n few used =
    let own = Contains-of_first_names (all_names o run) n used in
    of_kind f run.setup.shape key (run_words run) few n.epoch n.word n.kind n.number
    (subst (λ m. is_own (run_words run) m ≡ true) own.2 (own_names o run own.0 n own.1))
