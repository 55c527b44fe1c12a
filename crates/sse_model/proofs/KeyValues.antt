-- The table of a keyed function gives every name a value of its size.
use Rattle.std.proofs.Common.{◌≡◌, ℕ, zero, suc, ◌<◌, List, length, take, sym, subst, ⊎_elim, arith}
use Rattle.std.specs.Prelude.{All}
use Rattle.std.proofs.lemmas.Bool.{cases_lt}
use Rattle.std.proofs.lemmas.List.{get_or_past}
use Rattle.keyed_fn.proofs.KeyLaws.{length-front_of_prf, All-front_of_prf, length-token_of, All-token_of}
use Rattle.keyed_fn.specs.KeyedFn.{KeyedFn, IsKeyedFn}
use Rattle.keyed_fn.specs.KeyFormulas.{token_of}
use Rattle.two_level.specs.Shape.{Shape}
use Rattle.sse_frames.specs.Frames.{IsBytes}
use Rattle.sse_model.specs.Names.{Name, Kind, Token, ListLabel, ListPad, PlusLabel, PlusPad, Revocation, PlaceTag, DummyLabel, DummyCell, DummyTag, DummyBlock, value_of, size_at, table}
use Rattle.sse_model.specs.Values.{IsValue}

-- so many bytes, by their length and each of their values
pub IsBytes-from_All : (size : ℕ) (bytes : List ℕ) → length bytes ≡ size → All (λ b. b < 256) bytes → IsBytes size bytes
IsBytes-from_All size bytes long all = record {
  size_is = long;
  each = λ i. ⊎_elim (λ within. all i 0 within) (λ past. subst (λ (b : ℕ). b < 256) (sym (get_or_past bytes i 0 past)) (omega arith)) (cases_lt i (length bytes));
}

module _ (f : KeyedFn) (laws : IsKeyedFn f) (s : Shape) (key word : List ℕ) where
  front_is : (k input : List ℕ) → IsBytes 16 (take 16 (f.prf k input))
  front_is k input = IsBytes-from_All 16 (take 16 (f.prf k input)) (length-front_of_prf f laws k input) (All-front_of_prf f laws k input)

  pad_is : (k : List ℕ) (n len : ℕ) → IsBytes len (f.pad k n len)
  pad_is k n len = IsBytes-from_All len (f.pad k n len) (laws.pad_length k n len) (laws.pad_bytes k n len)

  value_is : (kind : Kind) (number : ℕ) → IsBytes (size_at s kind number) (value_of f s key word kind number)
  value_is Token number = IsBytes-from_All 160 (token_of f key word) (length-token_of f laws key word) (All-token_of f laws key word)
  value_is ListLabel number = front_is _ _
  value_is ListPad zero = pad_is _ _ _
  value_is ListPad (suc i) = pad_is _ _ _
  value_is PlusLabel number = front_is _ _
  value_is PlusPad number = pad_is _ _ _
  value_is Revocation number = front_is _ _
  value_is PlaceTag number = front_is _ _
  value_is DummyLabel number = front_is _ _
  value_is DummyCell number = pad_is _ _ _
  value_is DummyTag number = front_is _ _
  value_is DummyBlock number = pad_is _ _ _

-- every name has a value of its size
pub IsValue-table : (f : KeyedFn) → IsKeyedFn f → (s : Shape) (keys : ℕ → List ℕ) (n : Name) → IsValue s (table f s keys) n
IsValue-table f laws s keys n = value_is f laws s (keys n.epoch) n.word n.kind n.number
