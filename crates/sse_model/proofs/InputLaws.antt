-- Different names have different inputs of the keyed function, and a value is made of its name's input.
use Rattle.std.proofs.Common.{◌≡◌, ℕ, zero, suc, ◌+◌, ◌-◌, ◌^◌, ◌<◌, ◌==◌, Bool, false, List, [], ◌∷◌, refl, sym, ap, ◌∙◌, arith, nat_lt, if◌then◌else◌}
use Rattle.std.specs.Int.{w64, to_be_bytes, from_be_bytes}
use Rattle.std.proofs.lemmas.Bool.{lt-ltb, false_from_ne_true, ltb-true}
use Rattle.std.proofs.lemmas.Nat.{from_be_bytes-to_be_bytes_8}
use Rattle.keyed_fn.specs.KeyedFn.{KeyedFn}
use Rattle.two_level.specs.Shape.{Shape}
use Rattle.sse_model.specs.Inputs.{Input, KeysOf, BytesUnder, PadUnder, IsUsed, IsUsedAt, input_at, input_of, value_at}
use Rattle.sse_model.specs.Names.{Name, name, Kind, Token, ListLabel, ListPad, PlusLabel, PlusPad, Revocation, PlaceTag, DummyLabel, DummyCell, DummyTag, DummyBlock, no_word, size_at, value_of}

-- Promise P168, also here
-- the value at a name is the value at its input, under the key and in its size
pub value_of-input : (f : KeyedFn) (s : Shape) (key word : List ℕ) (kind : Kind) (number : ℕ) → value_of f s key word kind number ≡ value_at f key (size_at s kind number) (input_at word kind number)
value_of-input f s key word Token number = refl
value_of-input f s key word ListLabel number = refl
value_of-input f s key word ListPad zero = refl
value_of-input f s key word ListPad (suc i) = refl
value_of-input f s key word PlusLabel number = refl
value_of-input f s key word PlusPad number = refl
value_of-input f s key word Revocation number = refl
value_of-input f s key word PlaceTag number = refl
value_of-input f s key word DummyLabel number = refl
value_of-input f s key word DummyCell number = refl
value_of-input f s key word DummyTag number = refl
value_of-input f s key word DummyBlock number = refl

-- ---- the name can be read off the input

-- a dummy's kind by its number: those below 2^32 are of entries
by_half : (below above : Kind) → ℕ → ℕ → Name
by_half below above epoch n = if nat_lt n (2 ^ 32) then name epoch no_word below n else name epoch no_word above (n - 2 ^ 32)

by_part : ℕ → (part : ℕ) → List ℕ → ℕ → Name
by_part epoch part word n =
    if part == 1 then name epoch word ListLabel n
    else (if part == 3 then name epoch word PlusLabel n
    else (if part == 5 then name epoch word Revocation n
    else (if part == 6 then name epoch word PlaceTag n else by_half DummyLabel DummyTag epoch n)))

by_pad : ℕ → (part : ℕ) → List ℕ → ℕ → Name
by_pad epoch part word n =
    if part == 2 then name epoch word ListPad n
    else (if part == 4 then name epoch word PlusPad n else by_half DummyCell DummyBlock epoch n)

named : ℕ → Input → Name
named epoch (KeysOf word) = name epoch word Token 0
named epoch (BytesUnder [] bytes) = name epoch [] Token 0
named epoch (BytesUnder (part ∷ word) bytes) = by_part epoch part word (from_be_bytes w64 bytes)
named epoch (PadUnder [] number) = name epoch [] Token 0
named epoch (PadUnder (part ∷ word) number) = by_pad epoch part word number

lower : (below above : Kind) (epoch n : ℕ) → n < 2 ^ 32 → by_half below above epoch n ≡ name epoch no_word below n
unfolding by_half
lower below above epoch n small = ap (λ (b : Bool). if b then name epoch no_word below n else name epoch no_word above (n - 2 ^ 32)) (lt-ltb n (2 ^ 32) small)

upper : (below above : Kind) (epoch n : ℕ) → by_half below above epoch (2 ^ 32 + n) ≡ name epoch no_word above n
unfolding by_half
upper below above epoch n =
    let large : nat_lt (2 ^ 32 + n) (2 ^ 32) ≡ false = false_from_ne_true _ (λ t. let less : 2 ^ 32 + n < 2 ^ 32 = ltb-true _ _ t in omega (arith, less)) in
    let rest : 2 ^ 32 + n - 2 ^ 32 ≡ n = omega arith in
    ap (λ (b : Bool). if b then name epoch no_word below (2 ^ 32 + n) else name epoch no_word above (2 ^ 32 + n - 2 ^ 32)) large ∙ ap (λ m. name epoch no_word above m) rest

module _ (epoch : ℕ) (word : List ℕ) where
  at_number : (kind : Kind) (n : ℕ) → n < 2 ^ 64 → name epoch word kind (from_be_bytes w64 (to_be_bytes w64 n)) ≡ name epoch word kind n
  at_number kind n small = ap (λ m. name epoch word kind m) (from_be_bytes-to_be_bytes_8 n small)

  at_none : (kind : Kind) (n : ℕ) → n ≡ 0 → name epoch word kind 0 ≡ name epoch word kind n
  at_none kind n none = ap (λ m. name epoch word kind m) (sym none)

  of_no_word : (kind : Kind) (n : ℕ) → word ≡ no_word → name epoch no_word kind n ≡ name epoch word kind n
  of_no_word kind n none = ap (λ w. name epoch w kind n) (sym none)

  named-input : (kind : Kind) (n : ℕ) → IsUsedAt word kind n → named epoch (input_at word kind n) ≡ name epoch word kind n
  unfolding named by_part by_pad
  named-input Token n is = at_none Token n is
  named-input ListLabel n is = at_number ListLabel 0 (omega arith) ∙ at_none ListLabel n is
  named-input ListPad zero is = refl
  named-input ListPad (suc i) is = ap (λ m. name epoch word ListPad m) (omega arith)
  named-input PlusLabel n is = at_number PlusLabel n is
  named-input PlusPad n is = refl
  named-input Revocation n is = at_number Revocation n is
  named-input PlaceTag n is = at_number PlaceTag n is
  named-input DummyLabel n is =
      ap (by_half DummyLabel DummyTag epoch) (from_be_bytes-to_be_bytes_8 n (omega (arith, is.1))) ∙ lower DummyLabel DummyTag epoch n is.1 ∙ of_no_word DummyLabel n is.0
  named-input DummyCell n is = lower DummyCell DummyBlock epoch n is.1 ∙ of_no_word DummyCell n is.0
  named-input DummyTag n is =
      ap (by_half DummyLabel DummyTag epoch) (from_be_bytes-to_be_bytes_8 (2 ^ 32 + n) (omega (arith, is.1))) ∙ upper DummyLabel DummyTag epoch n ∙ of_no_word DummyTag n is.0
  named-input DummyBlock n is = upper DummyCell DummyBlock epoch n ∙ of_no_word DummyBlock n is.0

-- Promise P168 (inside): Different names that a history draws have different inputs of the keyed functions, and each keystream segment is as long as its plaintext.
--   assumes: kept limits, keyed function; not: The same of two histories under one key. That values at different inputs differ, or look random.
-- different names have different inputs
pub input_of-injective : (x y : Name) → IsUsed x → IsUsed y → input_of x ≡ input_of y → x ≡ y
input_of-injective x y used_x used_y same =
    sym (named-input x.epoch x.word x.kind x.number used_x) ∙ ap (λ (p : ℕ × Input). named p.0 p.1) same ∙ named-input y.epoch y.word y.kind y.number used_y
