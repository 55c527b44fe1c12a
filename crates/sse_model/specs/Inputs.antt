-- The input of the keyed function at each name: all that its value is made of, but for the key and the size.
use Rattle.std.specs.Prelude.{ℕ, zero, suc, ◌≡◌, ◌+◌, ◌^◌, ◌<◌, List, [], ◌∷◌, take}
use Rattle.std.specs.Int.{w64, to_be_bytes}
use Rattle.keyed_fn.specs.KeyFormulas.{token_of}
use Rattle.keyed_fn.specs.KeyedFn.{KeyedFn}
use Rattle.sse_model.specs.Names.{Name, Kind, Token, ListLabel, ListPad, PlusLabel, PlusPad, Revocation, PlaceTag, DummyLabel, DummyCell, DummyTag, DummyBlock, no_word}

-- one input, under the key of an epoch
pub data Input : Type 0 where
  -- a word, whose keys of the parts 1 to 5 are the value
  KeysOf : (word : List ℕ) → Input
  -- bytes, for the function under the key that it gives at other bytes: a part, and a word or nothing
  BytesUnder : (part_and_word bytes : List ℕ) → Input
  -- the number of a pad, under such a key
  PadUnder : (part_and_word : List ℕ) (number : ℕ) → Input

-- the input at a name's word, kind and number: a row of the table of keys (docs/FORMATS.md) for each kind
abbrev pub input_at : List ℕ → Kind → ℕ → Input
input_at word Token number = KeysOf word
input_at word ListLabel number = BytesUnder (1 ∷ word) (to_be_bytes w64 0)
input_at word ListPad zero = PadUnder (2 ∷ word) 0
input_at word ListPad (suc i) = PadUnder (2 ∷ word) (i + 1)
input_at word PlusLabel c = BytesUnder (3 ∷ word) (to_be_bytes w64 c)
input_at word PlusPad c = PadUnder (4 ∷ word) c
input_at word Revocation id = BytesUnder (5 ∷ word) (to_be_bytes w64 id)
input_at word PlaceTag i = BytesUnder (6 ∷ word) (to_be_bytes w64 i)
input_at word DummyLabel i = BytesUnder (8 ∷ []) (to_be_bytes w64 i)
input_at word DummyCell i = PadUnder (9 ∷ []) i
input_at word DummyTag j = BytesUnder (8 ∷ []) (to_be_bytes w64 (2 ^ 32 + j))
input_at word DummyBlock j = PadUnder (9 ∷ []) (2 ^ 32 + j)

abbrev pub input_of : Name → ℕ × Input
input_of n = (n.epoch, input_at n.word n.kind n.number)

-- the value of so many bytes at an input: 16 bytes of the function, or the pad
abbrev pub value_at : KeyedFn → (key : List ℕ) → (size : ℕ) → Input → List ℕ
value_at f key size (KeysOf word) = token_of f key word
value_at f key size (BytesUnder part_and_word bytes) = take 16 (f.prf (f.prf key part_and_word) bytes)
value_at f key size (PadUnder part_and_word number) = f.pad (f.prf key part_and_word) number size

-- what is so of a name that is used: the number is 0 where there is none, and fits 8 bytes; dummies are of no word, and fewer than 2^32
abbrev pub IsUsedAt : List ℕ → Kind → ℕ → Type 0
IsUsedAt word Token number = number ≡ 0
IsUsedAt word ListLabel number = number ≡ 0
IsUsedAt word ListPad number = Unit {0}
IsUsedAt word PlusLabel c = c < 2 ^ 64
IsUsedAt word PlusPad c = Unit {0}
IsUsedAt word Revocation id = id < 2 ^ 64
IsUsedAt word PlaceTag i = i < 2 ^ 64
IsUsedAt word DummyLabel i = (word ≡ no_word) × (i < 2 ^ 32)
IsUsedAt word DummyCell i = (word ≡ no_word) × (i < 2 ^ 32)
IsUsedAt word DummyTag j = (word ≡ no_word) × (j < 2 ^ 32)
IsUsedAt word DummyBlock j = (word ≡ no_word) × (j < 2 ^ 32)

abbrev pub IsUsed : Name → Type 0
IsUsed n = IsUsedAt n.word n.kind n.number
