-- Names for the values of which the wire is made, and the table of their values under a key.
use Rattle.std.specs.Prelude.{ℕ, zero, suc, ◌+◌, ◌*◌, Bool, true, false, ◌&&◌, ◌==◌, List, [], bytes_eq}
use Rattle.two_level.specs.Shape.{Shape}
use Rattle.keyed_fn.specs.KeyedFn.{KeyedFn}
use Rattle.keyed_fn.specs.DummyFormulas.{dummy_label, dummy_tag, dummy_cell_pad, dummy_block_pad}
use Rattle.keyed_fn.specs.KeyFormulas.{part_key, plain_key, list_label, cell_pad, block_pad, plus_label, plus_pad, revocation, place_tag, token_of}

pub data Kind : Type 0 where
  Token : Kind
  ListLabel : Kind
  ListPad : Kind
  PlusLabel : Kind
  PlusPad : Kind
  Revocation : Kind
  PlaceTag : Kind
  DummyLabel : Kind
  DummyCell : Kind
  DummyTag : Kind
  DummyBlock : Kind

-- one value of a word: the number is 0 for a token or a list's label, 0 for a cell's pad and i + 1 for that of
-- block i, the counter for an addition, the identifier for a revocation number, i for the tag of block i. Those of dummies
-- are of no word, and the number is that of the dummy, entries and blocks each counted from 0
pub record Name : Type 0 where
  pub epoch : ℕ
  pub word : List ℕ
  pub kind : Kind
  pub number : ℕ

abbrev pub name : ℕ → List ℕ → Kind → ℕ → Name
name epoch word kind number = record { epoch = epoch; word = word; kind = kind; number = number }

-- what dummies have in the place of a word, which has a byte at least
abbrev pub no_word : List ℕ
no_word = []

abbrev pub same_kind : Kind → Kind → Bool
same_kind Token Token = true
same_kind ListLabel ListLabel = true
same_kind ListPad ListPad = true
same_kind PlusLabel PlusLabel = true
same_kind PlusPad PlusPad = true
same_kind Revocation Revocation = true
same_kind PlaceTag PlaceTag = true
same_kind DummyLabel DummyLabel = true
same_kind DummyCell DummyCell = true
same_kind DummyTag DummyTag = true
same_kind DummyBlock DummyBlock = true
same_kind _ _ = false

-- whether two names are the same: epoch, word, kind and number alike
abbrev pub same_name : Name → Name → Bool
same_name x y = x.epoch == y.epoch && bytes_eq x.word y.word && same_kind x.kind y.kind && x.number == y.number

-- names that could be taken for one another: a cell's pad and a block's are one kind and two classes, and a dummy's name is of
-- the class of what it stands for
pub data Class : Type 0 where
  Tokens : Class
  ListLabels : Class
  CellPads : Class
  BlockPads : Class
  PlusLabels : Class
  PlusPads : Class
  Revocations : Class
  PlaceTags : Class

-- Promise P156, also here
abbrev pub class_at : Kind → ℕ → Class
class_at Token number = Tokens
class_at ListLabel number = ListLabels
class_at ListPad zero = CellPads
class_at ListPad (suc i) = BlockPads
class_at PlusLabel number = PlusLabels
class_at PlusPad number = PlusPads
class_at Revocation number = Revocations
class_at PlaceTag number = PlaceTags
class_at DummyLabel number = ListLabels
class_at DummyCell number = CellPads
class_at DummyTag number = PlaceTags
class_at DummyBlock number = BlockPads

abbrev pub class_of : Name → Class
class_of n = class_at n.kind n.number

-- a value for each name
abbrev pub Table : Type 0
Table = Name → List ℕ

-- the bytes of a cell of b numbers after its kind byte, and of a block of B numbers
abbrev pub cell_size : Shape → ℕ
cell_size s = 1 + 8 * s.b

abbrev pub block_size : Shape → ℕ
block_size s = 8 * s.big

-- the value of a name under a key, by the key formulas
abbrev pub value_of : KeyedFn → Shape → List ℕ → List ℕ → Kind → ℕ → List ℕ
value_of f s key word Token number = token_of f key word
value_of f s key word ListLabel number = list_label f (part_key f key 1 word)
value_of f s key word ListPad zero = cell_pad f (part_key f key 2 word) (cell_size s)
value_of f s key word ListPad (suc i) = block_pad f (part_key f key 2 word) i (block_size s)
value_of f s key word PlusLabel c = plus_label f (part_key f key 3 word) c
value_of f s key word PlusPad c = plus_pad f (part_key f key 4 word) c
value_of f s key word Revocation id = revocation f (part_key f key 5 word) id
value_of f s key word PlaceTag i = place_tag f (part_key f key 6 word) i
value_of f s key word DummyLabel i = dummy_label f (plain_key f key 8) i
value_of f s key word DummyCell i = dummy_cell_pad f (plain_key f key 9) i (cell_size s)
value_of f s key word DummyTag j = dummy_tag f (plain_key f key 8) j
value_of f s key word DummyBlock j = dummy_block_pad f (plain_key f key 9) j (block_size s)

-- the table of a key for each epoch
abbrev pub table : KeyedFn → Shape → (ℕ → List ℕ) → Table
table f s keys n = value_of f s (keys n.epoch) n.word n.kind n.number

-- the bytes that a value of this kind and number has
abbrev pub size_at : Shape → Kind → ℕ → ℕ
size_at s Token number = 160
size_at s ListLabel number = 16
size_at s ListPad zero = cell_size s
size_at s ListPad (suc i) = block_size s
size_at s PlusLabel number = 16
size_at s PlusPad number = 8
size_at s Revocation number = 16
size_at s PlaceTag number = 16
size_at s DummyLabel number = 16
size_at s DummyCell number = cell_size s
size_at s DummyTag number = 16
size_at s DummyBlock number = block_size s
