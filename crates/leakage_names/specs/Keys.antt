-- The numbers of which a name is made.
use Rattle.std.specs.Prelude.{ℕ, List, [], ◌∷◌}
use Rattle.leakage_names.specs.declared.name.Name.{Name}
use Rattle.leakage_names.specs.declared.name.NameKind.{NameKind}
use Rattle.leakage_names.specs.declared.name.NameKind.TheVariants.{Token, ListLabel, ListPad, PlusLabel, PlusPad, Revocation, PlaceTag, DummyLabel, DummyCell, DummyTag, DummyBlock}

-- the number of a kind
abbrev pub kind_number : NameKind → ℕ
kind_number Token = 0
kind_number ListLabel = 1
kind_number ListPad = 2
kind_number PlusLabel = 3
kind_number PlusPad = 4
kind_number Revocation = 5
kind_number PlaceTag = 6
kind_number DummyLabel = 7
kind_number DummyCell = 8
kind_number DummyTag = 9
kind_number DummyBlock = 10

-- the numbers of which a name is made
abbrev pub key_of : Name → List ℕ
key_of n = n.epoch ∷ n.word ∷ kind_number n.kind ∷ n.number ∷ []
