-- The values of names of the code: those of a word by its keys, those of dummies by theirs.
use Rattle.std.specs.Prelude.{ℕ, zero, suc, List, [], Option, None, Some, map, slice_get}
use Rattle.keyed_fn.specs.DummyFormulas.{dummy_label, dummy_tag, dummy_cell_pad, dummy_block_pad}
use Rattle.keyed_fn.specs.KeyFormulas.{list_label, cell_pad, block_pad, plus_label, plus_pad, revocation, place_tag}
use Rattle.keyed_fn.specs.KeyedFn.{KeyedFn}
use Rattle.leakage_names.specs.declared.name.Name.{Name}
use Rattle.leakage_names.specs.declared.name.NameKind.{NameKind}
use Rattle.leakage_names.specs.declared.name.NameKind.TheVariants.{Token, ListLabel, ListPad, PlusLabel, PlusPad, Revocation, PlaceTag, DummyLabel, DummyCell, DummyTag, DummyBlock}
use Rattle.search_token.specs.TokenKeys.{token_bytes}
use Rattle.sse_model.specs.Names.{cell_size, block_size}
use Rattle.two_level.specs.Shape.{Shape}
use Rattle.leakage_sheets.specs.OwnKeys.{OwnKeys, own_keys}
use Rattle.word_keys.specs.KeyPair.{KeyPair, dummy_keys}

-- a pad of a word's list under the key of its pads: that of the cell at 0, then those of the blocks
abbrev pub list_pad : KeyedFn → Shape → List ℕ → ℕ → List ℕ
list_pad f s key zero = cell_pad f key (cell_size s)
list_pad f s key (suc i) = block_pad f key i (block_size s)

-- the value of this kind and number of a word with these keys; a dummy's is none of a word
abbrev pub value_by_word : KeyedFn → Shape → OwnKeys → NameKind → ℕ → List ℕ
value_by_word f s own Token number = token_bytes own.token
value_by_word f s own ListLabel number = list_label f own.token.label_key
value_by_word f s own ListPad number = list_pad f s own.token.pad_key number
value_by_word f s own PlusLabel c = plus_label f own.token.plus_label_key c
value_by_word f s own PlusPad c = plus_pad f own.token.plus_pad_key c
value_by_word f s own Revocation id = revocation f own.token.revocation_key id
value_by_word f s own PlaceTag i = place_tag f own.place i
value_by_word f s own DummyLabel number = []
value_by_word f s own DummyCell number = []
value_by_word f s own DummyTag number = []
value_by_word f s own DummyBlock number = []

-- the value of this kind and number of a dummy under these keys; a word's is none of a dummy
abbrev pub value_by_dummies : KeyedFn → Shape → KeyPair → NameKind → ℕ → List ℕ
value_by_dummies f s keys Token number = []
value_by_dummies f s keys ListLabel number = []
value_by_dummies f s keys ListPad number = []
value_by_dummies f s keys PlusLabel number = []
value_by_dummies f s keys PlusPad number = []
value_by_dummies f s keys Revocation number = []
value_by_dummies f s keys PlaceTag number = []
value_by_dummies f s keys DummyLabel i = dummy_label f keys.label_key i
value_by_dummies f s keys DummyCell i = dummy_cell_pad f keys.pad_key i (cell_size s)
value_by_dummies f s keys DummyTag j = dummy_tag f keys.label_key j
value_by_dummies f s keys DummyBlock j = dummy_block_pad f keys.pad_key j (block_size s)

-- the value of a name of a word with these keys, or of a dummy where there are none
abbrev pub value_by_own : KeyedFn → Shape → KeyPair → Option OwnKeys → NameKind → ℕ → List ℕ
value_by_own f s dummies None kind number = value_by_dummies f s dummies kind number
value_by_own f s dummies (Some own) kind number = value_by_word f s own kind number

-- the value of a name, where these are the keys of the words by number
abbrev pub value_by_keys : KeyedFn → Shape → List OwnKeys → KeyPair → Name → List ℕ
value_by_keys f s keys dummies n = value_by_own f s dummies (slice_get keys n.word) n.kind n.number

-- the value of a name under a master key, where these are the words by number
abbrev pub value_by_number : KeyedFn → Shape → List ℕ → List (List ℕ) → Name → List ℕ
value_by_number f s master words n = value_by_keys f s (map (own_keys f master) words) (dummy_keys f master) n
