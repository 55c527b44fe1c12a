-- The drawings of an epoch's setup, by the numbers of words.
use Rattle.std.specs.Prelude.{ℕ, suc, List, map, flat_map}
use Rattle.std.specs.List.{range_with_len}
use Rattle.client_registry.specs.Setup.{Setup}
use Rattle.leakage_values.specs.Numbered.{no_number, number_of_word}
use Rattle.leakage_values.specs.declared.drawn.Drawing.{Drawing}
use Rattle.leakage_values.specs.declared.drawn.Drawing.TheVariants.{Entry, Block}
use Rattle.leakage_names.specs.declared.name.Name.{Name}
use Rattle.leakage_names.specs.declared.name.NameKind.{NameKind}
use Rattle.leakage_names.specs.declared.name.NameKind.TheVariants.{ListLabel, ListPad, PlaceTag, DummyLabel, DummyCell, DummyTag, DummyBlock}
use Rattle.sse_model.specs.Positions.{word_blocks}

abbrev pub code_name : (epoch word : ℕ) → NameKind → ℕ → Name
code_name epoch word kind number = record { epoch = epoch; word = word; kind = kind; number = number }

-- the entry of the word of this number
abbrev pub entry_by_number : (epoch word : ℕ) → Drawing
entry_by_number epoch word = Entry (code_name epoch word ListLabel 0) (code_name epoch word ListPad 0)

-- block i of its list
abbrev pub block_by_number : (epoch word i : ℕ) → Drawing
block_by_number epoch word i = Block (code_name epoch word PlaceTag i) (code_name epoch word ListPad (suc i))

abbrev pub dummy_entry_drawing : (epoch i : ℕ) → Drawing
dummy_entry_drawing epoch i = Entry (code_name epoch no_number DummyLabel i) (code_name epoch no_number DummyCell i)

abbrev pub dummy_block_drawing : (epoch j : ℕ) → Drawing
dummy_block_drawing epoch j = Block (code_name epoch no_number DummyTag j) (code_name epoch no_number DummyBlock j)

-- the blocks of these words of a setup, where all words are numbered so
abbrev pub blocks_by_number : (epoch : ℕ) → List (List ℕ) → Setup → List (List ℕ) → List Drawing
blocks_by_number epoch words s of = flat_map (λ word. map (block_by_number epoch (number_of_word words word)) (range_with_len 0 (word_blocks s word))) of
