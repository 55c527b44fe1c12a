-- The names that a server looks up for a search in an epoch, by the number of its word.
use Rattle.std.specs.Prelude.{ℕ, ◌+◌, List, ◌∷◌, ◌++◌, map}
use Rattle.std.specs.List.{range_with_len}
use Rattle.leakage_values.specs.SetupDrawings.{code_name}
use Rattle.leakage_names.specs.declared.name.Name.{Name}
use Rattle.leakage_names.specs.declared.name.NameKind.TheVariants.{ListLabel, PlusLabel, Revocation}

-- of the word of this number, its next counter, and the identifiers that are listed with it: the list's label, each
-- addition's up to the missing one, and each revocation number
abbrev pub probed_by_number : (epoch word : ℕ) → (counter : ℕ) → (ids : List ℕ) → List Name
probed_by_number epoch word counter ids =
    code_name epoch word ListLabel 0
    ∷ map (code_name epoch word PlusLabel) (range_with_len 0 (counter + 1))
    ++ map (code_name epoch word Revocation) ids
