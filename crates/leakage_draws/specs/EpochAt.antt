-- The epoch of a number of a history, from 0.
use Rattle.std.specs.Prelude.{◌≡◌, ℕ, Some, slice_get}
use Rattle.client_registry.specs.Run.{Run, Offsets, Epochs}
use Rattle.leakage_values.specs.SheetOf.{listed_epochs}

-- it is this run, which begins here
abbrev pub IsEpoch : Epochs → ℕ → Offsets → Run → Type 0
IsEpoch es number o run = slice_get (listed_epochs es) number ≡ Some (o, run)
