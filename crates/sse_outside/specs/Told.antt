-- The bytes that readers and writers of std tell.
use Rattle.std.specs.Prelude.{◌≡◌, ℕ, List, is_some}
use Rattle.std.specs.declared.option.Option.{Option}

-- every value of the type tells its bytes, or none does
abbrev pub AllTellOrNone : {T : Type 0} → (T → Option (List ℕ)) → Type 0
AllTellOrNone {T} told = (a b : T) → is_some (told a) ≡ is_some (told b)
