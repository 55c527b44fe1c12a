-- Why two numbers are no parameters of a layout, and the text printed for it.
use Rattle.std.specs.Prelude.{ℕ, Bool, not, ◌&&◌, nat_le, List, ◌++◌, codes, decimal, Option, None, Some, if◌then◌else◌}
use Rattle.two_level.specs.Shape.{Shape}
use Rattle.two_level.specs.declared.shape_fault.ShapeFault.{ShapeFault}
use Rattle.two_level.specs.declared.shape_fault.ShapeFault.TheVariants.{BadCell, BadBlock}

-- whether n lies between these two
abbrev pub is_within : ℕ → ℕ → ℕ → Bool
is_within low high n = nat_le low n && nat_le n high

-- the parameter that is outside its limits: b of 1 to 64, else big of 1 to 256
abbrev pub shape_fault : Shape → Option ShapeFault
shape_fault s =
    if not (is_within 1 64 s.b) then Some (BadCell s.b)
    else if not (is_within 1 256 s.big) then Some (BadBlock s.big)
    else None

abbrev pub shape_fault_text : ShapeFault → List ℕ
shape_fault_text (BadCell n) = codes "b is 1 to 64, not " ++ decimal n
shape_fault_text (BadBlock n) = codes "B is 1 to 256, not " ++ decimal n
