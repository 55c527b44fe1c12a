-- What signs begin with, and what they don't.
use Rattle.std.specs.Prelude.{◌≡◌, List, ◌∷◌}
use Rattle.bool_search.specs.declared.front.Begin.{Begin}
use Rattle.bool_search.specs.declared.front.Begin.TheVariants as fronts
use Rattle.bool_search.specs.declared.sign.Sign.{Sign}
use Rattle.bool_search.specs.declared.sign.Sign.TheVariants.{Operand, And, Or, Not, Open, Close}

-- no factor begins so
abbrev pub IsNoFactor : List Sign → Type 0
IsNoFactor (Operand number ∷ rest) = ⊥
IsNoFactor (Open ∷ rest) = ⊥
IsNoFactor _ = Unit {0}

-- the first sign doesn't close a parenthesis
abbrev pub IsNoClose : List Sign → Type 0
IsNoClose (Close ∷ rest) = ⊥
IsNoClose _ = Unit {0}

-- the first sign joins no factor
abbrev pub IsNoFactorJoin : List Sign → Type 0
IsNoFactorJoin (And ∷ rest) = ⊥
IsNoFactorJoin (Not ∷ rest) = ⊥
IsNoFactorJoin _ = Unit {0}

-- the first sign joins no term
abbrev pub IsNoTermJoin : List Sign → Type 0
IsNoTermJoin (Or ∷ rest) = ⊥
IsNoTermJoin _ = Unit {0}

abbrev pub IsFront : Begin → List Sign → Type 0
IsFront (fronts.Word number rest) signs = signs ≡ Operand number ∷ rest.now
IsFront (fronts.Open rest) signs = signs ≡ Open ∷ rest.now
IsFront fronts.Neither signs = IsNoFactor signs
