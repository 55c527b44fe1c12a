-- The first place at which no expression goes on.
use Rattle.std.specs.Prelude.{◌≡◌, ◌<◌, ◌+◌, ℕ, zero, suc, List, [], ◌∷◌, ◌++◌, length, Option, Some, None, Result, Ok, Err}
use Rattle.bool_search.specs.declared.node.Node.{Node}
use Rattle.bool_search.specs.declared.reading.SignFault.{SignFault}
use Rattle.bool_search.specs.declared.reading.SignFault.TheVariants as faults
use Rattle.bool_search.specs.declared.reading.Stop.{Stop}
use Rattle.bool_search.specs.declared.reading.Stop.TheVariants as stops
use Rattle.bool_search.specs.declared.sign.Sign.{Sign}
use Rattle.bool_search.specs.declared.sign.Sign.TheVariants.{Operand, And, Or, Not, Open, Close, Other}
use Rattle.bool_search.specs.Grammar.{Tree, printed, IsMade, tree_of}

-- some tree of this rank begins with these signs
pub record IsBegun (rank : ℕ) (signs : List Sign) : Type 0 where
  pub tree : Tree
  pub made : IsMade rank tree
  pub more : List Sign
  pub begins : printed tree ≡ signs ++ more

-- no expression begins with these signs and the next one; or, if there is none, they are no expression
abbrev pub GoesNotOn : (front behind : List Sign) → Type 0
GoesNotOn front [] = (tree : Tree) → IsMade 2 tree → printed tree ≡ front → ⊥
GoesNotOn front (sign ∷ behind) = IsBegun 2 (front ++ sign ∷ []) → ⊥

-- some expression begins with the signs before this place, and none goes on as they do there
pub record IsBadAt (signs : List Sign) (place : ℕ) : Type 0 where
  pub front : List Sign
  pub behind : List Sign
  pub parts : signs ≡ front ++ behind
  pub count : length front ≡ place
  pub begun : IsBegun 2 front
  pub bad : GoesNotOn front behind

-- these signs are an expression
pub record IsQuery (signs : List Sign) : Type 0 where
  pub tree : Tree
  pub made : IsMade 2 tree
  pub signs_are : printed tree ≡ signs

-- The same place as a function. Two laws of proofs/FirstBad.antt tie it to `IsBadAt`: `first_bad-some` says that it is
-- the bad place, and `first_bad-none` that without one the signs are an expression.

-- an operand must come next, or one has just ended, within so many parentheses
pub data Stand : Type 0 where
  Expects : (depth : ℕ) → Stand
  Has : (depth : ℕ) → Stand

-- after one more sign; None if no expression goes on so
abbrev pub next : Stand → Sign → Option Stand
next (Expects depth) (Operand number) = Some (Has depth)
next (Expects depth) Open = Some (Expects (suc depth))
next (Expects depth) And = None
next (Expects depth) Or = None
next (Expects depth) Not = None
next (Expects depth) Close = None
next (Expects depth) Other = None
next (Has depth) And = Some (Expects depth)
next (Has depth) Or = Some (Expects depth)
next (Has depth) Not = Some (Expects depth)
next (Has zero) Close = None
next (Has (suc depth)) Close = Some (Has depth)
next (Has depth) Open = None
next (Has depth) (Operand number) = None
next (Has depth) Other = None

-- this place, if no expression goes on there, else what the rest gives
abbrev pub unless_on : Option Stand → ℕ → (Stand → Option ℕ) → Option ℕ
unless_on None place rest = Some place
unless_on (Some stand) place rest = rest stand

-- at the end of the signs: this place, if something is missing there
abbrev pub bad_end : Stand → (place : ℕ) → Option ℕ
bad_end (Expects depth) place = Some place
bad_end (Has zero) place = None
bad_end (Has (suc depth)) place = Some place

-- the first bad place among signs that follow so many others, or their end
abbrev pub bad_from : Stand → (place : ℕ) → List Sign → Option ℕ
bad_from stand place [] = bad_end stand place
bad_from stand place (sign ∷ signs) = unless_on (next stand sign) place (λ on. bad_from on (place + 1) signs)

-- the first place, from 0, at which no expression goes on; None for an expression
abbrev pub first_bad : List Sign → Option ℕ
first_bad signs = bad_from (Expects 0) 0 signs

-- What the reader of signs finds, which reads a tree of some rank and leaves the rest.

abbrev pub all_after : Option Stand → List Sign → Option Stand
all_after None signs = None
all_after (Some stand) [] = Some stand
all_after (Some stand) (sign ∷ signs) = all_after (next stand sign) signs

-- after these signs
abbrev pub after : Stand → List Sign → Option Stand
after stand signs = all_after (Some stand) signs

abbrev pub IsUnfinished : (depth : ℕ) → Option Stand → Type 0
IsUnfinished depth None = ⊥
IsUnfinished depth (Some (Expects deep)) = Unit {0}
IsUnfinished depth (Some (Has deep)) = depth < deep

-- the sign after these doesn't go on; or, if there is none, something is missing
abbrev pub Refuses : (depth : ℕ) → (front behind : List Sign) → Type 0
Refuses depth front [] = IsUnfinished depth (after (Expects depth) front)
Refuses depth front (sign ∷ behind) = after (Expects depth) (front ++ sign ∷ []) ≡ None

-- no tree of this rank goes on there
pub record IsStuck (rank : ℕ) (signs : List Sign) (left : ℕ) : Type 0 where
  pub front : List Sign
  pub behind : List Sign
  pub parts : signs ≡ front ++ behind
  pub count : length behind ≡ left
  pub begun : IsBegun rank front
  pub refused : (depth : ℕ) → Refuses depth front behind

-- the first of these signs joins nothing more to a tree of this rank
abbrev pub IsOver : (rank : ℕ) → List Sign → Type 0
IsOver rank [] = Unit {0}
IsOver rank (And ∷ signs) = rank < 1
IsOver rank (Not ∷ signs) = rank < 1
IsOver rank (Or ∷ signs) = rank < 2
IsOver rank (Operand number ∷ signs) = Unit {0}
IsOver rank (Open ∷ signs) = Unit {0}
IsOver rank (Close ∷ signs) = Unit {0}
IsOver rank (Other ∷ signs) = Unit {0}

-- signs begin with a tree of this rank, and it is over there
pub record IsRead (rank : ℕ) (signs : List Sign) (tree : Tree) (rest : List Sign) : Type 0 where
  pub made : IsMade rank tree
  pub signs_are : signs ≡ printed tree ++ rest
  pub over : IsOver rank rest

-- by why signs aren't read
abbrev pub StopsAt : (rank : ℕ) → List Sign → Stop → Type 0
StopsAt rank signs (stops.Bad left) = IsStuck rank signs left
StopsAt rank signs stops.NoMemory = Unit {0}

-- what signs are read as: the expression that they are, or the first place at which none goes on; memory may run out
abbrev pub Reads : List Sign → Result Node SignFault → Type 0
Reads signs (Ok node) = IsMade 2 (tree_of node) × (printed (tree_of node) ≡ signs)
Reads signs (Err (faults.BadQuery place)) = IsBadAt signs place
Reads signs (Err faults.NoMemory) = Unit {0}
