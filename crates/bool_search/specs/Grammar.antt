-- The grammar of queries: trees, and how they are printed.
use Rattle.std.specs.Prelude.{◌≤◌, ℕ, List, [], ◌∷◌, ◌++◌}
use Rattle.bool_search.specs.declared.node.Node as node
use Rattle.bool_search.specs.declared.node.Node.TheVariants as nodes
use Rattle.bool_search.specs.declared.join.Join.{Join}
use Rattle.bool_search.specs.declared.join.Join.TheVariants as joins
use Rattle.bool_search.specs.declared.sign.Sign.{Sign}
use Rattle.bool_search.specs.declared.sign.Sign.TheVariants as sign

pub data Tree : Type 0 where
  Word : (number : ℕ) → Tree
  Within : Tree → Tree
  And : (left right : Tree) → Tree
  Not : (left right : Tree) → Tree
  Or : (left right : Tree) → Tree

-- the signs of a tree, in order
abbrev pub printed : Tree → List Sign
printed (Word number) = sign.Operand number ∷ []
printed (Within t) = sign.Open ∷ printed t ++ sign.Close ∷ []
printed (And left right) = printed left ++ sign.And ∷ printed right
printed (Not left right) = printed left ++ sign.Not ∷ printed right
printed (Or left right) = printed left ++ sign.Or ∷ printed right

-- a tree is a factor (rank 0), a term (1) or an expression (2): `and` and `not` join factors to terms from the left, and `or`
-- joins terms to expressions
abbrev pub IsMade : (rank : ℕ) → Tree → Type 0
IsMade rank (Word number) = Unit {0}
IsMade rank (Within t) = IsMade 2 t
IsMade rank (And left right) = (1 ≤ rank) × IsMade 1 left × IsMade 0 right
IsMade rank (Not left right) = (1 ≤ rank) × IsMade 1 left × IsMade 0 right
IsMade rank (Or left right) = (2 ≤ rank) × IsMade 2 left × IsMade 1 right

-- the code's own tree
abbrev pub tree_of : node.Node → Tree
tree_of (nodes.Word number) = Word number
tree_of (nodes.Within' p t) = Within (tree_of t)
tree_of (nodes.And' p left q right) = And (tree_of left) (tree_of right)
tree_of (nodes.Not' p left q right) = Not (tree_of left) (tree_of right)
tree_of (nodes.Or' p left q right) = Or (tree_of left) (tree_of right)

-- what joins two trees, as a sign and as a tree
abbrev pub sign_of : Join → Sign
sign_of joins.And = sign.And
sign_of joins.Not = sign.Not
sign_of joins.Or = sign.Or

abbrev pub tree_by : Join → Tree → Tree → Tree
tree_by joins.And left right = And left right
tree_by joins.Not left right = Not left right
tree_by joins.Or left right = Or left right
