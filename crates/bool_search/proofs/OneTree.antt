-- Signs are those of one expression at most: they are read back to it.
use Rattle.std.proofs.Common.{◌≡◌, List, [], ◌∷◌, ◌++◌, Some, None, refl, sym, ap, ◌∙◌, arith, append_assoc}
use Rattle.std.specs.Prelude.{Option}
use Rattle.std.proofs.lemmas.List.{append-nil}
use Rattle.bool_search.specs.declared.sign.Sign.{Sign}
use Rattle.bool_search.specs.declared.sign.Sign.TheVariants as sign
use Rattle.bool_search.specs.Grammar.{Tree, Word, Within, And, Not, Or, printed, IsMade}
use Rattle.bool_search.specs.Parsing.{NoFactors, BeforeAnd, BeforeNot, Level, level, term_of, whole_of, Expects, Holds, parsed_all, taken_of, query_of}

-- an expression as its last term and those before it
abbrev pub before_last : Tree → Option Tree
before_last (Or left right) = Some left
before_last _ = None

abbrev pub last : Tree → Tree
last (Or left right) = right
last t = t

pub whole-parts : (t : Tree) → whole_of (before_last t) (last t) ≡ t
whole-parts (Word number) = refl
whole-parts (Within t) = refl
whole-parts (And left right) = refl
whole-parts (Not left right) = refl
whole-parts (Or left right) = refl

mutual
  factor-read : (t : Tree) → IsMade 0 t → (now : Level) (outer : List Level) (rest : List Sign)
      → parsed_all (Expects now outer) (printed t ++ rest) ≡ parsed_all (Holds now.terms (term_of now.factors t) outer) rest
  factor-read (Word number) made now outer rest = refl
  factor-read (Within t) made now outer rest =
      ap (parsed_all (Expects (level None NoFactors) (now ∷ outer))) (append_assoc (printed t) (sign.Close ∷ []) rest)
      ∙ whole-read t made (now ∷ outer) (sign.Close ∷ rest)
      ∙ ap (λ u. parsed_all (Holds now.terms (term_of now.factors (Within u)) outer) rest) (whole-parts t)
  factor-read (And left right) made now outer rest = absurd (omega (arith, made.0))
  factor-read (Not left right) made now outer rest = absurd (omega (arith, made.0))
  factor-read (Or left right) made now outer rest = absurd (omega (arith, made.0))

  term-read : (t : Tree) → IsMade 1 t → (terms : Option Tree) (outer : List Level) (rest : List Sign)
      → parsed_all (Expects (level terms NoFactors) outer) (printed t ++ rest) ≡ parsed_all (Holds terms t outer) rest
  term-read (Word number) made terms outer rest = refl
  term-read (Within t) made terms outer rest =
      ap (parsed_all (Expects (level None NoFactors) (level terms NoFactors ∷ outer))) (append_assoc (printed t) (sign.Close ∷ []) rest)
      ∙ whole-read t made (level terms NoFactors ∷ outer) (sign.Close ∷ rest)
      ∙ ap (λ u. parsed_all (Holds terms (Within u) outer) rest) (whole-parts t)
  term-read (And left right) made terms outer rest =
      ap (parsed_all (Expects (level terms NoFactors) outer)) (append_assoc (printed left) (sign.And ∷ printed right) rest)
      ∙ term-read left made.1 terms outer (sign.And ∷ printed right ++ rest)
      ∙ factor-read right made.2 (level terms (BeforeAnd left)) outer rest
  term-read (Not left right) made terms outer rest =
      ap (parsed_all (Expects (level terms NoFactors) outer)) (append_assoc (printed left) (sign.Not ∷ printed right) rest)
      ∙ term-read left made.1 terms outer (sign.Not ∷ printed right ++ rest)
      ∙ factor-read right made.2 (level terms (BeforeNot left)) outer rest
  term-read (Or left right) made terms outer rest = absurd (omega (arith, made.0))

  pub whole-read : (t : Tree) → IsMade 2 t → (outer : List Level) (rest : List Sign)
      → parsed_all (Expects (level None NoFactors) outer) (printed t ++ rest) ≡ parsed_all (Holds (before_last t) (last t) outer) rest
  whole-read (Word number) made outer rest = refl
  whole-read (Within t) made outer rest =
      ap (parsed_all (Expects (level None NoFactors) (level None NoFactors ∷ outer))) (append_assoc (printed t) (sign.Close ∷ []) rest)
      ∙ whole-read t made (level None NoFactors ∷ outer) (sign.Close ∷ rest)
      ∙ ap (λ u. parsed_all (Holds None (Within u) outer) rest) (whole-parts t)
  whole-read (And left right) made outer rest =
      ap (parsed_all (Expects (level None NoFactors) outer)) (append_assoc (printed left) (sign.And ∷ printed right) rest)
      ∙ term-read left made.1 None outer (sign.And ∷ printed right ++ rest)
      ∙ factor-read right made.2 (level None (BeforeAnd left)) outer rest
  whole-read (Not left right) made outer rest =
      ap (parsed_all (Expects (level None NoFactors) outer)) (append_assoc (printed left) (sign.Not ∷ printed right) rest)
      ∙ term-read left made.1 None outer (sign.Not ∷ printed right ++ rest)
      ∙ factor-read right made.2 (level None (BeforeNot left)) outer rest
  whole-read (Or left right) made outer rest =
      ap (parsed_all (Expects (level None NoFactors) outer)) (append_assoc (printed left) (sign.Or ∷ printed right) rest)
      ∙ whole-read left made.1 outer (sign.Or ∷ printed right ++ rest)
      ∙ ap (λ u. parsed_all (Expects (level (Some u) NoFactors) outer) (printed right ++ rest)) (whole-parts left)
      ∙ term-read right made.2 (Some left) outer rest

-- Promise P239 (inside): Signs are those of one expression of the grammar at most, and the query of signs is that expression.
-- of the signs of an expression, the query is that expression
pub query_of-whole : (t : Tree) → IsMade 2 t → query_of (printed t) ≡ Some t
query_of-whole t made =
    ap query_of (sym (append-nil (printed t))) ∙ ap taken_of (whole-read t made [] []) ∙ ap (λ u. Some u) (whole-parts t)

some_same : (a b : Tree) → Some a ≡ Some b → a ≡ b
some_same a b e = cc

-- Promise P239, also here
-- two expressions of the same signs are one
pub one_tree : (t u : Tree) → IsMade 2 t → IsMade 2 u → printed t ≡ printed u → t ≡ u
one_tree t u made also same = some_same t u (sym (query_of-whole t made) ∙ ap query_of same ∙ query_of-whole u also)
