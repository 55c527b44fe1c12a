-- The expression that a list of signs is, as a function. Two laws tie it to the grammar: `query_of-whole` of
-- proofs/OneTree.antt says that the query of an expression's signs is that expression, and `query_of-made` of
-- proofs/QueryOf.antt that a query is an expression whose printed form is the signs.
use Rattle.std.specs.Prelude.{List, [], ◌∷◌, Option, None, Some}
use Rattle.bool_search.specs.declared.sign.Sign.{Sign}
use Rattle.bool_search.specs.declared.sign.Sign.TheVariants as sign
use Rattle.bool_search.specs.Grammar.{Tree, Word, Within, And, Not, Or}

-- the factors before the next one in a term, and what joins it to them
pub data Factors : Type 0 where
  NoFactors : Factors
  BeforeAnd : Tree → Factors
  BeforeNot : Tree → Factors

-- within one pair of parentheses: the terms before the last `or`, and the factors after it
pub record Level : Type 0 where
  pub terms : Option Tree
  pub factors : Factors

abbrev pub level : Option Tree → Factors → Level
level terms factors = record { terms = terms; factors = factors }

-- the term that a factor makes with those before it
abbrev pub term_of : Factors → Tree → Tree
term_of NoFactors t = t
term_of (BeforeAnd before) t = And before t
term_of (BeforeNot before) t = Not before t

-- the expression that a term makes with those before it
abbrev pub whole_of : Option Tree → Tree → Tree
whole_of None t = t
whole_of (Some before) t = Or before t

-- what has been read: a factor must come next; a term was read, which can be longer; or no expression begins so.
-- The levels are those of the parentheses that are open, the innermost first.
pub data Parse : Type 0 where
  Expects : Level → List Level → Parse
  Holds : Option Tree → Tree → List Level → Parse
  Wrong : Parse

-- after a closing parenthesis
abbrev pub closed : (terms : Option Tree) (t : Tree) → List Level → Parse
closed terms t [] = Wrong
closed terms t (now ∷ outer) = Holds now.terms (term_of now.factors (Within (whole_of terms t))) outer

-- after one more sign
abbrev pub parsed : Parse → Sign → Parse
parsed (Expects now outer) (sign.Operand number) = Holds now.terms (term_of now.factors (Word number)) outer
parsed (Expects now outer) sign.Open = Expects (level None NoFactors) (now ∷ outer)
parsed (Holds terms t outer) sign.And = Expects (level terms (BeforeAnd t)) outer
parsed (Holds terms t outer) sign.Not = Expects (level terms (BeforeNot t)) outer
parsed (Holds terms t outer) sign.Or = Expects (level (Some (whole_of terms t)) NoFactors) outer
parsed (Holds terms t outer) sign.Close = closed terms t outer
parsed _ _ = Wrong

-- after these signs
abbrev pub parsed_all : Parse → List Sign → Parse
parsed_all parse [] = parse
parsed_all parse (s ∷ signs) = parsed_all (parsed parse s) signs

-- the expression that was read, if it ends here
abbrev pub taken_of : Parse → Option Tree
taken_of (Holds terms t []) = Some (whole_of terms t)
taken_of _ = None

-- the expression that signs are; None if they are none
abbrev pub query_of : List Sign → Option Tree
query_of signs = taken_of (parsed_all (Expects (level None NoFactors) []) signs)
