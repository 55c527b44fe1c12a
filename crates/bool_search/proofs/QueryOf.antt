-- The query of signs is a tree that is made as the grammar says, and its printed form is the signs.
use Rattle.std.proofs.Common.{◌≡◌, ◌≢◌, ℕ, List, [], ◌∷◌, ◌++◌, Some, None, inl, inr, ◌⊎◌, refl, sym, ap, ◌∙◌, subst, arith, append_assoc}
use Rattle.std.specs.Prelude.{Option}
use Rattle.std.proofs.lemmas.List.{append-nil}
use Rattle.bool_search.specs.declared.sign.Sign.{Sign}
use Rattle.bool_search.specs.declared.sign.Sign.TheVariants as sign
use Rattle.bool_search.specs.Grammar.{Tree, Word, Within, printed, IsMade}
use Rattle.bool_search.specs.Parsing.{Factors, NoFactors, BeforeAnd, BeforeNot, Level, level, term_of, whole_of, Parse, Expects, Holds, Wrong, parsed, parsed_all, taken_of, query_of}
use Rattle.bool_search.proofs.Prints.{factor-term, term-expression}

abbrev pub of_terms : Option Tree → List Sign
of_terms None = []
of_terms (Some t) = printed t ++ sign.Or ∷ []

abbrev pub of_factors : Factors → List Sign
of_factors NoFactors = []
of_factors (BeforeAnd t) = printed t ++ sign.And ∷ []
of_factors (BeforeNot t) = printed t ++ sign.Not ∷ []

abbrev pub of_outer : List Level → List Sign
of_outer [] = []
of_outer (now ∷ outer) = of_outer outer ++ of_terms now.terms ++ of_factors now.factors ++ sign.Open ∷ []

-- the signs that were read
abbrev pub shown : Parse → List Sign
shown (Expects now outer) = of_outer outer ++ of_terms now.terms ++ of_factors now.factors
shown (Holds terms t outer) = of_outer outer ++ of_terms terms ++ printed t
shown Wrong = []

abbrev pub GoodTerms : Option Tree → Type 0
GoodTerms None = Unit {0}
GoodTerms (Some t) = IsMade 2 t

abbrev pub GoodFactors : Factors → Type 0
GoodFactors NoFactors = Unit {0}
GoodFactors (BeforeAnd t) = IsMade 1 t
GoodFactors (BeforeNot t) = IsMade 1 t

abbrev pub GoodOuter : List Level → Type 0
GoodOuter [] = Unit {0}
GoodOuter (now ∷ outer) = GoodTerms now.terms × GoodFactors now.factors × GoodOuter outer

abbrev pub Good : Parse → Type 0
Good (Expects now outer) = GoodTerms now.terms × GoodFactors now.factors × GoodOuter outer
Good (Holds terms t outer) = GoodTerms terms × IsMade 1 t × GoodOuter outer
Good Wrong = Unit {0}

pub term-made : (factors : Factors) (t : Tree) → GoodFactors factors → IsMade 0 t → IsMade 1 (term_of factors t)
term-made NoFactors t good made = factor-term t made
term-made (BeforeAnd before) t good made = (omega arith, good, made)
term-made (BeforeNot before) t good made = (omega arith, good, made)

pub whole-made : (terms : Option Tree) (t : Tree) → GoodTerms terms → IsMade 1 t → IsMade 2 (whole_of terms t)
whole-made None t good made = term-expression t made
whole-made (Some before) t good made = (omega arith, good, made)

term-printed : (factors : Factors) (t : Tree) → printed (term_of factors t) ≡ of_factors factors ++ printed t
term-printed NoFactors t = refl
term-printed (BeforeAnd before) t = sym (append_assoc (printed before) (sign.And ∷ []) (printed t))
term-printed (BeforeNot before) t = sym (append_assoc (printed before) (sign.Not ∷ []) (printed t))

pub whole-printed : (terms : Option Tree) (t : Tree) → printed (whole_of terms t) ≡ of_terms terms ++ printed t
whole-printed None t = refl
whole-printed (Some before) t = sym (append_assoc (printed before) (sign.Or ∷ []) (printed t))

-- one sign more
pub record Goes (parse after : Parse) (x : Sign) : Type 0 where
  pub good : Good after
  pub shown_is : shown after ≡ shown parse ++ x ∷ []

more : (us bs cs ds : List Sign) → us ++ bs ++ (cs ++ ds) ≡ us ++ bs ++ cs ++ ds
more us bs cs ds = simp append_assoc

pub operand : (now : Level) (outer : List Level) (n : ℕ) → Good (Expects now outer) → Goes (Expects now outer) (Holds now.terms (term_of now.factors (Word n)) outer) (sign.Operand n)
operand now outer n good = record {
  good = (good.0, term-made now.factors (Word n) good.1 tt, good.2);
  shown_is =
      ap (λ l. of_outer outer ++ of_terms now.terms ++ l) (term-printed now.factors (Word n))
      ∙ more (of_outer outer) (of_terms now.terms) (of_factors now.factors) (sign.Operand n ∷ []);
}

opens : (now : Level) (outer : List Level) → Good (Expects now outer) → Goes (Expects now outer) (Expects (level None NoFactors) (now ∷ outer)) sign.Open
opens now outer good = record {
  good = (tt, tt, good);
  shown_is = append-nil (of_outer (now ∷ outer) ++ []) ∙ append-nil (of_outer (now ∷ outer));
}

joins : (terms : Option Tree) (t : Tree) (outer : List Level) (x : Sign) (behind : Factors) → of_factors behind ≡ printed t ++ x ∷ [] → GoodFactors behind → Good (Holds terms t outer)
    → Goes (Holds terms t outer) (Expects (level terms behind) outer) x
joins terms t outer x behind are made good = record {
  good = (good.0, made, good.2);
  shown_is = ap (λ l. of_outer outer ++ of_terms terms ++ l) are ∙ more (of_outer outer) (of_terms terms) (printed t) (x ∷ []);
}

ors : (terms : Option Tree) (t : Tree) (outer : List Level) → Good (Holds terms t outer) → Goes (Holds terms t outer) (Expects (level (Some (whole_of terms t)) NoFactors) outer) sign.Or
ors terms t outer good = record {
  good = (whole-made terms t good.0 good.1, tt, good.2);
  shown_is =
      append-nil (of_outer outer ++ (printed (whole_of terms t) ++ sign.Or ∷ []))
      ∙ ap (λ l. of_outer outer ++ (l ++ sign.Or ∷ [])) (whole-printed terms t)
      ∙ regroup (of_outer outer) (of_terms terms) (printed t) (sign.Or ∷ []);
}
  where
    regroup : (us bs cs ds : List Sign) → us ++ (bs ++ cs ++ ds) ≡ us ++ bs ++ cs ++ ds
    regroup us bs cs ds = simp append_assoc

pub closes : (terms : Option Tree) (t : Tree) (now : Level) (outer : List Level) → Good (Holds terms t (now ∷ outer))
    → Goes (Holds terms t (now ∷ outer)) (Holds now.terms (term_of now.factors (Within (whole_of terms t))) outer) sign.Close
closes terms t now outer good = record {
  good = (good.2.0, term-made now.factors (Within (whole_of terms t)) good.2.1 (whole-made terms t good.0 good.1), good.2.2);
  shown_is =
      ap (λ l. of_outer outer ++ of_terms now.terms ++ l) (term-printed now.factors (Within (whole_of terms t)))
      ∙ ap (λ l. of_outer outer ++ of_terms now.terms ++ (of_factors now.factors ++ (sign.Open ∷ (l ++ sign.Close ∷ [])))) (whole-printed terms t)
      ∙ regroup (of_outer outer) (of_terms now.terms) (of_factors now.factors) (of_terms terms) (printed t);
}
  where
    regroup : (us bs cs ds es : List Sign) → us ++ bs ++ (cs ++ (sign.Open ∷ ((ds ++ es) ++ sign.Close ∷ []))) ≡ (us ++ bs ++ cs ++ sign.Open ∷ []) ++ ds ++ es ++ sign.Close ∷ []
    regroup us bs cs ds es = simp append_assoc

-- one sign more leads nowhere, or goes so
pub step : (parse : Parse) (x : Sign) → Good parse → (parsed parse x ≡ Wrong) ⊎ Goes parse (parsed parse x) x
step (Expects now outer) (sign.Operand n) good = inr (operand now outer n good)
step (Expects now outer) sign.Open good = inr (opens now outer good)
step (Expects now outer) sign.And good = inl refl
step (Expects now outer) sign.Or good = inl refl
step (Expects now outer) sign.Not good = inl refl
step (Expects now outer) sign.Close good = inl refl
step (Expects now outer) sign.Other good = inl refl
step (Holds terms t outer) sign.And good = inr (joins terms t outer sign.And (BeforeAnd t) refl good.1 good)
step (Holds terms t outer) sign.Not good = inr (joins terms t outer sign.Not (BeforeNot t) refl good.1 good)
step (Holds terms t outer) sign.Or good = inr (ors terms t outer good)
step (Holds terms t []) sign.Close good = inl refl
step (Holds terms t (now ∷ outer)) sign.Close good = inr (closes terms t now outer good)
step (Holds terms t outer) sign.Open good = inl refl
step (Holds terms t outer) (sign.Operand n) good = inl refl
step (Holds terms t outer) sign.Other good = inl refl
step Wrong x good = inl refl

lost-run : (signs : List Sign) → parsed_all Wrong signs ≡ Wrong
lost-run [] = refl
lost-run (x ∷ signs) = lost-run signs

pub shown-run : (parse : Parse) (signs : List Sign) → Good parse → parsed_all parse signs ≢ Wrong → Good (parsed_all parse signs) × (shown (parsed_all parse signs) ≡ shown parse ++ signs)
shown-run parse [] good there = (good, sym (append-nil (shown parse)))
shown-run parse (x ∷ signs) good there = by (step parse x good) (λ better. shown-run (parsed parse x) signs better there)
  where
    by : (parsed parse x ≡ Wrong) ⊎ Goes parse (parsed parse x) x
        → (Good (parsed parse x) → Good (parsed_all (parsed parse x) signs) × (shown (parsed_all (parsed parse x) signs) ≡ shown (parsed parse x) ++ signs))
        → Good (parsed_all (parsed parse x) signs) × (shown (parsed_all (parsed parse x) signs) ≡ shown parse ++ x ∷ signs)
    by (inl lost) later = absurd (there (ap (λ s. parsed_all s signs) lost ∙ lost-run signs))
    by (inr goes) later =
        let rest = later goes.good in
        (rest.0, rest.1 ∙ ap (λ l. l ++ signs) goes.shown_is ∙ append_assoc (shown parse) (x ∷ []) signs)

-- Promise P239, also here
-- the query of signs is made by the grammar, and its printed form is the signs
pub query_of-made : (signs : List Sign) (t : Tree) → query_of signs ≡ Some t → IsMade 2 t × (printed t ≡ signs)
query_of-made signs t is = by (parsed_all (Expects (level None NoFactors) []) signs) refl is
  where
    none_some : None ≡ Some t → ⊥
    none_some e = cc

    have_lost : (terms : Option Tree) (u : Tree) (outer : List Level) → Holds terms u outer ≡ Wrong → ⊥
    have_lost terms u outer e = cc

    some_same : (a b : Tree) → Some a ≡ Some b → a ≡ b
    some_same a b e = cc

    by : (parse : Parse) → parsed_all (Expects (level None NoFactors) []) signs ≡ parse → taken_of parse ≡ Some t → IsMade 2 t × (printed t ≡ signs)
    by (Holds terms u []) ran same =
        let there : parsed_all (Expects (level None NoFactors) []) signs ≢ Wrong = λ lost. have_lost terms u [] (sym ran ∙ lost) in
        let all = shown-run (Expects (level None NoFactors) []) signs (tt, tt, tt) there in
        let good : Good (Holds terms u []) = subst Good ran all.0 in
        let one : whole_of terms u ≡ t = some_same (whole_of terms u) t same in (
          subst (IsMade 2) one (whole-made terms u good.0 good.1),
          ap printed (sym one) ∙ whole-printed terms u ∙ sym (ap shown ran) ∙ all.1,
        )
    by (Holds terms u (now ∷ outer)) ran same = absurd (none_some same)
    by (Expects now outer) ran same = absurd (none_some same)
    by Wrong ran same = absurd (none_some same)
