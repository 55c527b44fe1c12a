-- The first bad place, as a function, is the one of the grammar; without one the signs are an expression.
use Rattle.std.proofs.Common.{◌≡◌, ℕ, zero, suc, ◌+◌, List, [], ◌∷◌, ◌++◌, length, Some, None, inl, inr, ◌⊎◌, refl, sym, ap, ◌∙◌, subst, arith, append_assoc, length-append}
use Rattle.std.specs.Prelude.{Option}
use Rattle.std.proofs.lemmas.List.{append-nil}
use Rattle.bool_search.specs.declared.sign.Sign.{Sign}
use Rattle.bool_search.specs.declared.sign.Sign.TheVariants as sign
use Rattle.bool_search.specs.Grammar.{Tree, Word, Within}
use Rattle.bool_search.specs.Parsing.{NoFactors, Level, level, term_of, whole_of, Parse, Expects as ExpectsFactor, Holds, Wrong, parsed}
use Rattle.bool_search.specs.Places.{IsBegun, IsBadAt, IsQuery, Stand, Expects, Has, next, unless_on, bad_end, bad_from, first_bad, all_after, after, IsUnfinished, Refuses}
use Rattle.bool_search.proofs.Exactly.{all_after-append, goes_not_on}
use Rattle.bool_search.proofs.QueryOf.{shown, Good, Goes, operand, closes, step, whole-made, whole-printed}

-- Both machines go alike.

abbrev stand_of : Parse → Option Stand
stand_of (ExpectsFactor now outer) = Some (Expects (length outer))
stand_of (Holds terms t outer) = Some (Has (length outer))
stand_of Wrong = None

goes_alike : (parse : Parse) (x : Sign) → stand_of (parsed parse x) ≡ all_after (stand_of parse) (x ∷ [])
goes_alike (ExpectsFactor now outer) (sign.Operand n) = refl
goes_alike (ExpectsFactor now outer) sign.Open = refl
goes_alike (ExpectsFactor now outer) sign.And = refl
goes_alike (ExpectsFactor now outer) sign.Or = refl
goes_alike (ExpectsFactor now outer) sign.Not = refl
goes_alike (ExpectsFactor now outer) sign.Close = refl
goes_alike (ExpectsFactor now outer) sign.Other = refl
goes_alike (Holds terms t outer) sign.And = refl
goes_alike (Holds terms t outer) sign.Not = refl
goes_alike (Holds terms t outer) sign.Or = refl
goes_alike (Holds terms t []) sign.Close = refl
goes_alike (Holds terms t (now ∷ outer)) sign.Close = refl
goes_alike (Holds terms t outer) sign.Open = refl
goes_alike (Holds terms t outer) (sign.Operand n) = refl
goes_alike (Holds terms t outer) sign.Other = refl
goes_alike Wrong x = refl

-- What goes well can be ended as an expression.

begun-shorter : (xs more : List Sign) (x : Sign) → IsBegun 2 (xs ++ x ∷ []) → IsBegun 2 xs
begun-shorter xs more x b = record { tree = b.tree; made = b.made; more = x ∷ b.more; begins = b.begins ∙ append_assoc xs (x ∷ []) b.more }

begun-held : (terms : Option Tree) (t : Tree) (outer : List Level) → Good (Holds terms t outer) → IsBegun 2 (shown (Holds terms t outer))
begun-held terms t [] good = record {
  tree = whole_of terms t;
  made = whole-made terms t good.0 good.1;
  more = [];
  begins = whole-printed terms t ∙ sym (append-nil (shown (Holds terms t [])));
}
begun-held terms t (now ∷ outer) good =
    let closed = closes terms t now outer good in
    begun-shorter (shown (Holds terms t (now ∷ outer))) [] sign.Close
    (subst (IsBegun 2) closed.shown_is (begun-held now.terms (term_of now.factors (Within (whole_of terms t))) outer closed.good))

begun : (parse : Parse) → Good parse → (stand : Stand) → stand_of parse ≡ Some stand → IsBegun 2 (shown parse)
begun (ExpectsFactor now outer) good stand is =
    let read = operand now outer 0 good in
    begun-shorter (shown (ExpectsFactor now outer)) [] (sign.Operand 0)
    (subst (IsBegun 2) read.shown_is (begun-held now.terms (term_of now.factors (Word 0)) outer read.good))
begun (Holds terms t outer) good stand is = begun-held terms t outer good
begun Wrong good stand is = absurd cc

-- where the signs of a front leave both machines
record IsAt (front : List Sign) (parse : Parse) (stand : Stand) : Type 0 where
  pub good : Good parse
  pub shown_is : shown parse ≡ front
  pub stand_is : stand_of parse ≡ Some stand
  pub after_is : after (Expects 0) front ≡ Some stand

at_first : IsAt [] (ExpectsFactor (level None NoFactors) []) (Expects 0)
at_first = record { good = (tt, tt, tt); shown_is = refl; stand_is = refl; after_is = refl }

-- one sign more
after_more : (front : List Sign) (x : Sign) (stand : Stand) → after (Expects 0) front ≡ Some stand → after (Expects 0) (front ++ x ∷ []) ≡ all_after (next stand x) []
after_more front x stand is = all_after-append (Some (Expects 0)) front (x ∷ []) ∙ ap (λ s. all_after s (x ∷ [])) is

after_none : (s : Option Stand) → all_after s [] ≡ s
after_none None = refl
after_none (Some stand) = refl

stand_more : (parse : Parse) (x : Sign) (stand : Stand) → stand_of parse ≡ Some stand → stand_of (parsed parse x) ≡ next stand x
stand_more parse x stand is = goes_alike parse x ∙ ap (λ s. all_after s (x ∷ [])) is ∙ after_none (next stand x)

at_more : (front : List Sign) (parse : Parse) (stand on : Stand) (x : Sign) → IsAt front parse stand → next stand x ≡ Some on → IsAt (front ++ x ∷ []) (parsed parse x) on
at_more front parse stand on x here goes = by (step parse x here.good)
  where
    there : stand_of (parsed parse x) ≡ Some on
    there = stand_more parse x stand here.stand_is ∙ goes

    lost : None ≡ Some on → ⊥
    lost e = cc

    by : (parsed parse x ≡ Wrong) ⊎ Goes parse (parsed parse x) x → IsAt (front ++ x ∷ []) (parsed parse x) on
    by (inl wrong) = absurd (lost (sym (ap stand_of wrong) ∙ there))
    by (inr well) = record {
      good = well.good;
      shown_is = well.shown_is ∙ ap (λ signs. signs ++ x ∷ []) here.shown_is;
      stand_is = there;
      after_is = after_more front x stand here.after_is ∙ after_none (next stand x) ∙ goes;
    }

begun_at : (front : List Sign) (parse : Parse) (stand : Stand) → IsAt front parse stand → IsBegun 2 front
begun_at front parse stand here = subst (IsBegun 2) here.shown_is (begun parse here.good stand here.stand_is)

bad_at : (front behind : List Sign) (parse : Parse) (stand : Stand) → IsAt front parse stand → Refuses 0 front behind → IsBadAt (front ++ behind) (length front)
bad_at front behind parse stand here refused =
    record { front = front; behind = behind; parts = refl; count = refl; begun = begun_at front parse stand here; bad = goes_not_on front behind refused }

-- Where there is a bad place.

some_same : (p q : ℕ) → Some p ≡ Some q → p ≡ q
some_same p q e = cc

bad_end-some : (front : List Sign) (parse : Parse) (stand : Stand) (place p : ℕ) → IsAt front parse stand → length front ≡ place → bad_end stand place ≡ Some p → IsBadAt (front ++ []) p
bad_end-some front parse (Expects depth) place p here count is =
    subst (IsBadAt (front ++ [])) (count ∙ some_same place p is) (bad_at front [] parse (Expects depth) here (subst (IsUnfinished 0) (sym here.after_is) tt))
bad_end-some front parse (Has zero) place p here count is = absurd cc
bad_end-some front parse (Has (suc depth)) place p here count is =
    subst (IsBadAt (front ++ [])) (count ∙ some_same place p is) (bad_at front [] parse (Has (suc depth)) here (subst (IsUnfinished 0) (sym here.after_is) (omega arith)))

longer : (front : List Sign) (x : Sign) (place : ℕ) → length front ≡ place → length (front ++ x ∷ []) ≡ place + 1
longer front x place count = omega (arith, length-append front (x ∷ []), count)

bad_from-some : (signs front : List Sign) (parse : Parse) (stand : Stand) (place p : ℕ) → IsAt front parse stand → length front ≡ place → bad_from stand place signs ≡ Some p → IsBadAt (front ++ signs) p
bad_from-some [] front parse stand place p here count is = bad_end-some front parse stand place p here count is
bad_from-some (x ∷ signs) front parse stand place p here count is =
    by (next stand x) refl is (λ on goes same. bad_from-some signs (front ++ x ∷ []) (parsed parse x) on (place + 1) p (at_more front parse stand on x here goes) (longer front x place count) same)
  where
    by : (s : Option Stand) → next stand x ≡ s → unless_on s place (λ on. bad_from on (place + 1) signs) ≡ Some p
        → ((on : Stand) → next stand x ≡ Some on → bad_from on (place + 1) signs ≡ Some p → IsBadAt ((front ++ x ∷ []) ++ signs) p)
        → IsBadAt (front ++ x ∷ signs) p
    by None goes same later =
        subst (IsBadAt (front ++ x ∷ signs)) (count ∙ some_same place p same)
        (bad_at front (x ∷ signs) parse stand here (after_more front x stand here.after_is ∙ after_none (next stand x) ∙ goes))
    by (Some on) goes same later = subst (λ all. IsBadAt all p) (append_assoc front (x ∷ []) signs) (later on goes same)

-- Promise P240 (inside): The bad place is the first at which no expression goes on; signs without one are an expression.
-- the place is bad
pub first_bad-some : (signs : List Sign) (place : ℕ) → first_bad signs ≡ Some place → IsBadAt signs place
first_bad-some signs place is = bad_from-some signs [] (ExpectsFactor (level None NoFactors) []) (Expects 0) 0 place at_first refl is

-- Where there is none.

query_at-end : (front : List Sign) (parse : Parse) (stand : Stand) → IsAt front parse stand → (place : ℕ) → bad_end stand place ≡ None → IsQuery front
query_at-end front (Holds terms t []) stand here place none = record {
  tree = whole_of terms t;
  made = whole-made terms t here.good.0 here.good.1;
  signs_are = whole-printed terms t ∙ here.shown_is;
}
query_at-end front (Holds terms t (now ∷ outer)) (Has (suc depth)) here place none = absurd cc
query_at-end front (Holds terms t (now ∷ outer)) (Has zero) here place none = absurd (differ here.stand_is)
  where
    depth_of : Option Stand → ℕ
    depth_of (Some (Has depth)) = depth
    depth_of _ = 0

    differ : Some (Has (suc (length outer))) ≡ Some (Has zero) → ⊥
    differ e = omega (arith, ap depth_of e)
query_at-end front (Holds terms t (now ∷ outer)) (Expects depth) here place none = absurd cc
query_at-end front (ExpectsFactor now outer) (Expects depth) here place none = absurd cc
query_at-end front (ExpectsFactor now outer) (Has depth) here place none = absurd (differ here.stand_is)
  where
    IsExpecting : Option Stand → Type 0
    IsExpecting (Some (Has depth)) = ⊥
    IsExpecting _ = Unit {0}

    differ : Some (Expects (length outer)) ≡ Some (Has depth) → ⊥
    differ e = subst IsExpecting e tt
query_at-end front Wrong stand here place none = absurd (differ here.stand_is)
  where
    differ : None ≡ Some stand → ⊥
    differ e = cc

bad_from-none : (signs front : List Sign) (parse : Parse) (stand : Stand) (place : ℕ) → IsAt front parse stand → bad_from stand place signs ≡ None → IsQuery (front ++ signs)
bad_from-none [] front parse stand place here none = subst IsQuery (sym (append-nil front)) (query_at-end front parse stand here place none)
bad_from-none (x ∷ signs) front parse stand place here none =
    by (next stand x) refl none (λ on goes same. bad_from-none signs (front ++ x ∷ []) (parsed parse x) on (place + 1) (at_more front parse stand on x here goes) same)
  where
    never : Some place ≡ None → ⊥
    never e = cc

    by : (s : Option Stand) → next stand x ≡ s → unless_on s place (λ on. bad_from on (place + 1) signs) ≡ None
        → ((on : Stand) → next stand x ≡ Some on → bad_from on (place + 1) signs ≡ None → IsQuery ((front ++ x ∷ []) ++ signs))
        → IsQuery (front ++ x ∷ signs)
    by None goes same later = absurd (never same)
    by (Some on) goes same later = subst IsQuery (append_assoc front (x ∷ []) signs) (later on goes same)

-- Promise P240, also here
-- without one the signs are an expression
pub first_bad-none : (signs : List Sign) → first_bad signs ≡ None → IsQuery signs
first_bad-none signs none = bad_from-none signs [] (ExpectsFactor (level None NoFactors) []) (Expects 0) 0 at_first none
