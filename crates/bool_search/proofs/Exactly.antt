-- Where a reader stops, no expression goes on; there is one such place at most.
use Rattle.std.proofs.Common.{◌≡◌, ◌≢◌, ℕ, ◌-◌, ◌≤◌, ◌<◌, List, [], ◌∷◌, ◌++◌, length, Some, None, inl, inr, refl, sym, ap, ◌∙◌, subst, arith, append_assoc, length-append}
use Rattle.std.specs.Prelude.{Option, Result, Ok, Err, IfOk}
use Rattle.std.proofs.lemmas.Bool.{cases_order}
use Rattle.std.proofs.lemmas.List.{append-nil}
use Rattle.bool_search.specs.declared.node.Node.{Node}
use Rattle.bool_search.specs.declared.reading.SignFault.{SignFault}
use Rattle.bool_search.specs.declared.reading.SignFault.TheVariants as faults
use Rattle.bool_search.specs.declared.sign.Sign.{Sign}
use Rattle.bool_search.specs.declared.sign.Sign.TheVariants as sign
use Rattle.bool_search.specs.Grammar.{Tree, printed, IsMade, tree_of}
use Rattle.bool_search.specs.Places.{IsBegun, Stand, Expects, Has, next, after, all_after, IsUnfinished, Refuses, IsStuck, IsOver, IsRead, GoesNotOn, IsBadAt, IsQuery, Reads}
use Rattle.bool_search.proofs.Prints.{after-printed}

pub all_after-append : (stand : Option Stand) (xs ys : List Sign) → all_after stand (xs ++ ys) ≡ all_after (all_after stand xs) ys
all_after-append None [] ys = refl
all_after-append None (x ∷ xs) ys = refl
all_after-append (Some stand) [] ys = refl
all_after-append (Some stand) (x ∷ xs) ys = all_after-append (next stand x) xs ys

-- an expression leaves an operand in front, with no parenthesis open
after-whole : (tree : Tree) → after (Expects 0) (printed tree) ≡ Some (Has 0)
after-whole tree = ap (after (Expects 0)) (sym (append-nil (printed tree))) ∙ after-printed tree 0 []

abbrev IsThere : Option Stand → Type 0
IsThere None = ⊥
IsThere (Some stand) = Unit {0}

none_some : Some (Has 0) ≡ None → ⊥
none_some e = subst IsThere e tt

never_less : 0 < 0 → ⊥
never_less less = omega (arith, less)

-- where the signs don't go on, no expression begins with them
not_begun : (signs : List Sign) → after (Expects 0) signs ≡ None → IsBegun 2 signs → ⊥
not_begun signs none begun =
    none_some (sym (after-whole begun.tree) ∙ ap (after (Expects 0)) begun.begins ∙ all_after-append (Some (Expects 0)) signs begun.more ∙ ap (λ stand. all_after stand begun.more) none)

unfinished_not : (stand : Option Stand) → stand ≡ Some (Has 0) → IsUnfinished 0 stand → ⊥
unfinished_not stand is unfinished = never_less (subst (IsUnfinished 0) is unfinished)

pub goes_not_on : (front behind : List Sign) → Refuses 0 front behind → GoesNotOn front behind
goes_not_on front [] refused = λ tree made are. unfinished_not (after (Expects 0) front) (ap (after (Expects 0)) (sym are) ∙ after-whole tree) refused
goes_not_on front (x ∷ behind) refused = not_begun (front ++ x ∷ []) refused

pub left_within : (signs : List Sign) (left : ℕ) → IsStuck 2 signs left → left ≤ length signs
left_within signs left s = omega (arith, s.count, ap length s.parts, length-append s.front s.behind)

pub bad_at_stop : (signs : List Sign) (left : ℕ) → IsStuck 2 signs left → IsBadAt signs (length signs - left)
bad_at_stop signs left s = record {
  front = s.front;
  behind = s.behind;
  parts = s.parts;
  count = omega (arith, s.count, ap length s.parts, length-append s.front s.behind);
  begun = s.begun;
  bad = goes_not_on s.front s.behind (s.refused 0);
}

refused-behind : (tree : Tree) (x : Sign) (rest : List Sign) → IsOver 2 (x ∷ rest) → after (Expects 0) (printed tree ++ x ∷ []) ≡ None
refused-behind tree sign.And rest over = absurd (omega (arith, over))
refused-behind tree sign.Not rest over = absurd (omega (arith, over))
refused-behind tree sign.Or rest over = absurd (omega (arith, over))
refused-behind tree sign.Close rest over = after-printed tree 0 (sign.Close ∷ [])
refused-behind tree (sign.Operand number) rest over = after-printed tree 0 (sign.Operand number ∷ [])
refused-behind tree sign.Open rest over = after-printed tree 0 (sign.Open ∷ [])
refused-behind tree sign.Other rest over = after-printed tree 0 (sign.Other ∷ [])

pub rest_within : (signs : List Sign) (tree : Tree) (rest : List Sign) → IsRead 2 signs tree rest → length rest ≤ length signs
rest_within signs tree rest r = omega (arith, ap length r.signs_are, length-append (printed tree) rest)

bad_here : (signs : List Sign) (tree : Tree) (rest : List Sign) → IsRead 2 signs tree rest → rest ≢ [] → IsBadAt signs (length signs - length rest)
bad_here signs tree [] r some = absurd (some refl)
bad_here signs tree (x ∷ rest) r some = record {
  front = printed tree;
  behind = x ∷ rest;
  parts = r.signs_are;
  count = omega (arith, ap length r.signs_are, length-append (printed tree) (x ∷ rest));
  begun = record { tree = tree; made = r.made; more = []; begins = sym (append-nil (printed tree)) };
  bad = not_begun (printed tree ++ x ∷ []) (refused-behind tree x rest r.over);
}

pub bad_behind : (signs : List Sign) (tree : Tree) (rest : List Sign) (place : ℕ) → IsRead 2 signs tree rest → (rest ≢ []) × (place ≡ length signs - length rest) → IsBadAt signs place
bad_behind signs tree rest place r all = subst (IsBadAt signs) (sym all.1) (bad_here signs tree rest r all.0)

pub whole : (signs : List Sign) (tree : Tree) (rest : List Sign) → IsRead 2 signs tree rest → rest ≡ [] → printed tree ≡ signs
whole signs tree rest r none = sym (r.signs_are ∙ ap (λ more. printed tree ++ more) none ∙ append-nil (printed tree))

-- There is one such place at most, and none in an expression.

begun-front : (xs ys : List Sign) → IsBegun 2 (xs ++ ys) → IsBegun 2 xs
begun-front xs ys b = record { tree = b.tree; made = b.made; more = ys ++ b.more; begins = b.begins ∙ append_assoc xs ys b.more }

head_same : {A : Type 0} {x y : A} {xs ys : List A} → x ∷ xs ≡ y ∷ ys → x ≡ y
head_same e = cc

tail_same : {A : Type 0} {x y : A} {xs ys : List A} → x ∷ xs ≡ y ∷ ys → xs ≡ ys
tail_same e = cc

-- the longer of two fronts goes on with what follows the shorter one
record GoesOn (front behind longer : List Sign) : Type 0 where
  pub sign : Sign
  pub rest : List Sign
  pub more : List Sign
  pub behind_is : behind ≡ sign ∷ rest
  pub longer_is : longer ≡ (front ++ sign ∷ []) ++ more

goes_on : (xs behind ys more : List Sign) → xs ++ behind ≡ ys ++ more → length xs < length ys → GoesOn xs behind ys
goes_on [] [] [] more are less = absurd (omega (arith, less))
goes_on [] [] (y ∷ ys) more are less = absurd (omega (arith, ap length are))
goes_on [] (x ∷ behind) [] more are less = absurd (omega (arith, less))
goes_on [] (x ∷ behind) (y ∷ ys) more are less = record { sign = x; rest = behind; more = ys; behind_is = refl; longer_is = ap (λ s. s ∷ ys) (sym (head_same are)) }
goes_on (x ∷ xs) behind [] more are less = absurd (omega (arith, less))
goes_on (x ∷ xs) behind (y ∷ ys) more are less =
    let later = goes_on xs behind ys more (tail_same are) (omega (arith, less)) in
    record { sign = later.sign; rest = later.rest; more = later.more; behind_is = later.behind_is; longer_is = (λ i. sym (head_same are) i ∷ later.longer_is i) }

not_later : (signs : List Sign) (p q : ℕ) → IsBadAt signs p → IsBadAt signs q → p < q → ⊥
not_later signs p q a b less =
    let on = goes_on a.front a.behind b.front b.behind (sym a.parts ∙ b.parts) (omega (arith, less, a.count, b.count)) in
    subst (GoesNotOn a.front) on.behind_is a.bad (begun-front (a.front ++ on.sign ∷ []) on.more (subst (IsBegun 2) on.longer_is b.begun))

pub one_place : (signs : List Sign) (p q : ℕ) → IsBadAt signs p → IsBadAt signs q → p ≡ q
one_place signs p q a b = elim (cases_order p q) [
  | inl same ↦ same
  | inr other ↦ elim other [
    | inl less ↦ absurd (not_later signs p q a b less)
    | inr more ↦ absurd (not_later signs q p b a more)
  ]
]

not_query-behind : (signs front behind : List Sign) → signs ≡ front ++ behind → GoesNotOn front behind → IsQuery signs → ⊥
not_query-behind signs front [] parts bad query = bad query.tree query.made (query.signs_are ∙ parts ∙ append-nil front)
not_query-behind signs front (x ∷ behind) parts bad query =
    bad (record { tree = query.tree; made = query.made; more = behind; begins = query.signs_are ∙ parts ∙ sym (append_assoc front (x ∷ []) behind) })

pub not_query : (signs : List Sign) (place : ℕ) → IsBadAt signs place → IsQuery signs → ⊥
not_query signs place b query = not_query-behind signs b.front b.behind b.parts b.bad query

pub reads_whole : (signs : List Sign) (node : Node) (rest : List Sign) (result : Result Node SignFault) → IsRead 2 signs (tree_of node) rest
    → IfOk result (λ n. (n ≡ node) × (rest ≡ [])) → ((place : ℕ) → result ≡ Err (faults.BadQuery place) → (rest ≢ []) × (place ≡ length signs - length rest)) → Reads signs result
reads_whole signs node rest (Ok n) r all bad =
    (subst (λ m. IsMade 2 (tree_of m)) (sym all.0) r.made, ap (λ m. printed (tree_of m)) all.0 ∙ whole signs (tree_of node) rest r all.1)
reads_whole signs node rest (Err (faults.BadQuery place)) r all bad = bad_behind signs (tree_of node) rest place r (bad place refl)
reads_whole signs node rest (Err faults.NoMemory) r all bad = tt
