-- Two lists that are joined, one number after the other.
use Rattle.std.proofs.Common.{◌≡◌, ℕ, ◌<◌, Bool, true, false, ◌||◌, ◌&&◌, List, [], ◌∷◌, ◌++◌, refl, sym, ap, ◌∙◌, subst, eqb-true, nat_eq}
use Rattle.std.specs.Prelude.{if◌then◌else◌}
use Rattle.std.specs.List.{AllByRecursion}
use Rattle.std.proofs.lemmas.List.Folds.{list_any-append}
use Rattle.std.proofs.lemmas.Bool.{true≢false}
use Rattle.bool_search.specs.Joined.{Above, IsFirst, IsRising, has, takes}
use Rattle.bool_search.specs.declared.join.Join.{Join}
use Rattle.bool_search.specs.declared.join.Join.TheVariants as joins
use Rattle.bool_search.proofs.Rising.{above_more, above_none, all_map, all_push, rising_push}

-- these numbers were taken of two lists, of which this is left
pub record HasJoined (join : Join) (all_left all_right ids left right : List ℕ) : Type 0 where
  pub rising : IsRising ids
  pub below : AllByRecursion (λ n. Above n left × Above n right) ids
  pub left_rising : IsRising left
  pub right_rising : IsRising right
  pub members : (q : ℕ) → takes join (has q all_left) (has q all_right) ≡ (has q ids || takes join (has q left) (has q right))

pub join-begins : (join : Join) (left right : List ℕ) → IsRising left → IsRising right → HasJoined join left right [] left right
join-begins join left right a b = record { rising = tt; below = tt; left_rising = a; right_rising = b; members = λ q. refl }

takes_none : (join : Join) → takes join false false ≡ false
takes_none joins.And = refl
takes_none joins.Not = refl
takes_none joins.Or = refl

or_false : (b : Bool) → (b || false) ≡ b
or_false true = refl
or_false false = refl

pub join-ends : (join : Join) (all_left all_right ids left right : List ℕ) → HasJoined join all_left all_right ids left right → left ≡ [] → right ≡ [] → (q : ℕ) → has q ids ≡ takes join (has q all_left) (has q all_right)
join-ends join all_left all_right ids left right joined e f q =
    sym (joined.members q ∙ ap (λ t. has q ids || takes join (has q t) (has q right)) e ∙ ap (λ t. has q ids || takes join false (has q t)) f ∙ ap (λ t. has q ids || t) (takes_none join) ∙ or_false (has q ids))

-- What is left of one of the lists.

rest_rising : (n : ℕ) (in_it : Bool) (left left' : List ℕ) → left ≡ (if in_it then n ∷ left' else left') → IsRising left → IsRising left'
rest_rising n true left left' e rising = (subst IsRising e rising).1
rest_rising n false left left' e rising = subst IsRising e rising

rest_above : (m n : ℕ) (in_it : Bool) (left left' : List ℕ) → left ≡ (if in_it then n ∷ left' else left') → Above m left → Above m left'
rest_above m n true left left' e above = (subst (Above m) e above).1
rest_above m n false left left' e above = subst (Above m) e above

rest_has : (q n : ℕ) (in_it : Bool) (left left' : List ℕ) → left ≡ (if in_it then n ∷ left' else left') → has q left ≡ ((in_it && nat_eq q n) || has q left')
rest_has q n true left left' e = ap (has q) e
rest_has q n false left left' e = ap (has q) e

above_first : (m n : ℕ) (in_left in_right : Bool) (left left' right right' : List ℕ) → left ≡ (if in_left then n ∷ left' else left') → right ≡ (if in_right then n ∷ right' else right') → (in_left || in_right) ≡ true
    → Above m left × Above m right → m < n
above_first m n true in_right left left' right right' e f some above = (subst (Above m) e above.0).0
above_first m n false true left left' right right' e f some above = (subst (Above m) f above.1).0
above_first m n false false left left' right right' e f some above = absurd (true≢false (sym some))

-- One number more.

and_true : (b : Bool) → ((b && true) || false) ≡ b
and_true true = refl
and_true false = refl

and_false : (b c : Bool) → ((b && false) || c) ≡ c
and_false true c = refl
and_false false c = refl

abbrev pub pushed : Bool → List ℕ → ℕ → List ℕ
pushed keeps ids n = if keeps then ids ++ n ∷ [] else ids

has_pushed : (keeps : Bool) (q n : ℕ) (ids : List ℕ) → has q (pushed keeps ids n) ≡ (has q ids || (keeps && nat_eq q n))
has_pushed true q n ids = list_any-append (nat_eq q) ids (n ∷ []) ∙ ap (λ t. has q ids || t) (or_false (nat_eq q n))
has_pushed false q n ids = sym (or_false (has q ids))

-- by whether the number is the one that is asked for
taken_next : (k : Bool → Bool → Bool) → k false false ≡ false → (l r e i x y : Bool) → (e ≡ true → x ≡ false) → (e ≡ true → y ≡ false)
    → (i || k ((l && e) || x) ((r && e) || y)) ≡ ((i || (k l r && e)) || k x y)
taken_next k none l r true i x y no_x no_y = first (no_x refl) (no_y refl)
  where
    one : (b : Bool) → (i || b) ≡ ((i || (b && true)) || false)
    one b = sym (or_false (i || (b && true)) ∙ ap (λ t. i || t) (sym (or_false (b && true)) ∙ and_true b))

    first : x ≡ false → y ≡ false → (i || k ((l && true) || x) ((r && true) || y)) ≡ ((i || (k l r && true)) || k x y)
    first e f =
        ap (λ t. i || k ((l && true) || t) ((r && true) || y)) e ∙ ap (λ t. i || k ((l && true) || false) ((r && true) || t)) f
        ∙ ap (λ t. i || k t ((r && true) || false)) (and_true l) ∙ ap (λ t. i || k l t) (and_true r) ∙ one (k l r)
        ∙ ap (λ t. (i || (k l r && true)) || t) (sym none) ∙ ap (λ t. (i || (k l r && true)) || k t false) (sym e) ∙ ap (λ t. (i || (k l r && true)) || k x t) (sym f)
taken_next k none l r false i x y no_x no_y =
    ap (λ t. i || k t ((r && false) || y)) (and_false l x) ∙ ap (λ t. i || k x t) (and_false r y) ∙ ap (λ t. t || k x y) (sym (ap (λ t. i || t) (sym (or_false (k l r && false)) ∙ and_false (k l r) false) ∙ or_false i))

module _ (join : Join) (all_left all_right ids left left' right right' : List ℕ) (n : ℕ) (in_left in_right : Bool) (joined : HasJoined join all_left all_right ids left right) (first : IsFirst n in_left in_right left left' right right') where
  below_rest : AllByRecursion (λ m. Above m left' × Above m right') ids
  below_rest = all_map (λ m. Above m left × Above m right) (λ m. Above m left' × Above m right') (λ m above. (rest_above m n in_left left left' first.left_is above.0, rest_above m n in_right right right' first.right_is above.1)) ids joined.below

  below_first : AllByRecursion (λ m. m < n) ids
  below_first = all_map (λ m. Above m left × Above m right) (λ m. m < n) (λ m above. above_first m n in_left in_right left left' right right' first.left_is first.right_is first.some above) ids joined.below

  rising_with : (keeps : Bool) → IsRising (pushed keeps ids n)
  rising_with true = rising_push ids n joined.rising below_first
  rising_with false = joined.rising

  below_with : (keeps : Bool) → AllByRecursion (λ m. Above m left' × Above m right') (pushed keeps ids n)
  below_with true = all_push (λ m. Above m left' × Above m right') ids n below_rest (first.left_above, first.right_above)
  below_with false = below_rest

  members_with : (q : ℕ) → takes join (has q all_left) (has q all_right) ≡ (has q (pushed (takes join in_left in_right) ids n) || takes join (has q left') (has q right'))
  members_with q =
      joined.members q
      ∙ ap (λ t. has q ids || takes join t (has q right)) (rest_has q n in_left left left' first.left_is)
      ∙ ap (λ t. has q ids || takes join ((in_left && nat_eq q n) || has q left') t) (rest_has q n in_right right right' first.right_is)
      ∙ taken_next (takes join) (takes_none join) in_left in_right (nat_eq q n) (has q ids) (has q left') (has q right')
      (λ e. above_none q left' (subst (λ m. Above m left') (sym (eqb-true q n e)) first.left_above)) (λ e. above_none q right' (subst (λ m. Above m right') (sym (eqb-true q n e)) first.right_above))
      ∙ ap (λ t. t || takes join (has q left') (has q right')) (sym (has_pushed (takes join in_left in_right) q n ids))

  pub join-next : (ids' : List ℕ) → ids' ≡ pushed (takes join in_left in_right) ids n → HasJoined join all_left all_right ids' left' right'
  join-next ids' is = subst (λ l. HasJoined join all_left all_right l left' right') (sym is) (record {
    rising = rising_with (takes join in_left in_right);
    below = below_with (takes join in_left in_right);
    left_rising = rest_rising n in_left left left' first.left_is joined.left_rising;
    right_rising = rest_rising n in_right right right' first.right_is joined.right_rising;
    members = members_with;
  })

-- The first of two lists.

pub first-left : (n : ℕ) (left left' right : List ℕ) → left ≡ n ∷ left' → right ≡ [] → IsRising left → IsFirst n true false left left' right right
first-left n left left' right e none rising = record { left_is = e; right_is = refl; left_above = (subst IsRising e rising).0; right_above = subst (Above n) (sym none) tt; some = refl }

pub first-right : (n : ℕ) (left right right' : List ℕ) → left ≡ [] → right ≡ n ∷ right' → IsRising right → IsFirst n false true left left right right'
first-right n left right right' none e rising = record { left_is = refl; right_is = e; left_above = subst (Above n) (sym none) tt; right_above = (subst IsRising e rising).0; some = refl }

module _ (a b : ℕ) (left left' right right' : List ℕ) (e : left ≡ a ∷ left') (f : right ≡ b ∷ right') (rising : IsRising left) (rising2 : IsRising right) where
  pub first-less : a < b → IsFirst a true false left left' right right
  first-less less = record { left_is = e; right_is = refl; left_above = (subst IsRising e rising).0; right_above = subst (Above a) (sym f) (less, above_more a b right' less (subst IsRising f rising2).0); some = refl }

  pub first-more : b < a → IsFirst b false true left left right right'
  first-more less = record { left_is = refl; right_is = f; left_above = subst (Above b) (sym e) (less, above_more b a left' less (subst IsRising e rising).0); right_above = (subst IsRising f rising2).0; some = refl }

  pub first-both : a ≡ b → IsFirst a true true left left' right right'
  first-both same = record {
    left_is = e;
    right_is = f ∙ ap (λ n. n ∷ right') (sym same);
    left_above = (subst IsRising e rising).0;
    right_above = subst (λ n. Above n right') (sym same) (subst IsRising f rising2).0;
    some = refl;
  }
