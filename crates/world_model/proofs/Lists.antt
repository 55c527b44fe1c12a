-- Lists that are the first of others.
use Rattle.std.proofs.Common.{◌≡◌, ℕ, zero, suc, ◌+◌, ◌-◌, ◌≤◌, Bool, true, false, List, [], ◌∷◌, ◌++◌, length, take, slice_get, Option, None, Some, refl, sym, ap, ◌∙◌, subst, arith, append_assoc, length-append}
use Rattle.std.specs.Prelude.{if◌then◌else◌}
use Rattle.std.specs.List.{AllByRecursion}
use Rattle.std.proofs.lemmas.List.{append-nil, take-append-le}
use Rattle.world_model.specs.Rules.{IsFront}
use Rattle.world_model.specs.Events.{but_last}

pub front_trans : {X : Type 0} (xs ys zs : List X) → IsFront xs ys → IsFront ys zs → IsFront xs zs
front_trans xs ys zs p q = (p.0 ++ q.0, sym (append_assoc xs p.0 q.0) ∙ ap (λ front. front ++ q.0) p.1 ∙ q.1)

pub front_length : {X : Type 0} (xs ys : List X) → IsFront xs ys → length xs ≤ length ys
front_length xs ys p = let e : length (xs ++ p.0) ≡ length ys = ap length p.1 in omega (arith, length-append xs p.0, e)

slice_get-append : {X : Type 0} (xs ys : List X) (i : ℕ) (x : X) → slice_get xs i ≡ Some x → slice_get (xs ++ ys) i ≡ Some x
slice_get-append [] ys i x e = grind (arith, e)
slice_get-append (a ∷ xs) ys zero x e = e
slice_get-append (a ∷ xs) ys (suc i) x e = slice_get-append xs ys i x e

-- what stands at a place of the first stands there in all
pub front_get : {X : Type 0} (xs ys : List X) (i : ℕ) (x : X) → IsFront xs ys → slice_get xs i ≡ Some x → slice_get ys i ≡ Some x
front_get xs ys i x p e = subst (λ all. slice_get all i ≡ Some x) p.1 (slice_get-append xs p.0 i x e)

slice_get-end : {X : Type 0} (xs : List X) (x : X) → slice_get (xs ++ x ∷ []) (length xs) ≡ Some x
slice_get-end [] x = refl
slice_get-end (a ∷ xs) x = slice_get-end xs x

pub last_get : {X : Type 0} (xs : List X) (x : X) → slice_get (xs ++ x ∷ []) (length xs) ≡ Some x
last_get xs x = slice_get-end xs x

-- the next one behind the first of some, which are all or are followed by the one at their number's place
pub front_next : {X : Type 0} (xs ys : List X) (x : X) → IsFront xs ys → slice_get ys (length xs) ≡ Some x → IsFront (xs ++ x ∷ []) ys
front_next [] [] x p e = grind (arith, e)
front_next [] (y ∷ ys) x p e = (ys, ap (λ z. z ∷ ys) (some_is x y e))
  where
    some_is : {Y : Type 0} (a b : Y) → Some b ≡ Some a → a ≡ b
    some_is a b q = cc
front_next (a ∷ xs) [] x p e = grind (arith, p.1)
front_next {X} (a ∷ xs) (y ∷ ys) x p e =
    let tails : xs ++ p.0 ≡ ys = ap tail p.1 in
    let heads : a ≡ y = some_is a y (ap first p.1) in
    let rest = front_next xs ys x (p.0, tails) e in
    (rest.0, (λ i. heads i ∷ rest.1 i))
  where
    tail : List X → List X
    tail [] = []
    tail (z ∷ zs) = zs

    first : List X → Option X
    first [] = None
    first (z ∷ zs) = Some z

    some_is : (b d : X) → Some b ≡ Some d → b ≡ d
    some_is b d q = cc

pub length-push : {X : Type 0} (xs : List X) (x : X) → length (xs ++ x ∷ []) ≡ length xs + 1
length-push xs x = length-append xs (x ∷ [])

pub but_last-push : {X : Type 0} (xs : List X) (x : X) → but_last (xs ++ x ∷ []) ≡ xs
but_last-push xs x =
    let e : length (xs ++ x ∷ []) - 1 ≡ length xs = omega (arith, length-push xs x) in
    ap (λ n. take n (xs ++ x ∷ [])) e ∙ take-append-le (length xs) xs (x ∷ []) (omega arith) ∙ take_whole xs
  where
    take_whole : {X : Type 0} (xs : List X) → take (length xs) xs ≡ xs
    take_whole [] = refl
    take_whole (y ∷ ys) = ap (λ zs. y ∷ zs) (take_whole ys)

pub all_mono : {X : Type 0} (P Q : X → Type 0) → ((x : X) → P x → Q x) → (xs : List X) → AllByRecursion P xs → AllByRecursion Q xs
all_mono P Q f [] all = tt
all_mono P Q f (x ∷ xs) all = (f x all.0, all_mono P Q f xs all.1)

pub all_push : {X : Type 0} (P : X → Type 0) (xs : List X) (x : X) → AllByRecursion P xs → P x → AllByRecursion P (xs ++ x ∷ [])
all_push P [] x all p = (p, tt)
all_push P (y ∷ ys) x all p = (all.0, all_push P ys x all.1 p)

-- what stands at a place has what all have
pub all_get : {X : Type 0} (P : X → Type 0) (xs : List X) (i : ℕ) (x : X) → AllByRecursion P xs → slice_get xs i ≡ Some x → P x
all_get P [] i x all e = grind (arith, e)
all_get P (y ∷ ys) zero x all e = subst P (some_is y x e) all.0
  where
    some_is : {Y : Type 0} (a b : Y) → Some a ≡ Some b → a ≡ b
    some_is a b q = cc
all_get P (y ∷ ys) (suc i) x all e = all_get P ys i x all.1 e

-- a choice has what both have
pub by_test : {X : Type 0} (P : X → Type 0) (b : Bool) (x y : X) → (b ≡ true → P x) → (b ≡ false → P y) → P (if b then x else y)
by_test P true x y p q = p refl
by_test P false x y p q = q refl

-- the first of some that are as many are all
pub front_whole : {X : Type 0} (xs ys : List X) → IsFront xs ys → length ys ≤ length xs → xs ≡ ys
front_whole {X} xs ys p l = whole p.0 p.1 none
  where
    none : length (p.0) ≡ 0
    none = let e : length (xs ++ p.0) ≡ length ys = ap length p.1 in omega (arith, length-append xs p.0, e, l)

    whole : (rest : List X) → xs ++ rest ≡ ys → length rest ≡ 0 → xs ≡ ys
    whole [] e z = sym (append-nil xs) ∙ e
    whole (z ∷ zs) e n = grind (arith, n)

pub last_push : {X : Type 0} (xs : List X) (x : X) → slice_get (xs ++ x ∷ []) (length (xs ++ x ∷ []) - 1) ≡ Some x
last_push xs x =
    let e : length xs ≡ length (xs ++ x ∷ []) - 1 = omega (arith, length-push xs x) in
    subst (λ k. slice_get (xs ++ x ∷ []) k ≡ Some x) e (last_get xs x)

pub take_whole : {X : Type 0} (xs : List X) (n : ℕ) → n ≡ length xs → take n xs ≡ xs
take_whole xs n e = ap (λ k. take k xs) e ∙ whole xs
  where
    whole : {X : Type 0} (xs : List X) → take (length xs) xs ≡ xs
    whole [] = refl
    whole (y ∷ ys) = ap (λ zs. y ∷ zs) (whole ys)
