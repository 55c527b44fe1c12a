-- Laws of lists that go together place by place.
use Rattle.std.proofs.Common.{◌≡◌, ℕ, suc, Bool, true, false, cond, List, [], ◌∷◌, ◌++◌, length, map, filter, refl, sym, ap, subst, arith, ⊎_elim, Some}
use Rattle.std.specs.Prelude.{Contains, flat_map, zip}
use Rattle.std.specs.List.{AllByRecursion, slice_get}
use Rattle.std.proofs.lemmas.Bool.{true≢false}
use Rattle.sse_model.proofs.Members.{Contains-head, Contains-cons, Contains-nil, Contains-cases}
use Rattle.def_relabelling.specs.Paired.{Paired}

pub heads : {A : Type 0} (a b : A) (xs ys : List A) → a ∷ xs ≡ b ∷ ys → a ≡ b
heads a b xs ys e = cc

pub tails : {A : Type 0} (a b : A) (xs ys : List A) → a ∷ xs ≡ b ∷ ys → xs ≡ ys
tails a b xs ys e = cc

pub fewer : (m n : ℕ) → suc m ≡ suc n → m ≡ n
fewer m n e = omega (arith, e)

module _ {A B : Type 0} where
  pub paired-length : (R : A → B → Type 0) (xs : List A) (ys : List B) → Paired R xs ys → length xs ≡ length ys
  paired-length R [] [] all = refl
  paired-length R [] (y ∷ ys) all = absurd all
  paired-length R (x ∷ xs) [] all = absurd all
  paired-length R (x ∷ xs) (y ∷ ys) all = ap (λ (n : ℕ). suc n) (paired-length R xs ys all.1)

  -- lists as long as one another, where any two items are so related
  pub paired-each : (R : A → B → Type 0) (xs : List A) (ys : List B) → length xs ≡ length ys → ((x : A) (y : B) → R x y) → Paired R xs ys
  paired-each R [] [] e each = tt
  paired-each R [] (y ∷ ys) e each = absurd (omega (arith, e))
  paired-each R (x ∷ xs) [] e each = absurd (omega (arith, e))
  paired-each R (x ∷ xs) (y ∷ ys) e each = (each x y, paired-each R xs ys (fewer (length xs) (length ys) e) each)

  -- what follows of items that are related, and are each as they are in their lists
  pub paired-weaker : (R S : A → B → Type 0) (P : A → Type 0) (Q : B → Type 0) (xs : List A) (ys : List B) → AllByRecursion P xs → AllByRecursion Q ys → Paired R xs ys
      → ((x : A) (y : B) → P x → Q y → R x y → S x y) → Paired S xs ys
  paired-weaker R S P Q [] [] ps qs all each = tt
  paired-weaker R S P Q [] (y ∷ ys) ps qs all each = absurd all
  paired-weaker R S P Q (x ∷ xs) [] ps qs all each = absurd all
  paired-weaker R S P Q (x ∷ xs) (y ∷ ys) ps qs all each = (each x y ps.0 qs.0 all.0, paired-weaker R S P Q xs ys ps.1 qs.1 all.1 each)

  -- what follows of related items
  pub paired-then : (R S : A → B → Type 0) (xs : List A) (ys : List B) → Paired R xs ys → ((x : A) (y : B) → R x y → S x y) → Paired S xs ys
  paired-then R S [] [] all each = tt
  paired-then R S [] (y ∷ ys) all each = absurd all
  paired-then R S (x ∷ xs) [] all each = absurd all
  paired-then R S (x ∷ xs) (y ∷ ys) all each = (each x y all.0, paired-then R S xs ys all.1 each)

  pub paired-both : (R S : A → B → Type 0) (xs : List A) (ys : List B) → Paired R xs ys → Paired S xs ys → Paired (λ x y. R x y × S x y) xs ys
  paired-both R S [] [] all more = tt
  paired-both R S [] (y ∷ ys) all more = absurd all
  paired-both R S (x ∷ xs) [] all more = absurd all
  paired-both R S (x ∷ xs) (y ∷ ys) all more = ((all.0, more.0), paired-both R S xs ys all.1 more.1)

  pub paired-append : (R : A → B → Type 0) (xs us : List A) (ys vs : List B) → Paired R xs ys → Paired R us vs → Paired R (xs ++ us) (ys ++ vs)
  paired-append R [] us [] vs all more = more
  paired-append R [] us (y ∷ ys) vs all more = absurd all
  paired-append R (x ∷ xs) us [] vs all more = absurd all
  paired-append R (x ∷ xs) us (y ∷ ys) vs all more = (all.0, paired-append R xs us ys vs all.1 more)

  -- two parts, the first of one length
  pub paired-parts : (R S : A → B → Type 0) (xs us : List A) (ys vs : List B) → Paired S xs ys → Paired R (xs ++ us) (ys ++ vs) → Paired R xs ys × Paired R us vs
  paired-parts R S [] us [] vs even all = (tt, all)
  paired-parts R S [] us (y ∷ ys) vs even all = absurd even
  paired-parts R S (x ∷ xs) us [] vs even all = absurd even
  paired-parts R S (x ∷ xs) us (y ∷ ys) vs even all = let rest = paired-parts R S xs us ys vs even.1 all.1 in ((all.0, rest.0), rest.1)

  -- an item of the second list goes together with one of the first
  pub partner_of : (R : A → B → Type 0) (xs : List A) (ys : List B) → Paired R xs ys → (y : B) → Contains ys y → (x : A) × Contains xs x × R x y
  partner_of R [] [] all y within = absurd (Contains-nil y within)
  partner_of R [] (z ∷ zs) all y within = absurd all
  partner_of R (x ∷ xs) [] all y within = absurd all
  partner_of R (x ∷ xs) (z ∷ zs) all y within =
      ⊎_elim (λ (same : z ≡ y). (x, Contains-head x xs, subst (R x) same all.0))
      (λ rest. let later = partner_of R xs zs all.1 y rest in (later.0, Contains-cons x xs later.0 later.1, later.2))
      (Contains-cases z zs y within)

  pub zip-append : (S : A → B → Type 0) (xs us : List A) (ys vs : List B) → Paired S xs ys → zip (xs ++ us) (ys ++ vs) ≡ zip xs ys ++ zip us vs
  zip-append S [] us [] vs even = refl
  zip-append S [] us (y ∷ ys) vs even = absurd even
  zip-append S (x ∷ xs) us [] vs even = absurd even
  zip-append S (x ∷ xs) us (y ∷ ys) vs even = ap (λ rest. (x, y) ∷ rest) (zip-append S xs us ys vs even.1)

pub paired-swap : {A B : Type 0} (R : A → B → Type 0) (S : B → A → Type 0) (xs : List A) (ys : List B) → Paired R xs ys → ((x : A) (y : B) → R x y → S y x) → Paired S ys xs
paired-swap R S [] [] all each = tt
paired-swap R S [] (y ∷ ys) all each = absurd all
paired-swap R S (x ∷ xs) [] all each = absurd all
paired-swap R S (x ∷ xs) (y ∷ ys) all each = (each x y all.0, paired-swap R S xs ys all.1 each)

pub paired-map : {A B C D : Type 0} (R : C → D → Type 0) (f : A → C) (g : B → D) (xs : List A) (ys : List B) → Paired (λ x y. R (f x) (g y)) xs ys → Paired R (map f xs) (map g ys)
paired-map R f g [] [] all = tt
paired-map R f g [] (y ∷ ys) all = absurd all
paired-map R f g (x ∷ xs) [] all = absurd all
paired-map R f g (x ∷ xs) (y ∷ ys) all = (all.0, paired-map R f g xs ys all.1)

-- lists that items give
pub paired-flat_map : {A B C D : Type 0} (R : C → D → Type 0) (f : A → List C) (g : B → List D) (xs : List A) (ys : List B) → Paired (λ x y. Paired R (f x) (g y)) xs ys → Paired R (flat_map f xs) (flat_map g ys)
paired-flat_map R f g [] [] all = tt
paired-flat_map R f g [] (y ∷ ys) all = absurd all
paired-flat_map R f g (x ∷ xs) [] all = absurd all
paired-flat_map R f g (x ∷ xs) (y ∷ ys) all = paired-append R (f x) (flat_map f xs) (g y) (flat_map g ys) all.0 (paired-flat_map R f g xs ys all.1)

-- items that pass on both sides, or on neither
pub paired-filter : {A B : Type 0} (R : A → B → Type 0) (p : A → Bool) (q : B → Bool) (xs : List A) (ys : List B) → Paired R xs ys → ((x : A) (y : B) → R x y → p x ≡ q y) → Paired R (filter p xs) (filter q ys)
paired-filter R p q [] [] all each = tt
paired-filter R p q [] (y ∷ ys) all each = absurd all
paired-filter R p q (x ∷ xs) [] all each = absurd all
paired-filter R p q (x ∷ xs) (y ∷ ys) all each = by (p x) (q y) (each x y all.0) (paired-filter R p q xs ys all.1 each)
  where
    by : (b b2 : Bool) → b ≡ b2 → Paired R (filter p xs) (filter q ys) → Paired R (cond b (x ∷ filter p xs) (filter p xs)) (cond b2 (y ∷ filter q ys) (filter q ys))
    by true true e rest = (all.0, rest)
    by false false e rest = rest
    by true false e rest = absurd (true≢false e)
    by false true e rest = absurd (true≢false (sym e))

-- lists with one image, item by item
pub paired-image : {A B C : Type 0} (f : A → C) (g : B → C) (xs : List A) (ys : List B) → map f xs ≡ map g ys → Paired (λ x y. f x ≡ g y) xs ys
paired-image f g [] [] e = tt
paired-image f g [] (y ∷ ys) e = absurd (let no : [] ≡ g y ∷ map g ys = e in cc)
paired-image f g (x ∷ xs) [] e = absurd (let no : f x ∷ map f xs ≡ [] = e in cc)
paired-image f g (x ∷ xs) (y ∷ ys) e = (heads (f x) (g y) (map f xs) (map g ys) e, paired-image f g xs ys (tails (f x) (g y) (map f xs) (map g ys) e))

pub paired-equal : {A : Type 0} (xs ys : List A) → Paired (λ x y. x ≡ y) xs ys → xs ≡ ys
paired-equal [] [] all = refl
paired-equal [] (y ∷ ys) all = absurd all
paired-equal (x ∷ xs) [] all = absurd all
paired-equal (x ∷ xs) (y ∷ ys) all = λ i. all.0 i ∷ paired-equal xs ys all.1 i

-- what is so at each place
pub paired-places : {A B : Type 0} (R S : A → B → Type 0) (xs : List A) (ys : List B) → Paired R xs ys
    → ((p : ℕ) (x : A) (y : B) → slice_get xs p ≡ Some x → slice_get ys p ≡ Some y → R x y → S x y) → Paired S xs ys
paired-places R S [] [] all each = tt
paired-places R S [] (y ∷ ys) all each = absurd all
paired-places R S (x ∷ xs) [] all each = absurd all
paired-places R S (x ∷ xs) (y ∷ ys) all each = (each 0 x y refl refl all.0, paired-places R S xs ys all.1 (λ p. each (suc p)))

-- what is so for each of many causes
pub paired-family : {A B I : Type 0} (S : A → B → Type 0) (R : I → A → B → Type 0) (xs : List A) (ys : List B) → Paired S xs ys → ((i : I) → Paired (R i) xs ys) → Paired (λ x y. (i : I) → R i x y) xs ys
paired-family S R [] [] even each = tt
paired-family S R [] (y ∷ ys) even each = absurd even
paired-family S R (x ∷ xs) [] even each = absurd even
paired-family S R (x ∷ xs) (y ∷ ys) even each = (λ i. (each i).0, paired-family S R xs ys even.1 (λ i. (each i).1))
