-- If put v has the identifier v + 1, what is there tells how many puts there were: if L of the first v are there, 2 v - L is the number
-- of all updates exactly where v is the number of puts.
use Rattle.std.proofs.Common.{◌≡◌, ⊎_elim, ℕ, zero, suc, ◌+◌, ◌*◌, ◌<◌, ◌≤◌, Bool, true, false, ◌==◌, List, [], ◌∷◌, ◌++◌, length, refl, sym, ap, ◌∙◌, arith, Some, None}
use Rattle.std.specs.Prelude.{Option, is_some, if◌then◌else◌}
use Rattle.std.proofs.Math.Dec.{leb}
use Rattle.std.proofs.lemmas.Bool.{true≢false}
use Rattle.std.proofs.lemmas.Bool.Decides.{Decides-eqb, leb_tells}
use Rattle.std.proofs.lemmas.List.{length-append}
use Rattle.vault_shelf.specs.Scans.{AreInOrder, one_if, full}
use Rattle.vault_shelf.specs.ShelfFaults.{shelf_fault, AreAccepted}
use Rattle.vault_shelf.specs.Shelves.{VaultCommand, Put, Drop, Get, Shelf, empty_shelf, set_there, shelf_after, shelf_of}
use Rattle.vault_shelf.proofs.Accepted.{accepted_drop}
use Rattle.vault_shelf.proofs.Rows.{no_some, number_is, other_number, some_inside}

-- a change behind the first v puts shows in none of them
full_behind : (there : ℕ → Option ℕ) (id : ℕ) (at : Option ℕ) (v : ℕ) → v < id → full (set_there there id at) v ≡ full there v
full_behind there id at zero less = refl
full_behind there id at (suc v) less =
    λ i. full_behind there id at v (omega (arith, less)) i + one_if (is_some (if other_number (suc v) id (λ e. absurd (omega (arith, less, e))) i then at else there (suc v)))

-- one among them that is dropped is one fewer
full_emptied : (there : ℕ → Option ℕ) (id : ℕ) (v : ℕ) → 1 ≤ id → id ≤ v → is_some (there id) ≡ true → full (set_there there id None) v + 1 ≡ full there v
full_emptied there id zero some within is = absurd (omega (arith, some, within))
full_emptied there id (suc v) some within is = by (λ later. full_emptied there id v some later is) (suc v == id) refl
  where
    by : (id ≤ v → full (set_there there id None) v + 1 ≡ full there v) → (b : Bool) → (suc v == id) ≡ b → full (set_there there id None) v + one_if (is_some (if suc v == id then None else there (suc v))) + 1 ≡ full there v + one_if (is_some (there (suc v)))
    by front true e =
        let at : suc v ≡ id = number_is (suc v) id e in
        let here : is_some (there (suc v)) ≡ true = ap (λ k. is_some (there k)) at ∙ is in
        (λ i. full_behind there id None v (omega (arith, at)) i + one_if (is_some (if e i then None else there (suc v))) + 1)
        ∙ omega arith
        ∙ (λ i. full there v + one_if (sym here i))
    by front false e =
        let later : id ≤ v = ⊎_elim (λ (le : (leb id v ≡ true) × (id ≤ v)). le.1)
        (λ gt. absurd (true≢false (sym ((Decides-eqb (suc v) id).1 (omega (arith, gt.1, within))) ∙ e))) (leb_tells id v) in
        let rest = front later in
        (λ i. full (set_there there id None) v + one_if (is_some (if e i then None else there (suc v))) + 1) ∙ omega (arith, rest)

-- a client's numbers and what is there
pub record Counts (s : Shelf) : Type 0 where
  pub count : s.sent + full s.there (length s.puts) ≡ 2 * length s.puts
  pub ids : (id : ℕ) → is_some (s.there id) ≡ true → (1 ≤ id) × (id ≤ length s.puts)

pub counts_at_first : Counts empty_shelf
counts_at_first = record { count = refl; ids = λ id some. absurd (true≢false (sym some)) }

counts_after : (s : Shelf) (c : VaultCommand) (cs : List VaultCommand) → Counts s → shelf_fault s c ≡ None → AreInOrder s (c ∷ cs) → Counts (shelf_after s c)
counts_after s (Put id body) cs counts accepted order =
    let next : id ≡ suc (length s.puts) = order.0 ∙ omega arith in
    let more : length (shelf_after s (Put id body)).puts ≡ suc (length s.puts) = length-append s.puts (record { id = id; body = body } ∷ []) ∙ omega arith in
    record {
      count =
          (λ i. s.sent + 1 + full (set_there s.there id (Some (length s.puts))) (more i))
          ∙ (λ i. s.sent + 1 + (full (set_there s.there (next i) (Some (length s.puts))) (length s.puts) + one_if (is_some (if suc (length s.puts) == next i then Some (length s.puts) else s.there (suc (length s.puts))))))
          ∙ (λ i. s.sent + 1 + (full_behind s.there (suc (length s.puts)) (Some (length s.puts)) (length s.puts) (omega arith) i
          + one_if (is_some (if (Decides-eqb (suc (length s.puts)) (suc (length s.puts))).1 refl i then Some (length s.puts) else s.there (suc (length s.puts))))))
          ∙ omega (arith, counts.count, more);
      ids = λ k some. in_range k (k == id) refl some;
    }
  where
    in_range : (k : ℕ) (b : Bool) → (k == id) ≡ b → is_some (if k == id then Some (length s.puts) else s.there k) ≡ true → (1 ≤ k) × (k ≤ length (s.puts ++ record { id = id; body = body } ∷ []))
    in_range k true e some =
        let at : k ≡ id = number_is k id e in
        (omega (arith, at, order.0), omega (arith, at, order.0, length-append s.puts (record { id = id; body = body } ∷ [])))
    in_range k false e some =
        let was = counts.ids k (sym (ap (λ b. is_some (if b then Some (length s.puts) else s.there k)) e) ∙ some) in
        (was.0, omega (arith, was.1, length-append s.puts (record { id = id; body = body } ∷ [])))
counts_after s (Drop id) cs counts accepted order =
    let drop = accepted_drop s id accepted in
    let there : is_some (s.there id) ≡ true = ap is_some drop.there in
    let within = counts.ids id there in
    record {
      count = omega (arith, counts.count, full_emptied s.there id (length s.puts) within.0 within.1 there);
      ids = λ k some. in_range k (k == id) refl some;
    }
  where
    in_range : (k : ℕ) (b : Bool) → (k == id) ≡ b → is_some (if k == id then None else s.there k) ≡ true → (1 ≤ k) × (k ≤ length s.puts)
    in_range k true e some = absurd (true≢false (sym some ∙ ap (λ b. is_some (if b then None else s.there k)) e))
    in_range k false e some = counts.ids k (sym (ap (λ b. is_some (if b then None else s.there k)) e) ∙ some)
counts_after s (Get id) cs counts accepted order = counts

pub counts_of : (s : Shelf) (cs : List VaultCommand) → Counts s → AreAccepted s cs → AreInOrder s cs → Counts (shelf_of s cs)
counts_of s [] counts accepted order = counts
counts_of s (Put id body ∷ cs) counts accepted order = counts_of (shelf_after s (Put id body)) cs (counts_after s (Put id body) cs counts accepted.0 order) accepted.1 order.1
counts_of s (Drop id ∷ cs) counts accepted order = counts_of (shelf_after s (Drop id)) cs (counts_after s (Drop id) cs counts accepted.0 order) accepted.1 order
counts_of s (Get id ∷ cs) counts accepted order = counts_of s cs counts accepted.1 order

-- before the last put 2v - L is below the number of updates: it rises with each put
full_rises : (there : ℕ → Option ℕ) (v n : ℕ) → full there (n + v) ≤ full there v + n
full_rises there v zero = omega (arith, ap (full there) (same v))
  where
    same : (v : ℕ) → 0 + v ≡ v
    same v = omega arith
full_rises there v (suc n) = omega (arith, full_rises there v n, one (is_some (there (suc (n + v)))), refl_step)
  where
    one : (b : Bool) → one_if b ≤ 1
    one true = omega arith
    one false = omega arith

    refl_step : full there (suc n + v) ≡ full there (n + v) + one_if (is_some (there (suc (n + v))))
    refl_step = ap (full there) (same n v) ∙ refl
      where
        same : (n v : ℕ) → suc n + v ≡ suc (n + v)
        same n v = omega arith

-- so it is the number of updates at the number of puts, and below it before that
pub ends_there : (s : Shelf) → Counts s → (v n : ℕ) → length s.puts ≡ n + v → 1 ≤ n → 2 * v < s.sent + full s.there v
ends_there s counts v n parts some = omega (arith, counts.count, parts, some, full_rises s.there v n, ap (full s.there) parts)

-- each identifier is one more than the number of its put
abbrev pub AreNumbered : Shelf → Type 0
AreNumbered s = (id put : ℕ) → s.there id ≡ Some put → id ≡ put + 1

pub numbered_at_first : AreNumbered empty_shelf
numbered_at_first id put at = no_some put at

numbered_after : (s : Shelf) (c : VaultCommand) (cs : List VaultCommand) → AreNumbered s → AreInOrder s (c ∷ cs) → AreNumbered (shelf_after s c)
numbered_after s (Put id body) cs numbered order k put at = by (k == id) refl at
  where
    by : (b : Bool) → (k == id) ≡ b → (if b then Some (length s.puts) else s.there k) ≡ Some put → k ≡ put + 1
    by true e here = number_is k id e ∙ order.0 ∙ ap (λ n. n + 1) (some_inside (length s.puts) put here)
    by false e here = numbered k put here
numbered_after s (Drop id) cs numbered order k put at = by (k == id) refl at
  where
    by : (b : Bool) → (k == id) ≡ b → (if b then None else s.there k) ≡ Some put → k ≡ put + 1
    by true e here = no_some put here
    by false e here = numbered k put here
numbered_after s (Get id) cs numbered order k put at = numbered k put at

pub numbered_of : (s : Shelf) (cs : List VaultCommand) → AreNumbered s → AreInOrder s cs → AreNumbered (shelf_of s cs)
numbered_of s [] numbered order = numbered
numbered_of s (Put id body ∷ cs) numbered order = numbered_of (shelf_after s (Put id body)) cs (numbered_after s (Put id body) cs numbered order) order.1
numbered_of s (Drop id ∷ cs) numbered order = numbered_of (shelf_after s (Drop id)) cs (numbered_after s (Drop id) cs numbered order) order
numbered_of s (Get id ∷ cs) numbered order = numbered_of s cs numbered order

-- so a put whose identifier isn't there is the put of no text that is there
pub gone_by_number : (s : Shelf) → AreNumbered s → (put : ℕ) → s.there (put + 1) ≡ None → (id : ℕ) → s.there id ≡ Some put → ⊥
gone_by_number s numbered put none id at = no_some put (sym none ∙ ap s.there (sym (numbered id put at)) ∙ at)
