-- Maps from slots to what stands there, after a change.
use Rattle.std.proofs.Common.{◌≡◌, ℕ, Bool, true, false, cond, List, refl, ap, ◌∙◌, Some, None}
use Rattle.std.specs.Cmp.Lexicographic.{slice_cmp}
use Rattle.std.specs.FinMap as finmap
use Rattle.std.specs.Ordering.{nat_cmp, eq_by_cmp}
use Rattle.std.specs.Str.{bytes_eq}
use Rattle.std.proofs.lemmas.Cmp.{nat_list_cmp_total}
use Rattle.std.proofs.lemmas.Map.Text.{is_eq-slice_cmp}
use Rattle.std.proofs.lemmas.Slice.Eq.{bytes_eq-Decides}
use Rattle.vault_server.specs.VaultState.{Held, Slots}

pub tied : (x y : List ℕ) → x ≡ y → eq_by_cmp (slice_cmp nat_cmp) x y ≡ true
tied x y e = is_eq-slice_cmp x y ∙ (bytes_eq-Decides x y).1 e

pub apart : (x y : List ℕ) → (x ≡ y → ⊥) → eq_by_cmp (slice_cmp nat_cmp) x y ≡ false
apart x y differ = is_eq-slice_cmp x y ∙ by (bytes_eq x y) refl
  where
    by : (b : Bool) → bytes_eq x y ≡ b → b ≡ false
    by false e = refl
    by true e = absurd (differ ((bytes_eq-Decides x y).0 e))

module _ (m : Slots) where
  pub get_there : (k : List ℕ) (h : Held) → finmap.get (finmap.insert m k h) k ≡ Some h
  get_there k h = finmap.get-insert nat_list_cmp_total m k h k ∙ ap (λ b. cond b (Some h) (finmap.get m k)) (tied k k refl)

  pub get_elsewhere : (k q : List ℕ) (h : Held) → (q ≡ k → ⊥) → finmap.get (finmap.insert m k h) q ≡ finmap.get m q
  get_elsewhere k q h differ = finmap.get-insert nat_list_cmp_total m k h q ∙ ap (λ b. cond b (Some h) (finmap.get m q)) (apart q k differ)

  pub get_beside : (k q : List ℕ) → (q ≡ k → ⊥) → finmap.get (finmap.remove m k) q ≡ finmap.get m q
  get_beside k q differ = finmap.get-remove nat_list_cmp_total m k q ∙ ap (λ b. cond b None (finmap.get m q)) (apart q k differ)

  pub get_gone : (k : List ℕ) → finmap.get (finmap.remove m k) k ≡ None
  get_gone k = finmap.get-remove nat_list_cmp_total m k k ∙ ap (λ b. cond b None (finmap.get m k)) (tied k k refl)
