-- What a tree of slots is as a map, and how it changes.
use Rattle.std.proofs.Common.{◌≡◌, ℕ, Bool, true, false, cond, List, [], ◌∷◌, refl, sym, ap, ◌∙◌, Some, None}
use Rattle.std.specs.Prelude.{Option, option_map, option_copied}
use Rattle.std.specs.Borrow.{Bor}
use Rattle.std.specs.Map.{lookup}
use Rattle.std.specs.BTreeMap.{is_at}
use Rattle.std.specs.Ordering.{nat_cmp, eq_by_cmp}
use Rattle.std.specs.Cmp.Lexicographic.{slice_cmp}
use Rattle.std.specs.FinMap.{find, get, insert, remove, from_entries, get-from_entries, get-insert, get-remove, same_map, slice_cmp-IsAntisymmetric, nat_cmp-IsAntisymmetric}
use Rattle.std.proofs.lemmas.Cmp.{nat_list_cmp_total, eq_by_cmp_equiv}
use Rattle.std.proofs.lemmas.Map.Text.{is_eq-slice_cmp}
use Rattle.std.proofs.lemmas.Slice.Eq.{bytes_eq-Decides}
use Rattle.vault_server.specs.VaultState.{Held, Slots}

-- what stands under a key
abbrev at : List (List ℕ × Held) → List ℕ → Option Held
at es q = lookup (is_at (slice_cmp nat_cmp q)) es

find_slot : (es : List (List ℕ × Held)) (q : List ℕ) → find (slice_cmp nat_cmp) q es ≡ at es q
find_slot [] q = refl
find_slot (e ∷ es) q = ap (cond (is_at (slice_cmp nat_cmp q) e.0) (Some e.1)) (find_slot es q)

pub get_slot : (es : List (List ℕ × Held)) (q : List ℕ) → get (from_entries {R = slice_cmp nat_cmp} es) q ≡ at es q
get_slot es q = get-from_entries nat_list_cmp_total es q ∙ find_slot es q

-- entries that differ at one slot make maps that differ there
pub one_put : (es fs : List (List ℕ × Held)) (s : List ℕ) (v : Held) → ((q : List ℕ) → at fs q ≡ cond (is_at (slice_cmp nat_cmp s) q) (Some v) (at es q))
    → from_entries {R = slice_cmp nat_cmp} fs ≡ insert (from_entries es) s v
one_put es fs s v h = same_map nat_list_cmp_total (slice_cmp-IsAntisymmetric nat_cmp-IsAntisymmetric) _ _ (λ q.
    get_slot fs q ∙ h q
    ∙ ap (λ b. cond b (Some v) (at es q)) ((eq_by_cmp_equiv nat_list_cmp_total).symm s q)
    ∙ sym (get-insert nat_list_cmp_total (from_entries es) s v q ∙ ap (cond (eq_by_cmp (slice_cmp nat_cmp) q s) (Some v)) (get_slot es q)))

pub one_emptied : (es fs : List (List ℕ × Held)) (s : List ℕ) → ((q : List ℕ) → at fs q ≡ cond (is_at (slice_cmp nat_cmp s) q) None (at es q))
    → from_entries {R = slice_cmp nat_cmp} fs ≡ remove (from_entries es) s
one_emptied es fs s h = same_map nat_list_cmp_total (slice_cmp-IsAntisymmetric nat_cmp-IsAntisymmetric) _ _ (λ q.
    get_slot fs q ∙ h q
    ∙ ap (λ b. cond b None (at es q)) ((eq_by_cmp_equiv nat_list_cmp_total).symm s q)
    ∙ sym (get-remove nat_list_cmp_total (from_entries es) s q ∙ ap (cond (eq_by_cmp (slice_cmp nat_cmp) q s) None) (get_slot es q)))

-- a reference is as what it points at
pub lent_copied : {V : Type 0} (m : Option (Bor V)) → option_map (λ (b : Bor V). b.now) m ≡ option_copied m
lent_copied None = refl
lent_copied (Some b) = refl

-- A slot that is filled and emptied again leaves the map as it was, where it was empty.
pub put_and_emptied : (m : Slots) (k : List ℕ) (h : Held) → get m k ≡ None → remove (insert m k h) k ≡ m
put_and_emptied m k h none = same_map nat_list_cmp_total (slice_cmp-IsAntisymmetric nat_cmp-IsAntisymmetric) _ _ (λ q.
    get-remove nat_list_cmp_total (insert m k h) k q
    ∙ ap (cond (eq_by_cmp (slice_cmp nat_cmp) q k) None) (get-insert nat_list_cmp_total m k h q)
    ∙ by q (eq_by_cmp (slice_cmp nat_cmp) q k) refl)
  where
    by : (q : List ℕ) (b : Bool) → eq_by_cmp (slice_cmp nat_cmp) q k ≡ b → cond b None (cond b (Some h) (get m q)) ≡ get m q
    by q true same = sym (ap (get m) ((bytes_eq-Decides q k).0 (sym (is_eq-slice_cmp q k) ∙ same)) ∙ none)
    by q false other = refl
