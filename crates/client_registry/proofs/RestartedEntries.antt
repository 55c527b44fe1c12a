-- Entries of a registry that are restarted one after another.
use Rattle.std.proofs.Common.{◌≡◌, ℕ, zero, suc, List, [], ◌∷◌, length, map, take, Some, refl, sym, ap, ◌∙◌, arith}
use Rattle.std.specs.List.{slice_get}
use Rattle.indexmap.specs.IndexMap.{set_value_at}
use Rattle.client_registry.specs.Registered.{Kept}
use Rattle.client_registry.specs.RegistryView.{kept_entry}
use Rattle.client_registry.specs.Restarted.{kept_restarted}
use Rattle.client_registry.specs.declared.doc_id.DocId.{DocId}
use Rattle.client_registry.specs.declared.listed.Listed.{Listed}

-- the first n of these, restarted
abbrev pub restarted_to : ℕ → List Kept → List Kept
restarted_to zero ks = ks
restarted_to (suc n) [] = []
restarted_to (suc n) (k ∷ ks) = kept_restarted k ∷ restarted_to n ks

pub restarted_all : (n : ℕ) (ks : List Kept) → length ks ≡ n → restarted_to n ks ≡ map kept_restarted ks
restarted_all zero [] e = refl
restarted_all zero (k ∷ ks) e = absurd (omega (arith, e))
restarted_all (suc n) [] e = refl
restarted_all (suc n) (k ∷ ks) e = ap (λ rest. kept_restarted k ∷ rest) (restarted_all n ks (omega (arith, e)))

heads : {A : Type 0} (x y : A) (xs ys : List A) → x ∷ xs ≡ y ∷ ys → x ≡ y
heads x y xs ys e = cc

tails : {A : Type 0} (x y : A) (xs ys : List A) → x ∷ xs ≡ y ∷ ys → xs ≡ ys
tails x y xs ys e = cc

pub length-set : {K X : Type 0} (es : List (K × X)) (i : ℕ) (w : X) → length (set_value_at es i w) ≡ length es
length-set [] i w = refl
length-set (e ∷ es) zero w = refl
length-set (e ∷ es) (suc i) w = ap (λ n. suc n) (length-set es i w)

-- one more
pub restarted-set : (es : List (DocId × Listed)) (ks : List Kept) (i : ℕ) (old new : Listed) → map kept_entry es ≡ restarted_to i ks → Some old ≡ slice_get (map (λ e. e.1) es) i
    → new.live ≡ old.live → new.numbers.items ≡ take (Rattle.std.specs.Prelude.unwrap_or old.live 0) old.numbers.items → map kept_entry (set_value_at es i new) ≡ restarted_to (suc i) ks
restarted-set [] ks i old new had there live numbers = absurd (cc)
restarted-set (e ∷ es) ks zero old new had there live numbers =
    (λ j. here j ∷ map kept_entry es) ∙ ap (restarted_to 1) had
  where
    same : e.1 ≡ old
    same = let s : Some old ≡ Some e.1 = there in sym (by e.1 old s)
      where
        by : (a b : Listed) → Some b ≡ Some a → b ≡ a
        by a b s = cc

    here : kept_entry (e.0, new) ≡ kept_restarted (kept_entry e)
    here = λ j. record {
      id = (kept_entry e).id;
      numbers = (numbers ∙ ap (λ (l : Listed). take (Rattle.std.specs.Prelude.unwrap_or l.live 0) l.numbers.items) (sym same)) j;
      live = (live ∙ ap (λ (l : Listed). l.live) (sym same)) j;
    }
restarted-set (e ∷ es) [] (suc i) old new had there live numbers = absurd (cc)
restarted-set (e ∷ es) (k ∷ ks) (suc i) old new had there live numbers =
    λ j. heads (kept_entry e) (kept_restarted k) (map kept_entry es) (restarted_to i ks) had j
    ∷ restarted-set es ks i old new (tails (kept_entry e) (kept_restarted k) (map kept_entry es) (restarted_to i ks) had) there live numbers j
