-- Numbered names that are taken one after the other, each at its first place alone, are the numbered names by first appearance.
use Rattle.std.proofs.Common.{◌≡◌, ℕ, Bool, true, false, not, ◌||◌, List, [], ◌∷◌, ◌++◌, map, filter, refl, sym, ap, ◌∙◌, append_assoc}
use Rattle.std.specs.Prelude.{All, flat_map, if◌then◌else◌}
use Rattle.std.specs.List.{list_any}
use Rattle.std.proofs.lemmas.List.{append-nil, map-append}
use Rattle.std.proofs.lemmas.List.Concat.{flat_map-append}
use Rattle.std.proofs.lemmas.List.Elements.{All-append, All-cons, All-filter, All-head, All-nil, All-tail, filter-append}
use Rattle.std.proofs.lemmas.List.Sums.{fold-append}
use Rattle.std.proofs.lemmas.Map.Views.{any-filter_same}
use Rattle.client_registry.specs.Run.{Run, Offsets}
use Rattle.client_registry.specs.Sized.{run_words}
use Rattle.leakage_values.proofs.OwnNames.{is_own, own_names, same_numbers-numbered}
use Rattle.leakage_values.specs.NamesOnce.{same_numbers, with_name, with_names}
use Rattle.leakage_values.specs.Numbered.{numbered}
use Rattle.leakage_names.specs.declared.name.Name as values
use Rattle.def_comparison.specs.UsedNames.{first_names, names}
use Rattle.sse_model.proofs.SameName.{same_name-Decides}
use Rattle.sse_model.specs.Drawn.{drawn, probed}
use Rattle.sse_model.specs.Names.{Name, same_name}

-- By first appearance.

-- one name more
first_names-push : (ns : List Name) (n : Name) → first_names (ns ++ n ∷ []) ≡ first_names ns ++ (if list_any (λ m. same_name m n) ns then [] else n ∷ [])
first_names-push [] n = refl
first_names-push (m ∷ ns) n =
    ap (λ rest. m ∷ rest)
    (ap (filter is_other) (first_names-push ns n)
    ∙ filter-append is_other (first_names ns) (if list_any (λ k. same_name k n) ns then [] else n ∷ [])
    ∙ ap (λ more. filter is_other (first_names ns) ++ more) (by (same_name m n) (list_any (λ k. same_name k n) ns) refl))
  where
    is_other : Name → Bool
    is_other k = not (same_name m k)

    by : (b c : Bool) → same_name m n ≡ b → filter is_other (if c then [] else n ∷ []) ≡ (if b || c then [] else n ∷ [])
    by true true is = refl
    by true false is = ap (λ b. if not b then n ∷ [] else []) is
    by false true is = refl
    by false false is = ap (λ b. if not b then n ∷ [] else []) is

-- they are the same names
among-first_names : (n : Name) (ns : List Name) → list_any (λ m. same_name m n) (first_names ns) ≡ list_any (λ m. same_name m n) ns
among-first_names n [] = refl
among-first_names n (m ∷ ns) = by (same_name m n) refl (among-first_names n ns)
  where
    by : (b : Bool) → same_name m n ≡ b → list_any (λ k. same_name k n) (first_names ns) ≡ list_any (λ k. same_name k n) ns
        → (b || list_any (λ k. same_name k n) (filter (λ k. not (same_name m k)) (first_names ns))) ≡ (b || list_any (λ k. same_name k n) ns)
    by true is rest = refl
    by false is rest = any-filter_same (λ k. same_name k n) (λ k. not (same_name m k)) true other (first_names ns) ∙ rest
      where
        other : (k : Name) → same_name k n ≡ true → not (same_name m k) ≡ true
        other k same = ap not (ap (same_name m) ((same_name-Decides k n).0 same) ∙ is)

All-first_names : (P : Name → Type 0) (ns : List Name) → All P ns → All P (first_names ns)
All-first_names P [] all = all
All-first_names P (n ∷ ns) all =
    All-cons P n (filter (λ k. not (same_name n k)) (first_names ns)) (All-head P n ns all)
    (All-filter (λ k. not (same_name n k)) P (first_names ns) (All-first_names P ns (All-tail P n ns all)))

-- Numbered.

module _ (words : List (List ℕ)) where
  abbrev own : Name → Type 0
  own n = is_own words n ≡ true

  among-numbered : (n : Name) → own n → (ns : List Name) → All own ns → list_any (same_numbers (numbered words n)) (map (numbered words) ns) ≡ list_any (λ m. same_name m n) ns
  among-numbered n one [] all = refl
  among-numbered n one (m ∷ ns) all = λ i. same_numbers-numbered words n m one (All-head own m ns all) i || among-numbered n one ns (All-tail own m ns all) i

  -- one name more of a history's
  numbered-push : (ns : List Name) (n : Name) → All own ns → own n → with_name (map (numbered words) (first_names ns)) (numbered words n) ≡ map (numbered words) (first_names (ns ++ n ∷ []))
  numbered-push ns n all one =
      ap (λ b. if b then map (numbered words) (first_names ns) else map (numbered words) (first_names ns) ++ numbered words n ∷ [])
      (among-numbered n one (first_names ns) (All-first_names own ns all) ∙ among-first_names n ns)
      ∙ by (list_any (λ m. same_name m n) ns)
      ∙ ap (map (numbered words)) (sym (first_names-push ns n))
    where
      by : (b : Bool) → (if b then map (numbered words) (first_names ns) else map (numbered words) (first_names ns) ++ numbered words n ∷ []) ≡ map (numbered words) (first_names ns ++ (if b then [] else n ∷ []))
      by true = ap (map (numbered words)) (sym (append-nil (first_names ns)))
      by false = sym (map-append (numbered words) (first_names ns) (n ∷ []))

  -- and all of them
  numbered-names : (front rest : List Name) → All own front → All own rest → with_names (map (numbered words) (first_names front)) (map (numbered words) rest) ≡ map (numbered words) (first_names (front ++ rest))
  numbered-names front [] all more = ap (λ ns. map (numbered words) (first_names ns)) (sym (append-nil front))
  numbered-names front (n ∷ rest) all more =
      ap (λ ns. with_names ns (map (numbered words) rest)) (numbered-push front n all (All-head own n rest more))
      ∙ numbered-names (front ++ n ∷ []) rest (All-append own front (n ∷ []) all (All-cons own n [] (All-head own n rest more) (All-nil own))) (All-tail own n rest more)
      ∙ ap (λ ns. map (numbered words) (first_names ns)) (append_assoc front (n ∷ []) rest)

pub flat-numbered : {X Y : Type 0} (f : X → Y) (lists : List (List X)) → flat_map (λ ns. ns) (map (map f) lists) ≡ map f (flat_map (λ ns. ns) lists)
flat-numbered f [] = refl
flat-numbered f (list ∷ lists) = ap (λ rest. map f list ++ rest) (flat-numbered f lists) ∙ sym (map-append f list (flat_map (λ ns. ns) lists))

-- all that a history draws, then all that is looked up for it
pub names-numbered : (o : Offsets) (run : Run) (d p : List (List values.Name)) (none drawing all : List values.Name) → none ≡ []
    → d ≡ map (map (numbered (run_words run))) (drawn o run) → p ≡ map (map (numbered (run_words run))) (probed o run)
    → drawing ≡ with_names none (flat_map (λ ns. ns) d) → all ≡ with_names drawing (flat_map (λ ns. ns) p)
    → all ≡ map (numbered (run_words run)) (names o run)
names-numbered o run d p none drawing all empty drew looked one other =
    other
    ∙ (λ i. with_names (one i) (flat_map (λ ns. ns) p))
    ∙ (λ i. with_names (with_names (empty i) (flat_map (λ ns. ns) (drew i))) (flat_map (λ ns. ns) (looked i)))
    ∙ sym (fold-append with_name [] (flat_map (λ ns. ns) (map (map f) (drawn o run))) (flat_map (λ ns. ns) (map (map f) (probed o run))))
    ∙ ap (with_names [])
    ((λ i. flat-numbered f (drawn o run) i ++ flat-numbered f (probed o run) i)
    ∙ sym (map-append f (flat_map (λ ns. ns) (drawn o run)) (flat_map (λ ns. ns) (probed o run)))
    ∙ ap (map f) (sym (flat_map-append (λ ns. ns) (drawn o run) (probed o run))))
    ∙ numbered-names (run_words run) [] (flat_map (λ ns. ns) (drawn o run ++ probed o run)) (All-nil (λ n. is_own (run_words run) n ≡ true)) (own_names o run)
  where
    f : Name → values.Name
    f = numbered (run_words run)
