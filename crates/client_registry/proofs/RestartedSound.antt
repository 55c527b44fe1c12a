-- A registry that is restarted keeps what a registry keeps.
use Rattle.std.proofs.Common.{◌≡◌, ℕ, zero, suc, ◌<◌, ◌≤◌, List, [], ◌∷◌, length, map, take, drop, Option, Some, refl, sym, ap, subst, ◌∙◌, arith, rules}
use Rattle.std.specs.Prelude.{All, unwrap_or, bytes_eq}
use Rattle.std.specs.List.{IsDistinct}
use Rattle.std.specs.List.Sorted.{IsNonDecreasing}
use Rattle.std.proofs.lemmas.List.{length-map}
use Rattle.std.proofs.lemmas.List.Elements.{All-nil, All-cons, All-head, All-tail, All-take}
use Rattle.client_registry.specs.DocumentRule.{IsDocument}
use Rattle.client_registry.specs.Numbered.{words_by_number}
use Rattle.client_registry.specs.Registered.{Kept}
use Rattle.client_registry.specs.RegistryView.{kept_entry, IsKept, IsSound}
use Rattle.client_registry.specs.Restarted.{kept_restarted}
use Rattle.client_registry.specs.Tally.{counts_of}
use Rattle.client_registry.specs.WordBytes.{word_bytes}
use Rattle.client_registry.specs.WordTable.{table_words}
use Rattle.client_registry.specs.declared.registry.Registry.TheInside.{Inside}
use Rattle.client_registry.specs.declared.word.Word.{Word}
use Rattle.client_registry.proofs.BoundLaws.{bound-zeros}
use Rattle.indexmap.specs.IndexMap.{hasher_of}

take-again : (n : ℕ) (xs : List ℕ) → take n (take n xs) ≡ take n xs
take-again zero xs = refl
take-again (suc n) [] = refl
take-again (suc n) (x ∷ xs) = ap (λ rest. x ∷ rest) (take-again n xs)

none_left : (n : ℕ) (xs : List ℕ) → drop n (take n xs) ≡ []
none_left zero xs = refl
none_left (suc n) [] = refl
none_left (suc n) (x ∷ xs) = none_left n xs

long : (n : ℕ) (xs : List ℕ) → n ≤ length xs → n ≤ length (take n xs)
long zero xs le = omega arith
long (suc n) [] le = absurd (omega (arith, le))
long (suc n) (x ∷ xs) le = omega (arith, long n xs (omega (arith, le)))

kept_sound_restarted : (words : List (List ℕ)) (k : Kept) → IsKept words k → IsKept words (kept_restarted k)
kept_sound_restarted words k had = record {
  numbered = All-take (λ n. n < length words) (unwrap_or k.live 0) k.numbers had.numbered;
  within = long (unwrap_or k.live 0) k.numbers had.within;
  in_order = subst IsNonDecreasing (sym (none_left (unwrap_or k.live 0) k.numbers)) (by_nothing);
  valid = λ n live. subst (λ numbers. IsDocument (record { id = k.id; words = words_by_number words numbers })) (sym (same n live)) (had.valid n live);
}
  where
    by_nothing : IsNonDecreasing []
    by_nothing = search rules

    same : (n : ℕ) → k.live ≡ Some n → take n (take (unwrap_or k.live 0) k.numbers) ≡ take n k.numbers
    same n live = ap (λ (l : Option ℕ). take n (take (unwrap_or l 0) k.numbers)) live ∙ take-again n k.numbers

-- what holds of each of mapped values
all_mapped : {A B : Type 0} (P : B → Type 0) (f : A → B) (xs : List A) → All (λ x. P (f x)) xs → All P (map f xs)
all_mapped P f [] all = All-nil P
all_mapped P f (x ∷ xs) all = All-cons P (f x) (map f xs) (All-head (λ y. P (f y)) x xs all) (all_mapped P f xs (All-tail (λ y. P (f y)) x xs all))

all_of_mapped : {A B : Type 0} (P : B → Type 0) (f : A → B) (xs : List A) → All P (map f xs) → All (λ x. P (f x)) xs
all_of_mapped P f [] all = All-nil (λ x. P (f x))
all_of_mapped P f (x ∷ xs) all = All-cons (λ y. P (f y)) x xs (All-head P (f x) (map f xs) all) (all_of_mapped P f xs (All-tail P (f x) (map f xs) all))

all_restarted : (words : List (List ℕ)) (ks : List Kept) → All (IsKept words) ks → All (IsKept words) (map kept_restarted ks)
all_restarted words [] all = All-nil (IsKept words)
all_restarted words (k ∷ ks) all =
    All-cons (IsKept words) (kept_restarted k) (map kept_restarted ks) (kept_sound_restarted words k (All-head (IsKept words) k ks all)) (all_restarted words ks (All-tail (IsKept words) k ks all))

pub sound_restarted : (old new : Inside) → IsSound old → table_words new.words.entries ≡ table_words old.words.entries
    → map kept_entry new.documents.entries ≡ map kept_restarted (map kept_entry old.documents.entries) → new.next.items ≡ [] → new.again.items ≡ [] → hasher_of new.documents ≡ hasher_of new.words
    → All (λ e. e.1 ≡ 0) new.words.entries → IsSound new
sound_restarted old new had words kept next again hashers zeros = record {
  words_differ = subst (IsDistinct bytes_eq) (sym words) had.words_differ;
  kept =
      all_of_mapped (IsKept (table_words new.words.entries)) kept_entry new.documents.entries
      (subst (λ ws. All (IsKept ws) (map kept_entry new.documents.entries)) (sym words)
      (subst (All (IsKept (table_words old.words.entries))) (sym kept)
      (all_restarted (table_words old.words.entries) (map kept_entry old.documents.entries) (all_mapped (IsKept (table_words old.words.entries)) kept_entry old.documents.entries had.kept))));
  few = omega (arith, had.few, ap length words, length-map new.words.entries (λ (e : Word × ℕ). word_bytes e.0), length-map old.words.entries (λ (e : Word × ℕ). word_bytes e.0));
  next = next;
  again = again;
  hashers = hashers;
  bound = λ free. bound-zeros new.words.entries new.most zeros;
}

-- all counts are 0
pub counts_restarted : (old new : List (Word × ℕ)) → table_words new ≡ table_words old → All (λ e. e.1 ≡ 0) new → counts_of new ≡ map (λ e. (e.0, 0)) (counts_of old)
counts_restarted [] [] words zeros = refl
counts_restarted [] (e ∷ es) words zeros = absurd (cc)
counts_restarted (e ∷ es) [] words zeros = absurd (cc)
counts_restarted (e ∷ es) (x ∷ xs) words zeros =
    let first = heads (word_bytes x.0) (word_bytes e.0) (table_words xs) (table_words es) words in
    let zero_here : x.1 ≡ 0 = All-head (λ (y : Word × ℕ). y.1 ≡ 0) x xs zeros in
    λ i. (first i, zero_here i) ∷ counts_restarted es xs (tails (word_bytes x.0) (word_bytes e.0) (table_words xs) (table_words es) words) (All-tail (λ (y : Word × ℕ). y.1 ≡ 0) x xs zeros) i
  where
    heads : {A : Type 0} (x y : A) (xs ys : List A) → x ∷ xs ≡ y ∷ ys → x ≡ y
    heads x y xs ys e = cc

    tails : {A : Type 0} (x y : A) (xs ys : List A) → x ∷ xs ≡ y ∷ ys → xs ≡ ys
    tails x y xs ys e = cc
