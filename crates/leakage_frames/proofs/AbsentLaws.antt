-- Of what is something made: draws, numbers and tokens that are there, by what is kept of the commands before or by their items and draws.
use Rattle.std.proofs.Common.{◌≡◌, ℕ, zero, suc, ◌+◌, ◌-◌, ◌<◌, Bool, false, ◌&&◌, List, [], ◌∷◌, ◌++◌, length, map, take, drop, Option, Some, None, refl, sym, ap, ◌∙◌, arith}
use Rattle.std.specs.Prelude.{option_map, is_some}
use Rattle.std.specs.List.{slice_get}
use Rattle.std.specs.Option.{option_and_then}
use Rattle.std.proofs.lemmas.Option.{slice_get-map}
use Rattle.sse_simulator.specs.Leaks.{Sent, NewEntry, Fresh, Again, WordLeak, Leak, Draw}
use Rattle.sse_simulator.specs.Simulator.{Kept, before, first_of, as_number, kept_of, numbers_drawn}
use Rattle.leakage_frames.proofs.Gathered.{first_of-step}
use Rattle.leakage_frames.specs.MadeFrames.{draws_behind, draws_left, kept_each, number_drawn}

-- One in front of others.

pub is_some-before : {A : Type 0} (o : Option A) (os : Option (List A)) → is_some (before o os) ≡ is_some o && is_some os
is_some-before None os = refl
is_some-before (Some x) None = refl
is_some-before (Some x) (Some xs) = refl

-- The first draws of a kind.

-- one that isn't there or is of another kind
pub first_lacks : {A : Type 0} (kind : Draw → Option A) (count i : ℕ) (draws : List Draw) (all : Bool) → i < count
    → option_and_then kind (slice_get draws i) ≡ None → is_some (first_of kind (count - i) (drop i draws)) ≡ all → false ≡ all
first_lacks kind count i draws all within at is =
    ap (λ o. is_some (before o (first_of kind (count - (i + 1)) (drop (i + 1) draws)))) (sym at)
    ∙ ap is_some (sym (first_of-step kind count i draws within))
    ∙ is

-- one that is there
pub first_goes : {A : Type 0} (kind : Draw → Option A) (count i : ℕ) (draws : List Draw) (x : A) (all : Bool) → i < count
    → option_and_then kind (slice_get draws i) ≡ Some x → is_some (first_of kind (count - i) (drop i draws)) ≡ all
    → is_some (first_of kind (count - (i + 1)) (drop (i + 1) draws)) ≡ all
first_goes kind count i draws x all within at is =
    let rest = first_of kind (count - (i + 1)) (drop (i + 1) draws) in
    sym (is_some-before (Some x) rest)
    ∙ ap (λ o. is_some (before o rest)) (sym at)
    ∙ ap is_some (sym (first_of-step kind count i draws within))
    ∙ is

-- What was kept, by items and draws.

pub kept_each-at : (leaks : List Leak) (drawn : List (List Draw)) (k : ℕ)
    → slice_get (kept_each leaks drawn) k ≡ option_and_then (λ leak. option_map (kept_of leak) (slice_get drawn k)) (slice_get leaks k)
kept_each-at [] drawn zero = refl
kept_each-at [] drawn (suc k) = refl
kept_each-at (leak ∷ leaks) [] zero = refl
kept_each-at (leak ∷ leaks) [] (suc k) = none_after leaks k
  where
    none_after : (ls : List Leak) (n : ℕ) → None ≡ option_and_then (λ l. option_map (kept_of l) None) (slice_get ls n)
    none_after [] zero = refl
    none_after [] (suc n) = refl
    none_after (l ∷ ls) zero = refl
    none_after (l ∷ ls) (suc n) = none_after ls n
kept_each-at (leak ∷ leaks) (draws ∷ drawn) zero = refl
kept_each-at (leak ∷ leaks) (draws ∷ drawn) (suc k) = kept_each-at leaks drawn k

-- of a command that is there
pub kept_there : (leaks : List Leak) (drawn : List (List Draw)) (k : ℕ) (leak : Leak) (draws : List Draw) → slice_get leaks k ≡ Some leak → slice_get drawn k ≡ Some draws
    → slice_get (kept_each leaks drawn) k ≡ Some (kept_of leak draws)
kept_there leaks drawn k leak draws at own =
    kept_each-at leaks drawn k
    ∙ ap (option_and_then (λ l. option_map (kept_of l) (slice_get drawn k))) at
    ∙ ap (option_map (kept_of leak)) own

-- of one that isn't, or that has no draws
pub kept_past : (leaks : List Leak) (drawn : List (List Draw)) (k : ℕ) → slice_get leaks k ≡ None → slice_get (kept_each leaks drawn) k ≡ None
kept_past leaks drawn k at = kept_each-at leaks drawn k ∙ ap (option_and_then (λ l. option_map (kept_of l) (slice_get drawn k))) at

pub kept_undrawn : (leaks : List Leak) (drawn : List (List Draw)) (k : ℕ) → slice_get drawn k ≡ None → slice_get (kept_each leaks drawn) k ≡ None
kept_undrawn leaks drawn k own =
    kept_each-at leaks drawn k ∙ ap (λ o. option_and_then (λ l. option_map (kept_of l) o) (slice_get leaks k)) own ∙ none (slice_get leaks k)
  where
    none : (o : Option Leak) → option_and_then (λ l. option_map (kept_of l) None) o ≡ None
    none None = refl
    none (Some l) = refl

-- what is looked up among views
pub viewed_at : {A B : Type 0} (view : A → B) (xs : List A) (k : ℕ) (x : A) → slice_get xs k ≡ Some x → slice_get (map view xs) k ≡ Some (view x)
viewed_at view xs k x at = slice_get-map view xs k ∙ ap (option_map view) at

pub viewed_past : {A B : Type 0} (view : A → B) (xs : List A) (k : ℕ) → slice_get xs k ≡ None → slice_get (map view xs) k ≡ None
viewed_past view xs k at = slice_get-map view xs k ∙ ap (option_map view) at

pub kept_each-push : (leaks : List Leak) (drawn : List (List Draw)) (leak : Leak) (draws : List Draw) → length leaks ≡ length drawn
    → kept_each (leaks ++ leak ∷ []) (drawn ++ draws ∷ []) ≡ kept_each leaks drawn ++ kept_of leak draws ∷ []
kept_each-push [] [] leak draws same = refl
kept_each-push [] (d ∷ ds) leak draws same = absurd (omega (arith, same))
kept_each-push (l ∷ ls) [] leak draws same = absurd (omega (arith, same))
kept_each-push (l ∷ ls) (d ∷ ds) leak draws same = ap (λ (rest : List Kept). kept_of l d ∷ rest) (kept_each-push ls ds leak draws (omega (arith, same)))

-- the numbers that a deletion draws: that of its first word, and the others
numbers_drawn-more : (sent : Sent) (words : List WordLeak) (draws : List Draw)
    → elim sent [
      | NewEntry ↦ None ∷ numbers_drawn words draws
      | Fresh ↦ option_and_then as_number (slice_get draws 0) ∷ numbers_drawn words (drop 1 draws)
      | Again origin ↦ None ∷ numbers_drawn words draws
    ] ≡ (elim sent [ NewEntry ↦ None | Fresh ↦ option_and_then as_number (slice_get draws 0) | Again origin ↦ None ])
    ∷ numbers_drawn words (elim sent [ NewEntry ↦ draws | Fresh ↦ drop 1 draws | Again origin ↦ draws ])
numbers_drawn-more NewEntry words draws = refl
numbers_drawn-more Fresh words draws = refl
numbers_drawn-more (Again origin) words draws = refl

-- the number at a place
pub numbers_drawn-at : (words : List WordLeak) (draws : List Draw) (k : ℕ)
    → slice_get (numbers_drawn words draws) k ≡ option_map (λ word. number_drawn word (draws_left (take k words) draws)) (slice_get words k)
numbers_drawn-at [] draws zero = refl
numbers_drawn-at [] draws (suc k) = refl
numbers_drawn-at (word ∷ words) draws zero = ap (λ numbers. slice_get numbers 0) (numbers_drawn-more word.sent words draws)
numbers_drawn-at (word ∷ words) draws (suc k) =
    ap (λ numbers. slice_get numbers (suc k)) (numbers_drawn-more word.sent words draws) ∙ numbers_drawn-at words (draws_behind word draws) k

pub number-drawn : (words : List WordLeak) (draws : List Draw) (k : ℕ) (word : WordLeak) → slice_get words k ≡ Some word
    → option_and_then (λ number. number) (slice_get (numbers_drawn words draws) k) ≡ number_drawn word (draws_left (take k words) draws)
number-drawn words draws k word at =
    ap (option_and_then (λ number. number)) (numbers_drawn-at words draws k ∙ ap (option_map (λ w. number_drawn w (draws_left (take k words) draws))) at)

pub number-past : (words : List WordLeak) (draws : List Draw) (k : ℕ) → slice_get words k ≡ None
    → option_and_then (λ number. number) (slice_get (numbers_drawn words draws) k) ≡ None
number-past words draws k at =
    ap (option_and_then (λ number. number)) (numbers_drawn-at words draws k ∙ ap (option_map (λ w. number_drawn w (draws_left (take k words) draws))) at)
