-- What counting one word more does to the counts, and what the counts of all words are.
use Rattle.std.proofs.Common.{◌≡◌, ℕ, suc, ◌+◌, ◌≤◌, Bool, true, false, cond, List, [], ◌∷◌, ◌++◌, length, map, None, Some, refl, sym, ap, subst, arith, add-zero}
use Rattle.std.specs.Prelude.{All, fold, if◌then◌else◌}
use Rattle.std.specs.Map.{lookup}
use Rattle.std.specs.Str.{bytes_eq}
use Rattle.indexmap.specs.IndexMap.{insert_entry}
use Rattle.std.proofs.lemmas.List.Elements.{All-head, All-tail, All-cons, All-nil, All-weaker}
use Rattle.client_registry.specs.Tally.{counted_up, tally}

Counts : Type 0
Counts = List (List ℕ × ℕ)

module _ {K : Type 0} (bytes : K → List ℕ) where
  abbrev counts : List (K × ℕ) → List (List ℕ × ℕ)
  counts es = map (λ e. (bytes e.0, e.1)) es

  -- a word is looked up by its bytes
  pub lookup-counts : (bs : List ℕ) (es : List (K × ℕ)) → lookup (λ k. bytes_eq bs (bytes k)) es ≡ lookup (bytes_eq bs) (counts es)
  lookup-counts bs [] = refl
  lookup-counts bs (e ∷ es) = ap (λ o. cond (bytes_eq bs (bytes e.0)) (Some e.1) o) (lookup-counts bs es)

  -- a word that isn't there goes last, with the count 1
  pub insert_entry-counts : (k : K) (es : List (K × ℕ)) → lookup (bytes_eq (bytes k)) (counts es) ≡ None → counts (insert_entry (λ a b. bytes_eq (bytes a) (bytes b)) es k 1) ≡ counted_up (counts es) (bytes k)
  insert_entry-counts k [] at = refl
  insert_entry-counts k (e ∷ es) at =
      by (bytes_eq (bytes k) (bytes e.0)) at (λ h. insert_entry-counts k es h)
    where
      by : (b : Bool) → cond b (Some e.1) (lookup (bytes_eq (bytes k)) (counts es)) ≡ None
          → (lookup (bytes_eq (bytes k)) (counts es) ≡ None → counts (insert_entry (λ a b. bytes_eq (bytes a) (bytes b)) es k 1) ≡ counted_up (counts es) (bytes k))
          → counts (if b then (e.0, 1) ∷ es else e ∷ insert_entry (λ a b. bytes_eq (bytes a) (bytes b)) es k 1)
          ≡ (if b then (bytes e.0, e.1 + 1) ∷ counts es else (bytes e.0, e.1) ∷ counted_up (counts es) (bytes k))
      by true h rest = absurd (cc)
      by false h rest = ap (λ r. (bytes e.0, e.1) ∷ r) (rest h)

-- what is so of each count is so of the one that is found
pub lookup-All : {K : Type 0} (test : K → Bool) (P : ℕ → Type 0) (es : List (K × ℕ)) (n : ℕ) → All (λ e. P e.1) es → lookup test es ≡ Some n → P n
lookup-All test P [] n all at = absurd (cc)
lookup-All test P (e ∷ es) n all at = by (test e.0) at (λ h. lookup-All test P es n (All-tail (λ e. P e.1) e es all) h)
  where
    by : (b : Bool) → cond b (Some e.1) (lookup test es) ≡ Some n → (lookup test es ≡ Some n → P n) → P n
    by true h rest = let same : e.1 ≡ n = cc in subst P same (All-head (λ e. P e.1) e es all)
    by false h rest = rest h

-- what is so of one more, of the same, and of a first count, is so of each count
pub counted_up-All : (P Q : ℕ → Type 0) → ((n : ℕ) → P n → Q (n + 1)) → ((n : ℕ) → P n → Q n) → Q 1 → (es : List (List ℕ × ℕ)) (w : List ℕ) → All (λ e. P e.1) es → All (λ e. Q e.1) (counted_up es w)
counted_up-All P Q up keep new [] w all = All-cons (λ e. Q e.1) (w, 1) [] new (All-nil (λ e. Q e.1))
counted_up-All P Q up keep new (e ∷ es) w all =
    by (bytes_eq w e.0) (counted_up-All P Q up keep new es w (All-tail (λ e. P e.1) e es all))
  where
    here : P e.1
    here = All-head (λ e. P e.1) e es all

    by : (b : Bool) → All (λ e. Q e.1) (counted_up es w) → All (λ e. Q e.1) (if b then (e.0, e.1 + 1) ∷ es else e ∷ counted_up es w)
    by true rest = All-cons (λ e. Q e.1) (e.0, e.1 + 1) es (up e.1 here) (All-weaker (λ e. P e.1) (λ e. Q e.1) (λ e. keep e.1) es (All-tail (λ e. P e.1) e es all))
    by false rest = All-cons (λ e. Q e.1) e (counted_up es w) (keep e.1 here) rest

-- no count is above the number of words
pub fold-counted_up-below : (ws : List (List ℕ)) (es : List (List ℕ × ℕ)) (n : ℕ) → All (λ e. e.1 ≤ n) es → All (λ e. e.1 ≤ n + length ws) (fold counted_up es ws)
fold-counted_up-below [] es n all = subst (λ m. All (λ e. e.1 ≤ m) es) (sym (add-zero n)) all
fold-counted_up-below (w ∷ ws) es n all =
    let e : n + 1 + length ws ≡ n + suc (length ws) = omega arith in
    subst (λ m. All (λ e. e.1 ≤ m) (fold counted_up (counted_up es w) ws)) e (fold-counted_up-below ws (counted_up es w) (n + 1) (counted_up-All (λ m. m ≤ n) (λ m. m ≤ n + 1) (λ m le. omega arith) (λ m le. omega arith) (omega arith) es w all))

pub tally-below : (ws : List (List ℕ)) → All (λ e. e.1 ≤ length ws) (tally ws)
tally-below ws = let e : 0 + length ws ≡ length ws = omega arith in subst (λ m. All (λ e. e.1 ≤ m) (tally ws)) e (fold-counted_up-below ws [] 0 (All-nil (λ e. e.1 ≤ 0)))

-- one word more after the others
pub fold-counted_up-push : (es : List (List ℕ × ℕ)) (ws : List (List ℕ)) (w : List ℕ) → fold counted_up es (ws ++ w ∷ []) ≡ counted_up (fold counted_up es ws) w
fold-counted_up-push es [] w = refl
fold-counted_up-push es (v ∷ ws) w = fold-counted_up-push (counted_up es v) ws w

-- the words of one list behind those of another
pub tally-append : (es : List (List ℕ × ℕ)) (vs ws : List (List ℕ)) → fold counted_up es (vs ++ ws) ≡ fold counted_up (fold counted_up es vs) ws
tally-append es [] ws = refl
tally-append es (v ∷ vs) ws = tally-append (counted_up es v) vs ws

fold-counted_up-some : (ws : List (List ℕ)) (es : List (List ℕ × ℕ)) → All (λ e. 1 ≤ e.1) es → All (λ e. 1 ≤ e.1) (fold counted_up es ws)
fold-counted_up-some [] es all = all
fold-counted_up-some (w ∷ ws) es all =
    fold-counted_up-some ws (counted_up es w) (counted_up-All (λ n. 1 ≤ n) (λ n. 1 ≤ n) (λ n le. omega arith) (λ n le. le) (omega arith) es w all)

-- each word that is counted is counted once at least
pub tally-some : (ws : List (List ℕ)) → All (λ e. 1 ≤ e.1) (tally ws)
tally-some ws = fold-counted_up-some ws [] (All-nil (λ e. 1 ≤ e.1))
