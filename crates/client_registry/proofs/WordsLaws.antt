-- The counts of all words are the words by first appearance, each with how many documents hold it.
use Rattle.std.proofs.Common.{◌≡◌, ℕ, suc, ◌+◌, ◌≤◌, Bool, true, false, cond, not, ◌||◌, ◌&&◌, List, [], ◌∷◌, ◌++◌, length, filter, Option, None, Some, is_some, position, nat_lt, refl, sym, ap, ◌∙◌, subst, arith, append_assoc}
use Rattle.std.specs.Prelude.{All, fold, if◌then◌else◌, unwrap_or, option_map}
use Rattle.std.specs.List.{list_any}
use Rattle.std.specs.Map.{lookup, keys_of}
use Rattle.std.specs.Str.{bytes_eq}
use Rattle.std.specs.Option.{option_or}
use Rattle.std.proofs.lemmas.Bool.{true≢false}
use Rattle.std.proofs.lemmas.Cmp.{nat_list_eq_equiv}
use Rattle.std.proofs.lemmas.List.{append-nil, length-map, length-append}
use Rattle.std.proofs.lemmas.List.Elements.{All-head, All-tail, filter-append}
use Rattle.std.proofs.lemmas.List.Folds.{list_any-append}
use Rattle.client_registry.proofs.FirstClashLaws.{first_clash-push, first_clash-append}
use Rattle.client_registry.proofs.Positions.{is_some-position}
use Rattle.client_registry.specs.Document.{Document}
use Rattle.client_registry.specs.DocumentRule.{first_repeat, doc_refusal, IsDocument}
use Rattle.client_registry.specs.Documents.{all_words, first_seen, has_word, ids_with}
use Rattle.client_registry.specs.FirstClash.{first_clash}
use Rattle.client_registry.specs.Tally.{counted_up, tally}
use Rattle.client_registry.specs.declared.faults.DocFault.TheVariants.{TooManyWords, RepeatedWord}

-- The words, by first appearance.

-- the words after one more is counted
keys-counted_up : (es : List (List ℕ × ℕ)) (w : List ℕ) → keys_of (counted_up es w) ≡ (if list_any (bytes_eq w) (keys_of es) then keys_of es else keys_of es ++ w ∷ [])
keys-counted_up [] w = refl
keys-counted_up (e ∷ es) w = by (bytes_eq w e.0) (list_any (bytes_eq w) (keys_of es)) (keys-counted_up es w)
  where
    by : (b c : Bool) → keys_of (counted_up es w) ≡ (if c then keys_of es else keys_of es ++ w ∷ [])
        → keys_of (if b then (e.0, e.1 + 1) ∷ es else e ∷ counted_up es w) ≡ (if b || c then e.0 ∷ keys_of es else e.0 ∷ keys_of es ++ w ∷ [])
    by true c h = refl
    by false true h = ap (λ ks. e.0 ∷ ks) h
    by false false h = ap (λ ks. e.0 ∷ ks) h

-- two filters in a row are one
filter-filter : {X : Type 0} (p q r : X → Bool) → ((x : X) → r x ≡ (q x && p x)) → (xs : List X) → filter p (filter q xs) ≡ filter r xs
filter-filter p q r same [] = refl
filter-filter p q r same (x ∷ xs) =
    by (q x) refl ∙ ap (λ b. cond b (x ∷ filter p (filter q xs)) (filter p (filter q xs))) (sym (same x)) ∙ ap (λ ys. cond (r x) (x ∷ ys) ys) (filter-filter p q r same xs)
  where
    by : (b : Bool) → q x ≡ b → filter p (cond b (x ∷ filter q xs) (filter q xs)) ≡ cond (b && p x) (x ∷ filter p (filter q xs)) (filter p (filter q xs))
    by true e = refl
    by false e = refl

filter-true : {X : Type 0} (xs : List X) → filter (λ _. true) xs ≡ xs
filter-true [] = refl
filter-true (x ∷ xs) = ap (λ ys. x ∷ ys) (filter-true xs)

-- equal words are found alike
list_any-congr : (v w : List ℕ) (ks : List (List ℕ)) → bytes_eq w v ≡ true → list_any (bytes_eq v) ks ≡ list_any (bytes_eq w) ks
list_any-congr v w [] same = refl
list_any-congr v w (k ∷ ks) same = λ i. sym (nat_list_eq_equiv.congr w v k same) i || list_any-congr v w ks same i

-- the words that stand in none of these
abbrev pub new_to : List (List ℕ) → List (List ℕ) → List (List ℕ)
new_to ks ws = filter (λ v. not (list_any (bytes_eq v) ks)) ws

-- of the words after one that is known, those that differ from it and are new are those that are new
new_to-known : (ks : List (List ℕ)) (w : List ℕ) (ws : List (List ℕ)) → list_any (bytes_eq w) ks ≡ true → new_to ks (w ∷ filter (λ v. not (bytes_eq w v)) ws) ≡ new_to ks ws
new_to-known ks w ws known =
    ap (λ b. cond (not b) (w ∷ rest) rest) known
    ∙ filter-filter (λ v. not (list_any (bytes_eq v) ks)) (λ v. not (bytes_eq w v)) (λ v. not (list_any (bytes_eq v) ks)) (λ v. by v (bytes_eq w v) refl) ws
  where
    rest : List (List ℕ)
    rest = new_to ks (filter (λ v. not (bytes_eq w v)) ws)

    by : (v : List ℕ) (b : Bool) → bytes_eq w v ≡ b → not (list_any (bytes_eq v) ks) ≡ (not b && not (list_any (bytes_eq v) ks))
    by v true e = ap not (list_any-congr v w ks e ∙ known)
    by v false e = refl

-- and after one that is new, they are those that are new to it too
new_to-new : (ks : List (List ℕ)) (w : List ℕ) (ws : List (List ℕ)) → list_any (bytes_eq w) ks ≡ false → new_to ks (w ∷ filter (λ v. not (bytes_eq w v)) ws) ≡ w ∷ new_to (ks ++ w ∷ []) ws
new_to-new ks w ws absent =
    ap (λ b. cond (not b) (w ∷ rest) rest) absent
    ∙ ap (λ r. w ∷ r) (filter-filter (λ v. not (list_any (bytes_eq v) ks)) (λ v. not (bytes_eq w v)) (λ v. not (list_any (bytes_eq v) (ks ++ w ∷ []))) same ws)
  where
    rest : List (List ℕ)
    rest = new_to ks (filter (λ v. not (bytes_eq w v)) ws)

    either : (a b : Bool) → not (a || (b || false)) ≡ (not b && not a)
    either true true = refl
    either true false = refl
    either false true = refl
    either false false = refl

    same : (v : List ℕ) → not (list_any (bytes_eq v) (ks ++ w ∷ [])) ≡ (not (bytes_eq w v) && not (list_any (bytes_eq v) ks))
    same v =
        ap not (list_any-append (bytes_eq v) ks (w ∷ []))
        ∙ either (list_any (bytes_eq v) ks) (bytes_eq v w)
        ∙ ap (λ b. not b && not (list_any (bytes_eq v) ks)) (nat_list_eq_equiv.symm v w)

-- the words counted after others are those that are new to these, by first appearance
pub keys-fold : (ws : List (List ℕ)) (es : List (List ℕ × ℕ)) → keys_of (fold counted_up es ws) ≡ keys_of es ++ new_to (keys_of es) (first_seen ws)
keys-fold [] es = sym (append-nil (keys_of es))
keys-fold (w ∷ ws) es = by (list_any (bytes_eq w) (keys_of es)) refl (keys-fold ws (counted_up es w)) (keys-counted_up es w)
  where
    by : (b : Bool) → list_any (bytes_eq w) (keys_of es) ≡ b
        → keys_of (fold counted_up (counted_up es w) ws) ≡ keys_of (counted_up es w) ++ new_to (keys_of (counted_up es w)) (first_seen ws)
        → keys_of (counted_up es w) ≡ (if list_any (bytes_eq w) (keys_of es) then keys_of es else keys_of es ++ w ∷ [])
        → keys_of (fold counted_up (counted_up es w) ws) ≡ keys_of es ++ new_to (keys_of es) (w ∷ filter (λ v. not (bytes_eq w v)) (first_seen ws))
    by true known all keys =
        all
        ∙ ap (λ ks. ks ++ new_to ks (first_seen ws)) (keys ∙ ap (λ b. if b then keys_of es else keys_of es ++ w ∷ []) known)
        ∙ ap (λ r. keys_of es ++ r) (sym (new_to-known (keys_of es) w (first_seen ws) known))
    by false absent all keys =
        all
        ∙ ap (λ ks. ks ++ new_to ks (first_seen ws)) (keys ∙ ap (λ b. if b then keys_of es else keys_of es ++ w ∷ []) absent)
        ∙ append_assoc (keys_of es) (w ∷ []) (new_to (keys_of es ++ w ∷ []) (first_seen ws))
        ∙ ap (λ r. keys_of es ++ r) (sym (new_to-new (keys_of es) w (first_seen ws) absent))

-- the words that are counted are those by first appearance
pub keys-tally : (ws : List (List ℕ)) → keys_of (tally ws) ≡ first_seen ws
keys-tally ws = keys-fold ws [] ∙ filter-true (first_seen ws)

length-filter : {X : Type 0} (p : X → Bool) (xs : List X) → length (filter p xs) ≤ length xs
length-filter p [] = omega arith
length-filter p (x ∷ xs) = by (p x) (length-filter p xs)
  where
    by : (b : Bool) → length (filter p xs) ≤ length xs → length (cond b (x ∷ filter p xs) (filter p xs)) ≤ suc (length xs)
    by true h = omega arith
    by false h = omega arith

-- there are no more different words than words
pub length-first_seen : (ws : List (List ℕ)) → length (first_seen ws) ≤ length ws
length-first_seen [] = omega arith
length-first_seen (w ∷ ws) = omega (arith, length-filter (λ v. not (bytes_eq w v)) (first_seen ws), length-first_seen ws)

-- The counts.

-- how often the word is counted
abbrev pub count_at : List (List ℕ × ℕ) → List ℕ → ℕ
count_at es v = unwrap_or (lookup (bytes_eq v) es) 0

count_at-counted_up : (es : List (List ℕ × ℕ)) (w v : List ℕ) → count_at (counted_up es w) v ≡ count_at es v + cond (bytes_eq v w) 1 0
count_at-counted_up [] w v = by (bytes_eq v w)
  where
    by : (b : Bool) → unwrap_or (cond b (Some 1) None) 0 ≡ 0 + cond b 1 0
    by true = refl
    by false = refl
count_at-counted_up (e ∷ es) w v = by (bytes_eq w e.0) (bytes_eq v e.0) (bytes_eq v w) refl refl refl (count_at-counted_up es w v)
  where
    by : (we ve vw : Bool) → bytes_eq w e.0 ≡ we → bytes_eq v e.0 ≡ ve → bytes_eq v w ≡ vw
        → count_at (counted_up es w) v ≡ count_at es v + cond (bytes_eq v w) 1 0
        → count_at (if we then (e.0, e.1 + 1) ∷ es else e ∷ counted_up es w) v ≡ unwrap_or (cond ve (Some e.1) (lookup (bytes_eq v) es)) 0 + cond vw 1 0
    by true true true a b c h = ap (λ x. unwrap_or (cond x (Some (e.1 + 1)) (lookup (bytes_eq v) es)) 0) b
    by true true false a b c h = absurd (true≢false (sym (nat_list_eq_equiv.congr v e.0 w b ∙ nat_list_eq_equiv.symm e.0 w ∙ a) ∙ c))
    by true false true a b c h = absurd (true≢false (sym a ∙ sym (nat_list_eq_equiv.congr v w e.0 c) ∙ b))
    by true false false a b c h = ap (λ x. unwrap_or (cond x (Some (e.1 + 1)) (lookup (bytes_eq v) es)) 0) b ∙ omega arith
    by false true true a b c h = absurd (true≢false (sym b ∙ nat_list_eq_equiv.congr v w e.0 c ∙ a))
    by false true false a b c h = ap (λ x. unwrap_or (cond x (Some e.1) (lookup (bytes_eq v) (counted_up es w))) 0) b ∙ omega arith
    by false false vw a b c h = ap (λ x. unwrap_or (cond x (Some e.1) (lookup (bytes_eq v) (counted_up es w))) 0) b ∙ h ∙ ap (λ x. count_at es v + cond x 1 0) c

count_at-fold : (ws : List (List ℕ)) (es : List (List ℕ × ℕ)) (v : List ℕ) → count_at (fold counted_up es ws) v ≡ count_at es v + length (filter (bytes_eq v) ws)
count_at-fold [] es v = omega arith
count_at-fold (w ∷ ws) es v =
    count_at-fold ws (counted_up es w) v ∙ ap (λ n. n + length (filter (bytes_eq v) ws)) (count_at-counted_up es w v) ∙ by (bytes_eq v w)
  where
    by : (b : Bool) → count_at es v + cond b 1 0 + length (filter (bytes_eq v) ws) ≡ count_at es v + length (cond b (w ∷ filter (bytes_eq v) ws) (filter (bytes_eq v) ws))
    by true = omega arith
    by false = omega arith

-- a word is counted as often as it stands there
pub count_at-tally : (ws : List (List ℕ)) (v : List ℕ) → count_at (tally ws) v ≡ length (filter (bytes_eq v) ws)
count_at-tally ws v = count_at-fold ws [] v ∙ omega arith

-- Documents of different words.

-- the front of words that differ differ
first_repeat-front : (xs ys : List (List ℕ)) → first_repeat (xs ++ ys) ≡ None → first_repeat xs ≡ None
first_repeat-front xs ys clear = by (first_clash xs) refl
  where
    by : (o : Option (ℕ × ℕ)) → first_clash xs ≡ o → option_map (λ places. places.1) o ≡ None
    by None e = refl
    by (Some c) e = absurd (cc (clear, ap (option_map (λ places. places.1)) (first_clash-append xs ys c e)))

-- and the last of them stands nowhere before
first_repeat-last : (xs : List (List ℕ)) (x : List ℕ) → first_repeat (xs ++ x ∷ []) ≡ None → list_any (bytes_eq x) xs ≡ false
first_repeat-last xs x clear = by (list_any (bytes_eq x) xs) refl (first_clash xs) (first_clash-push xs x)
  where
    at : (o : Option ℕ) → is_some o ≡ true → option_map (λ (places : ℕ × ℕ). places.1) (option_map (λ i. (i, length xs)) o) ≡ None → ⊥
    at None h e = true≢false (sym h)
    at (Some i) h e = cc

    by : (b : Bool) → list_any (bytes_eq x) xs ≡ b → (o : Option (ℕ × ℕ)) → first_clash (xs ++ x ∷ []) ≡ option_or o (option_map (λ i. (i, length xs)) (position (bytes_eq x) xs)) → b ≡ false
    by false e o h = refl
    by true e None h = absurd (at (position (bytes_eq x) xs) (is_some-position (bytes_eq x) xs ∙ e) (sym (ap (option_map (λ places. places.1)) h) ∙ clear))
    by true e (Some c) h = absurd (cc)

-- a word stands once among words that differ, or nowhere
once_over : (v : List ℕ) (done rest : List (List ℕ)) → first_repeat (done ++ rest) ≡ None
    → length (filter (bytes_eq v) done) ≡ cond (list_any (bytes_eq v) done) 1 0
    → length (filter (bytes_eq v) (done ++ rest)) ≡ cond (list_any (bytes_eq v) (done ++ rest)) 1 0
once_over v done [] clear h = ap (λ ws. length (filter (bytes_eq v) ws)) (append-nil done) ∙ h ∙ ap (λ ws. cond (list_any (bytes_eq v) ws) 1 0) (sym (append-nil done))
once_over v done (r ∷ rest) clear h =
    let front = done ++ r ∷ [] in
    let e : front ++ rest ≡ done ++ r ∷ rest = append_assoc done (r ∷ []) rest in
    let clear' : first_repeat (front ++ rest) ≡ None = ap first_repeat e ∙ clear in
    let new = first_repeat-last done r (first_repeat-front front rest clear') in
    subst (λ ws. length (filter (bytes_eq v) ws) ≡ cond (list_any (bytes_eq v) ws) 1 0) e (once_over v front rest clear' (more new))
  where
    by : (b c : Bool) → bytes_eq v r ≡ b → list_any (bytes_eq v) done ≡ c → list_any (bytes_eq r) done ≡ false
        → length (filter (bytes_eq v) done) + length (cond b (r ∷ []) []) ≡ cond (c || (b || false)) 1 0
    by true true e f new = absurd (true≢false (sym f ∙ sym (list_any-congr r v done e) ∙ new))
    by true false e f new = ap (λ n. n + 1) (h ∙ ap (λ x. cond x 1 0) f)
    by false true e f new = ap (λ n. n + 0) (h ∙ ap (λ x. cond x 1 0) f)
    by false false e f new = ap (λ n. n + 0) (h ∙ ap (λ x. cond x 1 0) f)

    more : list_any (bytes_eq r) done ≡ false → length (filter (bytes_eq v) (done ++ r ∷ [])) ≡ cond (list_any (bytes_eq v) (done ++ r ∷ [])) 1 0
    more new =
        ap length (filter-append (bytes_eq v) done (r ∷ []))
        ∙ length-append (filter (bytes_eq v) done) (filter (bytes_eq v) (r ∷ []))
        ∙ by (bytes_eq v r) (list_any (bytes_eq v) done) refl refl new
        ∙ ap (λ b. cond b 1 0) (sym (list_any-append (bytes_eq v) done (r ∷ [])))

once : (v : List ℕ) (ws : List (List ℕ)) → first_repeat ws ≡ None → length (filter (bytes_eq v) ws) ≡ cond (list_any (bytes_eq v) ws) 1 0
once v ws clear = once_over v [] ws clear refl

-- the words of a document differ
pub accepted_words : (ws : List (List ℕ)) → doc_refusal ws ≡ None → first_repeat ws ≡ None
accepted_words ws h = by (nat_lt 4096 (length ws)) (first_repeat ws) h
  where
    by : (b : Bool) (o : Option ℕ) → (if b then Some (TooManyWords (length ws)) else option_map (λ position. RepeatedWord position) o) ≡ None → o ≡ None
    by true o e = absurd (cc)
    by false None e = refl
    by false (Some i) e = absurd (cc)

-- a word stands among all words as often as documents hold it
pub length-ids_with : (docs : List Document) (v : List ℕ) → All IsDocument docs → length (filter (bytes_eq v) (all_words docs)) ≡ length (ids_with docs v)
length-ids_with docs v all = held docs all ∙ sym (length-map (filter (has_word v) docs) (λ d. d.id))
  where
    held : (ds : List Document) → All IsDocument ds → length (filter (bytes_eq v) (all_words ds)) ≡ length (filter (has_word v) ds)
    held [] h = refl
    held (d ∷ ds) h =
        ap length (filter-append (bytes_eq v) d.words (all_words ds))
        ∙ length-append (filter (bytes_eq v) d.words) (filter (bytes_eq v) (all_words ds))
        ∙ (λ i. once v d.words (accepted_words d.words (All-head IsDocument d ds h).accepted) i + held ds (All-tail IsDocument d ds h) i)
        ∙ sum (has_word v d)
      where
        sum : (b : Bool) → cond b 1 0 + length (filter (has_word v) ds) ≡ length (cond b (d ∷ filter (has_word v) ds) (filter (has_word v) ds))
        sum true = omega arith
        sum false = omega arith

-- no word is held by more documents than there are
pub ids_with-below : (docs : List Document) (v : List ℕ) → length (ids_with docs v) ≤ length docs
ids_with-below docs v = omega (arith, length-map (filter (has_word v) docs) (λ (d : Document). d.id), length-filter (has_word v) docs)
