-- The fields of a query, one field more: its operands, its different words and its first bad word.
use Rattle.std.proofs.Common.{◌≡◌, ℕ, ◌+◌, ◌<◌, ◌≤◌, Bool, true, false, List, [], ◌∷◌, ◌++◌, length, take, drop, get_or, Some, None, refl, sym, ap, ◌∙◌, arith, append_assoc}
use Rattle.std.specs.Prelude.{map, Option, Result, Ok, Err, IfSome, IsOk, is_some, position, bytes_eq, not, if◌then◌else◌}
use Rattle.std.specs.List.{list_any, cons_option}
use Rattle.std.specs.Option.{option_map, option_or}
use Rattle.std.specs.Map.{keys_of}
use Rattle.std.proofs.lemmas.List.{append-nil, map-append, take_more, take-append-drop}
use Rattle.std.proofs.lemmas.List.Elements.{filter_map-append}
use Rattle.std.proofs.lemmas.List.Sums.{fold-append}
use Rattle.client_registry.specs.Documents.{first_seen}
use Rattle.client_registry.specs.Tally.{counted_up, tally}
use Rattle.client_registry.specs.WordRule.{word_refusal}
use Rattle.client_registry.specs.declared.faults.WordFault.{WordFault}
use Rattle.client_registry.proofs.Positions.{is_some-position}
use Rattle.client_registry.proofs.PushLaws.{list_any-map}
use Rattle.client_registry.proofs.WordsLaws.{keys-fold, keys-tally, new_to, length-first_seen}
use Rattle.bool_search.specs.declared.fault.QueryFault.{QueryFault}
use Rattle.bool_search.specs.declared.fault.QueryFault.TheVariants.{BadWord}
use Rattle.bool_search.specs.Fields.{operand_of, operands, words_of, if_new}
use Rattle.bool_search.specs.Refused.{first_bad_word}

-- The different words.

new_is : (ks : List (List ℕ)) (w : List ℕ) → new_to ks (w ∷ []) ≡ if_new ks w
new_is ks w = by (list_any (bytes_eq w) ks)
  where
    by : (b : Bool) → (if not b then w ∷ [] else []) ≡ (if b then [] else w ∷ [])
    by true = refl
    by false = refl

first_seen-more : (xs : List (List ℕ)) (w : List ℕ) → first_seen (xs ++ w ∷ []) ≡ first_seen xs ++ if_new (first_seen xs) w
first_seen-more xs w =
    sym (keys-tally (xs ++ w ∷ [])) ∙ ap keys_of (fold-append counted_up [] xs (w ∷ [])) ∙ keys-fold (w ∷ []) (tally xs) ∙ ap (λ ks. ks ++ new_to ks (w ∷ [])) (keys-tally xs)
    ∙ ap (λ more. first_seen xs ++ more) (new_is (first_seen xs) w)

operands-more : (fs : List (List ℕ)) (f : List ℕ) → operands (fs ++ f ∷ []) ≡ operands fs ++ cons_option (operand_of f) []
operands-more fs f = filter_map-append operand_of fs (f ∷ [])

pub operands-some : (fs : List (List ℕ)) (f w : List ℕ) → operand_of f ≡ Some w → operands (fs ++ f ∷ []) ≡ operands fs ++ w ∷ []
operands-some fs f w is = operands-more fs f ∙ ap (λ o. operands fs ++ cons_option o []) is

pub operands-none : (fs : List (List ℕ)) (f : List ℕ) → operand_of f ≡ None → operands (fs ++ f ∷ []) ≡ operands fs
operands-none fs f is = operands-more fs f ∙ ap (λ o. operands fs ++ cons_option o []) is ∙ append-nil (operands fs)

pub words-some : (fs : List (List ℕ)) (f w : List ℕ) → operand_of f ≡ Some w → words_of (fs ++ f ∷ []) ≡ words_of fs ++ if_new (words_of fs) w
words-some fs f w is = ap first_seen (operands-some fs f w is) ∙ first_seen-more (operands fs) w

pub words-none : (fs : List (List ℕ)) (f : List ℕ) → operand_of f ≡ None → words_of (fs ++ f ∷ []) ≡ words_of fs
words-none fs f is = ap first_seen (operands-none fs f is)

-- fields as bytes, one more
pub texts_next : {X : Type 0} (f : X → List ℕ) (xs : List X) (i : ℕ) (d : X) → i < length xs → map f (take (i + 1) xs) ≡ map f (take i xs) ++ f (get_or xs i d) ∷ []
texts_next f xs i d lt = ap (map f) (take_more xs i d lt) ∙ map-append f (take i xs) (get_or xs i d ∷ [])

-- The first bad word.

bad_word-append : (p : ℕ) (xs ys : List (List ℕ)) → first_bad_word p (xs ++ ys) ≡ option_or (first_bad_word p xs) (first_bad_word (p + length xs) ys)
bad_word-append p [] ys = ap (λ n. first_bad_word n ys) (sym (plus-zero p))
  where
    plus-zero : (n : ℕ) → n + 0 ≡ n
    plus-zero n = omega arith
bad_word-append p (x ∷ xs) ys =
    by (option_map (λ fault. BadWord p fault) (word_refusal x)) (bad_word-append (p + 1) xs ys ∙ ap (λ n. option_or (first_bad_word (p + 1) xs) (first_bad_word n ys)) next)
  where
    next : p + 1 + length xs ≡ p + length (x ∷ xs)
    next = omega arith

    by : (o : Option QueryFault) → first_bad_word (p + 1) (xs ++ ys) ≡ option_or (first_bad_word (p + 1) xs) (first_bad_word (p + length (x ∷ xs)) ys)
        → option_or o (first_bad_word (p + 1) (xs ++ ys)) ≡ option_or (option_or o (first_bad_word (p + 1) xs)) (first_bad_word (p + length (x ∷ xs)) ys)
    by None rest = rest
    by (Some fault) rest = refl

-- a good word more
pub good_word-more : (ws : List (List ℕ)) (w : List ℕ) → first_bad_word 0 ws ≡ None → word_refusal w ≡ None → first_bad_word 0 (ws ++ w ∷ []) ≡ None
good_word-more ws w good is =
    bad_word-append 0 ws (w ∷ []) ∙ ap (λ o. option_or o (first_bad_word (0 + length ws) (w ∷ []))) good
    ∙ ap (λ o. option_or (option_map (λ fault. BadWord (0 + length ws) fault) o) None) is

-- the first bad word after good ones
pub bad_word-here : (ws more : List (List ℕ)) (w : List ℕ) (fault : WordFault) → first_bad_word 0 ws ≡ None → word_refusal w ≡ Some fault
    → first_bad_word 0 (ws ++ w ∷ more) ≡ Some (BadWord (length ws) fault)
bad_word-here ws more w fault good is =
    bad_word-append 0 ws (w ∷ more) ∙ ap (λ o. option_or o (first_bad_word (0 + length ws) (w ∷ more))) good
    ∙ ap (λ o. option_or (option_map (λ f. BadWord (0 + length ws) f) o) (first_bad_word (0 + length ws + 1) more)) is
    ∙ ap (λ n. Some (BadWord n fault)) same
  where
    same : 0 + length ws ≡ length ws
    same = omega arith

-- A word that is to stand after others.

pub kept_in : {X : Type 0} (f : X → List ℕ) (xs : List X) (w : List ℕ) → list_any (λ x. bytes_eq w (f x)) xs ≡ true → map f xs ≡ map f xs ++ if_new (map f xs) w
kept_in f xs w is =
    sym (append-nil (map f xs)) ∙ ap (λ b. map f xs ++ (if b then [] else w ∷ [])) (sym (list_any-map (bytes_eq w) f xs ∙ is))

pub added_in : {X : Type 0} (f : X → List ℕ) (xs : List X) (x : X) → list_any (λ y. bytes_eq (f x) (f y)) xs ≡ false
    → map f (xs ++ x ∷ []) ≡ map f xs ++ if_new (map f xs) (f x)
added_in f xs x is =
    map-append f xs (x ∷ []) ∙ ap (λ b. map f xs ++ (if b then [] else f x ∷ [])) (sym (list_any-map (bytes_eq (f x)) f xs ∙ is))

pub absent : {X : Type 0} (p : X → Bool) (xs ys : List X) (place : Option ℕ) → ys ≡ xs → place ≡ position p ys → is_some place ≡ false → list_any p xs ≡ false
absent p xs ys place same is none = sym (ap (list_any p) same) ∙ sym (is_some-position p ys) ∙ ap is_some (sym is) ∙ none

pub present : {X : Type 0} (p : X → Bool) (xs ys : List X) (place : Option ℕ) → ys ≡ xs → place ≡ position p ys → is_some place ≡ true → list_any p xs ≡ true
present p xs ys place same is some = sym (ap (list_any p) same) ∙ sym (is_some-position p ys) ∙ ap is_some (sym is) ∙ some

-- One field more, among fields that are borrowed.

pub words_next-some : {X : Type 0} (f : X → List ℕ) (xs : List X) (i : ℕ) (d : X) (w : List ℕ) (old new : List (List ℕ)) → i < length xs → old ≡ words_of (map f (take i xs))
    → operand_of (f (get_or xs i d)) ≡ Some w → new ≡ old ++ if_new old w → new ≡ words_of (map f (take (i + 1) xs))
words_next-some f xs i d w old new lt before is goes =
    goes ∙ ap (λ ws. ws ++ if_new ws w) before ∙ sym (words-some (map f (take i xs)) (f (get_or xs i d)) w is) ∙ ap words_of (sym (texts_next f xs i d lt))

pub words_next-none : {X : Type 0} (f : X → List ℕ) (xs : List X) (i : ℕ) (d : X) (old : List (List ℕ)) → i < length xs → old ≡ words_of (map f (take i xs))
    → operand_of (f (get_or xs i d)) ≡ None → old ≡ words_of (map f (take (i + 1) xs))
words_next-none f xs i d old lt before is =
    before ∙ sym (words-none (map f (take i xs)) (f (get_or xs i d)) is) ∙ ap words_of (sym (texts_next f xs i d lt))

pub operands_next-some : {X : Type 0} (f : X → List ℕ) (xs : List X) (i : ℕ) (d : X) (w : List ℕ) → i < length xs → operand_of (f (get_or xs i d)) ≡ Some w
    → operands (map f (take (i + 1) xs)) ≡ operands (map f (take i xs)) ++ w ∷ []
operands_next-some f xs i d w lt is = ap operands (texts_next f xs i d lt) ∙ operands-some (map f (take i xs)) (f (get_or xs i d)) w is

pub operands_next-none : {X : Type 0} (f : X → List ℕ) (xs : List X) (i : ℕ) (d : X) → i < length xs → operand_of (f (get_or xs i d)) ≡ None
    → operands (map f (take (i + 1) xs)) ≡ operands (map f (take i xs))
operands_next-none f xs i d lt is = ap operands (texts_next f xs i d lt) ∙ operands-none (map f (take i xs)) (f (get_or xs i d)) is

-- the first bad word, at the place of this field
pub bad_word-at : {X : Type 0} (f : X → List ℕ) (xs : List X) (i : ℕ) (d : X) (w : List ℕ) (fault : WordFault) → i < length xs → operand_of (f (get_or xs i d)) ≡ Some w
    → first_bad_word 0 (operands (map f (take i xs))) ≡ None → word_refusal w ≡ Some fault
    → first_bad_word 0 (operands (map f xs)) ≡ Some (BadWord (length (operands (map f (take i xs)))) fault)
bad_word-at f xs i d w fault lt is good bad =
    ap (first_bad_word 0) parts ∙ bad_word-here (operands (map f (take i xs))) (operands (map f (drop (i + 1) xs))) w fault good bad
  where
    parts : operands (map f xs) ≡ operands (map f (take i xs)) ++ w ∷ operands (map f (drop (i + 1) xs))
    parts =
        ap (λ ys. operands (map f ys)) (sym (take-append-drop (i + 1) xs)) ∙ ap operands (map-append f (take (i + 1) xs) (drop (i + 1) xs))
        ∙ filter_map-append operand_of (map f (take (i + 1) xs)) (map f (drop (i + 1) xs))
        ∙ ap (λ ws. ws ++ operands (map f (drop (i + 1) xs))) (operands_next-some f xs i d w lt is)
        ∙ append_assoc (operands (map f (take i xs))) (w ∷ []) (operands (map f (drop (i + 1) xs)))

-- what a word's reader refuses
pub refusal_is : {T : Type 0} (o : Option WordFault) (fault : WordFault) (r : Result T WordFault) → r ≡ Err fault → IfSome o (λ f. r ≡ Err f) → (o ≡ None → IsOk r) → o ≡ Some fault
refusal_is {T} None fault r is refused accepted = absurd (never r (accepted refl) is)
  where
    never : (s : Result T WordFault) → IsOk s → s ≡ Err fault → ⊥
    never (Ok x) ok same = cc
    never (Err x) ok same = cc
refusal_is {T} (Some f) fault r is refused accepted = ap (λ e. Some e) (same r refused is)
  where
    same : (s : Result T WordFault) → s ≡ Err f → s ≡ Err fault → f ≡ fault
    same s one other = cc

-- There are no more words than fields.

length-operands : (fs : List (List ℕ)) → length (operands fs) ≤ length fs
length-operands [] = omega arith
length-operands (f ∷ fs) = by (operand_of f) (length-operands fs)
  where
    by : (o : Option (List ℕ)) → length (operands fs) ≤ length fs → length (cons_option o (operands fs)) ≤ length (f ∷ fs)
    by None le = omega (arith, le)
    by (Some w) le = omega (arith, le)

pub length-words_of : (fs : List (List ℕ)) → length (words_of fs) ≤ length fs
length-words_of fs = omega (arith, length-first_seen (operands fs), length-operands fs)
