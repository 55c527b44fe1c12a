-- What the entries of a table tell of a word after one entry is set or a new one goes last, and after a list of words has changed.
use Rattle.std.proofs.Common.{◌≡◌, ℕ, zero, suc, ◌+◌, ◌<◌, Bool, true, false, cond, ◌||◌, List, [], ◌∷◌, ◌++◌, length, map, take, get_or, position, refl, sym, ap, ◌∙◌, subst, arith, Some, None}
use Rattle.std.specs.Prelude.{Option, bytes_eq, if◌then◌else◌, slice_get, unwrap_or}
use Rattle.std.specs.List.{list_any, AllByRecursion, IsDistinct}
use Rattle.std.specs.Map.{keys_of, lookup, values_of}
use Rattle.std.specs.Option.{option_map}
use Rattle.std.proofs.lemmas.Bool.{true≢false}
use Rattle.std.proofs.lemmas.Cmp.{nat_list_eq_equiv}
use Rattle.std.proofs.lemmas.Option.{get_or_from_slice_get, slice_get_within}
use Rattle.std.proofs.lemmas.List.Folds.{list_any-append}
use Rattle.indexmap.specs.IndexMap.{set_value_at}
use Rattle.client_registry.proofs.NumberLaws.{same_bytes}
use Rattle.client_registry.proofs.Positions.{position-cons, position-map}
use Rattle.client_registry.proofs.SeenWords.{front_more, length_front}
use Rattle.client_registry.specs.WordBytes.{word_bytes}
use Rattle.client_registry.specs.declared.word.Word.{Word}
use Rattle.def_leakage.specs.Firsts.{place_of}
use Rattle.leakage_model.specs.TrailFacts.{ChangesAt, ChangesEach, facts_in}
use Rattle.leakage_model.specs.WordFacts.{WordFacts, unnamed}

-- the entry of a word is set
pub facts-set : (es : List (Word × WordFacts)) (bs : List ℕ) (i : ℕ) (v : WordFacts) → position (bytes_eq bs) (map (λ e. word_bytes e.0) es) ≡ Some i
    → (w : List ℕ) → facts_in (set_value_at es i v) w ≡ (if bytes_eq w bs then v else facts_in es w)
facts-set [] bs i v at w = absurd (cc)
facts-set (e ∷ es) bs i v at w =
    by (bytes_eq bs key) refl (position (bytes_eq bs) (map (λ x. word_bytes x.0) es)) (sym (position-cons (bytes_eq bs) key (map (λ x. word_bytes x.0) es)) ∙ at)
    (λ j there. facts-set es bs j v there w)
  where
    key : List ℕ
    key = word_bytes e.0

    here : (b c : Bool) → b ≡ c → unwrap_or (cond b (Some v) (lookup (λ k. bytes_eq w (word_bytes k)) es)) unnamed ≡ (if c then v else unwrap_or (cond b (Some e.1) (lookup (λ k. bytes_eq w (word_bytes k)) es)) unnamed)
    here true true same = refl
    here true false same = absurd (true≢false same)
    here false true same = absurd (true≢false (sym same))
    here false false same = refl

    later : (j : ℕ) (b c : Bool) → (b ≡ true → c ≡ false) → facts_in (set_value_at es j v) w ≡ (if c then v else facts_in es w)
        → unwrap_or (cond b (Some e.1) (lookup (λ k. bytes_eq w (word_bytes k)) (set_value_at es j v))) unnamed ≡ (if c then v else unwrap_or (cond b (Some e.1) (lookup (λ k. bytes_eq w (word_bytes k)) es)) unnamed)
    later j true true apart had = absurd (true≢false (apart refl))
    later j true false apart had = refl
    later j false true apart had = had
    later j false false apart had = had

    by : (b : Bool) → bytes_eq bs (word_bytes e.0) ≡ b → (o : Option ℕ) → cond b (Some 0) (option_map (λ n. suc n) o) ≡ Some i
        → ((j : ℕ) → o ≡ Some j → facts_in (set_value_at es j v) w ≡ (if bytes_eq w bs then v else facts_in es w))
        → facts_in (set_value_at (e ∷ es) i v) w ≡ (if bytes_eq w bs then v else facts_in (e ∷ es) w)
    by true is o e0 rest =
        let first : 0 ≡ i = cc in
        subst (λ n. facts_in (set_value_at (e ∷ es) n v) w ≡ (if bytes_eq w bs then v else facts_in (e ∷ es) w)) first
        (here (bytes_eq w (word_bytes e.0)) (bytes_eq w bs) (ap (bytes_eq w) (sym (same_bytes bs (word_bytes e.0) is))))
    by false is None e0 rest = absurd (cc)
    by false is (Some j) e0 rest =
        let next : suc j ≡ i = cc in
        subst (λ n. facts_in (set_value_at (e ∷ es) n v) w ≡ (if bytes_eq w bs then v else facts_in (e ∷ es) w)) next
        (later j (bytes_eq w (word_bytes e.0)) (bytes_eq w bs)
        (λ same. ap (λ x. bytes_eq x bs) (same_bytes w (word_bytes e.0) same) ∙ nat_list_eq_equiv.symm (word_bytes e.0) bs ∙ is) (rest j refl))

-- a word of which nothing is told goes last
pub facts-new : (es : List (Word × WordFacts)) (k : Word) (w : List ℕ) → facts_in (es ++ (k, unnamed) ∷ []) w ≡ facts_in es w
facts-new [] k w = by (bytes_eq w (word_bytes k))
  where
    by : (b : Bool) → unwrap_or (cond b (Some unnamed) None) unnamed ≡ unnamed
    by true = refl
    by false = refl
facts-new (e ∷ es) k w = by (bytes_eq w (word_bytes e.0)) (facts-new es k w)
  where
    by : (b : Bool) → facts_in (es ++ (k, unnamed) ∷ []) w ≡ facts_in es w
        → unwrap_or (cond b (Some e.1) (lookup (λ x. bytes_eq w (word_bytes x)) (es ++ (k, unnamed) ∷ []))) unnamed ≡ unwrap_or (cond b (Some e.1) (lookup (λ x. bytes_eq w (word_bytes x)) es)) unnamed
    by true had = refl
    by false had = had

-- it stands there, where it stood nowhere before
pub position-new : (es : List (Word × WordFacts)) (k : Word) (v : WordFacts) → lookup (λ x. bytes_eq (word_bytes k) (word_bytes x)) es ≡ None
    → position (bytes_eq (word_bytes k)) (map (λ e. word_bytes e.0) (es ++ (k, v) ∷ [])) ≡ Some (length es)
position-new [] k v none =
    position-cons (bytes_eq (word_bytes k)) (word_bytes k) [] ∙ ap (λ b. cond b (Some 0) (option_map (λ n. suc n) (position (bytes_eq (word_bytes k)) []))) (nat_list_eq_equiv.refl (word_bytes k))
position-new (e ∷ es) k v none =
    position-cons (bytes_eq (word_bytes k)) (word_bytes e.0) (map (λ x. word_bytes x.0) (es ++ (k, v) ∷ []))
    ∙ by (bytes_eq (word_bytes k) (word_bytes e.0)) none (position-new es k v)
  where
    by : (b : Bool) → cond b (Some e.1) (lookup (λ x. bytes_eq (word_bytes k) (word_bytes x)) es) ≡ None
        → (lookup (λ x. bytes_eq (word_bytes k) (word_bytes x)) es ≡ None → position (bytes_eq (word_bytes k)) (map (λ x. word_bytes x.0) (es ++ (k, v) ∷ [])) ≡ Some (length es))
        → cond b (Some 0) (option_map (λ n. suc n) (position (bytes_eq (word_bytes k)) (map (λ x. word_bytes x.0) (es ++ (k, v) ∷ [])))) ≡ Some (suc (length es))
    by true none rest = absurd (cc)
    by false none rest = ap (option_map (λ n. suc n)) (rest none)

-- Words one after the other.

place-front : (w : List ℕ) (front more : List (List ℕ)) → list_any (bytes_eq w) front ≡ true → place_of w (front ++ more) ≡ place_of w front
place-front w [] more here = absurd (true≢false (sym here))
place-front w (v ∷ front) more here = by (bytes_eq w v) here (place-front w front more)
  where
    by : (b : Bool) → (b || list_any (bytes_eq w) front) ≡ true → (list_any (bytes_eq w) front ≡ true → place_of w (front ++ more) ≡ place_of w front)
        → (if b then 0 else suc (place_of w (front ++ more))) ≡ (if b then 0 else suc (place_of w front))
    by true here rest = refl
    by false here rest = ap (λ n. suc n) (rest here)

place-last : (w v : List ℕ) (front : List (List ℕ)) → list_any (bytes_eq w) front ≡ false → bytes_eq w v ≡ true → place_of w (front ++ v ∷ []) ≡ length front
place-last w v [] none is = ap (λ (b : Bool). if b then 0 else 1) is
place-last w v (u ∷ front) none is = by (bytes_eq w u) none (λ h. place-last w v front h is)
  where
    by : (b : Bool) → (b || list_any (bytes_eq w) front) ≡ false → (list_any (bytes_eq w) front ≡ false → place_of w (front ++ v ∷ []) ≡ length front)
        → (if b then 0 else suc (place_of w (front ++ v ∷ []))) ≡ suc (length front)
    by true none rest = absurd (true≢false none)
    by false none rest = ap (λ n. suc n) (rest none)

-- one word more that is none of those before it
pub each-push : (old now new : List (Word × WordFacts)) (front : List (List ℕ)) (word : List ℕ) (f : ℕ → WordFacts → WordFacts)
    → ChangesEach old now front f → ChangesAt now new word (f (length front)) → list_any (bytes_eq word) front ≡ false → ChangesEach old new (front ++ word ∷ []) f
each-push old now new front word f had changed fresh w = changed w ∙ by (bytes_eq w word) refl
  where
    by : (b : Bool) → bytes_eq w word ≡ b
        → (if b then f (length front) (facts_in now w) else facts_in now w) ≡ (if list_any (bytes_eq w) (front ++ word ∷ []) then f (place_of w (front ++ word ∷ [])) (facts_in old w) else facts_in old w)
    by true is =
        let none : list_any (bytes_eq w) front ≡ false = ap (λ v. list_any (bytes_eq v) front) (same_bytes w word is) ∙ fresh in
        let there : list_any (bytes_eq w) (front ++ word ∷ []) ≡ true = list_any-append (bytes_eq w) front (word ∷ []) ∙ (λ i. none i || (is i || false)) in
        ap (f (length front)) (had w ∙ ap (λ b. if b then f (place_of w front) (facts_in old w) else facts_in old w) none)
        ∙ ap (λ n. f n (facts_in old w)) (sym (place-last w word front none is))
        ∙ ap (λ b. if b then f (place_of w (front ++ word ∷ [])) (facts_in old w) else facts_in old w) (sym there)
    by false is = had w ∙ among (list_any (bytes_eq w) front) refl
      where
        among : (m : Bool) → list_any (bytes_eq w) front ≡ m
            → (if m then f (place_of w front) (facts_in old w) else facts_in old w) ≡ (if list_any (bytes_eq w) (front ++ word ∷ []) then f (place_of w (front ++ word ∷ [])) (facts_in old w) else facts_in old w)
        among m here =
            let all : list_any (bytes_eq w) (front ++ word ∷ []) ≡ m = list_any-append (bytes_eq w) front (word ∷ []) ∙ (λ i. here i || (is i || false)) ∙ last m in
            place m here ∙ ap (λ b. if b then f (place_of w (front ++ word ∷ [])) (facts_in old w) else facts_in old w) (sym all)
          where
            last : (b : Bool) → (b || false) ≡ b
            last true = refl
            last false = refl

            place : (b : Bool) → list_any (bytes_eq w) front ≡ b → (if b then f (place_of w front) (facts_in old w) else facts_in old w) ≡ (if b then f (place_of w (front ++ word ∷ [])) (facts_in old w) else facts_in old w)
            place true here = ap (λ n. f n (facts_in old w)) (sym (place-front w front (word ∷ []) here))
            place false here = refl

-- a word stands nowhere before its place among words that differ
pub fresh_word : {X : Type 0} (f : X → List ℕ) (xs : List X) (i : ℕ) (x : X) → i < length xs → x ≡ get_or xs i x → IsDistinct bytes_eq (map f xs) → list_any (bytes_eq (f x)) (map f (take i xs)) ≡ false
unfolding IsDistinct
fresh_word f [] i x within is differ = absurd (omega (arith, within))
fresh_word f (y ∷ xs) zero x within is differ = refl
fresh_word {X} f (y ∷ xs) (suc i) x within is differ =
    let lt : i < length xs = omega (arith, within) in
    ap (λ b. b || list_any (bytes_eq (f x)) (map f (take i xs))) (nat_list_eq_equiv.symm (f x) (f y) ∙ ap (λ v. bytes_eq (f y) (f v)) is ∙ apart xs i lt differ.0)
    ∙ fresh_word f xs i x lt is differ.1
  where
    apart : (vs : List X) (k : ℕ) → k < length vs → AllByRecursion (λ v. bytes_eq (f y) v ≡ false) (map f vs) → bytes_eq (f y) (f (get_or vs k x)) ≡ false
    apart [] k lt all = absurd (omega (arith, lt))
    apart (v ∷ vs) zero lt all = all.0
    apart (v ∷ vs) (suc k) lt all = apart vs k (omega (arith, lt)) all.1

-- one word more of a list of words that differ
pub each-more : {X : Type 0} (f : X → List ℕ) (xs : List X) (i : ℕ) (x : X) → i < length xs → x ≡ get_or xs i x → IsDistinct bytes_eq (map f xs)
    → (old now new : List (Word × WordFacts)) (g : ℕ → WordFacts → WordFacts) → ChangesEach old now (map f (take i xs)) g → ChangesAt now new (f x) (g i) → ChangesEach old new (map f (take (i + 1) xs)) g
each-more f xs i x within is differ old now new g had changed =
    subst (λ front. ChangesEach old new front g) (sym (front_more f xs i x (f x) within is refl))
    (each-push old now new (map f (take i xs)) (f x) g had (subst (λ n. ChangesAt now new (f x) (g n)) (sym (length_front f xs i x (f x) within is refl)) changed) (fresh_word f xs i x within is differ))

-- a word that is none of them hasn't changed
pub each-other : (old new : List (Word × WordFacts)) (words : List (List ℕ)) (g : ℕ → WordFacts → WordFacts) (w : List ℕ) → ChangesEach old new words g → list_any (bytes_eq w) words ≡ false
    → facts_in new w ≡ facts_in old w
each-other old new words g w had none = had w ∙ ap (λ b. if b then g (place_of w words) (facts_in old w) else facts_in old w) none

-- The value that stands there is what is told of the word.

-- the facts of a word that stands there
pub facts-at : (es : List (Word × WordFacts)) (bs : List ℕ) (i : ℕ) (v : WordFacts) → position (bytes_eq bs) (map (λ e. word_bytes e.0) es) ≡ Some i → slice_get (values_of es) i ≡ Some v
    → facts_in es bs ≡ v
facts-at [] bs i v at was = absurd (cc)
facts-at (e ∷ es) bs i v at was =
    by (bytes_eq bs (word_bytes e.0)) (position (bytes_eq bs) (map (λ x. word_bytes x.0) es)) (sym (position-cons (bytes_eq bs) (word_bytes e.0) (map (λ x. word_bytes x.0) es)) ∙ at)
    (λ j there. facts-at es bs j v there)
  where
    first : (n : ℕ) → 0 ≡ n → slice_get (values_of (e ∷ es)) n ≡ Some v → e.1 ≡ v
    first n zero_is was = let here : Some e.1 ≡ Some v = ap (slice_get (values_of (e ∷ es))) zero_is ∙ was in cc

    by : (b : Bool) → (o : Option ℕ) → cond b (Some 0) (option_map (λ n. suc n) o) ≡ Some i → ((j : ℕ) → o ≡ Some j → slice_get (values_of es) j ≡ Some v → facts_in es bs ≡ v)
        → unwrap_or (cond b (Some e.1) (lookup (λ k. bytes_eq bs (word_bytes k)) es)) unnamed ≡ v
    by true o place rest = let zero_is : 0 ≡ i = cc in first i zero_is was
    by false None place rest = absurd (cc)
    by false (Some j) place rest = let next : suc j ≡ i = cc in rest j refl (ap (slice_get (values_of (e ∷ es))) next ∙ was)

-- where the value of a word's entry changes, the word alone has changed
pub changes-at : (old es : List (Word × WordFacts)) (bs : List ℕ) (i : ℕ) (v new : WordFacts) (f : WordFacts → WordFacts) → ((w : List ℕ) → facts_in es w ≡ facts_in old w)
    → position (bytes_eq bs) (map (λ e. word_bytes e.0) es) ≡ Some i → slice_get (values_of es) i ≡ Some v → new ≡ f v → ChangesAt old (set_value_at es i new) bs f
changes-at old es bs i v new f same at was is w = facts-set es bs i new at w ∙ by (bytes_eq w bs) refl
  where
    by : (b : Bool) → bytes_eq w bs ≡ b → (if b then new else facts_in es w) ≡ (if b then f (facts_in old w) else facts_in old w)
    by true here = is ∙ ap f (sym (facts-at es bs i v at was) ∙ ap (facts_in es) (sym (same_bytes w bs here)) ∙ same w)
    by false here = same w

-- the place of a word, by its entry
pub place-entry : (es : List (Word × WordFacts)) (bs : List ℕ) (i : ℕ) → Some i ≡ position (λ k. bytes_eq bs (word_bytes k)) (keys_of es) → position (bytes_eq bs) (map (λ e. word_bytes e.0) es) ≡ Some i
place-entry es bs i at =
    position-map (bytes_eq bs) (λ e. word_bytes e.0) es ∙ sym (position-map (λ k. bytes_eq bs (word_bytes k)) (λ e. e.0) es) ∙ sym at

own_items : {X : Type 0} (xs : List X) → map (λ x. x) xs ≡ xs
own_items [] = refl
own_items (x ∷ xs) = ap (λ rest. x ∷ rest) (own_items xs)

-- the same of a list of words itself
pub each-next : (ws : List (List ℕ)) (n : ℕ) (w : List ℕ) → slice_get ws n ≡ Some w → IsDistinct bytes_eq ws → (old now new : List (Word × WordFacts)) (g : ℕ → WordFacts → WordFacts)
    → ChangesEach old now (take n ws) g → ChangesAt now new w (g n) → ChangesEach old new (take (n + 1) ws) g
each-next ws n w at differ old now new g had changed =
    let within = slice_get_within ws n w at in
    let is : w ≡ get_or ws n w = sym (get_or_from_slice_get ws n w w at) in
    subst (λ front. ChangesEach old new front g) (own_items (take (n + 1) ws))
    (each-more (λ x. x) ws n w within is (subst (IsDistinct bytes_eq) (sym (own_items ws)) differ) old now new g
    (subst (λ front. ChangesEach old now front g) (sym (own_items (take n ws))) had) changed)
