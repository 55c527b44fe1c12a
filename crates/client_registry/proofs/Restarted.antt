-- A registry that represents a run and is restarted represents the setup that a renewal makes of the run.
use Rattle.std.proofs.Common.{◌≡◌, ℕ, Bool, true, false, cond, ◌||◌, ◌&&◌, List, [], ◌∷◌, map, find, take, Option, None, Some, zero, suc, refl, sym, ap, ◌∙◌, eqb-true}
use Rattle.std.specs.Prelude.{◌==◌, nat_le, if◌then◌else◌, option_map, option_and_then, bytes_eq, unwrap_or}
use Rattle.std.specs.List.{list_any}
use Rattle.std.specs.Map.{lookup}
use Rattle.std.specs.Option.{option_map_or}
use Rattle.std.proofs.lemmas.Bool.{true≢false, or_parts}
use Rattle.std.proofs.lemmas.Cmp.{nat_eq_equiv}
use Rattle.std.proofs.lemmas.Simd.{map-map}
use Rattle.client_registry.proofs.LiveLaws.{among}
use Rattle.client_registry.proofs.OrderLaws.{AreApart}
use Rattle.client_registry.specs.Document.{Document}
use Rattle.client_registry.specs.Documents.{has_word}
use Rattle.client_registry.specs.Facts.{words_with_id}
use Rattle.client_registry.specs.Live.{live, holds_pair}
use Rattle.client_registry.specs.Numbered.{words_by_number}
use Rattle.client_registry.specs.Registered.{Registered, Kept, known_words, kept_of, facts, Represents}
use Rattle.client_registry.specs.Run.{Run}
use Rattle.client_registry.specs.Epochs.{insert_by_id, by_id, setup_renewed}
use Rattle.client_registry.specs.Restarted.{kept_restarted, restarted}

-- Documents by rising identifier.

abbrev pub ids_of : List Document → List ℕ
ids_of docs = map (λ d. d.id) docs

or_swap : (a b c : Bool) → (a || (b || c)) ≡ (b || (a || c))
or_swap true true c = refl
or_swap true false c = refl
or_swap false true c = refl
or_swap false false c = refl

among-insert : (x : ℕ) (d : Document) (es : List Document) → among x (ids_of (insert_by_id d es)) ≡ (d.id == x || among x (ids_of es))
among-insert x d [] = refl
among-insert x d (e ∷ es) = by (nat_le d.id e.id) (among-insert x d es)
  where
    by : (b : Bool) → among x (ids_of (insert_by_id d es)) ≡ (d.id == x || among x (ids_of es))
        → among x (ids_of (if b then d ∷ e ∷ es else e ∷ insert_by_id d es)) ≡ (d.id == x || (e.id == x || among x (ids_of es)))
    by true h = refl
    by false h = ap (λ b. e.id == x || b) h ∙ or_swap (e.id == x) (d.id == x) (among x (ids_of es))

pub among-by_id : (x : ℕ) (docs : List Document) → among x (ids_of (by_id docs)) ≡ among x (ids_of docs)
among-by_id x [] = refl
among-by_id x (d ∷ docs) = among-insert x d (by_id docs) ∙ ap (λ b. d.id == x || b) (among-by_id x docs)

holds-insert : (word : List ℕ) (id : ℕ) (d : Document) (es : List Document) → holds_pair (insert_by_id d es) word id ≡ ((d.id == id && has_word word d) || holds_pair es word id)
holds-insert word id d [] = refl
holds-insert word id d (e ∷ es) = by (nat_le d.id e.id) (holds-insert word id d es)
  where
    by : (b : Bool) → holds_pair (insert_by_id d es) word id ≡ ((d.id == id && has_word word d) || holds_pair es word id)
        → holds_pair (if b then d ∷ e ∷ es else e ∷ insert_by_id d es) word id ≡ ((d.id == id && has_word word d) || ((e.id == id && has_word word e) || holds_pair es word id))
    by true h = refl
    by false h = ap (λ b. (e.id == id && has_word word e) || b) h ∙ or_swap (e.id == id && has_word word e) (d.id == id && has_word word d) (holds_pair es word id)

holds-by_id : (word : List ℕ) (id : ℕ) (docs : List Document) → holds_pair (by_id docs) word id ≡ holds_pair docs word id
holds-by_id word id [] = refl
holds-by_id word id (d ∷ docs) = holds-insert word id d (by_id docs) ∙ ap (λ b. (d.id == id && has_word word d) || b) (holds-by_id word id docs)

found-insert : (id : ℕ) (d : Document) (es : List Document) → among d.id (ids_of es) ≡ false → find (λ (x : Document). id == x.id) (insert_by_id d es) ≡ cond (id == d.id) (Some d) (find (λ (x : Document). id == x.id) es)
found-insert id d [] new = refl
found-insert id d (e ∷ es) new =
    let parts = or_parts (e.id == d.id) (among d.id (ids_of es)) new in
    by (nat_le d.id e.id) (found-insert id d es parts.1) (id == d.id) refl (id == e.id) refl parts.0
  where
    rest : Option Document
    rest = find (λ (x : Document). id == x.id) es

    by : (le : Bool) → find (λ (x : Document). id == x.id) (insert_by_id d es) ≡ cond (id == d.id) (Some d) rest
        → (a : Bool) → (id == d.id) ≡ a → (b : Bool) → (id == e.id) ≡ b → (e.id == d.id) ≡ false
        → find (λ (x : Document). id == x.id) (if le then d ∷ e ∷ es else e ∷ insert_by_id d es) ≡ cond a (Some d) (cond b (Some e) rest)
    by true h a at b is apart = λ i. cond (at i) (Some d) (cond (is i) (Some e) rest)
    by false h true at true is apart =
        absurd (true≢false (sym (ap (λ n. n == d.id) (sym (eqb-true id e.id is)) ∙ at) ∙ apart))
    by false h true at false is apart = (λ i. cond (is i) (Some e) (h i)) ∙ ap (λ b. cond b (Some d) rest) at
    by false h false at true is apart = (λ i. cond (is i) (Some e) (h i))
    by false h false at false is apart = (λ i. cond (is i) (Some e) (h i)) ∙ ap (λ b. cond b (Some d) rest) at

pub words_with_id-by_id : (docs : List Document) (id : ℕ) → AreApart (ids_of docs) → words_with_id (by_id docs) id ≡ words_with_id docs id
words_with_id-by_id docs id apart = ap (option_map (λ (d : Document). d.words)) (by docs apart)
  where
    by : (docs : List Document) → AreApart (ids_of docs) → find (λ (x : Document). id == x.id) (by_id docs) ≡ find (λ (x : Document). id == x.id) docs
    by [] apart = refl
    by (d ∷ docs) apart = found-insert id d (by_id docs) (among-by_id d.id docs ∙ apart.0) ∙ ap (λ o. cond (id == d.id) (Some d) o) (by docs apart.1)

-- a pair is live where the live words of the identifier have the word
holds-none : (word : List ℕ) (id : ℕ) (docs : List Document) → among id (ids_of docs) ≡ false → holds_pair docs word id ≡ false
holds-none word id [] none = refl
holds-none word id (d ∷ docs) none =
    let parts = or_parts (d.id == id) (among id (ids_of docs)) none in
    λ i. (parts.0 i && has_word word d) || holds-none word id docs parts.1 i

holds-words : (word : List ℕ) (id : ℕ) (docs : List Document) → AreApart (ids_of docs) → holds_pair docs word id ≡ option_map_or (λ ws. list_any (bytes_eq word) ws) (words_with_id docs id) false
holds-words word id [] apart = refl
holds-words word id (d ∷ docs) apart = by (d.id == id) refl (holds-words word id docs apart.1)
  where
    by : (b : Bool) → (d.id == id) ≡ b → holds_pair docs word id ≡ option_map_or (λ ws. list_any (bytes_eq word) ws) (words_with_id docs id) false
        → ((b && has_word word d) || holds_pair docs word id)
        ≡ option_map_or (λ ws. list_any (bytes_eq word) ws) (option_map (λ (e : Document). e.words) (cond (id == d.id) (Some d) (find (λ (x : Document). id == x.id) docs))) false
    by true e h =
        let rest : holds_pair docs word id ≡ false = holds-none word id docs (ap (λ n. among n (ids_of docs)) (sym (eqb-true d.id id e)) ∙ apart.0) in
        ap (λ b. has_word word d || b) rest
        ∙ or_nothing (has_word word d)
        ∙ ap (λ b. option_map_or (λ ws. list_any (bytes_eq word) ws) (option_map (λ (e : Document). e.words) (cond b (Some d) (find (λ (x : Document). id == x.id) docs))) false) (sym e ∙ nat_eq_equiv.symm d.id id)
      where
        or_nothing : (b : Bool) → (b || false) ≡ b
        or_nothing true = refl
        or_nothing false = refl
    by false e h =
        h ∙ ap (λ b. option_map_or (λ ws. list_any (bytes_eq word) ws) (option_map (λ (e : Document). e.words) (cond b (Some d) (find (λ (x : Document). id == x.id) docs))) false) (sym e ∙ nat_eq_equiv.symm d.id id)

-- The registry.

take-again : (n : ℕ) (xs : List ℕ) → take n (take n xs) ≡ take n xs
take-again n xs = by n xs
  where
    by : (n : ℕ) (xs : List ℕ) → take n (take n xs) ≡ take n xs
    by zero xs = refl
    by (suc n) [] = refl
    by (suc n) (x ∷ xs) = ap (λ rest. x ∷ rest) (by n xs)

id_kept : (k : Kept) → (kept_restarted k).id ≡ k.id
id_kept k = by k.id k.numbers k.live
  where
    by : (id : ℕ) (numbers : List ℕ) (l : Option ℕ) → (kept_restarted (record { id = id; numbers = numbers; live = l })).id ≡ id
    by id numbers None = refl
    by id numbers (Some n) = refl

found-restarted : (id : ℕ) (kept : List Kept) → find (λ (k : Kept). id == k.id) (map kept_restarted kept) ≡ option_map kept_restarted (find (λ (k : Kept). id == k.id) kept)
found-restarted id [] = refl
found-restarted id (k ∷ kept) =
    ap (λ n. cond (id == n) (Some (kept_restarted k)) (find (λ (x : Kept). id == x.id) (map kept_restarted kept))) (id_kept k)
    ∙ each (id == k.id) (found-restarted id kept)
  where
    each : (b : Bool) → find (λ (x : Kept). id == x.id) (map kept_restarted kept) ≡ option_map kept_restarted (find (λ (x : Kept). id == x.id) kept)
        → cond b (Some (kept_restarted k)) (find (λ (x : Kept). id == x.id) (map kept_restarted kept)) ≡ option_map kept_restarted (cond b (Some k) (find (λ (x : Kept). id == x.id) kept))
    each true h = refl
    each false h = h

module _ (r : Registered) where
  words_kept : known_words (restarted r) ≡ known_words r
  words_kept = map-map (λ (e : List ℕ × ℕ). e.0) (λ (e : List ℕ × ℕ). (e.0, 0)) r.counts

  live_kept : (id : ℕ) → (facts (restarted r)).live id ≡ (facts r).live id
  live_kept id =
      (λ i. option_and_then (λ (k : Kept). option_map (λ n. words_by_number (words_kept i) (take n k.numbers)) k.live) (found-restarted id r.kept i))
      ∙ by (kept_of r id)
    where
      by : (o : Option Kept) → option_and_then (λ (k : Kept). option_map (λ n. words_by_number (known_words r) (take n k.numbers)) k.live) (option_map kept_restarted o)
          ≡ option_and_then (λ (k : Kept). option_map (λ n. words_by_number (known_words r) (take n k.numbers)) k.live) o
      by None = refl
      by (Some k) = one k
        where
          one : (k : Kept) → option_map (λ n. words_by_number (known_words r) (take n (kept_restarted k).numbers)) (kept_restarted k).live ≡ option_map (λ n. words_by_number (known_words r) (take n k.numbers)) k.live
          one k = cases k.id k.numbers k.live
            where
              cases : (id : ℕ) (numbers : List ℕ) (l : Option ℕ) → option_map (λ n. words_by_number (known_words r) (take n (kept_restarted (record { id = id; numbers = numbers; live = l })).numbers)) (kept_restarted (record { id = id; numbers = numbers; live = l })).live ≡ option_map (λ n. words_by_number (known_words r) (take n numbers)) l
              cases id numbers None = refl
              cases id numbers (Some n) = ap (λ ns. Some (words_by_number (known_words r) ns)) (take-again n numbers)

  -- what is listed is what is live
  listed_live : (word : List ℕ) (id : ℕ) → (facts (restarted r)).listed word id ≡ option_map_or (λ ws. list_any (bytes_eq word) ws) ((facts r).live id) false
  listed_live word id =
      (λ i. option_map_or (λ (k : Kept). list_any (bytes_eq word) (words_by_number (words_kept i) k.numbers)) (found-restarted id r.kept i) false)
      ∙ by (kept_of r id)
    where
      by : (o : Option Kept) → option_map_or (λ (k : Kept). list_any (bytes_eq word) (words_by_number (known_words r) k.numbers)) (option_map kept_restarted o) false
          ≡ option_map_or (λ ws. list_any (bytes_eq word) ws) (option_and_then (λ (k : Kept). option_map (λ n. words_by_number (known_words r) (take n k.numbers)) k.live) o) false
      by None = refl
      by (Some k) = cases k.id k.numbers k.live
        where
          cases : (id : ℕ) (numbers : List ℕ) (l : Option ℕ) → list_any (bytes_eq word) (words_by_number (known_words r) (kept_restarted (record { id = id; numbers = numbers; live = l })).numbers)
              ≡ option_map_or (λ ws. list_any (bytes_eq word) ws) (option_map (λ n. words_by_number (known_words r) (take n numbers)) l) false
          cases id numbers None = refl
          cases id numbers (Some n) = refl

  abbrev counter_in : Option ℕ → ℕ
  counter_in count = unwrap_or count 0

  abbrev none_yet : List (List ℕ × ℕ) → List (List ℕ × ℕ)
  none_yet counts = map (λ (e : List ℕ × ℕ). (e.0, 0)) counts

  no_additions : (word : List ℕ) → (facts (restarted r)).counter word ≡ 0
  no_additions word = by r.counts
    where
      by : (counts : List (List ℕ × ℕ)) → counter_in (lookup (bytes_eq word) (none_yet counts)) ≡ 0
      by [] = refl
      by (e ∷ counts) = one (bytes_eq word e.0) (by counts)
        where
          one : (b : Bool) → counter_in (lookup (bytes_eq word) (none_yet counts)) ≡ 0 → counter_in (cond b (Some 0) (lookup (bytes_eq word) (none_yet counts))) ≡ 0
          one true h = refl
          one false h = h

  pub represents-renewed : (run : Run) → AreApart (ids_of (live run.setup.documents run.later)) → Represents r run.setup run.later → Represents (restarted r) (setup_renewed run) []
  represents-renewed run apart is =
      let docs = live run.setup.documents run.later in
      λ i. record {
        live = λ id. (live_kept id ∙ (λ j. (is j).live id) ∙ sym (words_with_id-by_id docs id apart)) i;
        listed = λ word id. (listed_live word id ∙ (λ j. option_map_or (λ ws. list_any (bytes_eq word) ws) ((is j).live id) false) ∙ sym (holds-words word id docs apart) ∙ sym (holds-by_id word id docs) ∙ sym (or_false (holds_pair (by_id docs) word id))) i;
        counter = λ word. no_additions word i;
      }
    where
      or_false : (b : Bool) → (b || false) ≡ b
      or_false true = refl
      or_false false = refl
