-- What came first stands somewhere, and what stands there is one word with one identifier.
use Rattle.std.proofs.Common.{◌≡◌, ℕ, suc, ◌+◌, Bool, true, false, ◌&&◌, ◌||◌, List, [], ◌∷◌, ◌++◌, length, take, refl, sym, ap, ◌∙◌, arith, append_assoc, eqb-true, ⊎_elim, Some, None}
use Rattle.std.specs.Prelude.{Option, bytes_eq, if◌then◌else◌, ◌==◌}
use Rattle.std.specs.List.{list_any, slice_get}
use Rattle.std.specs.Cmp.Lexicographic.{same_text}
use Rattle.std.proofs.lemmas.Bool.{true≢false, and_parts, or_left, or_right, or_cases}
use Rattle.std.proofs.lemmas.List.Folds.{list_any-append}
use Rattle.std.proofs.lemmas.List.{append-nil}
use Rattle.client_registry.specs.Command.{Command, Add, Delete, Search}
use Rattle.client_registry.specs.Document.{Document}
use Rattle.client_registry.specs.Documents.{has_word}
use Rattle.client_registry.specs.Live.{live, is_listed, is_live_with, holds_pair}
use Rattle.client_registry.specs.Over.{over}
use Rattle.client_registry.specs.Run.{Offsets}
use Rattle.client_registry.specs.Setup.{Setup}
use Rattle.sse_model.specs.Drawn.{sends_number}
use Rattle.sse_model.specs.Wire.{words_live}
use Rattle.def_leakage.proofs.Places.{none_is_some}
use Rattle.def_leakage.specs.Firsts.{origin, first_place, update_words, place_where, place_of, number_origin}
use Rattle.sse_simulator.specs.Leaks.{Origin}

pub some_inside : {A : Type 0} (a b : A) → Some a ≡ Some b → a ≡ b
some_inside a b e = cc

-- a document of the identifier that holds the word has it among its live words
pub live_word : (docs : List Document) (word : List ℕ) (id : ℕ) → holds_pair docs word id ≡ true → list_any (bytes_eq word) (words_live docs id) ≡ true
live_word [] word id h = absurd (true≢false (sym h))
live_word (d ∷ docs) word id h =
    list_any-append (bytes_eq word) (if d.id == id then d.words else []) (words_live docs id)
    ∙ by (d.id == id) (live_word docs word id) h
  where
    by : (b : Bool) → (holds_pair docs word id ≡ true → list_any (bytes_eq word) (words_live docs id) ≡ true) → ((b && list_any (bytes_eq word) d.words) || holds_pair docs word id) ≡ true
        → (list_any (bytes_eq word) (if b then d.words else []) || list_any (bytes_eq word) (words_live docs id)) ≡ true
    by false had h = had h
    by true had h =
        ⊎_elim (λ here. or_left (list_any (bytes_eq word) d.words) (list_any (bytes_eq word) (words_live docs id)) here)
        (λ rest. or_right (list_any (bytes_eq word) d.words) (list_any (bytes_eq word) (words_live docs id)) (had rest))
        (or_cases (list_any (bytes_eq word) d.words) (holds_pair docs word id) h)

-- a word stands at its own place
pub at-own_place : (word : List ℕ) (words : List (List ℕ)) → list_any (bytes_eq word) words ≡ true → slice_get words (place_of word words) ≡ Some word
at-own_place word [] h = absurd (true≢false (sym h))
at-own_place word (w ∷ ws) h = by (λ rest. at-own_place word ws rest) (bytes_eq word w) refl h
  where
    by : (list_any (bytes_eq word) ws ≡ true → slice_get ws (place_of word ws) ≡ Some word) → (b : Bool) → bytes_eq word w ≡ b → (b || list_any (bytes_eq word) ws) ≡ true
        → slice_get (w ∷ ws) (if b then 0 else suc (place_of word ws)) ≡ Some word
    by had true e h = ap (λ x. Some x) (sym (same_text word w (sym e)))
    by had false e h = had h

pub at-middle : {A : Type 0} (xs : List A) (y : A) (ys : List A) → slice_get (xs ++ y ∷ ys) (length xs) ≡ Some y
at-middle [] y ys = refl
at-middle (x ∷ xs) y ys = at-middle xs y ys

pub take-middle : {A : Type 0} (xs ys : List A) → take (length xs) (xs ++ ys) ≡ xs
take-middle [] ys = refl
take-middle (x ∷ xs) ys = ap (λ rest. x ∷ rest) (take-middle xs ys)

-- what is first stands somewhere
pub record FoundFrom (f : List Command → Command → Option ℕ) (k : ℕ) (past xs : List Command) (first : Origin) : Type 0 where
  pub front : List Command
  pub c : Command
  pub rest : List Command
  pub parts : xs ≡ front ++ c ∷ rest
  pub number : k + length front ≡ first.command
  pub passes : f (past ++ front) c ≡ Some first.place

pub found_from : (f : List Command → Command → Option ℕ) (k : ℕ) (past xs : List Command) (first : Origin) → first_place k (over f past xs) ≡ Some first → FoundFrom f k past xs first
found_from f k past [] first e = none_is_some first e
found_from f k past (x ∷ xs) first e = by (f past x) refl e (found_from f (k + 1) (past ++ x ∷ []) xs first)
  where
    by : (m : Option ℕ) → f past x ≡ m → first_place k (m ∷ over f (past ++ x ∷ []) xs) ≡ Some first
        → (first_place (k + 1) (over f (past ++ x ∷ []) xs) ≡ Some first → FoundFrom f (k + 1) (past ++ x ∷ []) xs first) → FoundFrom f k past (x ∷ xs) first
    by (Some place) is e had =
        let same : origin k place ≡ first = some_inside (origin k place) first e in
        record {
          front = [];
          c = x;
          rest = xs;
          parts = refl;
          number = (let n : k + 0 ≡ k = omega arith in n) ∙ ap (λ (o : Origin). o.command) same;
          passes = (λ i. f (append-nil past i) x) ∙ is ∙ ap (λ (o : Origin). Some o.place) same;
        }
    by None is e had =
        let later = had e in
        record {
          front = x ∷ later.front;
          c = later.c;
          rest = later.rest;
          parts = ap (λ rest. x ∷ rest) later.parts;
          number = (let n : k + suc (length later.front) ≡ k + 1 + length later.front = omega arith in n) ∙ later.number;
          passes = ap (λ before. f before later.c) (sym (append_assoc past (x ∷ []) later.front)) ∙ later.passes;
        }

-- the identifier of an update
abbrev pub id_of : Command → ℕ
id_of (Add d) = d.id
id_of (Delete id) = id
id_of (Search word) = 0

-- the update of this number has the word at this place, and the identifier
pub record Stands (o : Offsets) (s : Setup) (cs : List Command) (word : List ℕ) (id : ℕ) (first : Origin) : Type 0 where
  pub n : ℕ
  pub c : Command
  pub there : slice_get cs n ≡ Some c
  pub number : o.command + 1 + n ≡ first.command
  pub word_is : slice_get (update_words s (take n cs) c) first.place ≡ Some word
  pub id_is : id_of c ≡ id

-- so two words that stand at one place are one, and their identifiers too
pub stands_once : (o : Offsets) (s : Setup) (cs : List Command) (w v : List ℕ) (i j : ℕ) (first : Origin) → Stands o s cs w i first → Stands o s cs v j first → (w ≡ v) × (i ≡ j)
stands_once o s cs w v i j first a b =
    let n : a.n ≡ b.n = (let x = a.number in let y = b.number in omega (arith, x, y)) in
    let c : a.c ≡ b.c = some_inside a.c b.c (sym a.there ∙ ap (slice_get cs) n ∙ b.there) in
    (some_inside w v (sym a.word_is ∙ (λ k. slice_get (update_words s (take (n k) cs) (c k)) first.place) ∙ b.word_is), sym a.id_is ∙ ap id_of c ∙ b.id_is)

module _ (o : Offsets) (s : Setup) where
  -- a word of an update stands at its place
  pub stands_here : (before : List Command) (c : Command) (rest : List Command) (p : ℕ) (word : List ℕ) → slice_get (update_words s before c) p ≡ Some word
      → Stands o s (before ++ c ∷ rest) word (id_of c) (origin (o.command + 1 + length before) p)
  stands_here before c rest p word e = record {
    n = length before;
    c = c;
    there = at-middle before c rest;
    number = refl;
    word_is = ap (λ past. slice_get (update_words s past c) p) (take-middle before (c ∷ rest)) ∙ e;
    id_is = refl;
  }

  -- what sends a number has its word and its identifier
  sends : (word : List ℕ) (id : ℕ) (past : List Command) (c : Command) → sends_number s word id past c ≡ true → (list_any (bytes_eq word) (update_words s past c) ≡ true) × (id_of c ≡ id)
  sends word id past (Add d) h =
      let parts = and_parts (d.id == id && has_word word d) (is_listed s past word id) h in
      let own = and_parts (d.id == id) (has_word word d) parts.0 in
      (own.1, eqb-true d.id id own.0)
  sends word id past (Delete other) h =
      let parts = and_parts (other == id) (is_live_with s past word id) h in
      let same : other ≡ id = eqb-true other id parts.0 in
      (live_word (live s.documents past) word other (ap (holds_pair (live s.documents past) word) same ∙ parts.1), same)
  sends word id past (Search other) h = absurd (true≢false (sym h))

  -- where a number was first sent, its word stands with its identifier
  pub stands_sent : (cs : List Command) (word : List ℕ) (id : ℕ) (first : Origin) → number_origin o s cs word id ≡ Some first → Stands o s cs word id first
  stands_sent cs word id first e =
      let found = found_from (λ before c. place_where (sends_number s word id before c) word (update_words s before c)) (o.command + 1) [] cs first e in
      by found (sends_number s word id found.front found.c) refl found.passes
    where
      by : (found : FoundFrom (λ before c. place_where (sends_number s word id before c) word (update_words s before c)) (o.command + 1) [] cs first) (b : Bool)
          → sends_number s word id found.front found.c ≡ b → place_where b word (update_words s found.front found.c) ≡ Some first.place → Stands o s cs word id first
      by found false is e = none_is_some first.place e
      by found true is e =
          let own = sends word id found.front found.c is in
          let place : place_of word (update_words s found.front found.c) ≡ first.place = some_inside _ first.place e in
          record {
            n = length found.front;
            c = found.c;
            there = ap (λ xs. slice_get xs (length found.front)) found.parts ∙ at-middle found.front found.c found.rest;
            number = found.number;
            word_is =
                (λ i. slice_get (update_words s ((ap (take (length found.front)) found.parts ∙ take-middle found.front (found.c ∷ found.rest)) i) found.c) (sym place i))
                ∙ at-own_place word (update_words s found.front found.c) own.0;
            id_is = own.1;
          }
