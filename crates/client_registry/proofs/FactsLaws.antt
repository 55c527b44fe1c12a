-- The facts of a history, command by command.
use Rattle.std.proofs.Common.{◌≡◌, ℕ, ◌+◌, Bool, true, false, cond, not, ◌||◌, ◌&&◌, List, [], ◌∷◌, ◌++◌, length, filter, find, Option, None, Some, is_some, nat_eq, refl, sym, ap, ◌∙◌}
use Rattle.std.specs.Prelude.{◌==◌, if◌then◌else◌, option_map}
use Rattle.std.specs.List.{list_any}
use Rattle.std.proofs.lemmas.Bool.{true≢false, eqb-true}
use Rattle.std.proofs.lemmas.List.{append-nil, length-append}
use Rattle.std.proofs.lemmas.List.Folds.{list_any-append}
use Rattle.client_registry.specs.Command.{Command, Add, Delete}
use Rattle.client_registry.specs.Document.{Document}
use Rattle.client_registry.specs.Documents.{has_word, is_live}
use Rattle.client_registry.specs.Facts.{facts_after, facts_of, has_counters, words_with_id}
use Rattle.client_registry.specs.Live.{adds_pair, added_list, holds_pair, is_listed, live, newly_listed}
use Rattle.client_registry.specs.Setup.{Setup}
use Rattle.client_registry.specs.Sized.{is_accepted}
use Rattle.client_registry.proofs.LiveLaws.{added_list-push, live-push}

-- The live document of an identifier.

-- a document of the identifier is there exactly where it is live
pub is_some-words_with_id : (docs : List Document) (id : ℕ) → is_some (words_with_id docs id) ≡ is_live docs id
is_some-words_with_id [] id = refl
is_some-words_with_id (d ∷ docs) id = by (nat_eq id d.id) (is_some-words_with_id docs id)
  where
    by : (b : Bool) → is_some (words_with_id docs id) ≡ is_live docs id
        → is_some (option_map (λ (e : Document). e.words) (cond b (Some d) (find (λ (e : Document). id == e.id) docs))) ≡ (b || is_live docs id)
    by true h = refl
    by false h = h

words_with_id-push : (docs : List Document) (d : Document) → words_with_id docs d.id ≡ None → (id : ℕ) → (if id == d.id then Some d.words else words_with_id docs id) ≡ words_with_id (docs ++ d ∷ []) id
words_with_id-push [] d new id = by (nat_eq id d.id)
  where
    by : (b : Bool) → (if b then Some d.words else None) ≡ option_map (λ (e : Document). e.words) (cond b (Some d) None)
    by true = refl
    by false = refl
words_with_id-push (e ∷ docs) d new id =
    by (nat_eq d.id e.id) refl (nat_eq id d.id) refl (nat_eq id e.id) refl new (λ h. words_with_id-push docs d h id)
  where
    by : (a : Bool) → nat_eq d.id e.id ≡ a → (b : Bool) → nat_eq id d.id ≡ b → (c : Bool) → nat_eq id e.id ≡ c
        → option_map (λ (x : Document). x.words) (cond a (Some e) (find (λ (x : Document). d.id == x.id) docs)) ≡ None
        → (words_with_id docs d.id ≡ None → (if nat_eq id d.id then Some d.words else words_with_id docs id) ≡ words_with_id (docs ++ d ∷ []) id)
        → (if b then Some d.words else option_map (λ (x : Document). x.words) (cond c (Some e) (find (λ (x : Document). id == x.id) docs)))
        ≡ option_map (λ (x : Document). x.words) (cond c (Some e) (find (λ (x : Document). id == x.id) (docs ++ d ∷ [])))
    by true at b is c here h rest = absurd (cc)
    by false at true is true here h rest =
        absurd (true≢false (sym (ap (λ n. nat_eq n e.id) (sym (eqb-true id d.id is)) ∙ here) ∙ at))
    by false at true is false here h rest = ap (λ x. if x then Some d.words else words_with_id docs id) (sym is) ∙ rest h
    by false at false is true here h rest = refl
    by false at false is false here h rest = ap (λ x. if x then Some d.words else words_with_id docs id) (sym is) ∙ rest h

words_with_id-filter : (docs : List Document) (gone id : ℕ) → (if id == gone then None else words_with_id docs id) ≡ words_with_id (filter (λ d. not (d.id == gone)) docs) id
words_with_id-filter [] gone id = by (nat_eq id gone)
  where
    nothing : Option (List (List ℕ))
    nothing = None

    by : (b : Bool) → (if b then nothing else nothing) ≡ nothing
    by true = refl
    by false = refl
words_with_id-filter (d ∷ docs) gone id =
    by (nat_eq d.id gone) refl (nat_eq id d.id) refl (nat_eq id gone) refl (words_with_id-filter docs gone id)
  where
    rest : List Document
    rest = filter (λ (e : Document). not (e.id == gone)) docs

    by : (a : Bool) → nat_eq d.id gone ≡ a → (b : Bool) → nat_eq id d.id ≡ b → (c : Bool) → nat_eq id gone ≡ c
        → (if nat_eq id gone then None else words_with_id docs id) ≡ words_with_id rest id
        → (if c then None else option_map (λ (e : Document). e.words) (cond b (Some d) (find (λ (e : Document). id == e.id) docs)))
        ≡ words_with_id (cond (not a) (d ∷ rest) rest) id
    by true at true is true here h = ap (λ x. if x then None else words_with_id docs id) (sym here) ∙ h
    by true at true is false here h = absurd (true≢false (sym (ap (λ n. nat_eq n gone) (eqb-true id d.id is) ∙ at) ∙ here))
    by true at false is c here h = ap (λ x. if x then None else words_with_id docs id) (sym here) ∙ h
    by false at true is true here h = absurd (true≢false (sym here ∙ ap (λ n. nat_eq n gone) (eqb-true id d.id is) ∙ at))
    by false at true is false here h = ap (λ b. option_map (λ (e : Document). e.words) (cond b (Some d) (find (λ (e : Document). id == e.id) rest))) (sym is)
    by false at false is c here h =
        ap (λ x. if x then None else words_with_id docs id) (sym here) ∙ h ∙ ap (λ b. option_map (λ (e : Document). e.words) (cond b (Some d) (find (λ (e : Document). id == e.id) rest))) (sym is)

-- The facts.

or_assoc : (a b c : Bool) → ((a || b) || (c || false)) ≡ (a || (b || (c || false)))
or_assoc true b c = refl
or_assoc false b c = refl

or_false : (a b c : Bool) → (a || b || c) ≡ (a || (b || (c || false)))
or_false true b c = refl
or_false false true c = refl
or_false false false true = refl
or_false false false false = refl

counted : (a b : Bool) (n : ℕ) (id : ℕ) → n + (if a && not b then 1 else 0) ≡ n + length (if a && not b then id ∷ [] else [])
counted a b n id = ap (λ m. n + m) (by (a && not b))
  where
    by : (c : Bool) → (if c then 1 else 0) ≡ length (if c then id ∷ [] else [])
    by true = refl
    by false = refl

-- Promise P159, also here
-- after an addition of a document whose identifier isn't live
pub facts-add : (s : Setup) (past : List Command) (d : Document) → (facts_of s past).live d.id ≡ None → facts_after (facts_of s past) (Add d) ≡ facts_of s (past ++ Add d ∷ [])
facts-add s past d new = λ i. record {
  live = λ id. (words_with_id-push (live s.documents past) d new id ∙ ap (λ docs. words_with_id docs id) (sym (live-push s.documents past (Add d)))) i;
  listed = λ word id. (or_false (holds_pair s.documents word id) (list_any (adds_pair word id) past) (d.id == id && has_word word d) ∙ ap (λ b. holds_pair s.documents word id || b) (sym (list_any-append (adds_pair word id) past (Add d ∷ [])))) i;
  counter = λ word. (counted (has_word word d) (is_listed s past word d.id) (length (added_list s past word)) d.id ∙ sym (length-append (added_list s past word) (newly_listed s word past (Add d))) ∙ ap length (sym (added_list-push s past (Add d) word))) i;
}

-- Promise P159, also here
-- after a deletion
pub facts-delete : (s : Setup) (past : List Command) (id : ℕ) → facts_after (facts_of s past) (Delete id) ≡ facts_of s (past ++ Delete id ∷ [])
facts-delete s past id = λ i. record {
  live = λ other. (words_with_id-filter (live s.documents past) id other ∙ ap (λ docs. words_with_id docs other) (sym (live-push s.documents past (Delete id)))) i;
  listed = λ word other. (ap (λ b. holds_pair s.documents word other || b) (none (list_any (adds_pair word other) past) ∙ sym (list_any-append (adds_pair word other) past (Delete id ∷ [])))) i;
  counter = λ word. (sym (ap length (added_list-push s past (Delete id) word ∙ append-nil (added_list s past word)))) i;
}
  where
    none : (b : Bool) → b ≡ (b || (false || false))
    none true = refl
    none false = refl

-- an addition is accepted where its identifier isn't live and its counters aren't full
pub accepted-add : (s : Setup) (past : List Command) (d : Document) → is_accepted s past (Add d) ≡ (not (is_some ((facts_of s past).live d.id)) && has_counters (facts_of s past) d)
accepted-add s past d = ap (λ b. not b && has_counters (facts_of s past) d) (sym (is_some-words_with_id (live s.documents past) d.id))

-- a deletion where it is live
pub accepted-delete : (s : Setup) (past : List Command) (id : ℕ) → is_accepted s past (Delete id) ≡ is_some ((facts_of s past).live id)
accepted-delete s past id = sym (is_some-words_with_id (live s.documents past) id)
