-- Each addition of a word from 0 to its counter is drawn; and what one command more makes of the added list.
use Rattle.std.proofs.Common.{◌≡◌, ℕ, ◌<◌, ◌≤◌, Bool, true, false, not, ◌&&◌, List, [], ◌∷◌, ◌++◌, length, refl, ap, ◌∙◌, subst, inl, inr, ⊎_elim, ◌⊎◌, arith}
use Rattle.std.specs.Prelude.{Contains, if◌then◌else◌}
use Rattle.std.proofs.lemmas.Bool.{cases_lt}
use Rattle.std.proofs.lemmas.List.{append-nil, length-append}
use Rattle.client_registry.proofs.FromEnd.{from_end}
use Rattle.client_registry.proofs.LiveLaws.{added_list-push}
use Rattle.client_registry.specs.Command.{Command, Add, Delete, Search}
use Rattle.client_registry.specs.Document.{Document}
use Rattle.client_registry.specs.Documents.{has_word}
use Rattle.client_registry.specs.Live.{is_listed, added_list, counter}
use Rattle.client_registry.specs.Run.{Offsets}
use Rattle.client_registry.specs.Setup.{Setup}
use Rattle.sse_model.proofs.Collisions.{joined}
use Rattle.sse_model.proofs.Members.{Contains-map, Contains-filter, Contains-from_list_any}
use Rattle.sse_model.proofs.Prefixes.{run_of}
use Rattle.sse_model.proofs.SentNumbers.{drawn_before, added_is_drawn}
use Rattle.sse_model.specs.Drawn.{drawn}
use Rattle.sse_model.specs.Names.{name, PlusLabel, PlusPad}
use Rattle.sse_model.specs.Positions.{Position, fresh_words}
use Rattle.sse_frames.specs.Frames.{be64}

-- the new entry of a word in an addition
abbrev pub addition_position : ℕ → Setup → List Command → ℕ → List ℕ → Position
addition_position epoch s past id word = record {
  label = name epoch word PlusLabel (counter s past word);
  pad = name epoch word PlusPad (counter s past word);
  clear = λ ranks. be64 id;
}

module _ (s : Setup) (past : List Command) (word : List ℕ) where
  -- a word of a document whose pair isn't listed is one of its fresh words
  pub fresh_word : (d : Document) → has_word word d ≡ true → is_listed s past word d.id ≡ false → Contains (fresh_words s past d) word
  fresh_word d has new = Contains-filter (λ w. not (is_listed s past w d.id)) d.words word (Contains-from_list_any word d.words has) (ap not new)

  -- an addition lists a word's next pair, or none of the word
  pub added-cases : (d : Document) → (added_list s (past ++ Add d ∷ []) word ≡ added_list s past word)
      ⊎ ((added_list s (past ++ Add d ∷ []) word ≡ added_list s past word ++ d.id ∷ []) × Contains (fresh_words s past d) word)
  added-cases d = by (has_word word d) (is_listed s past word d.id) refl refl
    where
      by : (h n : Bool) → has_word word d ≡ h → is_listed s past word d.id ≡ n → (added_list s (past ++ Add d ∷ []) word ≡ added_list s past word)
          ⊎ ((added_list s (past ++ Add d ∷ []) word ≡ added_list s past word ++ d.id ∷ []) × Contains (fresh_words s past d) word)
      by true false h n = inr (added_list-push s past (Add d) word ∙ (λ i. added_list s past word ++ (if h i && not (n i) then d.id ∷ [] else [])), fresh_word d h n)
      by true true h n = inl (added_list-push s past (Add d) word ∙ (λ i. added_list s past word ++ (if h i && not (n i) then d.id ∷ [] else [])) ∙ append-nil (added_list s past word))
      by false n' h n = inl (added_list-push s past (Add d) word ∙ (λ i. added_list s past word ++ (if h i && not (is_listed s past word d.id) then d.id ∷ [] else [])) ∙ append-nil (added_list s past word))

  -- a fresh word's pair is added
  pub added-fresh : (d : Document) → has_word word d ≡ true → is_listed s past word d.id ≡ false → added_list s (past ++ Add d ∷ []) word ≡ added_list s past word ++ d.id ∷ []
  added-fresh d h n = added_list-push s past (Add d) word ∙ (λ i. added_list s past word ++ (if h i && not (n i) then d.id ∷ [] else []))

  -- a deletion and a search add none
  pub added-delete : (id : ℕ) → added_list s (past ++ Delete id ∷ []) word ≡ added_list s past word
  added-delete id = added_list-push s past (Delete id) word ∙ append-nil (added_list s past word)

  pub added-search : (other : List ℕ) → added_list s (past ++ Search other ∷ []) word ≡ added_list s past word
  added-search other = added_list-push s past (Search other) word ∙ append-nil (added_list s past word)

-- the label of each addition of a word from 0 to its counter is drawn
pub counted_is_drawn : (o : Offsets) (s : Setup) (word : List ℕ) (c : ℕ) (cs : List Command) → c < counter s cs word → Contains (joined (drawn o (run_of s cs))) (name o.epoch word PlusLabel c)
counted_is_drawn o s word c =
    from_end (λ xs. c < counter s xs word → Contains (joined (drawn o (run_of s xs))) (name o.epoch word PlusLabel c)) (λ below. absurd (omega (arith, below))) push
  where
    push : (xs : List Command) (x : Command) → (c < counter s xs word → Contains (joined (drawn o (run_of s xs))) (name o.epoch word PlusLabel c))
        → c < counter s (xs ++ x ∷ []) word → Contains (joined (drawn o (run_of s (xs ++ x ∷ [])))) (name o.epoch word PlusLabel c)
    push xs x had below = by x below
      where
        old : (y : Command) → added_list s (xs ++ y ∷ []) word ≡ added_list s xs word → c < counter s (xs ++ y ∷ []) word → Contains (joined (drawn o (run_of s (xs ++ y ∷ [])))) (name o.epoch word PlusLabel c)
        old y same lt = drawn_before o s xs y (name o.epoch word PlusLabel c) (had (omega (arith, lt, ap length same)))

        by : (y : Command) → c < counter s (xs ++ y ∷ []) word → Contains (joined (drawn o (run_of s (xs ++ y ∷ [])))) (name o.epoch word PlusLabel c)
        by (Add d) lt =
            ⊎_elim (λ same. old (Add d) same lt)
            (λ new.
            ⊎_elim (λ (before : c < counter s xs word). drawn_before o s xs (Add d) (name o.epoch word PlusLabel c) (had before))
            (λ (after : counter s xs word ≤ c).
            let last : counter s xs word ≡ c = omega (arith, lt, after, ap length new.0, length-append (added_list s xs word) (d.id ∷ [])) in
            subst (λ (n : ℕ). Contains (joined (drawn o (run_of s (xs ++ Add d ∷ [])))) (name o.epoch word PlusLabel n)) last
            (added_is_drawn o s xs d (addition_position o.epoch s xs d.id word)
            (Contains-map (addition_position o.epoch s xs d.id) (fresh_words s xs d) word new.1)).0)
            (cases_lt c (counter s xs word))) (added-cases s xs word d)
        by (Delete id) lt = old (Delete id) (added-delete s xs word id) lt
        by (Search other) lt = old (Search other) (added-search s xs word other) lt
