-- What a trail tells of a word is what the leakage of a command shows of it, and what is so of a trail after one command more.
use Rattle.std.proofs.Common.{◌≡◌, ℕ, true, not, ◌||◌, List, [], ◌∷◌, ◌++◌, map, refl, sym, ap, ◌∙◌, subst}
use Rattle.std.specs.Prelude.{Option, bytes_eq, if◌then◌else◌, unwrap_or, ◌==◌}
use Rattle.std.specs.Map.{lookup}
use Rattle.std.proofs.lemmas.Bool.{and_parts, not-true}
use Rattle.std.proofs.lemmas.Cmp.{nat_eq_equiv}
use Rattle.std.proofs.lemmas.List.{map-append}
use Rattle.client_registry.proofs.LiveLaws.{among, live-push}
use Rattle.client_registry.proofs.OrderLaws.{AreApart, AreApart-map_filter, AreApart-push}
use Rattle.client_registry.specs.Command.{Command, Add, Delete, Search}
use Rattle.client_registry.specs.Document.{Document}
use Rattle.client_registry.specs.Documents.{is_live}
use Rattle.client_registry.specs.Live.{after, live}
use Rattle.client_registry.specs.Run.{Offsets}
use Rattle.client_registry.specs.Setup.{Setup, setup_of}
use Rattle.client_registry.specs.Sized.{is_accepted}
use Rattle.client_registry.specs.WordBytes.{word_bytes}
use Rattle.client_registry.specs.declared.word.Word.{Word}
use Rattle.def_leakage.specs.Firsts.{first_search}
use Rattle.def_leakage.specs.CommandLeaks.{home, leak_by, seen_by, sent_at, word_added, word_deleted}
use Rattle.sse_simulator.specs.Leaks.{NewEntry, SearchLeak}
use Rattle.two_level.specs.Shape.{Shape}
use Rattle.leakage_model.proofs.PairLaws.{found-listed_leaks, lists-listed_leaks, number-listed_leaks}
use Rattle.leakage_model.specs.TrailFacts.{facts_in}
use Rattle.leakage_model.specs.WordFacts.{WordFacts, added_leak, deleted_leak, listed_leaks, search_leak, unnamed, word_facts}

-- what is found of a word is what the entries tell of it
pub told : (es : List (Word × WordFacts)) (bs : List ℕ) (o : Option WordFacts) → o ≡ lookup (λ k. bytes_eq bs (word_bytes k)) es → unwrap_or o unnamed ≡ facts_in es bs
told es bs o found = ap (λ m. unwrap_or m unnamed) found

module _ (o : Offsets) (s : Setup) (past : List Command) (word : List ℕ) where
  pub added-word_facts : (id : ℕ) → added_leak id (word_facts o s past word) ≡ word_added o s past id word
  added-word_facts id = λ i. record {
    sent = if lists-listed_leaks o s word past id i then sent_at (number-listed_leaks o s word past id i) else NewEntry;
    seen = seen_by id (first_search o past word);
  }

  pub deleted-word_facts : (id : ℕ) → deleted_leak id (word_facts o s past word) ≡ word_deleted o s past id word
  deleted-word_facts id = λ i. record {
    sent = sent_at (number-listed_leaks o s word past id i);
    seen = seen_by id (first_search o past word);
  }

  pub search-word_facts : search_leak (word_facts o s past word) ≡ leak_by o s past (Search word)
  search-word_facts = ap (SearchLeak (first_search o past word) (home s word) (listed_leaks o s past word)) (found-listed_leaks o s word past)

-- a setup's number of dummies changes nothing of a word
pub word_facts-setup : (o : Offsets) (s : Setup) (docs : List Document) (shape : Shape) → docs ≡ s.documents → shape ≡ s.shape → (word : List ℕ) → word_facts o (setup_of docs shape.b shape.big) [] word ≡ word_facts o s [] word
word_facts-setup o s docs shape same alike word = λ i. word_facts o (setup_of (same i) (alike i).b (alike i).big) [] word

-- live documents have different identifiers after an accepted command too
same_id : (docs : List Document) (id : ℕ) → is_live docs id ≡ among id (map (λ d. d.id) docs)
same_id [] id = refl
same_id (d ∷ docs) id = λ i. nat_eq_equiv.symm id d.id i || same_id docs id i

pub apart-push : (s : Setup) (past : List Command) (c : Command) → AreApart (map (λ d. d.id) (live s.documents past)) → is_accepted s past c ≡ true → AreApart (map (λ d. d.id) (live s.documents (past ++ c ∷ [])))
apart-push s past c before ok = subst (λ ds. AreApart (map (λ (d : Document). d.id) ds)) (sym (live-push s.documents past c)) (by c ok)
  where
    by : (x : Command) → is_accepted s past x ≡ true → AreApart (map (λ d. d.id) (after (live s.documents past) x))
    by (Add d) ok =
        let new = not-true (is_live (live s.documents past) d.id) (and_parts (not (is_live (live s.documents past) d.id)) _ ok).0 in
        subst AreApart (sym (map-append (λ (e : Document). e.id) (live s.documents past) (d ∷ [])))
        (AreApart-push (map (λ e. e.id) (live s.documents past)) d.id before (sym (same_id (live s.documents past) d.id) ∙ new))
    by (Delete id) ok = AreApart-map_filter (λ d. d.id) (λ d. not (d.id == id)) (live s.documents past) before
    by (Search word) ok = before
