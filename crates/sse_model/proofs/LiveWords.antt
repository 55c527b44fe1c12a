-- The words of a live document by a look-up of its identifier.
use Rattle.std.proofs.Common.{◌≡◌, ℕ, Bool, true, false, ◌||◌, cond, List, [], ◌∷◌, ◌++◌, Some, find, map, refl, ap, ◌∙◌, subst}
use Rattle.std.specs.Prelude.{◌==◌, if◌then◌else◌, option_map, unwrap_or}
use Rattle.std.proofs.lemmas.Bool.{true≢false, eqb-true}
use Rattle.std.proofs.lemmas.Cmp.{nat_eq_equiv}
use Rattle.std.proofs.lemmas.List.{append-nil}
use Rattle.client_registry.proofs.LiveLaws.{among}
use Rattle.client_registry.proofs.OrderLaws.{AreApart}
use Rattle.client_registry.specs.Document.{Document}
use Rattle.client_registry.specs.Facts.{words_with_id}
use Rattle.sse_model.specs.Wire.{words_live}

none_live : (docs : List Document) (id : ℕ) → among id (map (λ d. d.id) docs) ≡ false → words_live docs id ≡ []
none_live [] id none = refl
none_live (d ∷ docs) id none = by (d.id == id) none (none_live docs id)
  where
    by : (b : Bool) → (b || among id (map (λ (e : Document). e.id) docs)) ≡ false → (among id (map (λ (e : Document). e.id) docs) ≡ false → words_live docs id ≡ [])
        → ((if b then d.words else []) ++ words_live docs id) ≡ []
    by true h rest = absurd (true≢false h)
    by false h rest = rest h

-- of documents with different identifiers, the words of one are those that a look-up of it finds
pub words_live-apart : (docs : List Document) (id : ℕ) → AreApart (map (λ d. d.id) docs) → words_live docs id ≡ unwrap_or (words_with_id docs id) []
words_live-apart [] id apart = refl
words_live-apart (d ∷ docs) id apart =
    by (d.id == id) refl (words_live-apart docs id apart.1)
    ∙ ap (λ b. unwrap_or (option_map (λ (e : Document). e.words) (cond b (Some d) (find (λ (e : Document). id == e.id) docs))) []) (nat_eq_equiv.symm d.id id)
  where
    by : (b : Bool) → (d.id == id) ≡ b → words_live docs id ≡ unwrap_or (words_with_id docs id) []
        → ((if b then d.words else []) ++ words_live docs id) ≡ unwrap_or (option_map (λ (e : Document). e.words) (cond b (Some d) (find (λ (e : Document). id == e.id) docs))) []
    by true same rest =
        ap (λ ws. d.words ++ ws) (none_live docs id (subst (λ n. among n (map (λ (e : Document). e.id) docs) ≡ false) (eqb-true d.id id same) apart.0))
        ∙ append-nil d.words
    by false other rest = rest
