-- The documents that are made of what is live, identifier by identifier as they rise, are those of the setup of a renewal.
use Rattle.std.proofs.Common.{◌≡◌, ℕ, ◌<◌, Bool, true, false, cond, ◌||◌, List, [], ◌∷◌, map, find, Option, None, Some, is_some, nat_eq, unwrap_or, refl, sym, ap, ◌∙◌, eqb-true}
use Rattle.std.specs.Prelude.{◌==◌, option_map}
use Rattle.std.proofs.lemmas.Bool.{true≢false}
use Rattle.std.proofs.lemmas.Cmp.{nat_eq_equiv}
use Rattle.client_registry.proofs.LiveLaws.{among}
use Rattle.client_registry.proofs.LiveOnce.{AllAbove, Rising, rising_once, by_id-rising}
use Rattle.client_registry.proofs.OrderLaws.{AreApart, IsRising}
use Rattle.client_registry.proofs.Restarted.{ids_of, words_with_id-by_id}
use Rattle.client_registry.specs.Document.{Document}
use Rattle.client_registry.specs.Epochs.{by_id, setup_renewed}
use Rattle.client_registry.specs.Facts.{words_with_id}
use Rattle.client_registry.specs.Live.{live}
use Rattle.client_registry.specs.Run.{Run}

-- the document of an identifier, and those of these
abbrev pub document_live : (ℕ → Option (List (List ℕ))) → ℕ → Document
document_live known id = record { id = id; words = unwrap_or (known id) [] }

abbrev pub documents_live : (ℕ → Option (List (List ℕ))) → List ℕ → List Document
documents_live known ids = map (document_live known) ids

pub rising : (known : ℕ → Option (List (List ℕ))) (ids : List ℕ) → IsRising ids → Rising (documents_live known ids)
rising known [] up = tt
rising known (id ∷ ids) up = (above ids up.0, rising known ids up.1)
  where
    above : (others : List ℕ) → ((q : ℕ) → among q others ≡ true → id < q) → AllAbove id (documents_live known others)
    above [] all = tt
    above (other ∷ others) all =
        (all other (ap (λ b. b || among other others) (nat_eq_equiv.refl other)), above others (λ q in_them. all q (or_there (other == q) (among q others) in_them)))
      where
        or_there : (x y : Bool) → y ≡ true → (x || y) ≡ true
        or_there true y e = refl
        or_there false y e = e

-- of an identifier among them the words that it has
pub words_live : (known : ℕ → Option (List (List ℕ))) (ids : List ℕ) (id : ℕ) → ((q : ℕ) → among q ids ≡ true → is_some (known q) ≡ true)
    → words_with_id (documents_live known ids) id ≡ cond (among id ids) (known id) None
words_live known [] id all = refl
words_live known (other ∷ ids) id all =
    by (nat_eq id other) refl (words_live known ids id (λ q in_them. all q (or_there (other == q) (among q ids) in_them)))
  where
    or_there : (x y : Bool) → y ≡ true → (x || y) ≡ true
    or_there true y e = refl
    or_there false y e = e

    is_known : (o : Option (List (List ℕ))) → is_some o ≡ true → Some (unwrap_or o []) ≡ o
    is_known None e = absurd (true≢false (sym e))
    is_known (Some words) e = refl

    by : (b : Bool) → nat_eq id other ≡ b → words_with_id (documents_live known ids) id ≡ cond (among id ids) (known id) None
        → option_map (λ (x : Document). x.words) (cond (nat_eq id other) (Some (document_live known other)) (find (λ (x : Document). id == x.id) (documents_live known ids)))
        ≡ cond (nat_eq other id || among id ids) (known id) None
    by true is rest =
        ap (λ b. option_map (λ (x : Document). x.words) (cond b (Some (document_live known other)) (find (λ (x : Document). id == x.id) (documents_live known ids)))) is
        ∙ is_known (known other) (all other (ap (λ b. b || among other ids) (nat_eq_equiv.refl other)))
        ∙ ap known (sym (eqb-true id other is))
        ∙ ap (λ b. cond (b || among id ids) (known id) None) (sym (nat_eq_equiv.symm other id ∙ is))
    by false is rest =
        ap (λ b. option_map (λ (x : Document). x.words) (cond b (Some (document_live known other)) (find (λ (x : Document). id == x.id) (documents_live known ids)))) is
        ∙ rest
        ∙ ap (λ b. cond (b || among id ids) (known id) None) (sym (nat_eq_equiv.symm other id ∙ is))

-- so the documents of what is known to be live after a run, as their identifiers rise, are those of the setup that a renewal makes of it
pub renewed_documents : (known : ℕ → Option (List (List ℕ))) (run : Run) (ids : List ℕ) → known ≡ words_with_id (live run.setup.documents run.later) → AreApart (ids_of (live run.setup.documents run.later)) → IsRising ids
    → ((id : ℕ) → among id ids ≡ is_some (known id)) → documents_live known ids ≡ (setup_renewed run).documents
renewed_documents known run ids same apart up are =
    rising_once (documents_live known ids) (by_id (live run.setup.documents run.later)) (rising known ids up) (by_id-rising (live run.setup.documents run.later) apart)
    (λ id. words_live known ids id (λ q in_them. sym (are q) ∙ in_them)
    ∙ ap (λ b. cond b (known id) None) (are id)
    ∙ kept (known id)
    ∙ ap (λ k. k id) same
    ∙ sym (words_with_id-by_id (live run.setup.documents run.later) id apart))
  where
    kept : (o : Option (List (List ℕ))) → cond (is_some o) o None ≡ o
    kept None = refl
    kept (Some words) = refl
