-- The lists of a setup's words: none for a word that no document holds, and identifiers of documents in each.
use Rattle.std.proofs.Common.{◌≡◌, ℕ, ◌^◌, ◌<◌, true, false, cond, List, [], ◌∷◌, map, filter, refl, sym, ap, ◌∙◌, arith}
use Rattle.std.specs.Prelude.{All, Contains, ◌==◌, bytes_eq}
use Rattle.std.specs.List.{list_any}
use Rattle.std.proofs.lemmas.Bool.{or_parts}
use Rattle.std.proofs.lemmas.Cmp.{nat_eq_equiv}
use Rattle.std.proofs.lemmas.List.Elements.{All-filter, All-map, All-weaker}
use Rattle.std.proofs.lemmas.List.Folds.{list_any-append, list_any_at}
use Rattle.client_registry.proofs.DistinctLaws.{list_any-first_seen}
use Rattle.client_registry.proofs.LiveLaws.{among}
use Rattle.client_registry.specs.Document.{Document}
use Rattle.client_registry.specs.DocumentRule.{IsDocument}
use Rattle.client_registry.specs.Documents.{all_words, has_word, ids_with}
use Rattle.client_registry.specs.Setup.{Setup, setup_words, setup_list}

-- an identifier of a list is among it
pub among_itself : (ids : List ℕ) (id : ℕ) → Contains ids id → among id ids ≡ true
among_itself ids id within =
    list_any_at (λ other. other == id) ids within.0 id within.1 (ap (λ other. other == id) within.2 ∙ nat_eq_equiv.refl id)

-- a word that no document holds has no list
ids_with-none : (docs : List Document) (word : List ℕ) → list_any (bytes_eq word) (all_words docs) ≡ false → ids_with docs word ≡ []
ids_with-none [] word none = refl
ids_with-none (d ∷ docs) word none =
    let parts = or_parts (has_word word d) (list_any (bytes_eq word) (all_words docs)) (sym (list_any-append (bytes_eq word) d.words (all_words docs)) ∙ none) in
    ap (λ b. map (λ (e : Document). e.id) (cond b (d ∷ filter (has_word word) docs) (filter (has_word word) docs))) parts.0 ∙ ids_with-none docs word parts.1

-- a word that isn't one of the setup's has no list
pub setup_list-missing : (s : Setup) (word : List ℕ) → list_any (bytes_eq word) (setup_words s) ≡ false → setup_list s word ≡ []
setup_list-missing s word none = ids_with-none s.documents word (sym (list_any-first_seen word (all_words s.documents)) ∙ none)

-- what holds of each document's identifier holds of each identifier in a list
All-ids_with : (P : ℕ → Type 0) (docs : List Document) (word : List ℕ) → All (λ d. P d.id) docs → All P (ids_with docs word)
All-ids_with P docs word all = All-map P (λ (d : Document). d.id) (filter (has_word word) docs) (All-filter (has_word word) (λ (d : Document). P d.id) docs all)

-- the identifiers in a list of documents are above 0
pub ids_with-above : (docs : List Document) (word : List ℕ) → All IsDocument docs → All (λ id. 0 < id) (ids_with docs word)
ids_with-above docs word all =
    All-ids_with (λ id. 0 < id) docs word (All-weaker IsDocument (λ (d : Document). 0 < d.id) (λ d is. omega (arith, is.some)) docs all)

-- and fit 8 bytes
pub ids_with-fit : (docs : List Document) (word : List ℕ) → All IsDocument docs → All (λ id. id < 2 ^ 64) (ids_with docs word)
ids_with-fit docs word all =
    All-ids_with (λ id. id < 2 ^ 64) docs word (All-weaker IsDocument (λ (d : Document). d.id < 2 ^ 64) (λ d is. is.fits) docs all)
