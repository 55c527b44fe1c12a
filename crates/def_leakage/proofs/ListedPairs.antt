-- The identifiers of the pairs of a word that are listed.
use Rattle.std.proofs.Common.{◌≡◌, ℕ, ◌+◌, List, [], ◌∷◌, ◌++◌, length, map, refl, ap, ◌∙◌}
use Rattle.std.specs.Prelude.{flat_map}
use Rattle.std.specs.List.{enumerate_from}
use Rattle.std.proofs.lemmas.List.{map-append}
use Rattle.client_registry.specs.Command.{Command}
use Rattle.client_registry.specs.Live.{added_list, newly_listed}
use Rattle.client_registry.specs.Over.{over}
use Rattle.client_registry.specs.Run.{Offsets}
use Rattle.client_registry.specs.Setup.{Setup, setup_list}
use Rattle.def_leakage.specs.Firsts.{origin, place_of, update_words}
use Rattle.def_leakage.specs.CommandLeaks.{listed_by, listed_in_setup, listed_pairs}
use Rattle.sse_simulator.specs.Leaks.{Origin}

own_firsts : {B : Type 0} (f : ℕ → ℕ → B) (n : ℕ) (xs : List ℕ) → map (λ (pair : ℕ × B). pair.0) (map (λ (item : ℕ × ℕ). (item.1, f item.0 item.1)) (enumerate_from n xs)) ≡ xs
own_firsts f n [] = refl
own_firsts f n (x ∷ xs) = ap (λ rest. x ∷ rest) (own_firsts f (n + 1) xs)

same_firsts : {B : Type 0} (b : B) (xs : List ℕ) → map (λ (pair : ℕ × B). pair.0) (map (λ id. (id, b)) xs) ≡ xs
same_firsts b [] = refl
same_firsts b (x ∷ xs) = ap (λ rest. x ∷ rest) (same_firsts b xs)

-- the identifiers of pairs
abbrev pub ids : List (ℕ × Origin) → List ℕ
ids pairs = map (λ (pair : ℕ × Origin). pair.0) pairs

module _ (o : Offsets) (s : Setup) (word : List ℕ) where
  ids-added : (past cs : List Command) → ids (flat_map (λ pairs. pairs) (over (listed_by o s word) past cs)) ≡ flat_map (λ ids. ids) (over (newly_listed s word) past cs)
  ids-added past [] = refl
  ids-added past (c ∷ cs) =
      map-append (λ (pair : ℕ × Origin). pair.0) (listed_by o s word past c) (flat_map (λ pairs. pairs) (over (listed_by o s word) (past ++ c ∷ []) cs))
      ∙ (λ i. same_firsts (origin (o.command + 1 + length past) (place_of word (update_words s past c))) (newly_listed s word past c) i ++ ids-added (past ++ c ∷ []) cs i)

  -- they are those that the setup lists, then those that additions list: those that a search may show
  pub ids-listed_pairs : (cs : List Command) → ids (listed_pairs o s cs word) ≡ setup_list s word ++ added_list s cs word
  ids-listed_pairs cs =
      map-append (λ (pair : ℕ × Origin). pair.0) (listed_in_setup o s word) (flat_map (λ pairs. pairs) (over (listed_by o s word) [] cs))
      ∙ (λ i. own_firsts (λ place id. origin o.command place) 0 (setup_list s word) i ++ ids-added [] cs i)
