-- The names that a server looks up, by the numbers of words.
use Rattle.std.proofs.Common.{◌≡◌, ℕ, ◌+◌, List, [], ◌∷◌, ◌++◌, map, refl, sym, ap, ◌∙◌}
use Rattle.std.specs.List.{range_with_len}
use Rattle.std.proofs.lemmas.List.{map-append}
use Rattle.client_registry.specs.Command.{Command, Search}
use Rattle.client_registry.specs.Live.{added_list, counter}
use Rattle.client_registry.specs.Setup.{Setup, setup_list}
use Rattle.leakage_values.specs.Numbered.{number_of_word, numbered}
use Rattle.leakage_values.specs.ProbedNames.{probed_by_number}
use Rattle.leakage_values.specs.SetupDrawings.{code_name}
use Rattle.leakage_names.specs.declared.name.NameKind.TheVariants as kinds
use Rattle.sse_model.specs.Drawn.{probed_by}
use Rattle.sse_model.specs.Names.{name, PlusLabel, Revocation}

module _ (epoch : ℕ) (words : List (List ℕ)) (word : List ℕ) where
  labels : (cs : List ℕ) → map (numbered words) (map (λ c. name epoch word PlusLabel c) cs) ≡ map (code_name epoch (number_of_word words word) kinds.PlusLabel) cs
  labels [] = refl
  labels (c ∷ cs) = ap (λ rest. code_name epoch (number_of_word words word) kinds.PlusLabel c ∷ rest) (labels cs)

  revocations : (ids : List ℕ) → map (numbered words) (map (λ id. name epoch word Revocation id) ids) ≡ map (code_name epoch (number_of_word words word) kinds.Revocation) ids
  revocations [] = refl
  revocations (id ∷ ids) = ap (λ rest. code_name epoch (number_of_word words word) kinds.Revocation id ∷ rest) (revocations ids)

-- of a search
pub probed-search : (epoch : ℕ) (words : List (List ℕ)) (s : Setup) (past : List Command) (word : List ℕ)
    → probed_by_number epoch (number_of_word words word) (counter s past word) (setup_list s word ++ added_list s past word) ≡ map (numbered words) (probed_by epoch s past (Search word))
probed-search epoch words s past word =
    let cs = range_with_len 0 (counter s past word + 1) in
    let ids = setup_list s word ++ added_list s past word in
    let number = number_of_word words word in
    ap (λ rest. code_name epoch number kinds.ListLabel 0 ∷ rest)
    (sym (λ i. labels epoch words word cs i ++ revocations epoch words word ids i)
    ∙ sym (map-append (numbered words) (map (λ c. name epoch word PlusLabel c) cs) (map (λ id. name epoch word Revocation id) ids)))
