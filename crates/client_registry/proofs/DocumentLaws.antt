use Rattle.std.proofs.Common.{◌≡◌, ℕ, ◌≤◌, List, length, None, Some, ap, ◌∙◌}
use Rattle.std.specs.Prelude.{if◌then◌else◌, option_map}
use Rattle.std.proofs.lemmas.Bool.{le-ltb}
use Rattle.client_registry.specs.DocumentRule.{first_repeat, doc_refusal}
use Rattle.client_registry.specs.declared.faults.DocFault.TheVariants.{TooManyWords, RepeatedWord}

-- few words, none of them repeated, are a document's
pub doc_refusal-none : (words : List (List ℕ)) → length words ≤ 4096 → first_repeat words ≡ None → doc_refusal words ≡ None
doc_refusal-none words few clear =
    ap (λ b. if b then Some (TooManyWords (length words)) else option_map (λ position. RepeatedWord position) (first_repeat words)) (le-ltb 4096 (length words) few)
    ∙ ap (option_map (λ position. RepeatedWord position)) clear
