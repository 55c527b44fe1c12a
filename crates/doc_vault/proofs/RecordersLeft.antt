-- What one call after another leaves of a recorder.
use Rattle.std.proofs.Common.{◌≡◌, ℕ, List, [], ◌∷◌, ap, sym, ◌∙◌}
use Rattle.client_recorder.proofs.GrownRecords.{keeps-same, keeps-then}
use Rattle.client_recorder.specs.KeepsOn.{IsAtRest, KeepsOn}
use Rattle.sse_outside.specs.Kept.{Kept, with_refused}
use Rattle.doc_vault.specs.RecordersLeft.{LeavesRecorder}

module _ {R : Type 0} (kept : R → Kept) (moment : R → ℕ) (left_since : R → ℕ → List ℕ → Type 0) (whole : R → Type 0) where
  -- no record was handed over
  pub leaves-same : (r : R) → whole r → IsAtRest (kept r) (left_since r (moment r)) → LeavesRecorder kept moment left_since whole r r
  leaves-same r is rest = record { kept_on = keeps-same kept moment left_since r rest; lasts = λ none. is }

  -- one was, and taken
  pub leaves-taken : (a b : R) → KeepsOn kept moment left_since a b → whole b → LeavesRecorder kept moment left_since whole a b
  leaves-taken a b on is = record { kept_on = on; lasts = λ none. is }

  -- or refused
  pub leaves-refused : (a b : R) (payload : List ℕ) → KeepsOn kept moment left_since a b → kept b ≡ with_refused (payload ∷ []) (kept a) → LeavesRecorder kept moment left_since whole a b
  leaves-refused a b payload on is = record { kept_on = on; lasts = λ none. absurd (let no : payload ∷ [] ≡ [] = sym (ap (λ (k : Kept). k.refused) is) ∙ none in cc) }

  -- a call after one that refused nothing
  pub leaves-then : (a b c : R) → LeavesRecorder kept moment left_since whole a b → (kept b).refused ≡ [] → LeavesRecorder kept moment left_since whole b c → LeavesRecorder kept moment left_since whole a c
  leaves-then a b c first none second = record { kept_on = keeps-then kept moment left_since a b c first.kept_on none second.kept_on; lasts = second.lasts }
