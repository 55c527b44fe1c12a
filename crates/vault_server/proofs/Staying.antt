-- An update that was acknowledged leaves a journal that isn't broken.
use Rattle.std.proofs.Common.{◌≡◌, ℕ, List, None, refl, sym, subst}
use Rattle.std.specs.Prelude.{Option, IfSome, IsSome}
use Rattle.std.proofs.lemmas.Bool.{true≢false}
use Rattle.sse_outside.specs.declared.device_fault.DeviceFault.{DeviceFault}
use Rattle.sse_journal.specs.JournalView.{broken_by}
use Rattle.vault_server.specs.VaultAnswers.{fault_answer}
use Rattle.vault_server.specs.VaultServerView.{VaultServerView}
use Rattle.vault_server.specs.VaultStays.{StaysVault}
use Rattle.vault_server.specs.declared.vault_answer.VaultAnswer.TheVariants.{Took}

none_is_none : {A : Type 0} (o : Option A) → o ≡ None → IsSome o → ⊥
none_is_none o none some = true≢false (sym (subst (λ o. IsSome o) none some))

pub took_stays : {D : Type 0} (content : D → Option (List ℕ)) (images : D → List ℕ → Type 0) (old new : D) (before after : VaultServerView) (n : ℕ)
    → (broken_by before.journal ≡ None) × (broken_by after.journal ≡ None) → StaysVault content images old new before after (Took n)
took_stays content images old new before after n whole = record {
  kept = λ not_took. absurd (not_took n refl);
  broken = λ some. absurd (none_is_none (broken_by before.journal) whole.0 some);
  breaks = λ unbroken. subst (λ (o : Option DeviceFault). IfSome o (λ why. Took n ≡ fault_answer why)) (sym whole.1) tt;
}
