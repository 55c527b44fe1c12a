-- One update more behind those that a vault has taken.
use Rattle.std.proofs.Common.{◌≡◌, ℕ, List, [], ◌∷◌, ◌++◌, refl, sym, ap, ◌∙◌, subst, Some, None}
use Rattle.std.specs.Prelude.{Ok, Err, Option, Result, IfSome}
use Rattle.std.proofs.lemmas.List.{map-append}
use Rattle.sse_journal.specs.JournalView.{IsJournalOf, broken_by}
use Rattle.sse_journal.specs.declared.journal.Journal.{Journal}
use Rattle.sse_outside.specs.declared.device_fault.DeviceFault.{DeviceFault}
use Rattle.vault_server.specs.VaultFrames.{VaultFrameText, vault_body}
use Rattle.vault_server.specs.VaultState.{VaultState, empty_vault, IsVaultTaken, AreVaultTaken, vault_after, vault_taken, vault_records}
use Rattle.vault_server.specs.VaultServerView.{VaultServerView, IsVaultOf}
use Rattle.vault_server.specs.VaultTurns.{Appends, Breaks, JournalsOne, StaysBroken}

pub taken-push : (s : VaultState) (frames : List VaultFrameText) (frame : VaultFrameText) → AreVaultTaken s frames → IsVaultTaken (vault_after s frames) frame → AreVaultTaken s (frames ++ frame ∷ [])
taken-push s [] frame are is = (is, tt)
taken-push s (x ∷ xs) frame are is = (are.0, taken-push (vault_taken s x) xs frame are.1 is)

pub after-push : (s : VaultState) (frames : List VaultFrameText) (frame : VaultFrameText) → vault_after s (frames ++ frame ∷ []) ≡ vault_taken (vault_after s frames) frame
after-push s [] frame = refl
after-push s (x ∷ xs) frame = after-push (vault_taken s x) xs frame

-- the journal took the body, and the state is that after the update
pub vault_push : (frames : List VaultFrameText) (frame : VaultFrameText) (old new : VaultServerView) (body : List ℕ) (content content2 : Option (List ℕ)) (images images2 : List ℕ → Type 0)
    → IsVaultOf frames old content images → IsVaultTaken old.state frame → body ≡ vault_body frame → new.state ≡ vault_taken old.state frame
    → ((payloads : List (List ℕ)) → IsJournalOf payloads old.journal content images → IsJournalOf (payloads ++ body ∷ []) new.journal content2 images2)
    → IsVaultOf (frames ++ frame ∷ []) new content2 images2
vault_push frames frame old new body content content2 images images2 was one spelled state added = record {
  are_taken = taken-push empty_vault frames frame was.are_taken (subst (λ s. IsVaultTaken s frame) was.state_is one);
  state_is = state ∙ ap (λ s. vault_taken s frame) was.state_is ∙ sym (after-push empty_vault frames frame);
  journal_is = subst (λ payloads. IsJournalOf payloads new.journal content2 images2)
      (ap (λ b. vault_records frames ++ b ∷ []) spelled ∙ sym (map-append vault_body frames (frame ∷ [])))
      (added (vault_records frames) was.journal_is);
}

-- a broken journal that refuses a record stays broken
pub stays_broken : {T D : Type 0} (old new : D) (result : Result T DeviceFault) (before after : Journal) → Breaks old new result before after → StaysBroken before after
stays_broken old new result before after breaks why is = by (broken_by before) refl breaks.broken
  where
    by : (b : Option DeviceFault) → broken_by before ≡ b → IfSome b (λ w. (result ≡ Err w) × (after ≡ before) × (new ≡ old)) → broken_by after ≡ Some why
    by (Some w) e told = ap broken_by told.1 ∙ is
    by None e told = absurd (let no : None ≡ Some why = sym e ∙ is in cc)

-- the journal's promises of a record that was appended are the vault's of its update, if the state is the one after it
pub update_journaled : {T D : Type 0} (content : D → Option (List ℕ)) (images : D → List ℕ → Type 0) (moment : D → ℕ) (left_since : D → ℕ → List ℕ → Type 0) (old new : D) (value : T)
    (before after : VaultServerView) (frame : VaultFrameText) (body : List ℕ)
    → Appends content images moment left_since old new (Ok value) before.journal after.journal body → Breaks old new (Ok value) before.journal after.journal
    → IsVaultTaken before.state frame → body ≡ vault_body frame → after.state ≡ vault_taken before.state frame
    → JournalsOne content images moment left_since old new (Ok value) before after frame body
update_journaled content images moment left_since old new value before after frame body appends breaks one spelled state = record {
  added = λ frames is. vault_push frames frame before after body (content old) (content new) (images old) (images new) is one spelled state appends.added;
  any_moment = λ frames whole is. appends.any_moment (vault_records frames) whole is.journal_is;
  within_after = appends.within_after;
  whole = breaks.whole;
  failed_breaks = breaks.failed_breaks;
  stays_broken = stays_broken old new (Ok value) before.journal after.journal breaks;
}

pub records-push : (frames : List VaultFrameText) (frame : VaultFrameText) → vault_records (frames ++ frame ∷ []) ≡ vault_records frames ++ vault_body frame ∷ []
records-push frames frame = map-append vault_body frames (frame ∷ [])
