-- A vault takes the records of a journal one after the other.
use Rattle.std.proofs.Common.{◌≡◌, ℕ, ◌+◌, ◌<◌, ◌≤◌, List, [], ◌∷◌, ◌++◌, length, take, get_or, refl, sym, ◌∙◌, ap, subst}
use Rattle.std.specs.Prelude.{◌≢◌, Option}
use Rattle.std.proofs.lemmas.List.{take_more}
use Rattle.sse_outside.specs.Images.{NoOther}
use Rattle.vault_server.specs.VaultFrames.{VaultFrameText, vault_body}
use Rattle.sse_journal.specs.JournalView.{IsJournalOf}
use Rattle.sse_journal.specs.Reads.{place_of}
use Rattle.sse_journal.specs.declared.journal.Journal.{Journal}
use Rattle.vault_server.specs.VaultState.{VaultState, empty_vault, vault_taken, IsVaultTaken, vault_records}
use Rattle.vault_server.specs.VaultRecords.{IsBadRecord, IsReplayed, TakesRecord}
use Rattle.vault_server.proofs.Pushing.{taken-push, after-push, records-push}

-- a disk that was only read is as it was
pub journal_on : (payloads : List (List ℕ)) (j : Journal) (content content' : Option (List ℕ)) (images images' : List ℕ → Type 0) → IsJournalOf payloads j content images → content' ≡ content → NoOther images images' → IsJournalOf payloads j content' images'
journal_on payloads j content content' images images' is kept no_other = record {
  payloads_are = is.payloads_are;
  end_is = is.end_is;
  records_are = is.records_are;
  settled = record { reads = kept ∙ is.settled.reads; durable = λ c left. is.settled.durable c (no_other c left) };
}

pub replayed_none : (payloads : List (List ℕ)) (s : VaultState) → s ≡ empty_vault → IsReplayed (take 0 payloads) s
replayed_none payloads s is = record { frames = []; are_taken = tt; payloads_are = refl; state_is = is }

pub replayed_next : (payloads : List (List ℕ)) (k : ℕ) (s t : VaultState) → k < length payloads → IsReplayed (take k payloads) s → TakesRecord s (get_or payloads k []) t → IsReplayed (take (k + 1) payloads) t
replayed_next payloads k s t lt done one = record {
  frames = done.frames ++ one.frame ∷ [];
  are_taken = taken-push empty_vault done.frames one.frame done.are_taken (subst (λ u. IsVaultTaken u one.frame) done.state_is one.is_taken);
  payloads_are = take_more payloads k [] lt ∙ ap (λ l. l ++ get_or payloads k [] ∷ []) done.payloads_are ∙ ap (λ x. vault_records done.frames ++ x ∷ []) one.body_is ∙ sym (records-push done.frames one.frame);
  state_is = one.state_is ∙ ap (λ u. vault_taken u one.frame) done.state_is ∙ sym (after-push empty_vault done.frames one.frame);
}

pub bad_here : (payloads : List (List ℕ)) (k : ℕ) (s : VaultState) → k < length payloads → IsReplayed (take k payloads) s → ((frame : VaultFrameText) → IsVaultTaken s frame → get_or payloads k [] ≢ vault_body frame) → IsBadRecord payloads k
bad_here payloads k s lt done none = record {
  frames = done.frames;
  are_taken = done.are_taken;
  before = done.payloads_are;
  inside = lt;
  bad = λ frame is. none frame (subst (λ u. IsVaultTaken u frame) (sym done.state_is) is);
}

-- where a vault stands that has taken the first records
pub record IsHere (payloads : List (List ℕ)) (at number : ℕ) (s : VaultState) : Type 0 where
  pub within : number ≤ length payloads
  pub at_is : at ≡ place_of payloads number
  pub replayed : IsReplayed (take number payloads) s
