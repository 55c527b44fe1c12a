-- Updates that a vault has taken last after each frame that it answers, also if its disk fails.
use Rattle.std.proofs.Common.{◌≡◌, ◌≢◌, ◌⊎◌, inl, inr, ℕ, List, [], ◌∷◌, ◌++◌, None, Some, Ok, Err, refl, sym, ap, subst, ◌∙◌}
use Rattle.std.specs.Prelude.{IfOk, IsSome, IfSome}
use Rattle.std.specs.FinMap as finmap
use Rattle.std.specs.declared.option.Option.{Option}
use Rattle.std.specs.declared.result.Result.{Result}
use Rattle.std.proofs.lemmas.List.{append-nil}
use Rattle.sse_outside.specs.declared.device_fault.DeviceFault.{DeviceFault}
use Rattle.sse_outside.specs.declared.device_fault.DeviceFault.TheVariants as devices
use Rattle.sse_frames.specs.declared.fault.FrameFault.{FrameFault}
use Rattle.sse_journal.specs.Files.{Gives, GivesWithOrWithout}
use Rattle.sse_journal.specs.JournalView.{broken_by}
use Rattle.sse_journal.proofs.Once.{file_gives}
use Rattle.vault_server.specs.VaultAnswers.{answer_reply, fault_answer, step_of, vault_answered}
use Rattle.vault_server.specs.VaultFrames.{VaultFrameText, Took, BadFrame}
use Rattle.vault_server.specs.VaultReading.{frame_in}
use Rattle.vault_server.specs.VaultRecords.{CanTake}
use Rattle.vault_server.specs.VaultServerView.{IsVaultOf, VaultServerView}
use Rattle.vault_server.specs.VaultState.{Held, IsVaultTaken, VaultState, empty_vault, handed, vault_after, vault_records}
use Rattle.vault_server.specs.VaultStays.{StaysVault}
use Rattle.vault_server.specs.declared.vault_answer.VaultAnswer.{VaultAnswer}
use Rattle.vault_server.specs.declared.vault_answer.VaultAnswer.TheVariants as answers
use Rattle.vault_server.proofs.Pushing.{records-push}
use Rattle.vault_served.specs.Lasting.{GivesAtMostOneMore, IsLasting, Last, Lasts}
use Rattle.vault_served.specs.Turns.{acknowledged_by, frame_list}

-- A vault whose journal isn't broken.

vault_of : (frames : List VaultFrameText) (server : VaultServerView) (content : Option (List ℕ)) (images : List ℕ → Type 0) → IsLasting frames server content images → broken_by server.journal ≡ None → IsVaultOf frames server content images
vault_of frames server content images is unbroken = record { are_taken = is.are_taken; state_is = is.state_is; journal_is = is.whole unbroken }

pub lasting_of : (frames : List VaultFrameText) (server : VaultServerView) (content : Option (List ℕ)) (images : List ℕ → Type 0) → IsVaultOf frames server content images → IsLasting frames server content images
lasting_of frames server content images is = record {
  are_taken = is.are_taken;
  state_is = is.state_is;
  whole = λ _. is.journal_is;
  left = λ bytes image. inl (subst (λ (f : List ℕ). Gives (vault_records frames) f) (sym (is.journal_is.settled.durable bytes image)) (file_gives (vault_records frames) is.journal_is.payloads_are));
}

-- An update that wasn't taken.

none_or_some : {A : Type 0} (o : Option A) → (o ≡ None) ⊎ ((a : A) × (o ≡ Some a))
none_or_some None = inl refl
none_or_some (Some a) = inr (a, refl)

none_some : {A : Type 0} (a : A) → Some a ≡ None → ⊥
none_some a e = cc

fault_of : (why : DeviceFault) (answer : VaultAnswer) → answer ≡ fault_answer why → (answer ≡ answers.NoMemory) ⊎ (answer ≡ answers.StoreFault)
fault_of devices.Failed answer is = inr is
fault_of devices.NoMemory answer is = inl is

with_or_without : (frames : List VaultFrameText) (body bytes : List ℕ) (state : VaultState) → state ≡ vault_after empty_vault frames → CanTake state body
    → GivesWithOrWithout (vault_records frames) body bytes → GivesAtMostOneMore frames bytes
with_or_without frames body bytes state is can (inl without) = inl without
with_or_without frames body bytes state is can (inr more) =
    inr (
      can.0,
      subst (λ (s : VaultState). IsVaultTaken s can.0) is can.1,
      subst (λ (ps : List (List ℕ)). Gives ps bytes) (ap (λ b. vault_records frames ++ b ∷ []) can.2 ∙ sym (records-push frames can.0)) more,
    )

-- what is handed out of a slot acknowledges nothing
handed-acknowledges : (body : List ℕ) (held : Option Held) → acknowledged_by body (handed held) ≡ []
handed-acknowledges body None = refl
handed-acknowledges body (Some held) = refl

module _ {D : Type 0} (content : D → Option (List ℕ)) (images : D → List ℕ → Type 0) (disk disk2 : D) (server server2 : VaultServerView) (body : List ℕ) (answer : VaultAnswer) where
  -- the updates last, if this one wasn't taken
  untaken : StaysVault content images disk disk2 server server2 answer
      → ((answer ≡ answers.NoMemory) ⊎ (answer ≡ answers.StoreFault) → (server2.state ≡ server.state) × CanTake server.state body)
      → ((frames : List VaultFrameText) → broken_by server.journal ≡ None → IsVaultOf frames server (content disk) (images disk) → (bytes : List ℕ) → images disk2 bytes → GivesWithOrWithout (vault_records frames) body bytes)
      → ((n : ℕ) → answer ≢ answers.Took n)
      → (frames : List VaultFrameText) → IsLasting frames server (content disk) (images disk) → IsLasting frames server2 (content disk2) (images disk2)
  untaken stays not_taken moment not_took frames is = elim (none_or_some (broken_by server.journal)) [
    | inr broken ↦
        let same = stays.broken (subst (λ (o : Option DeviceFault). IsSome o) (sym broken.1) refl) in
        subst (λ (s : VaultServerView). IsLasting frames s (content disk2) (images disk2)) (sym same.1)
        (subst (λ (d : D). IsLasting frames server (content d) (images d)) (sym same.0) is)
    | inl unbroken ↦ elim (none_or_some (broken_by server2.journal)) [
      | inl whole ↦ lasting_of frames server2 (content disk2) (images disk2) (stays.kept not_took whole frames (vault_of frames server (content disk) (images disk) is unbroken))
      | inr broken ↦
          let said : answer ≡ fault_answer broken.0 = subst (λ (o : Option DeviceFault). IfSome o (λ why. answer ≡ fault_answer why)) broken.1 (stays.breaks unbroken) in
          let kept = not_taken (fault_of broken.0 answer said) in
          record {
            are_taken = is.are_taken;
            state_is = kept.0 ∙ is.state_is;
            whole = λ whole. absurd (none_some broken.0 (sym broken.1 ∙ whole));
            left = λ bytes image. with_or_without frames body bytes server.state is.state_is kept.1
                (moment frames unbroken (vault_of frames server (content disk) (images disk) is unbroken) bytes image);
          }
    ]
  ]

  pub lasts_answered : StaysVault content images disk disk2 server server2 answer
      → ((answer ≡ answers.NoMemory) ⊎ (answer ≡ answers.StoreFault) → (server2.state ≡ server.state) × CanTake server.state body)
      → ((frames : List VaultFrameText) → broken_by server.journal ≡ None → IsVaultOf frames server (content disk) (images disk) → (bytes : List ℕ) → images disk2 bytes → GivesWithOrWithout (vault_records frames) body bytes)
      → (answer ≢ answers.NoMemory → answer ≢ answers.StoreFault → answer_reply server2.state answer ≡ (vault_answered server.state body).1)
      → ((n : ℕ) → answer ≡ answers.Took n → broken_by server.journal ≡ None)
      → ((n : ℕ) → answer ≡ answers.Took n → (frames : List VaultFrameText) → IsVaultOf frames server (content disk) (images disk)
      → IfOk (frame_in body) (λ frame. IsVaultOf (frames ++ frame ∷ []) server2 (content disk2) (images disk2)))
      → Last (Lasts content images server disk) (Lasts content images server2 disk2) (acknowledged_by body (answer_reply server2.state answer))
  unfolding Lasts
  lasts_answered stays not_taken moment replied whole added = by_answer answer refl
    where
      others : ((n : ℕ) → answer ≢ answers.Took n) → Last (Lasts content images server disk) (Lasts content images server2 disk2) []
      others not_took = λ frames is. subst (λ l. IsLasting l server2 (content disk2) (images disk2)) (sym (append-nil frames)) (untaken stays not_taken moment not_took frames is)

      by_read : (n : ℕ) → answer ≡ answers.Took n → (read : Result VaultFrameText FrameFault) → frame_in body ≡ read
          → Last (Lasts content images server disk) (Lasts content images server2 disk2) (frame_list read)
      by_read n is (Ok frame) e = λ frames lasted. lasting_of (frames ++ frame ∷ []) server2 (content disk2) (images disk2)
          (subst (λ (read : Result VaultFrameText FrameFault). IfOk read (λ frame. IsVaultOf (frames ++ frame ∷ []) server2 (content disk2) (images disk2))) e
          (added n is frames (vault_of frames server (content disk) (images disk) lasted (whole n is))))
      by_read n is (Err fault) e =
          let reply : answer_reply server2.state answer ≡ BadFrame = replied (λ no. absurd cc) (λ no. absurd cc) ∙ ap (λ (read : Result VaultFrameText FrameFault). (step_of server.state read).1) e in
          let took : answer_reply server2.state answer ≡ Took n = ap (answer_reply server2.state) is in
          absurd (let no : Took n ≡ BadFrame = sym took ∙ reply in cc)

      by_answer : (a : VaultAnswer) → answer ≡ a → Last (Lasts content images server disk) (Lasts content images server2 disk2) (acknowledged_by body (answer_reply server2.state a))
      by_answer (answers.Took n) is = by_read n is (frame_in body) refl
      by_answer (answers.Holds slot) is =
          subst (λ l. Last (Lasts content images server disk) (Lasts content images server2 disk2) l)
          (sym (handed-acknowledges body (finmap.get server2.state.slots slot))) (others (λ r e. absurd cc))
      by_answer (answers.Next n) is = others (λ r e. absurd cc)
      by_answer answers.Clash is = others (λ r e. absurd cc)
      by_answer answers.NoMemory is = others (λ r e. absurd cc)
      by_answer answers.StoreFault is = others (λ r e. absurd cc)
      by_answer answers.BadFrame is = others (λ r e. absurd cc)
