-- An answer of the vault is honest, and its reply is no longer than its room.
use Rattle.std.proofs.Common.{◌≡◌, inl, inr, ℕ, ◌≤◌, ◌==◌, Bool, true, false, not, List, length, max, refl, sym, ap, ◌∙◌, subst, arith}
use Rattle.std.specs.Prelude.{◌≢◌, ◌⊎◌, Option, Some, None, Ok, Err, Result, IsOk, OnOk, if◌then◌else◌}
use Rattle.sse_outside.specs.Causes.{Rose}
use Rattle.sse_outside.specs.declared.device_fault.DeviceFault.{DeviceFault}
use Rattle.sse_outside.specs.declared.device_fault.DeviceFault.TheVariants.{Failed}
use Rattle.std.specs.FinMap as finmap
use Rattle.sse_frames.specs.Frames.{IsNumber}
use Rattle.vault_server.specs.VaultAnswers.{answer_reply, vault_answered, InAnswers}
use Rattle.vault_server.specs.VaultFrames.{VaultFrameText, PutFrame, DropFrame, FetchFrame, AskFrame, VaultReplyText, Took, BodyReply, Absent, Next, Clash, NoMemory, StoreFault, BadFrame, InVault, InVaultReplies, vault_reply_bytes}
use Rattle.vault_server.specs.VaultRecords.{CanTake}
use Rattle.vault_server.specs.VaultState.{Held, VaultState, handed, vault_step, update_refusal, step_unless}
use Rattle.vault_server.specs.VaultTurns.{Answers}
use Rattle.vault_server.specs.declared.vault_answer.VaultAnswer.{VaultAnswer}
use Rattle.vault_server.specs.declared.vault_answer.VaultAnswer.TheVariants as answers
use Rattle.vault_link.specs.Loopbacks.{reply_room}
use Rattle.vault_link.specs.ReplySizes.{IsVaultFrame}
use Rattle.vault_link.specs.Served.{IsAnswered, body_of}
use Rattle.vault_server.proofs.Fronts.{length-be32}
use Rattle.vault_link.proofs.ReplyLaws.{one_reply, length-reply}
use Rattle.vault_link.proofs.ServedLaws.{answered-frame}

-- an answer by the step
step_answer : (before after : VaultState) (answer : VaultAnswer) (frame : List ℕ) → answer ≢ answers.NoMemory → answer ≢ answers.StoreFault
    → Answers before after answer (vault_answered before (body_of frame)) (CanTake before (body_of frame)) → InVaultReplies (answer_reply after answer)
    → IsAnswered before frame (vault_reply_bytes (answer_reply after answer)) after
step_answer before after answer frame some whole says is = inl (record {
  state = says.state some whole;
  reply_is = ap vault_reply_bytes (says.reply some whole);
  grammar = subst InVaultReplies (says.reply some whole) is;
})

-- whatever the answer is
pub answer_says : (before after : VaultState) (answer : VaultAnswer) (frame : List ℕ)
    → Answers before after answer (vault_answered before (body_of frame)) (CanTake before (body_of frame)) → InVaultReplies (answer_reply after answer)
    → IsAnswered before frame (vault_reply_bytes (answer_reply after answer)) after
answer_says before after (answers.Took n) frame says is = step_answer before after (answers.Took n) frame (λ e. cc) (λ e. cc) says is
answer_says before after (answers.Holds slot) frame says is = step_answer before after (answers.Holds slot) frame (λ e. cc) (λ e. cc) says is
answer_says before after (answers.Next n) frame says is = step_answer before after (answers.Next n) frame (λ e. cc) (λ e. cc) says is
answer_says before after answers.Clash frame says is = step_answer before after answers.Clash frame (λ e. cc) (λ e. cc) says is
answer_says before after answers.BadFrame frame says is = step_answer before after answers.BadFrame frame (λ e. cc) (λ e. cc) says is
answer_says before after answers.NoMemory frame says is =
    let kept = says.not_taken (inl refl) in inr (inl (record { update = kept.1; state = kept.0; reply_is = refl }))
answer_says before after answers.StoreFault frame says is =
    let kept = says.not_taken (inr refl) in inr (inr (record { update = kept.1; state = kept.0; reply_is = refl }))

-- what is taken has the number of an update

unless : (refused : Option VaultReplyText) (s : VaultState) (frame : VaultFrameText) (n m : ℕ) → IsNumber m → Took n ≡ (step_unless refused s frame).1
    → ((reply : VaultReplyText) → refused ≡ Some reply → Took n ≡ reply → ⊥) → (Took n ≡ (step_unless None s frame).1 → Took n ≡ Took m) → IsNumber n
unless None s frame n m is e never took = subst IsNumber (sym (inside n m (took e))) is
  where
    inside : (n m : ℕ) → Took n ≡ Took m → n ≡ m
    inside n m e = cc
unless (Some reply) s frame n m is e never took = absurd (never reply refl e)

never_took : (expected k n : ℕ) (clashes : Bool) (reply : VaultReplyText) → update_refusal expected k clashes ≡ Some reply → Took n ≡ reply → ⊥
never_took expected k n clashes reply = by (k == expected) clashes
  where
    by : (same clash : Bool) → (if same then (if clash then Some Clash else None) else Some (Next expected)) ≡ Some reply → Took n ≡ reply → ⊥
    by true true a e = (let b : Some Clash ≡ Some (Took n) = a ∙ ap Some (sym e) in cc)
    by true false a e = (let b : None ≡ Some reply = a in cc)
    by false clash a e = (let b : Some (Next expected) ≡ Some (Took n) = a ∙ ap Some (sym e) in cc)

took_number : (s : VaultState) (frame : VaultFrameText) → InVault frame → (n : ℕ) → Took n ≡ (vault_step s frame).1 → IsNumber n
took_number s (PutFrame m slot tag sealed) is n e =
    unless (update_refusal s.next m (finmap.contains_key s.slots slot)) s (PutFrame m slot tag sealed) n m is.number e (never_took s.next m n (finmap.contains_key s.slots slot)) (λ same. same)
took_number s (DropFrame m slot) is n e =
    unless (update_refusal s.next m (not (finmap.contains_key s.slots slot))) s (DropFrame m slot) n m is.number e (never_took s.next m n (not (finmap.contains_key s.slots slot))) (λ same. same)
took_number s (FetchFrame slot) is n e = by (finmap.get s.slots slot) e
  where
    by : (held : Option Held) → Took n ≡ handed held → IsNumber n
    by None a = absurd (let b : Took n ≡ Absent = a in cc)
    by (Some h) a = absurd (let b : Took n ≡ BodyReply h.tag h.sealed = a in cc)
took_number s AskFrame is n e = absurd (let b : Took n ≡ Next s.next = e in cc)

-- an answer to a frame of the grammar stands for a reply of the grammar
pub answer_stands : (before after : VaultState) (answer : VaultAnswer) (frame : List ℕ) → IsVaultFrame frame
    → Answers before after answer (vault_answered before (body_of frame)) (CanTake before (body_of frame)) → InAnswers answer
answer_stands before after (answers.Took n) frame is says =
    took_number before is.frame is.grammar n
    (says.reply (λ e. cc) (λ e. cc) ∙ ap (λ bytes. (vault_answered before (body_of bytes)).1) is.spelled ∙ ap (λ step. step.1) (answered-frame before is.frame is.grammar))
answer_stands before after (answers.Holds slot) frame is says = tt
answer_stands before after (answers.Next n) frame is says = tt
answer_stands before after answers.Clash frame is says = tt
answer_stands before after answers.NoMemory frame is says = tt
answer_stands before after answers.StoreFault frame is says = tt
answer_stands before after answers.BadFrame frame is says = tt

-- a reply has room

step_room : (before after : VaultState) (answer : VaultAnswer) (body : List ℕ) (can : Type 0) → answer ≢ answers.NoMemory → answer ≢ answers.StoreFault → Answers before after answer (vault_answered before body) can
    → length (vault_reply_bytes (answer_reply after answer)) ≤ reply_room before body
step_room before after answer body can some whole says =
    subst (λ reply. length (vault_reply_bytes reply) ≤ reply_room before body) (sym (says.reply some whole)) (omega arith)

pub answer_room : (before after : VaultState) (answer : VaultAnswer) (body : List ℕ) (can : Type 0) → Answers before after answer (vault_answered before body) can
    → length (vault_reply_bytes (answer_reply after answer)) ≤ reply_room before body
answer_room before after (answers.Took n) body can says = step_room before after (answers.Took n) body can (λ e. cc) (λ e. cc) says
answer_room before after (answers.Holds slot) body can says = step_room before after (answers.Holds slot) body can (λ e. cc) (λ e. cc) says
answer_room before after (answers.Next n) body can says = step_room before after (answers.Next n) body can (λ e. cc) (λ e. cc) says
answer_room before after answers.Clash body can says = step_room before after answers.Clash body can (λ e. cc) (λ e. cc) says
answer_room before after answers.BadFrame body can says = step_room before after answers.BadFrame body can (λ e. cc) (λ e. cc) says
answer_room before after answers.NoMemory body can says = omega (arith, length-reply NoMemory)
answer_room before after answers.StoreFault body can says = omega (arith, length-reply StoreFault)

-- only one answer says that the disk failed
pub store_fault_answer : (after : VaultState) (answer : VaultAnswer) → InVaultReplies (answer_reply after answer) → vault_reply_bytes (answer_reply after answer) ≡ vault_reply_bytes StoreFault → answer ≡ answers.StoreFault
store_fault_answer after answer is same = by answer (one_reply (answer_reply after answer) StoreFault is tt same)
  where
    by : (answer : VaultAnswer) → answer_reply after answer ≡ StoreFault → answer ≡ answers.StoreFault
    by (answers.Took n) e = absurd (let b : Took n ≡ StoreFault = e in cc)
    by (answers.Holds slot) e = held (finmap.get after.slots slot) e
      where
        held : (h : Option Held) → handed h ≡ StoreFault → answers.Holds slot ≡ answers.StoreFault
        held None e = absurd (let b : Absent ≡ StoreFault = e in cc)
        held (Some h) e = absurd (let b : BodyReply h.tag h.sealed ≡ StoreFault = e in cc)
    by (answers.Next n) e = absurd (let b : Next n ≡ StoreFault = e in cc)
    by answers.Clash e = absurd (let b : Clash ≡ StoreFault = e in cc)
    by answers.NoMemory e = absurd (let b : NoMemory ≡ StoreFault = e in cc)
    by answers.StoreFault e = refl
    by answers.BadFrame e = absurd (let b : BadFrame ≡ StoreFault = e in cc)

-- a reply that hands out no text is short

abbrev pub fixed : (reply : VaultReplyText) → Type 0
fixed reply = max 5 (length (vault_reply_bytes reply)) ≤ 9

fixed_took : (n : ℕ) → fixed (Took n)
fixed_took n = omega (arith, length-reply (Took n), length-be32 n)

fixed_next : (n : ℕ) → fixed (Next n)
fixed_next n = omega (arith, length-reply (Next n), length-be32 n)

-- the reply to an update
update_room : (s : VaultState) (expected m : ℕ) (clashes : Bool) (frame : VaultFrameText) (n : ℕ) → (step_unless None s frame).1 ≡ Took n → fixed (step_unless (update_refusal expected m clashes) s frame).1
update_room s expected m clashes frame n took = by (m == expected) clashes
  where
    by : (same clash : Bool) → fixed (step_unless (if same then (if clash then Some Clash else None) else Some (Next expected)) s frame).1
    by true true = omega (arith, length-reply Clash)
    by true false = subst fixed (sym took) (fixed_took n)
    by false clash = fixed_next expected

pub put_room : (s : VaultState) (n : ℕ) (slot tag sealed : List ℕ) → fixed (vault_step s (PutFrame n slot tag sealed)).1
put_room s n slot tag sealed = update_room s s.next n (finmap.contains_key s.slots slot) (PutFrame n slot tag sealed) n refl

pub drop_room : (s : VaultState) (n : ℕ) (slot : List ℕ) → fixed (vault_step s (DropFrame n slot)).1
drop_room s n slot = update_room s s.next n (not (finmap.contains_key s.slots slot)) (DropFrame n slot) n refl

pub ask_room : (s : VaultState) → fixed (vault_step s AskFrame).1
ask_room s = fixed_next s.next

-- a fault of the disk that is reported is seen at its count of faults, if the journal wasn't broken before
pub fault_seen : (before after : Option DeviceFault) (faults faults2 : ℕ) → (before ≡ None → Rose faults faults2) → after ≡ Some Failed → ((why : DeviceFault) → before ≡ Some why → after ≡ Some why)
    → Rose faults faults2 ⊎ (before ≡ Some Failed)
fault_seen None after faults faults2 rose failed stays = inl (rose refl)
fault_seen (Some why) after faults faults2 rose failed stays = inr (sym (stays why refl) ∙ failed)

pub on_ok : {T E P : Type 0} (r : Result T E) → IsOk r → OnOk r P → P
on_ok (Ok x) ok p = p
on_ok (Err e) ok p = absurd (let wrong : false ≡ true = ok in cc)
