-- The reply of a vault that stands as a client with identifiers in order left it, to a question: of a slot it comes to the line of its put.
use Rattle.std.proofs.Common.{◌≡◌, inl, inr, ℕ, ◌+◌, ◌<◌, false, List, length, None, Some, refl, sym, ap, ◌∙◌, subst, arith}
use Rattle.std.specs.Prelude.{Option, IsSome, is_some, option_and_then, option_map}
use Rattle.std.specs.List.{slice_get}
use Rattle.keyed_fn.specs.KeyedFn.{KeyedFn}
use Rattle.keyed_fn.specs.VaultFormulas.{VaultSecrets, vault_slot}
use Rattle.sse_frames.specs.declared.fault.FrameFault.{FrameFault}
use Rattle.vault_server.specs.VaultAnswers.{vault_answered}
use Rattle.vault_server.specs.VaultFrames.{VaultFrameText, FetchFrame, VaultReplyText, InVault, InVaultReplies, vault_bytes, vault_number, vault_reply_bytes}
use Rattle.vault_server.specs.VaultReading.{frame_in}
use Rattle.vault_server.specs.VaultRecords.{CanTake}
use Rattle.vault_server.specs.VaultState.{VaultState, vault_reply, vault_step}
use Rattle.vault_server.proofs.FrameGrammar.{read_back}
use Rattle.vault_server.proofs.Fronts.{ok_inside}
use Rattle.vault_link.specs.ReplySizes.{IsVaultReply}
use Rattle.vault_link.specs.Served.{IsAnswered, body_of}
use Rattle.vault_link.proofs.ReplyLaws.{no_other}
use Rattle.vault_link.proofs.ServedLaws.{answered-frame, body_of-bytes}
use Rattle.vault_shelf.specs.Scans.{one_if}
use Rattle.vault_shelf.specs.Shelves.{Deposit, Shelf, text_there}
use Rattle.vault_shelf.specs.Standing.{LeftBy}
use Rattle.vault_shelf.proofs.Scans.{AreNumbered, gone_by_number}
use Rattle.vault_shelf.proofs.Texts.{fetched_gone, get_gives_text}
use Rattle.vault_script.specs.declared.vault_stop.VaultStop.{VaultStop}
use Rattle.doc_vault.specs.Outcomes.{IsRead}
use Rattle.vault_restore.specs.LeftInOrder.{line_there}
use Rattle.vault_restore.specs.RestoredLines.{RestoredLine, TextLine, is_forged_line, lines_of_slot}
use Rattle.vault_restore.specs.Slots.{Holds, SlotComesTo, SlotOutcome, Stops, held_outcome, slot_outcome}

-- A question.

-- a vault takes no question as an update
not_taken : (vault : VaultState) (frame : VaultFrameText) → InVault frame → vault_number frame ≡ None → CanTake vault (body_of (vault_bytes frame)) → ⊥
not_taken vault frame grammar none can =
    let same : frame ≡ can.0 =
    ok_inside {E = FrameFault} frame can.0 (sym (read_back frame grammar) ∙ ap frame_in (sym (body_of-bytes frame) ∙ can.2) ∙ read_back can.0 can.1.grammar) in
    none_some (vault_number frame) none (subst (λ (f : VaultFrameText). IsSome (vault_number f)) (sym same) can.1.update)
  where
    none_some : (number : Option ℕ) → number ≡ None → IsSome number → ⊥
    none_some None e some = cc
    none_some (Some n) e some = cc

-- what is said to a question
pub record IsSaid (vault : VaultState) (frame : VaultFrameText) (bytes : List ℕ) (after : VaultState) : Type 0 where
  pub is : IsVaultReply (vault_reply vault frame) bytes
  pub stays : after ≡ vault

pub question_said : (vault : VaultState) (frame : VaultFrameText) (bytes : List ℕ) (after : VaultState) → InVault frame → vault_number frame ≡ None → vault_step vault frame ≡ (vault, vault_reply vault frame)
    → IsAnswered vault (vault_bytes frame) bytes after → IsSaid vault frame bytes after
question_said vault frame bytes after grammar none step (inl does) =
    let answered : vault_answered vault (body_of (vault_bytes frame)) ≡ (vault, vault_reply vault frame) = answered-frame vault frame grammar ∙ step in
    record {
      is = record {
        grammar = subst (λ (p : VaultState × VaultReplyText). InVaultReplies p.1) answered does.grammar;
        spelled = does.reply_is ∙ ap (λ (p : VaultState × VaultReplyText). vault_reply_bytes p.1) answered;
      };
      stays = does.state ∙ ap (λ (p : VaultState × VaultReplyText). p.0) answered;
    }
question_said vault frame bytes after grammar none step (inr (inl lacks)) = absurd (not_taken vault frame grammar none lacks.update)
question_said vault frame bytes after grammar none step (inr (inr fails)) = absurd (not_taken vault frame grammar none fails.update)

-- A slot.

module _ (f : KeyedFn) (keys : VaultSecrets) (vault : VaultState) (s : Shelf) (left : LeftBy f keys vault s) (numbered : AreNumbered s) where
  -- the reply and the text of slot v
  pub record IsRight (v : ℕ) (there : Option ℕ) : Type 0 where
    pub comes : (bytes : List ℕ) → slot_outcome f keys v bytes (Some (vault_reply vault (FetchFrame (vault_slot f keys.slots v)))) ≡ Holds (line_there s v)
    pub counts : length (lines_of_slot (line_there s v)) ≡ one_if (is_some there)
    pub honest : is_forged_line (line_there s v) ≡ false

  right_there : (v : ℕ) (there : Option ℕ) → v < 0xffffffff → s.there (v + 1) ≡ there → IsRight v there
  right_there v None below at =
      let none : text_there s (v + 1) ≡ None = ap (λ (m : Option ℕ). option_and_then (λ put. option_map (λ (d : Deposit). d.body) (slice_get s.puts put)) m) at in
      let empty : line_there s v ≡ None = ap (option_map (TextLine (v + 1))) none in record {
        comes = λ bytes.
            ap (λ (r : VaultReplyText). slot_outcome f keys v bytes (Some r)) (fetched_gone f keys vault s v left below (gone_by_number s numbered v at))
            ∙ ap Holds (sym empty);
        counts = ap (λ (l : Option RestoredLine). length (lines_of_slot l)) empty;
        honest = ap is_forged_line empty;
      }
  right_there v (Some put) below at =
      let same : put ≡ v = (let e : v + 1 ≡ put + 1 = numbered (v + 1) put at in omega (arith, e)) in
      let got = get_gives_text f keys vault s (v + 1) v left (at ∙ ap Some same) in
      let text : line_there s v ≡ Some (TextLine (v + 1) got.body) = ap (option_map (TextLine (v + 1))) got.text in record {
        comes = λ bytes.
            ap (λ (r : VaultReplyText). slot_outcome f keys v bytes (Some r)) got.reply
            ∙ ap (held_outcome (v + 1) bytes) got.opened
            ∙ ap Holds (sym text);
        counts = ap (λ (l : Option RestoredLine). length (lines_of_slot l)) text;
        honest = ap is_forged_line text;
      }

  pub slot_right : (v : ℕ) → v < 0xffffffff → IsRight v (s.there (v + 1))
  slot_right v below = right_there v (s.there (v + 1)) below refl

  -- what its reply comes to
  pub comes_there : (v : ℕ) (bytes : List ℕ) (came : SlotOutcome) → v < 0xffffffff → IsVaultReply (vault_reply vault (FetchFrame (vault_slot f keys.slots v))) bytes
      → SlotComesTo (slot_outcome f keys v) bytes came → Holds (line_there s v) ≡ came
  comes_there v bytes came below is comes = by comes.read comes.is_read comes.comes
    where
      reply : VaultReplyText
      reply = vault_reply vault (FetchFrame (vault_slot f keys.slots v))

      by : (read : Option VaultReplyText) → IsRead bytes read → slot_outcome f keys v bytes read ≡ came → Holds (line_there s v) ≡ came
      by None is_none e = absurd (is_none reply is)
      by (Some r) is_reply e =
          sym ((slot_right v below).comes bytes) ∙ ap (λ (said : VaultReplyText). slot_outcome f keys v bytes (Some said)) (no_other reply r bytes is is_reply) ∙ e

-- a line that is held is that of its put
pub held_there : (there line : Option RestoredLine) → Holds there ≡ Holds line → line ≡ there
held_there there line e = cc

-- and it's no stop
pub held_stops : (there : Option RestoredLine) (stop : VaultStop) → Holds there ≡ Stops stop → ⊥
held_stops there stop e = cc
