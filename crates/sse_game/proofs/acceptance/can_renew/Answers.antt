use Rattle.std.proofs.Common.{◌≡◌, ◌&&◌, ℕ, List, nat_le, nat_lt, ◌-◌, ◌^◌, sym, ap, ◌∙◌, arith}
use Rattle.std.specs.Prelude.{is_none}
use Rattle.std.proofs.lemmas.Result.{IfOk-weaker}
use Rattle.client_live_docs.proofs.Renewed.{renewed-are_live}
use Rattle.client_live_docs.specs.AreLive.{AreLive}
use Rattle.client_registry.proofs.HistoryLaws.{IsHistory-last}
use Rattle.client_registry.proofs.LiveOnce.{rising_once}
use Rattle.client_registry.specs.Acceptance.{frames_needed, size_refusal}
use Rattle.client_registry.specs.Epochs.{Renews, begins, setup_renewed}
use Rattle.client_registry.specs.Registered.{Represents, facts}
use Rattle.client_registry.specs.Run.{last_run}
use Rattle.client_registry.specs.Setup.{Setup}
use Rattle.client_registry.specs.declared.collected.Docs.{Docs}
use Rattle.def_duel.specs.Choices.{Goes, can_take}
use Rattle.sse_game.specs.Side.{epochs_at, history_at, set_up_like}
use Rattle.sse_game.proofs.Accepting.{live_none, not_live, told_live, takes-renews}
use Rattle.sse_game.proofs.acceptance.can_renew.Goals as goal

pub returns-in-Ok : goal.returns-in-Ok
returns-in-Ok c = λ key.
    let side = c.args.side.now in
    let es = epochs_at side in
    let s : Setup = setup_renewed (last_run es) in
    let told : Represents c.registry.result.now (last_run es).setup (last_run es).later = c.registry.ensures (begins es) (last_run es).setup (last_run es).later c.requires.trail in
    let are : AreLive (facts c.registry.result.now).live s.documents = renewed-are_live (facts c.registry.result.now).live (last_run es) (IsHistory-last es c.requires.numbers.kept.0) (λ i. (told i).live) in
    let docs : c.in-Ok.docs.documents ≡ s.documents = rising_once c.in-Ok.docs.documents s.documents c.in-Ok.ensures.live.rising are.rising (λ id. c.in-Ok.ensures.live.same id ∙ sym (are.same id)) in
    c.can_set_up-taken.ensures
    ∙ ap (λ ds. is_none (size_refusal (set_up_like ds (last_run es).setup)) && (nat_lt side.commands (2 ^ 32 - 1) && nat_le (frames_needed (set_up_like ds (last_run es).setup)) (2 ^ 32 - 1 - side.frames))) docs
    ∙ ap (λ b. b && (nat_lt side.commands (2 ^ 32 - 1) && nat_le (frames_needed s) (2 ^ 32 - 1 - side.frames))) (sym (live_none s (told_live Docs s c.in-Ok.docs (c.in-Ok.ensures.refused s.documents are))))
    ∙ takes-renews es side.commands side.frames c.requires.numbers.commands c.requires.numbers.frames (omega (arith, c.requires.numbers.frames, c.requires.numbers.kept.1)) key

pub returns-in-Err : goal.returns-in-Err
returns-in-Err c =
    let side = c.args.side.now in
    let es = epochs_at side in
    let s : Setup = setup_renewed (last_run es) in
    let told : Represents c.registry.result.now (last_run es).setup (last_run es).later = c.registry.ensures (begins es) (last_run es).setup (last_run es).later c.requires.trail in
    let are : AreLive (facts c.registry.result.now).live s.documents = renewed-are_live (facts c.registry.result.now).live (last_run es) (IsHistory-last es c.requires.numbers.kept.0) (λ i. (told i).live) in
    IfOk-weaker c.refused.result _ (λ taken. (key : List ℕ) → taken ≡ can_take (history_at side) (Goes (Renews key)))
    (λ taken is key.
    is.0
    ∙ sym (ap (λ b. b && (nat_lt side.commands (2 ^ 32 - 1) && nat_le (frames_needed s) (2 ^ 32 - 1 - side.frames))) (not_live Docs s c.in-Err.fault (c.in-Err.ensures.accepted s.documents are) is.1))
    ∙ takes-renews es side.commands side.frames c.requires.numbers.commands c.requires.numbers.frames (omega (arith, c.requires.numbers.frames, c.requires.numbers.kept.1)) key)
    c.refused.ensures
