use Rattle.std.proofs.Common.{◌≡◌, ◌<◌, ◌+◌, ◌^◌, None, Some, length, sym, ap, subst, ◌∙◌, arith}
use Rattle.std.specs.Int.{div_ceil}
use Rattle.std.specs.Option.{option_and_then}
use Rattle.client_registry.specs.Acceptance.{frames_needed}
use Rattle.client_registry.specs.Epochs.{setup_renewed}
use Rattle.client_registry.specs.Histories.{commands_in, frames_in}
use Rattle.client_registry.specs.Run.{last_run}
use Rattle.leakage_history.specs.HashedEpochs.{epochs_in}
use Rattle.leakage_history.specs.Renewals.{renewal_refusal}
use Rattle.script_history.proofs.KnownWords.{words-renewed}
use Rattle.script_history.proofs.RenewalRefused.{counted_renewed, err_same, renewal_commands, renewal_frames, renewal_told, untold}
use Rattle.script_history.specs.Numbered.{frames_free, renew_refusal, renewal_fault_refusal}
use Rattle.script_history.specs.Reads.{IsCountable, words_in}
use Rattle.script_history.proofs.numbered_history.NumberedHistory.renew.Goals as goal

pub overflow_add-self : goal.overflow_add-self
overflow_add-self c =
    let es = epochs_in c.self.inside.history in
    let s = setup_renewed (last_run es) in
    let most : c.frames_free-most.result ≡ frames_free es = c.frames_free-most.ensures ∙ ap (λ h. frames_free (epochs_in h)) (sym c.self.view_is) in
    let none : renewal_refusal (frames_free es) s ≡ None = ap (λ n. renewal_refusal n s) (sym most) ∙ sym (c.in-Ok.ensures.fault (λ e. absurd (cc))) in
    let fits : frames_in (Some es) + frames_needed s < 2 ^ 32 = renewal_frames es c.args.key c.self.invariant.counted none in
    omega (arith, c.self.invariant.frames, fits, c.setup_frames.ensures, ap (λ n. div_ceil n 1024) c.in-Ok.ensures.size.padded_words, ap (λ n. div_ceil n 256) c.in-Ok.ensures.size.padded_blocks)

pub overflow_add-self-in-Ok : goal.overflow_add-self-in-Ok
overflow_add-self-in-Ok c =
    let es = epochs_in c.self.inside.history in
    let s = setup_renewed (last_run es) in
    let most : c.frames_free-most.result ≡ frames_free es = c.frames_free-most.ensures ∙ ap (λ h. frames_free (epochs_in h)) (sym c.self.view_is) in
    let none : renewal_refusal (frames_free es) s ≡ None = ap (λ n. renewal_refusal n s) (sym most) ∙ sym (c.in-Ok.ensures.fault (λ e. absurd (cc))) in
    let fits : commands_in (Some es) + 2 < 2 ^ 32 = renewal_commands es c.args.key c.self.invariant.counted none in
    omega (arith, c.self.invariant.commands, fits)

pub invariant_of-self : goal.invariant_of-self
invariant_of-self c =
    let es = epochs_in c.self.inside.history in
    let s = setup_renewed (last_run es) in
    let key = c.args.key in
    let most : c.frames_free-most.result ≡ frames_free es = c.frames_free-most.ensures ∙ ap (λ h. frames_free (epochs_in h)) (sym c.self.view_is) in
    let none : renewal_refusal (frames_free es) s ≡ None = ap (λ n. renewal_refusal n s) (sym most) ∙ sym (c.in-Ok.ensures.fault (λ e. absurd (cc))) in
    let ok = c.in-Ok.ensures.ok in
    record {
      counted = subst (λ xs. IsCountable (Some xs)) (sym ok) (counted_renewed es key c.self.invariant.counted none);
      frames = omega (arith, c.self.invariant.frames, ap (λ xs. frames_in (Some xs)) ok, c.setup_frames.ensures, ap (λ n. div_ceil n 1024) c.in-Ok.ensures.size.padded_words, ap (λ n. div_ceil n 256) c.in-Ok.ensures.size.padded_blocks);
      commands = omega (arith, c.self.invariant.commands, ap (λ xs. commands_in (Some xs)) ok);
      named = omega (arith, c.self.invariant.named, ap (λ xs. length (words_in (Some xs))) ok, ap length (words-renewed es key));
    }

pub returns-in-Ok-clause-found : goal.returns-in-Ok-clause-found
returns-in-Ok-clause-found c =
    let es = epochs_in c.self.inside.history in
    let s = setup_renewed (last_run es) in
    let most : c.frames_free-most.result ≡ frames_free es = c.frames_free-most.ensures ∙ ap (λ h. frames_free (epochs_in h)) (sym c.self.view_is) in
    let none : renewal_refusal (frames_free es) s ≡ None = ap (λ n. renewal_refusal n s) (sym most) ∙ sym (c.in-Ok.ensures.fault (λ e. absurd (cc))) in
    sym (untold es c.args.key c.self.invariant.counted none) ∙ ap (λ h. renew_refusal (epochs_in h) c.args.key) c.self.view_is

pub returns-in_ok-renewal_refusal_of-in-Err-clause-found : goal.returns-in_ok-renewal_refusal_of-in-Err-clause-found
returns-in_ok-renewal_refusal_of-in-Err-clause-found c =
    let es = epochs_in c.self.inside.history in
    let s = setup_renewed (last_run es) in
    let most : c.frames_free-most.result ≡ frames_free es = c.frames_free-most.ensures ∙ ap (λ h. frames_free (epochs_in h)) (sym c.self.view_is) in
    let first : Some c.in-Err.fault ≡ renewal_refusal (frames_free es) s =
    c.in-Err.ensures.fault (λ e. c.in_ok-renewal_refusal_of-in-Err.ensures.other (err_same e)) ∙ ap (λ n. renewal_refusal n s) most in
    sym c.in_ok-renewal_refusal_of-in-Err.ensures.refusal
    ∙ ap (λ r. option_and_then renewal_fault_refusal r) first
    ∙ sym (renewal_told es c.args.key c.self.invariant.counted)
    ∙ ap (λ h. renew_refusal (epochs_in h) c.args.key) c.self.view_is
