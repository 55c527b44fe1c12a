use Rattle.std.proofs.Common.{rules, ◌≡◌, ◌≤◌, ◌<◌, ◌+◌, ◌^◌, ◌∷◌, [], length, sym, ap, subst, ◌∙◌, arith}
use Rattle.std.specs.Prelude.{Some}
use Rattle.client_registry.specs.Histories.{commands_in, frames_in}
use Rattle.client_registry.specs.Sized.{words_named}
use Rattle.leakage_history.specs.Commands.{command_of}
use Rattle.leakage_history.specs.HashedEpochs.{HashedEpochs, epochs_in}
use Rattle.script_history.proofs.CommandRefused.{commands_more, counted_with, frames_fit, frames_more, no_fault, number_refusal-none, words_grow}
use Rattle.script_history.specs.Numbered.{accept_refusal}
use Rattle.script_history.specs.Reads.{IsCountable, number_refusal, words_in}
use Rattle.script_history.proofs.numbered_history.NumberedHistory.push_accepted.Goals as goal

pub push_known-requires : goal.push_known-requires
push_known-requires c =
    let es = epochs_in c.self.inside.history in
    let command = command_of c.args.command in
    no_fault es c.self.invariant.counted.kept command (ap (λ h. accept_refusal (epochs_in h) command) c.self.view_is ∙ c.requires.accepted)

pub overflow_add-frames : goal.overflow_add-frames
overflow_add-frames c =
    let es = epochs_in c.self.inside.history in
    let command = command_of c.args.command in
    let fits = frames_fit es c.self.invariant.counted.kept command (ap (λ h. accept_refusal (epochs_in h) command) c.self.view_is ∙ c.requires.accepted) in
    omega (arith, c.self.invariant.frames, c.count_frames.ensures.count, fits)

pub invariant_of-self-2 : goal.invariant_of-self-2
invariant_of-self-2 c =
    let es = epochs_in c.self.inside.history in
    let command = command_of c.args.command in
    let named = c.in-Some.named in
    let taken = c.in_ok-push_known.ensures.taken in
    let few : commands_in (Some es) + 2 < 2 ^ 32 = subst (λ (h : HashedEpochs). commands_in (Some (epochs_in h)) + 2 < 2 ^ 32) (sym c.self.view_is) c.requires.few in
    let sum : named ≡ c.self.inside.named + c.count_words.result = search rules in
    let fits : named < 2 ^ 32 = search rules in
    let within : length (words_in (Some es)) + length (words_named command) ≤ named = omega (arith, sum, c.count_words.ensures, c.self.invariant.named) in
    record {
      counted = subst (λ xs. IsCountable (Some xs)) (sym taken) (counted_with es command named c.self.invariant.counted c.requires.valid (ap (λ h. accept_refusal (epochs_in h) command) c.self.view_is ∙ c.requires.accepted) few within fits);
      frames = omega (arith, c.self.invariant.frames, c.count_frames.ensures.count, ap (λ xs. frames_in (Some xs)) taken, frames_more es command);
      commands = omega (arith, c.self.invariant.commands, ap (λ xs. commands_in (Some xs)) taken, commands_more es (command ∷ []), few);
      named = omega (arith, ap (λ xs. length (words_in (Some xs))) taken, words_grow es command, within);
    }

pub returns-clause-numbered : goal.returns-clause-numbered
returns-clause-numbered c =
    let es = epochs_in c.self.inside.history in
    let command = command_of c.args.command in
    let named = c.in-Some.named in
    let few : commands_in (Some es) + 2 < 2 ^ 32 = subst (λ (h : HashedEpochs). commands_in (Some (epochs_in h)) + 2 < 2 ^ 32) (sym c.self.view_is) c.requires.few in
    let sum : named ≡ c.self.inside.named + c.count_words.result = search rules in
    let fits : named < 2 ^ 32 = search rules in
    ap (λ h. number_refusal (Some (epochs_in h)) (command ∷ [])) (sym c.self.view_is) ∙ number_refusal-none es command named few (omega (arith, sum, c.count_words.ensures, c.self.invariant.named)) fits
