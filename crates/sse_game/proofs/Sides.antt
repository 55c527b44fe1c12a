-- A side with a command more.
use Rattle.std.proofs.Common.{◌≡◌, ℕ, ◌+◌, true, List, [], ◌∷◌, ◌++◌, length, filter, sym, ap, subst, ◌∙◌, arith}
use Rattle.client_registry.proofs.HistoryLaws.{begins-with_commands, last_run-with_commands}
use Rattle.client_registry.specs.Acceptance.{frames_needed}
use Rattle.client_registry.specs.Command.{Command, is_update}
use Rattle.client_registry.specs.Epochs.{AreEpochs, Does, Renews, begins, next_begins, setup_renewed, with_commands, with_renewal}
use Rattle.client_registry.specs.Histories.{IsWhole}
use Rattle.client_registry.specs.Run.{Epochs, Offsets, Run, last_run}
use Rattle.def_duel.specs.Choices.{Goes, can_take}
use Rattle.leakage_model.specs.TrailFacts.{Follows}
use Rattle.sse_game.specs.Side.{IsNumbered, IsSide, epochs_at, history_at}
use Rattle.sse_game.specs.declared.side.Side.{Side}
use Rattle.sse_game.proofs.Accepting.{taken-does, taken-renews}
use Rattle.sse_game.proofs.Growing.{next-does, next-renews}

pub pushed : (old new : Side) (c : Command) → IsSide old → can_take (history_at old) (Goes (Does c)) ≡ true → epochs_at new ≡ with_commands (c ∷ []) (epochs_at old)
    → Follows new.trail (begins (epochs_at old)) (last_run (epochs_at old)).setup ((last_run (epochs_at old)).later ++ c ∷ [])
    → new.commands ≡ old.commands + 1 → new.frames ≡ old.frames + length (filter is_update (c ∷ [])) → IsWhole (history_at new) → AreEpochs (epochs_at new) → IsSide new
pushed old new c side taken after follows commands frames whole are =
    let es = epochs_at old in
    let next = next-does es c in
    let numbers = taken-does es c taken in
    let frame : (next_begins (epochs_at new)).frame ≡ (next_begins es).frame + length (filter is_update (c ∷ [])) = ap (λ (xs : Epochs). (next_begins xs).frame) after ∙ next.1 in
    record {
      numbers = record {
        commands = omega (arith, commands, side.numbers.commands, ap (λ (xs : Epochs). (next_begins xs).command) after, next.0);
        frames = omega (arith, frames, side.numbers.frames, frame);
        whole = whole;
        kept = (are, omega (arith, frame, numbers.2));
      };
      trail =
          subst (λ (xs : Epochs). Follows new.trail (begins xs) (last_run xs).setup (last_run xs).later) (sym after)
          (subst (λ (o : Offsets). Follows new.trail o (last_run (with_commands (c ∷ []) es)).setup (last_run (with_commands (c ∷ []) es)).later) (sym (begins-with_commands (c ∷ []) es))
          (subst (λ (r : Run). Follows new.trail (begins es) r.setup r.later) (sym (last_run-with_commands (c ∷ []) es)) follows));
    }

pub renewed_numbers : (old new : Side) (key : List ℕ) → IsSide old → can_take (history_at old) (Goes (Renews key)) ≡ true → epochs_at new ≡ with_renewal key (epochs_at old)
    → new.commands ≡ old.commands + 1 → new.frames ≡ old.frames + frames_needed (setup_renewed (last_run (epochs_at old))) → IsWhole (history_at new) → AreEpochs (epochs_at new) → IsNumbered new
renewed_numbers old new key side taken after commands frames whole are =
    let es = epochs_at old in
    let next = next-renews es key in
    let numbers = taken-renews es key taken in
    let frame : (next_begins (epochs_at new)).frame ≡ (next_begins es).frame + frames_needed (setup_renewed (last_run es)) = ap (λ (xs : Epochs). (next_begins xs).frame) after ∙ next.1 in
    record {
      commands = omega (arith, commands, side.numbers.commands, ap (λ (xs : Epochs). (next_begins xs).command) after, next.0);
      frames = omega (arith, frames, side.numbers.frames, frame);
      whole = whole;
      kept = (are, omega (arith, frame, numbers.2));
    }
