use Rattle.std.proofs.Common.{◌≡◌, ◌+◌, ◌-◌, refl, ap, ◌∙◌, arith}
use Rattle.std.specs.Int.{div_ceil}
use Rattle.client_registry.specs.Acceptance.{frames_needed}
use Rattle.client_registry.specs.Epochs.{setup_renewed}
use Rattle.client_registry.specs.Run.{last_run}
use Rattle.sse_game.specs.Side.{epochs_at}
use Rattle.sse_game.proofs.Accepting.{taken-renews, unrefused}
use Rattle.sse_game.proofs.Sides.{renewed_numbers}
use Rattle.sse_game.proofs.side.renew.Goals as goal

pub renew_epochs-requires : goal.renew_epochs-requires
renew_epochs-requires c =
    let es = epochs_at c.args.side.now in
    let taken = taken-renews es c.args.key c.requires.taken in
    unrefused (setup_renewed (last_run es)) (4294967295 - c.args.side.now.frames) taken.0 (omega (arith, taken.2, c.requires.side.numbers.frames))

pub overflow_add-side : goal.overflow_add-side
overflow_add-side c = omega (arith, c.requires.side.numbers.commands, (taken-renews (epochs_at c.args.side.now) c.args.key c.requires.taken).1)

pub overflow_add-side-2 : goal.overflow_add-side-2
overflow_add-side-2 c =
    let needed : c.setup_frames.result ≡ frames_needed (setup_renewed (last_run (epochs_at c.args.side.now))) =
    c.setup_frames.ensures ∙ (λ i. 2 + div_ceil (c.in_ok-size.ensures.size.padded_words i) 1024 + div_ceil (c.in_ok-size.ensures.size.padded_blocks i) 256) in
    omega (arith, needed, c.requires.side.numbers.frames, (taken-renews (epochs_at c.args.side.now) c.args.key c.requires.taken).2)

pub returns-clause-numbered : goal.returns-clause-numbered
returns-clause-numbered c =
    let old = c.args.side.now in
    let needed : c.setup_frames.result ≡ frames_needed (setup_renewed (last_run (epochs_at old))) =
    c.setup_frames.ensures ∙ (λ i. 2 + div_ceil (c.in_ok-size.ensures.size.padded_words i) 1024 + div_ceil (c.in_ok-size.ensures.size.padded_blocks i) 256) in
    renewed_numbers old (record { epochs = c.renew_epochs.new.epochs; trail = old.trail; commands = old.commands + 1; frames = old.frames + c.setup_frames.result }) c.args.key c.requires.side c.requires.taken c.in_ok-size.ensures.after
    refl (ap (λ n. old.frames + n) needed) c.in_ok-size.ensures.kept.1 c.in_ok-size.ensures.kept.0
