use Rattle.std.proofs.Common.{Err, Some, ap, ◌∙◌}
use Rattle.keyed_fn.specs.KeyedFn.{keyed_fn}
use Rattle.sse_game.specs.Game.{sides_at}
use Rattle.sse_game.specs.declared.duel.Duel.{Duel}
use Rattle.sse_game.specs.declared.fault.DuelFault.TheVariants as faults
use Rattle.sse_game.proofs.Faults.{same_error}
use Rattle.sse_game.proofs.Turning.{first_turn, unequal_first}
use Rattle.sse_game.proofs.duel.play_duel.Goals as goal

pub play_on-requires-clause-begun : goal.play_on-requires-clause-begun
play_on-requires-clause-begun g c = c.in-Ok.ensures.skipped

pub returns-in-Ok-clause-whole : goal.returns-in-Ok-clause-whole
returns-in-Ok-clause-whole g c = λ past tells.
    let f = keyed_fn g.K.Keyed.prf g.K.Keyed.pad in
    let key = c.args.key.now in
    let b = c.in-Ok.ensures.begun past tells in
    c.play_on.ensures.whole past b.0 b.1 (first_turn f key (Some past) (Some b.0) (sides_at c.in-Ok.game) c.in-Ok.ensures.skipped b.2)

pub returns-in-Ok-clause-differ : goal.returns-in-Ok-clause-differ
returns-in-Ok-clause-differ g c = λ k past e tells.
    let f = keyed_fn g.K.Keyed.prf g.K.Keyed.pad in
    let key = c.args.key.now in
    let b = c.in-Ok.ensures.begun past tells in
    c.play_on.ensures.differ k past b.0 e b.1 (first_turn f key (Some past) (Some b.0) (sides_at c.in-Ok.game) c.in-Ok.ensures.skipped b.2)

pub returns-in-Err-clause-differ : goal.returns-in-Err-clause-differ
returns-in-Err-clause-differ g c = λ k past e tells.
    let f = keyed_fn g.K.Keyed.prf g.K.Keyed.pad in
    let key = c.args.key.now in
    let d = c.begin.ensures.differ k past (c.in-Err.is ∙ ap Err (same_error Duel c.in-Err.fault (faults.LeaksDiffer k) e)) tells in
    (d.0, d.1, unequal_first f key (Some past) (Some d.0) k d.2)
