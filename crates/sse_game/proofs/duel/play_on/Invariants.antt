use Rattle.std.proofs.Common.{◌+◌, ◌≤◌, List, Some}
use Rattle.def_duel.specs.Turns.{Turn}
use Rattle.keyed_fn.specs.KeyedFn.{keyed_fn}
use Rattle.sse_game.specs.Game.{IsGame, sides_at}
use Rattle.sse_game.specs.Played.{IsPlayed, Told}
use Rattle.sse_game.proofs.duel.play_on.Given as goal

abbrev pub invariant-loop : goal.invariant-loop
invariant-loop g l = record {
  game : IsGame (keyed_fn g.K.Keyed.prf g.K.Keyed.pad) l.key l.game;
  few : l.game.skipped + 1 ≤ l.counter;
  told : (old past : List Turn) → g.C.Chooser.tells l.fn.chooser past → IsPlayed (keyed_fn g.K.Keyed.prf g.K.Keyed.pad) l.key 1 (Some old) (Some past) (sides_at l.fn.start)
      → Told (g.C.Chooser.tells l.chooser) (λ now. IsPlayed (keyed_fn g.K.Keyed.prf g.K.Keyed.pad) l.key l.counter (Some old) (Some now) (sides_at l.game));
}
