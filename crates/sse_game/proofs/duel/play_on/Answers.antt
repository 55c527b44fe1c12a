use Rattle.std.proofs.Common.{◌≡◌, Bool, true, false, Ok, Err, Some, refl, sym, ap, subst, ◌∙◌, arith}
use Rattle.std.specs.Prelude.{IfOk}
use Rattle.def_duel.specs.Choices.{Sides}
use Rattle.def_duel.specs.Duels.{HasTurned}
use Rattle.def_duel.specs.Turns.{texts_of}
use Rattle.keyed_fn.specs.KeyedFn.{IsKeyedFn, keyed_fn}
use Rattle.sse_game.specs.Game.{sides_at}
use Rattle.sse_game.specs.Played.{IsDuel, Told}
use Rattle.sse_game.specs.declared.duel.Duel.{Duel}
use Rattle.sse_game.specs.declared.fault.DuelFault.TheVariants as faults
use Rattle.sse_game.proofs.Faults.{same_error}
use Rattle.sse_game.proofs.Turned.{seen_is}
use Rattle.sse_game.proofs.Turning.{all_turns, last_turn, one_more, unequal}
use Rattle.sse_game.proofs.duel.play_on.Goals as goal

pub loop-init : goal.loop-init
loop-init g c = record {
  game = c.requires.game;
  few = omega (arith, c.requires.begun);
  told = λ old past tells played. (past, tells, played);
}

pub loop-preserved : goal.loop-preserved
loop-preserved g c =
    let f = keyed_fn g.K.Keyed.prf g.K.Keyed.pad in
    let key = c.args.key.now in
    record {
      game = c.in-Ok-true.ensures.game;
      few = omega (arith, c.in-Ok-true.ensures.few, c.loop.invariant.few);
      told = λ old past tells played.
          let before = c.loop.invariant.told old past tells played in
          let after : Told (g.C.Chooser.tells c.turn.new.chooser) (λ now. HasTurned f key (Some before.0) (Some now) (sides_at c.loop.game) (sides_at c.turn.new.game) true) =
          subst (λ r. IfOk r (λ more. Told (g.C.Chooser.tells c.turn.new.chooser) (λ now. HasTurned f key (Some before.0) (Some now) (sides_at c.loop.game) (sides_at c.turn.new.game) more)))
          (c.in-Ok-true.is ∙ ap (λ (b : Bool). Ok b) c.in-Ok-true.field-0-test) (c.turn.ensures.turned before.0 before.1) in
          (after.0, after.1, one_more f key c.loop.counter (Some old) (Some before.0) (Some after.0) (sides_at c.loop.game) before.2 (sides_at c.turn.new.game) after.2);
    }

pub returns-in-Ok-false-clause-whole : goal.returns-in-Ok-false-clause-whole
returns-in-Ok-false-clause-whole g c = λ old past tells played.
    let f = keyed_fn g.K.Keyed.prf g.K.Keyed.pad in
    let key = c.args.key.now in
    let laws : IsKeyedFn f = record {
      prf_length = g.met.K.Keyed.prf_length;
      prf_bytes = g.met.K.Keyed.prf_bytes;
      pad_length = g.met.K.Keyed.pad_length;
      pad_bytes = g.met.K.Keyed.pad_bytes;
      pad_prefix = g.met.K.Keyed.pad_prefix;
    } in
    let before = c.loop.invariant.told old past tells played in
    let after : Told (g.C.Chooser.tells c.turn.new.chooser) (λ now. HasTurned f key (Some before.0) (Some now) (sides_at c.loop.game) (sides_at c.turn.new.game) false) =
    subst (λ r. IfOk r (λ more. Told (g.C.Chooser.tells c.turn.new.chooser) (λ now. HasTurned f key (Some before.0) (Some now) (sides_at c.loop.game) (sides_at c.turn.new.game) more)))
    (c.in-Ok-false.is ∙ ap (λ (b : Bool). Ok b) c.in-Ok-false.field-0-test) (c.turn.ensures.turned before.0 before.1) in (
      after.0,
      after.1,
      subst (λ (s : Sides). IsDuel f key c.args.most (Some old) (Some after.0) s) (sym c.ended.ensures.sides)
          (last_turn f key c.loop.counter (Some old) (Some before.0) (Some after.0) (sides_at c.loop.game) before.2 c.args.most (sides_at c.turn.new.game) laws (omega (arith, c.loop-test.true)) after.2),
    )

pub returns-in-Ok-false-clause-seen : goal.returns-in-Ok-false-clause-seen
returns-in-Ok-false-clause-seen g c =
    let f = keyed_fn g.K.Keyed.prf g.K.Keyed.pad in
    let key = c.args.key.now in
    c.ended.ensures.seen ∙ seen_is f key c.turn.new.game c.in-Ok-false.ensures.game ∙ ap (λ (s : Sides). texts_of f key s.left) (sym c.ended.ensures.sides)

pub returns-in-Err-clause-differ : goal.returns-in-Err-clause-differ
returns-in-Err-clause-differ g c = λ k old past e tells played.
    let f = keyed_fn g.K.Keyed.prf g.K.Keyed.pad in
    let key = c.args.key.now in
    let before = c.loop.invariant.told old past tells played in
    let after = c.turn.ensures.differ k before.0 (c.in-Err.is ∙ ap Err (same_error Duel c.in-Err.fault (faults.LeaksDiffer k) e)) before.1 in
    (after.0, after.1, unequal f key c.loop.counter (Some old) (Some before.0) (Some after.0) (sides_at c.loop.game) before.2 k after.2)

pub returns-clause-whole : goal.returns-clause-whole
returns-clause-whole g c = λ old past tells played.
    let f = keyed_fn g.K.Keyed.prf g.K.Keyed.pad in
    let key = c.args.key.now in
    let laws : IsKeyedFn f = record {
      prf_length = g.met.K.Keyed.prf_length;
      prf_bytes = g.met.K.Keyed.prf_bytes;
      pad_length = g.met.K.Keyed.pad_length;
      pad_bytes = g.met.K.Keyed.pad_bytes;
      pad_prefix = g.met.K.Keyed.pad_prefix;
    } in
    let before = c.loop.invariant.told old past tells played in
    let all : c.loop.counter ≡ c.args.most = omega (arith, c.loop-test.false, c.loop.auto.counter-end, c.requires.some) in (
      before.0,
      before.1,
      subst (λ (s : Sides). IsDuel f key c.args.most (Some old) (Some before.0) s) (sym c.ended-2.ensures.sides)
          (subst (λ n. IsDuel f key n (Some old) (Some before.0) (sides_at c.loop.game)) all
          (all_turns f key c.loop.counter (Some old) (Some before.0) (Some before.0) (sides_at c.loop.game) before.2 laws refl)),
    )

pub returns-clause-seen : goal.returns-clause-seen
returns-clause-seen g c =
    let f = keyed_fn g.K.Keyed.prf g.K.Keyed.pad in
    let key = c.args.key.now in
    c.ended-2.ensures.seen ∙ seen_is f key c.loop.game c.loop.invariant.game ∙ ap (λ (s : Sides). texts_of f key s.left) (sym c.ended-2.ensures.sides)
