use Rattle.std.proofs.Common.{arith, ◌<◌, ◌≤◌, [], ◌∷◌, ◌++◌, length, sym, ap, subst}
use Rattle.keyed_fn.specs.KeyedFn.{keyed_fn}
use Rattle.world_model.specs.World.{at_first}
use Rattle.world_run.proofs.Passing.{all_came, behind_others, passes_none, passes_push}
use Rattle.world_run.proofs.Stepping.{promised_on}
use Rattle.world_run.specs.Worlds.{Passes}
use Rattle.world_run.proofs.whole_run.play.Goals as goal

pub loop-event-init : goal.loop-event-init
loop-event-init g c = record {
  passes = λ first stands. (at_first, passes_none (keyed_fn g.K.Keyed.prf g.K.Keyed.pad) first at_first c.in_ok-behinds.behinds.items c.in_ok-behinds.ensures.items, stands);
  split = sym c.into_iter-event-iterator.ensures.into_iter_gives.0;
  room = c.requires.room;
  fits = omega (arith, c.in_ok-behinds.ensures.len, c.in_ok-behinds.ensures.capacity, c.len.ensures, ap length c.into_iter-event-iterator.ensures.into_iter_gives.0);
}

pub happen-requires-clause-world : goal.happen-requires-clause-world
happen-requires-clause-world g c = let p = c.loop-event.invariant.passes c.requires.first.0 c.requires.first.1 in (c.requires.first.0, p.0, p.2)

pub happen-requires-clause-room : goal.happen-requires-clause-room
happen-requires-clause-room g c = c.loop-event.invariant.room

pub push_reserved-requires : goal.push_reserved-requires
push_reserved-requires g c = omega (arith, c.loop-event.invariant.fits, ap length c.in-Some.ensures.steps.0)

pub loop-event-preserved : goal.loop-event-preserved
loop-event-preserved g c = record {
  passes = λ first stands.
      let f = keyed_fn g.K.Keyed.prf g.K.Keyed.pad in
      let p = c.loop-event.invariant.passes first stands in
      let q = c.happen.ensures.passes first p.0 p.2 in (
        q.0,
        subst (λ bs. Passes f first at_first (c.loop-event.yielded ++ c.in-Some.event ∷ []) bs q.0) (sym c.push_reserved.ensures.items)
            (passes_push f first at_first c.loop-event.yielded c.loop-event.behinds.items p.0 q.0 c.in-Some.event c.happen.result p.1 q.1),
        q.2,
      );
  split = behind_others c.args.events.items c.loop-event.yielded c.loop-event.event-iterator.rest.items c.next.new.self.rest.items c.in-Some.event c.loop-event.invariant.split c.in-Some.ensures.steps.0;
  room = (subst (λ n. 0 < n) (sym c.happen.ensures.long.0) c.loop-event.invariant.room.0, subst (λ n. 65544 ≤ n) (sym c.happen.ensures.long.1) c.loop-event.invariant.room.1);
  fits = omega (arith, c.loop-event.invariant.fits, c.push_reserved.ensures.len, c.push_reserved.ensures.capacity, ap length c.in-Some.ensures.steps.0);
}

pub returns : goal.returns
returns g c = record {
  passes = λ first stands.
      let f = keyed_fn g.K.Keyed.prf g.K.Keyed.pad in
      let p = c.loop-event.invariant.passes first stands in
      (p.0, subst (λ es. Passes f first at_first es c.loop-event.behinds.items p.0) (all_came c.args.events.items c.loop-event.yielded c.loop-event.event-iterator.rest.items c.loop-event.invariant.split (omega (arith, c.in-None.ensures.steps.0, c.loop-event.event-iterator.rest.ok))) p.1, p.2, promised_on f first p.0 c.loop-event.world p.2);
}
