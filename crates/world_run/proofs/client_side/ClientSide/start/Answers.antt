use Rattle.std.proofs.Common.{refl}
use Rattle.keyed_fn.specs.KeyedFn.{keyed_fn}
use Rattle.sse_world.specs.declared.event.Outcome.TheVariants.{NoMemory}
use Rattle.world_run.proofs.Facts.{of_client}
use Rattle.world_run.proofs.Starting.{lacking_start, start_in_world}
use Rattle.world_run.specs.Sides.{client_part, halted}
use Rattle.world_run.proofs.client_side.ClientSide.start.Goals as goal

pub start_halted-requires : goal.start_halted-requires
start_halted-requires g c =
    let f = keyed_fn g.K.Keyed.prf g.K.Keyed.pad in
    let first = c.requires.world.0 in
    let w = c.requires.world.1 in
    record {
      none = c.halt.ensures.running;
      part = (first, halted (client_part w), of_client f first w c.requires.world.2, c.halt.ensures.halts f first (client_part w) c.requires.world.3);
    }

pub returns : goal.returns
returns g c = record {
  leads = λ first w reached is waits.
      let f = keyed_fn g.K.Keyed.prf g.K.Keyed.pad in
      let s = c.start_halted in
      let new = s.new.self in
      start_in_world f first w s.result new.running new.disk new.stop new.key new.other (s.ensures.starts first (halted (client_part w)) (of_client f first w reached) (c.halt.ensures.halts f first (client_part w) is));
}

pub returns-then-is_err : goal.returns-then-is_err
returns-then-is_err g c = record {
  leads = λ first w reached is waits.
      let f = keyed_fn g.K.Keyed.prf g.K.Keyed.pad in
      let new = c.halt.new.self in
      start_in_world f first w NoMemory new.running new.disk new.stop new.key new.other (lacking_start f first (halted (client_part w)) new.running new.disk new.stop new.key new.other refl (c.halt.ensures.halts f first (client_part w) is));
}
