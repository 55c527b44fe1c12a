use Rattle.std.proofs.Common.{refl}
use Rattle.keyed_fn.specs.KeyedFn.{keyed_fn}
use Rattle.world_rules.specs.Changes.{history_of}
use Rattle.world_run.proofs.Commanding.{commanding}
use Rattle.world_run.specs.Commands.{change_of, key_of}
use Rattle.world_run.proofs.client_side.ClientSide.given.Goals as goal

pub carry_out-commanded-requires : goal.carry_out-commanded-requires
carry_out-commanded-requires g c = record {
  client =
      let f = keyed_fn g.K.Keyed.prf g.K.Keyed.pad in
      let side = c.args.self.now in
      let change = change_of c.args.command in
      let q = c.requires.world in
      let t = commanding f q.0 q.1 change side.disk side.stop side.key side.other c.args.waiting.now c.args.it (key_of change) q.2 q.3 c.requires.free refl in
      (q.0, history_of t.0.r.commands, t.0.r.phase, t.1, t.0.key_is, t.2);
}

pub returns : goal.returns
returns g c = record {
  leads = λ first w reached is waits.
      let f = keyed_fn g.K.Keyed.prf g.K.Keyed.pad in
      let side = c.args.self.now in
      let change = change_of c.args.command in
      let t = commanding f first w change side.disk side.stop side.key side.other c.args.waiting.now c.args.it c.new_key-own.result reached is c.requires.free c.new_key-own.ensures in
      c.ended.ensures.leads f first w change t.0 (c.carry_out-commanded.ensures.came first (history_of t.0.r.commands) t.0.r.phase t.1 t.0.key_is t.2) waits;
}
