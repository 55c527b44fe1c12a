use Rattle.std.proofs.Common.{None, sym, subst}
use Rattle.std.specs.Prelude.{Bool}
use Rattle.client_registry.specs.Run.{History}
use Rattle.keyed_fn.specs.KeyedFn.{keyed_fn}
use Rattle.world_client.specs.Starting.{IsDiskOfClient, IsStartedOf}
use Rattle.world_disks.specs.Disks.{Holds}
use Rattle.world_model.specs.Events.{left}
use Rattle.world_rules.specs.Changes.{history_of}
use Rattle.world_run.proofs.Starting.{disk_of_client, failed_start, made_start}
use Rattle.world_run.specs.Sides.{IsClient}
use Rattle.world_run.specs.Starting.{IsStartOf}
use Rattle.world_run.proofs.client_side.ClientSide.start_halted.Goals as goal

pub start_client-started-requires : goal.start_client-started-requires
start_client-started-requires g c =
    let f = keyed_fn g.K.Keyed.prf g.K.Keyed.pad in
    let self = c.args.self.now in
    let first = c.requires.part.0 in
    let part = c.requires.part.1 in
    let is = subst (λ r. IsClient f first part r self.disk self.stop self.key self.other) c.requires.none c.requires.part.3 in
    let histories : Bool → History = λ there. history_of (left there part.disk).records in
    record {
      records = (
        first,
        histories,
        is.payloads,
        subst (λ k. IsDiskOfClient f first histories k c.as_key.result is.payloads) (sym c.new.ensures)
            (subst (λ o. IsDiskOfClient f first histories self.key o is.payloads) (sym c.as_key.ensures) (disk_of_client f first part self.disk self.disk self.stop self.stop self.key self.other 0 is c.requires.part.2)),
        is.disk_is,
      );
    }

pub returns-in-Ok : goal.returns-in-Ok
returns-in-Ok g c = record {
  starts = λ first part of given.
      let f = keyed_fn g.K.Keyed.prf g.K.Keyed.pad in
      let self = c.args.self.now in
      let s = c.start_client-started in
      let calls = s.result.1 in
      let new = c.runs.new.self in
      let is = subst (λ r. IsClient f first part r self.disk self.stop self.key self.other) c.requires.none given in
      let histories : Bool → History = λ there. history_of (left there part.disk).records in
      let client = disk_of_client f first part self.disk self.disk self.stop self.stop self.key self.other 0 is of in
      let keyed = subst (λ k. IsDiskOfClient f first histories k c.as_key.result is.payloads) (sym c.new.ensures) (subst (λ o. IsDiskOfClient f first histories self.key o is.payloads) (sym c.as_key.ensures) client) in
      let started = subst (λ r. IsStartedOf f first histories self.key self.other is.payloads self.stop r calls s.new.disk) c.in-Ok.is
      (subst (λ k. IsStartedOf f first histories k self.other is.payloads self.stop s.result.0 calls s.new.disk) c.new.ensures
      (subst (λ o. IsStartedOf f first histories c.new.result o is.payloads self.stop s.result.0 calls s.new.disk) c.as_key.ensures (s.ensures.started first histories is.payloads keyed is.disk_is))) in
      let there = (started.1).0 in
      let greets = (started.1).1 in
      let holds = subst (λ payloads. Holds payloads c.in-Ok.made.journal s.new.disk) (is.records there) (started.1).2 in
      made_start f first part self.disk new.disk self.stop new.stop self.key self.other calls is new.running new.key new.other there started.0
      (c.runs.ensures.runs f first part there is.stop_is greets holds (started.1).3);
}

pub returns-in-Err : goal.returns-in-Err
returns-in-Err g c = record {
  starts = λ first part of given.
      let f = keyed_fn g.K.Keyed.prf g.K.Keyed.pad in
      let self = c.args.self.now in
      let s = c.start_client-started in
      let calls = s.result.1 in
      let after = c.after_failure-self in
      let is = subst (λ r. IsClient f first part r self.disk self.stop self.key self.other) c.requires.none given in
      let histories : Bool → History = λ there. history_of (left there part.disk).records in
      let client = disk_of_client f first part self.disk self.disk self.stop self.stop self.key self.other 0 is of in
      let keyed = subst (λ k. IsDiskOfClient f first histories k c.as_key.result is.payloads) (sym c.new.ensures) (subst (λ o. IsDiskOfClient f first histories self.key o is.payloads) (sym c.as_key.ensures) client) in
      let started = subst (λ r. IsStartedOf f first histories self.key self.other is.payloads self.stop r calls s.new.disk) c.in-Err.is
      (subst (λ k. IsStartedOf f first histories k self.other is.payloads self.stop s.result.0 calls s.new.disk) c.new.ensures
      (subst (λ o. IsStartedOf f first histories c.new.result o is.payloads self.stop s.result.0 calls s.new.disk) c.as_key.ensures (s.ensures.started first histories is.payloads keyed is.disk_is))) in
      subst (λ r. IsStartOf f first part c.outcome_of.result r s.new.disk after.result self.key self.other) (sym c.requires.none)
      (subst (λ out. IsStartOf f first part out None s.new.disk after.result self.key self.other) (sym c.outcome_of.ensures)
      (failed_start f first part self.disk s.new.disk self.stop after.result self.key self.other calls is c.in-Err.why started after.ensures.stopped after.ensures.broken));
}
