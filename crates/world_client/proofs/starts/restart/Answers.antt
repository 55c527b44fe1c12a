use Rattle.std.proofs.Common.{ℕ, Bool, List, IfSome, sym, subst}
use Rattle.keyed_fn.specs.KeyedFn.{keyed_fn}
use Rattle.sse_journal.specs.declared.journal.Journal.{Journal}
use Rattle.world_model.specs.World.{Disk as Model}
use Rattle.world_model.specs.Events.{left}
use Rattle.world_disks.specs.Disks.{Holds, IsDiskOf}
use Rattle.world_client.proofs.Started.{some_of}
use Rattle.world_client.specs.Clients.{IsGreeting}
use Rattle.world_client.specs.Starting.{IsLastKey}
use Rattle.world_client.proofs.starts.restart.Goals as goal

pub with_journal-requires : goal.with_journal-requires
with_journal-requires g c =
    let mid = c.start_counted-started.new.disk in
    let journal = c.in-Some.journal in
    let histories = c.requires.records.1 in
    let model = c.requires.records.2 in
    let of = c.requires.records.3 in
    let started =
    some_of c.start_counted-started.result.0 journal (λ (j : Journal). (model : Model (List ℕ)) → IsDiskOf model c.args.disk.now → (there : Bool) × Holds (left there model).records j mid) c.in-Some.is c.start_counted-started.ensures.made model c.requires.records.4 in
    record { records = (c.requires.records.0, histories started.0, of.client started.0, of.keys started.0, subst (λ payloads. Holds payloads journal mid) (of.records started.0) started.1) }

pub returns-in-Some-clause-made : goal.returns-in-Some-clause-made
returns-in-Some-clause-made g c = λ first histories model of is.
    let f = keyed_fn g.K.Keyed.prf g.K.Keyed.pad in
    let mid = c.start_counted-started.new.disk in
    let journal = c.in-Some.journal in
    let started =
    some_of c.start_counted-started.result.0 journal (λ (j : Journal). (model : Model (List ℕ)) → IsDiskOf model c.args.disk.now → (there : Bool) × Holds (left there model).records j mid) c.in-Some.is c.start_counted-started.ensures.made model is in (
      started.0,
      subst (λ payloads. IfSome c.with_journal.result (λ made. IsGreeting f first (histories started.0) made.client × Holds payloads made.journal c.with_journal.new.disk × IsLastKey first (histories started.0) c.args.key c.args.other made.under_other)) (sym (of.records started.0))
          (c.with_journal.ensures.made first (histories started.0) (of.client started.0) (of.keys started.0) (subst (λ payloads. Holds payloads journal mid) (of.records started.0) started.1)),
    )
