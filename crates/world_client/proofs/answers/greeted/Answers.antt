use Rattle.std.proofs.Common.{◌∙◌, sym}
use Rattle.keyed_fn.specs.KeyedFn.{keyed_fn}
use Rattle.world_client.proofs.GoingOn.{goes_on_at, unwanted}
use Rattle.world_client.proofs.Said.{greeted_next, greeted_other}
use Rattle.world_client.proofs.answers.greeted.Goals as goal

pub returns-in-Some-clause-goes_on : goal.returns-in-Some-clause-goes_on
returns-in-Some-clause-goes_on g c = λ first h of is.
    goes_on_at (keyed_fn g.K.Keyed.prf g.K.Keyed.pad) first h c.args.reply.now c.next_in.result c.next_in.ensures.found c.next_in.ensures.only c.in-Some.next c.at_next.result c.in-Some.is (c.at_next.ensures.goes_on first h of is)

pub returns-in-Some-clause-goes_on_by : goal.returns-in-Some-clause-goes_on_by
returns-in-Some-clause-goes_on_by g c = λ first h text of is reads.
    greeted_next (keyed_fn g.K.Keyed.prf g.K.Keyed.pad) first h text c.in-Some.next c.at_next.result (sym c.in-Some.is ∙ c.next_in.ensures.told text reads) (c.at_next.ensures.goes_on first h of is)

pub returns-in-None-clause-goes_on : goal.returns-in-None-clause-goes_on
returns-in-None-clause-goes_on g c = λ first h of is.
    unwanted (keyed_fn g.K.Keyed.prf g.K.Keyed.pad) first h c.args.reply.now c.next_in.result c.next_in.ensures.found c.next_in.ensures.only c.in-None.is

pub returns-in-None-clause-goes_on_by : goal.returns-in-None-clause-goes_on_by
returns-in-None-clause-goes_on_by g c = λ first h text of is reads. greeted_other (keyed_fn g.K.Keyed.prf g.K.Keyed.pad) first h text (sym c.in-None.is ∙ c.next_in.ensures.told text reads)
