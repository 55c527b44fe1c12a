use Rattle.std.proofs.Common.{subst}
use Rattle.keyed_fn.specs.KeyedFn.{keyed_fn}
use Rattle.world_server.specs.Replies.{CanWrite}
use Rattle.world_server.specs.Waiting.{IsKept}
use Rattle.world_client.proofs.Hearing.{hears_reply, hears_pages}
use Rattle.world_client.proofs.whole_answers.heard.Goals as goal

pub returns-in-Single-clause-hears : goal.returns-in-Single-clause-hears
returns-in-Single-clause-hears g c = λ first h phase answer of is kept.
    let f = keyed_fn g.K.Keyed.prf g.K.Keyed.pad in
    let can = subst CanWrite c.in-Single.is c.requires.can in
    hears_reply f first h phase c.args.client answer c.in-Single.reply (subst (IsKept answer) c.in-Single.is kept) can.2 is c.replied.result (c.replied.ensures.replied first h phase of is)

pub returns-in-Found-clause-hears : goal.returns-in-Found-clause-hears
returns-in-Found-clause-hears g c = λ first h phase answer of is kept.
    let f = keyed_fn g.K.Keyed.prf g.K.Keyed.pad in
    hears_pages f first h phase answer c.in-Found.ids (subst (IsKept answer) c.in-Found.is kept) c.found.result (c.found.ensures.found f first h phase is)
