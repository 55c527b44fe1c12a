use Rattle.sse_served.specs.Asked.{wanted_by}
use Rattle.sse_served.proofs.WrongWords.{ends_wrong}
use Rattle.sse_served.proofs.program.served_main.Goals as goal

pub returns-in-Err-clause-wrong : goal.returns-in-Err-clause-wrong
returns-in-Err-clause-wrong g c = ends_wrong (wanted_by c.args.given.now) c.in-Err.stop _ _ c.in-Err.ensures.wrong c.finish-in-Err.ensures
