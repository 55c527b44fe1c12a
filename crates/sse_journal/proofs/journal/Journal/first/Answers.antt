use Rattle.std.proofs.Common.{sym}
use Rattle.sse_journal.proofs.WalkSteps.{length-front_nil}
use Rattle.sse_journal.proofs.journal.Journal.first.Goals as goal

pub returns-clause-place : goal.returns-clause-place
returns-clause-place c payloads = sym length-front_nil
