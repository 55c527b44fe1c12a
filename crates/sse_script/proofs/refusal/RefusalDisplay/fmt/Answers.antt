use Rattle.std.specs.Prelude.{decimal}
use Rattle.std.proofs.lemmas.List.{append-nil}
use Rattle.sse_script.proofs.refusal.RefusalDisplay.fmt.Goals as goal

pub returns-in-BadByte-clause-writes : goal.returns-in-BadByte-clause-writes
returns-in-BadByte-clause-writes g c =
    rw (c.in-BadByte.is, append-nil (decimal c.in-BadByte.place)) c.write-in-BadByte.ensures.writes

pub returns-in-RepeatedWord-clause-writes : goal.returns-in-RepeatedWord-clause-writes
returns-in-RepeatedWord-clause-writes g c = rw c.in-RepeatedWord.is c.write-in-RepeatedWord.ensures.writes
