use Rattle.std.proofs.Common.{map, drop, ◌∙◌, arith}
use Rattle.sse_frames.specs.Frames.{frame_bytes}
use Rattle.sse_frames.specs.SentParts.{numbered}
use Rattle.client_core.proofs.Frames.{some_less}
use Rattle.client_core.proofs.OwesLaws.{length-setup_left}
use Rattle.client_core.specs.Setup.{index_frames}
use Rattle.client_core.proofs.owed_setup.OwedSetup.behind.Goals as goal

pub overflow_add-place : goal.overflow_add-place
overflow_add-place c = omega (arith, c.requires, length-setup_left c.args.self, c.frame_count.ensures.count, c.frame_count.ensures.within)

pub overflow_add-next : goal.overflow_add-next
overflow_add-next c = omega (arith, c.requires, length-setup_left c.args.self, c.args.self.left, c.args.self.numbers)

pub at-requires-clause-left : goal.at-requires-clause-left
at-requires-clause-left c = omega (arith, c.requires, length-setup_left c.args.self)

pub returns-clause-left : goal.returns-clause-left
returns-clause-left c =
    let setup = c.args.self in
    (λ i. map frame_bytes (numbered (c.at.ensures.next i) (drop (c.at.ensures.place i) (index_frames (c.at.ensures.index i)))))
    ∙ some_less setup.next setup.place (index_frames setup.index) c.args.count
