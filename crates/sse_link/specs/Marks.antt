-- The mark that a frame gets from the server's replies.
use Rattle.sse_frames.specs.declared.reply.Reply.TheVariants as replies
use Rattle.sse_link.specs.declared.due.Due.{Due}
use Rattle.sse_link.specs.declared.due.Due.TheVariants as dues
use Rattle.def_link_events.specs.declared.mark.Mark.{Mark}
use Rattle.def_link_events.specs.declared.mark.Mark.TheVariants.{Stepped, LackedMemory, StoreFailed}

-- the mark of a frame that a server answered so
abbrev pub mark_of : Due → Mark
mark_of (dues.Single replies.NoMemory) = LackedMemory
mark_of (dues.Single replies.StoreFault) = StoreFailed
mark_of due = Stepped
