-- How the faults of the link and of the server become what stops a run.
use Rattle.std.specs.Prelude.{ℕ, List, take}
use Rattle.client_replies.specs.declared.reply_fault.ReplyFault.{ReplyFault}
use Rattle.client_replies.specs.declared.reply_fault.ReplyFault.TheVariants as faults
use Rattle.script_run_texts.specs.declared.peer_stop.PeerStop.{PeerStop}
use Rattle.script_run_texts.specs.declared.peer_stop.PeerStop.TheVariants as peers
use Rattle.sse_link.specs.declared.link_fault.LinkFault.{LinkFault as FaultOfLink}
use Rattle.sse_link.specs.declared.link_fault.LinkFault.TheVariants as links
use Rattle.sse_script.specs.Shown.{Cause, LinkFault, NoMemory, Clash, BadReply}

abbrev pub stop_of_link : FaultOfLink → PeerStop
stop_of_link links.Cut = peers.Link
stop_of_link links.NoMemory = peers.Memory

-- the cause that is printed for a fault that was found in a reply
abbrev pub cause_of_fault : ReplyFault → List ℕ → Cause
cause_of_fault (faults.Clash what place) reply = Clash what place
cause_of_fault faults.NoMemory reply = NoMemory
cause_of_fault faults.OutOfMemory reply = NoMemory
cause_of_fault faults.StoreFault reply = LinkFault
cause_of_fault faults.BadReply reply = BadReply (take 16 reply)
