-- The text printed for the fault that a reply reports.
use Rattle.std.specs.Prelude.{ℕ, List, ◌++◌, codes, decimal, ◌==◌, if◌then◌else◌}
use Rattle.client_replies.specs.declared.reply_fault.ReplyFault.{ReplyFault}
use Rattle.client_replies.specs.declared.reply_fault.ReplyFault.TheVariants.{Clash, NoMemory, StoreFault, BadReply, OutOfMemory}

-- of a collision of this kind at this place of a frame's list
abbrev pub clash_text : (what place : ℕ) → List ℕ
clash_text what place =
    if what == 1 then codes "the server holds the label of entry " ++ decimal place ++ codes " from 0"
    else if what == 2 then codes "the server holds the label of addition " ++ decimal place ++ codes " from 0"
    else codes "the server holds revocation number " ++ decimal place ++ codes " from 0 already, or lacks it"

abbrev pub reply_fault_text : ReplyFault → List ℕ
reply_fault_text (Clash what place) = clash_text what place
reply_fault_text NoMemory = codes "the server is out of memory"
reply_fault_text StoreFault = codes "the server's disk failed"
reply_fault_text BadReply = codes "the server's reply is not one that is expected"
reply_fault_text OutOfMemory = codes "out of memory"
