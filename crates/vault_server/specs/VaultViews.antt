-- A contract's view of frames and replies of the vault.
use Rattle.std.specs.Prelude.{Result, Ok, Err}
use Rattle.sse_frames.specs.declared.fault.FrameFault.{FrameFault}
use Rattle.vault_server.specs.declared.vault_frame.VaultFrame.{VaultFrame}
use Rattle.vault_server.specs.declared.vault_frame.VaultFrame.TheVariants as frames
use Rattle.vault_server.specs.declared.vault_reply.VaultReply.{VaultReply}
use Rattle.vault_server.specs.declared.vault_reply.VaultReply.TheVariants as replies
use Rattle.vault_server.specs.VaultFrames.{VaultFrameText, PutFrame, DropFrame, FetchFrame, AskFrame, VaultReplyText, Took, BodyReply, Absent, Next, Clash, NoMemory, StoreFault, BadFrame}

abbrev pub frame_view : VaultFrame → VaultFrameText
frame_view (frames.Put n slot tag sealed) = PutFrame n slot tag sealed.now
frame_view (frames.Drop n slot) = DropFrame n slot
frame_view (frames.Fetch slot) = FetchFrame slot
frame_view frames.Ask = AskFrame

abbrev pub reply_view : VaultReply → VaultReplyText
reply_view (replies.Took n) = Took n
reply_view (replies.Body tag sealed) = BodyReply tag.now sealed.now
reply_view replies.Absent = Absent
reply_view (replies.Next n) = Next n
reply_view replies.Clash = Clash
reply_view replies.NoMemory = NoMemory
reply_view replies.StoreFault = StoreFault
reply_view replies.BadFrame = BadFrame

-- what a reader answered

abbrev pub frame_read : Result VaultFrame FrameFault → Result VaultFrameText FrameFault
frame_read (Ok frame) = Ok (frame_view frame)
frame_read (Err fault) = Err fault

abbrev pub reply_read : Result VaultReply FrameFault → Result VaultReplyText FrameFault
reply_read (Ok reply) = Ok (reply_view reply)
reply_read (Err fault) = Err fault
