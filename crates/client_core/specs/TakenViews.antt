-- A contract's view of a client that sends.
use Rattle.std.specs.Prelude.{◌≡◌, ◌≢◌, ℕ, ◌+◌, ◌≤◌, Bool, false, ◌==◌, List, [], length, drop, Option, Some, None}
use Rattle.sse_frames.specs.Replies.{ReplyText, Took, reply_bytes}
use Rattle.client_replies.specs.Faults.{IsFaultOf}
use Rattle.client_core.specs.States.{BehindState, ClientOf}
use Rattle.client_replies.specs.declared.reply_fault.ReplyFault.{ReplyFault}
use Rattle.client_core.specs.declared.taken.Taken.{Taken}
use Rattle.client_core.specs.declared.taken.Taken.TheVariants as taken

-- the frames that the server may lack, in the order in which they are sent, how many they are, and the number of the first
abbrev pub to_send : BehindState → List (List ℕ)
to_send behind = behind.frames

abbrev pub frames_left : BehindState → ℕ
frames_left behind = length behind.frames

abbrev pub first_number : BehindState → ℕ
first_number behind = behind.number

-- how many it may lack once a reply was taken
abbrev pub left_behind : Taken → ℕ
left_behind (taken.Behind client) = frames_left client.state
left_behind (taken.Ready client) = 0
left_behind (taken.Stopped client fault) = 0

-- the fault that a reply ended the client with
abbrev pub stopped_by : Taken → Option ReplyFault
stopped_by (taken.Behind client) = None
stopped_by (taken.Ready client) = None
stopped_by (taken.Stopped client fault) = Some fault

-- whether a reply is the acknowledgement of the frame of this number
abbrev pub is_took : ReplyText → ℕ → Bool
is_took (Took q) number = q == number
is_took _ number = false

-- what a reply makes of a client: the acknowledgement of its next frame takes that frame off, all else is a fault
abbrev pub AfterReply : ClientOf BehindState → List ℕ → Taken → Type 0
AfterReply client reply (taken.Behind next) =
    (reply ≡ reply_bytes (Took (first_number client.state))) × (next.key ≡ client.key) × (next.state.ready ≡ client.state.ready)
    × (first_number next.state ≡ first_number client.state + 1) × (to_send next.state ≡ drop 1 (to_send client.state)) × (1 ≤ frames_left next.state)
AfterReply client reply (taken.Ready next) =
    (reply ≡ reply_bytes (Took (first_number client.state))) × (next.key ≡ client.key) × (next.state ≡ client.state.ready)
    × (drop 1 (to_send client.state) ≡ [])
AfterReply client reply (taken.Stopped next fault) =
    (reply ≢ reply_bytes (Took (first_number client.state))) × (next.key ≡ client.key) × IsFaultOf reply fault
