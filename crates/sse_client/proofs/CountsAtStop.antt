-- What the counts of faults show of how a run stopped.
use Rattle.std.proofs.Common.{◌≡◌, ◌≢◌, ℕ, Bool, List, slice_index, refl, sym, ap, ◌∙◌, arith}
use Rattle.client_replies.proofs.Replied.{fault_told-IsFaultOf}
use Rattle.client_replies.specs.Faults.{IsFaultOf}
use Rattle.client_replies.specs.Pages.{IsNextPage, IsRefused}
use Rattle.client_replies.specs.declared.reply_fault.ReplyFault.{ReplyFault}
use Rattle.client_replies.specs.declared.reply_fault.ReplyFault.TheVariants as faults
use Rattle.sse_frames.specs.Replies.{ReplyText, Took, Page, StoreFault, reply_bytes}
use Rattle.sse_outside.specs.Causes.{Rose}
use Rattle.sse_outside.specs.declared.device_fault.DeviceFault.{DeviceFault}
use Rattle.sse_outside.specs.declared.device_fault.DeviceFault.TheVariants as devices
use Rattle.sse_link.specs.declared.link_fault.LinkFault.{LinkFault}
use Rattle.sse_link.specs.declared.link_fault.LinkFault.TheVariants as links
use Rattle.def_script_meaning.specs.Stops.{status_of, stop_text}
use Rattle.script_run_texts.specs.Causes.{LinkCause, PeerCause, PrintCause, RecorderCause, SinkCause, SourceCause}
use Rattle.script_run_texts.specs.Stops.{last_line, stop_of_sink, stop_status}
use Rattle.script_run_texts.specs.declared.command_stop.CommandStop.TheVariants as commands
use Rattle.script_run_texts.specs.declared.input_stop.InputStop.TheVariants as inputs
use Rattle.sse_client.specs.Stands.{stop_view}
use Rattle.sse_client.specs.Stops.{stop_of_link}
use Rattle.script_run_texts.specs.declared.peer_stop.PeerStop.{PeerStop}
use Rattle.script_run_texts.specs.declared.peer_stop.PeerStop.TheVariants as peers
use Rattle.script_run_texts.specs.declared.stop_cause.StopCause.{StopCause}
use Rattle.script_run_texts.specs.declared.stop_cause.StopCause.TheVariants as stops

-- The report of a fault of the server's disk.

other_kind : (r : ReplyText) (bytes : List ℕ) → slice_index (reply_bytes r) 4 ≢ 0x88 → bytes ≡ reply_bytes r → bytes ≢ reply_bytes StoreFault
other_kind r bytes other is e = other (ap (λ (b : List ℕ). slice_index b 4) (sym is ∙ e))

pub took_no_store : (q : ℕ) (bytes : List ℕ) → bytes ≡ reply_bytes (Took q) → bytes ≢ reply_bytes StoreFault
took_no_store q bytes = other_kind (Took q) bytes (λ e. omega (arith, e))

pub page_no_store : (pages : ℕ) (bytes : List ℕ) (last : Bool) (ids : List ℕ) → IsNextPage pages bytes last ids → bytes ≢ reply_bytes StoreFault
page_no_store pages bytes last ids page = other_kind (Page last ids) bytes (λ e. omega (arith, e)) page.reply.spelled

-- bytes that report it are taken for that
pub store_told : (bytes : List ℕ) (fault : ReplyFault) → IsFaultOf bytes fault → bytes ≡ reply_bytes StoreFault → fault ≡ faults.StoreFault
store_told bytes fault is e = fault_told-IsFaultOf fault bytes is StoreFault (record { grammar = tt; spelled = e })

pub store_refused : (pages : ℕ) (bytes : List ℕ) (fault : ReplyFault) → IsRefused pages bytes fault → bytes ≡ reply_bytes StoreFault → fault ≡ faults.StoreFault
store_refused pages bytes (faults.Clash what place) is e = store_told bytes (faults.Clash what place) is.fault_is e
store_refused pages bytes faults.NoMemory is e = store_told bytes faults.NoMemory is.fault_is e
store_refused pages bytes faults.StoreFault is e = store_told bytes faults.StoreFault is.fault_is e
store_refused pages bytes faults.BadReply is e = store_told bytes faults.BadReply is.fault_is e
store_refused pages bytes faults.OutOfMemory is e = absurd (page_no_store pages bytes is.0 is.1 is.2 e)

module _ (before now : ℕ) (bytes : List ℕ) (fault : ReplyFault) (only : fault ≡ faults.StoreFault → bytes ≡ reply_bytes StoreFault) (told : bytes ≡ reply_bytes StoreFault → fault ≡ faults.StoreFault)
    (rose : bytes ≡ reply_bytes StoreFault → Rose before now) (steady : bytes ≢ reply_bytes StoreFault → now ≡ before) where
  -- a reply that stops a run raised the count where it is that report
  pub PeerCause-fault : (stop : PeerStop) → (stop ≡ peers.Link → fault ≡ faults.StoreFault) → (fault ≡ faults.StoreFault → stop ≡ peers.Link) → PeerCause before now stop
  PeerCause-fault peers.Link from to = rose (only (from refl))
  PeerCause-fault peers.Memory from to = steady (λ e. let no : peers.Memory ≡ peers.Link = to (told e) in cc)
  PeerCause-fault (peers.Clash what place) from to = steady (λ e. let no : peers.Clash what place ≡ peers.Link = to (told e) in cc)
  PeerCause-fault (peers.Elsewhere low high got) from to = steady (λ e. let no : peers.Elsewhere low high got ≡ peers.Link = to (told e) in cc)
  PeerCause-fault (peers.BadReply start) from to = steady (λ e. let no : peers.BadReply start ≡ peers.Link = to (told e) in cc)

-- a fault of the link shows in its count where it was cut
pub PeerCause-link : (before now : ℕ) (fault : LinkFault) → (fault ≡ links.Cut → Rose before now) → (fault ≡ links.NoMemory → now ≡ before) → PeerCause before now (stop_of_link fault)
PeerCause-link before now links.Cut rose same = rose refl
PeerCause-link before now links.NoMemory rose same = same refl

-- a stop for something else than the sink leaves its count
pub sink_same : (before now : ℕ) (stop : StopCause) → SinkCause before now stop → stop ≢ stops.Sink → now ≡ before
sink_same before now stops.Words cause other = cause
sink_same before now (stops.Input stop) cause other = cause
sink_same before now stops.Sink cause other = absurd (other refl)
sink_same before now stops.Memory cause other = cause
sink_same before now (stops.Command stop) cause other = cause

-- the same of the source and of the link
pub source_same : (before now : ℕ) (stop : StopCause) → SourceCause before now stop → stop ≢ stops.Input inputs.Source → now ≡ before
source_same before now stops.Words cause other = cause
source_same before now (stops.Input (inputs.Line number)) cause other = cause
source_same before now (stops.Input inputs.Source) cause other = absurd (other refl)
source_same before now (stops.Input inputs.Memory) cause other = cause
source_same before now stops.Sink cause other = cause
source_same before now stops.Memory cause other = cause
source_same before now (stops.Command stop) cause other = cause

pub link_same : (before now : ℕ) (stop : StopCause) → LinkCause before now stop → stop ≢ stops.Command (commands.Exchange peers.Link) → now ≡ before
link_same before now stops.Words cause other = cause
link_same before now (stops.Input stop) cause other = cause
link_same before now stops.Sink cause other = cause
link_same before now stops.Memory cause other = cause
link_same before now (stops.Command (commands.LabelClash first second)) cause other = cause
link_same before now (stops.Command (commands.PlaceClash first second)) cause other = cause
link_same before now (stops.Command (commands.NumberClash first second)) cause other = cause
link_same before now (stops.Command commands.Memory) cause other = cause
link_same before now (stops.Command (commands.Keeping fault)) cause other = cause
link_same before now (stops.Command (commands.Exchange peers.Link)) cause other = absurd (other refl)
link_same before now (stops.Command (commands.Exchange peers.Memory)) cause other = cause
link_same before now (stops.Command (commands.Exchange (peers.Clash what place))) cause other = cause
link_same before now (stops.Command (commands.Exchange (peers.Elsewhere low high got))) cause other = cause
link_same before now (stops.Command (commands.Exchange (peers.BadReply start))) cause other = cause

-- and of what keeps the records
pub recorder_same : (before now : ℕ) (stop : StopCause) → RecorderCause before now stop → stop ≢ stops.Command (commands.Keeping devices.Failed) → now ≡ before
recorder_same before now stops.Words cause other = cause
recorder_same before now (stops.Input stop) cause other = cause
recorder_same before now stops.Sink cause other = cause
recorder_same before now stops.Memory cause other = cause
recorder_same before now (stops.Command (commands.LabelClash first second)) cause other = cause
recorder_same before now (stops.Command (commands.PlaceClash first second)) cause other = cause
recorder_same before now (stops.Command (commands.NumberClash first second)) cause other = cause
recorder_same before now (stops.Command commands.Memory) cause other = cause
recorder_same before now (stops.Command (commands.Keeping devices.Failed)) cause other = absurd (other refl)
recorder_same before now (stops.Command (commands.Keeping devices.NoMemory)) cause other = cause
recorder_same before now (stops.Command (commands.Exchange stop)) cause other = cause

-- what stops a run in printing shows in the sink's count
pub SinkCause-printed : (before now : ℕ) (fault : DeviceFault) → PrintCause before now fault → SinkCause before now (stop_of_sink fault)
SinkCause-printed before now devices.Failed cause = cause
SinkCause-printed before now devices.NoMemory cause = cause

-- and leaves the link's
pub LinkCause-printed : (before now : ℕ) (fault : DeviceFault) → now ≡ before → LinkCause before now (stop_of_sink fault)
LinkCause-printed before now devices.Failed same = same
LinkCause-printed before now devices.NoMemory same = same

-- and that of what keeps the records
pub RecorderCause-printed : (before now : ℕ) (fault : DeviceFault) → now ≡ before → RecorderCause before now (stop_of_sink fault)
RecorderCause-printed before now devices.Failed same = same
RecorderCause-printed before now devices.NoMemory same = same

-- and the source's
pub SourceCause-printed : (before now : ℕ) (fault : DeviceFault) → now ≡ before → SourceCause before now (stop_of_sink fault)
SourceCause-printed before now devices.Failed same = same
SourceCause-printed before now devices.NoMemory same = same

-- The status and the last line of a stop are those that the script's meaning has for it.

pub seen_status : (stop : StopCause) → status_of (stop_view stop) ≡ stop_status stop
seen_status stops.Words = refl
seen_status (stops.Input stop) = refl
seen_status stops.Sink = refl
seen_status stops.Memory = refl
seen_status (stops.Command stop) = refl

pub seen_text : (stop : StopCause) → last_line stop ≡ stop_text (stop_view stop)
seen_text stops.Words = refl
seen_text (stops.Input stop) = refl
seen_text stops.Sink = refl
seen_text stops.Memory = refl
seen_text (stops.Command stop) = refl
