-- Why a command isn't taken after those of a history whose commands are numbered.
use Rattle.std.specs.Prelude.{◌≡◌, ◌≤◌, ◌+◌, ◌-◌, ◌^◌, nat_lt, List, ◌∷◌, [], length, not, ℕ, Option, None, Some, if◌then◌else◌}
use Rattle.std.specs.Option.{option_or}
use Rattle.client_registry.specs.Command.{Command, Add, Delete, Search, is_update}
use Rattle.client_registry.specs.Epochs.{setup_renewed, with_commands, with_renewal}
use Rattle.client_registry.specs.Histories.{commands_in, frames_in, is_live_in}
use Rattle.client_registry.specs.Run.{Epochs, last_run}
use Rattle.leakage_history.specs.HashedEpochs.{epochs_in}
use Rattle.leakage_history.specs.declared.fault.HistoryFault.{HistoryFault}
use Rattle.leakage_history.specs.declared.fault.HistoryFault.TheVariants as faults
use Rattle.leakage_history.specs.declared.renewal_fault.RenewalFault.{RenewalFault}
use Rattle.leakage_history.specs.declared.renewal_fault.RenewalFault.TheVariants as renewals
use Rattle.def_script_meaning.specs.Refused.{counter_refusal, frame_refusal, renewal_refusal}
use Rattle.sse_script.specs.declared.refusal.Refusal.{Refusal}
use Rattle.sse_script.specs.declared.refusal.Refusal.TheVariants as refusals
use Rattle.sse_script.specs.declared.refusal.Refusal.TheVariants.{AlreadyLive, UnknownDocument, CounterFull, HistoryFull}
use Rattle.script_history.specs.Reads.{IsCountable, is_full, number_refusal, words_in}
use Rattle.script_history.specs.declared.numbered_history.NumberedHistory.TheInside.{Inside}

-- a command isn't accepted, or its update frame has no number
abbrev pub accept_refusal : Epochs → Command → Option Refusal
accept_refusal es (Add d) = if is_live_in (Some es) d.id then Some (AlreadyLive d.id) else option_or (counter_refusal (Some es) d) (frame_refusal (Some es))
accept_refusal es (Delete id) = if not (is_live_in (Some es) id) then Some (UnknownDocument id) else frame_refusal (Some es)
accept_refusal es (Search word) = None

-- or the history with it can't be numbered
abbrev pub command_refusal : Epochs → Command → Option Refusal
command_refusal es c = option_or (accept_refusal es c) (number_refusal (Some es) (c ∷ []))

-- what is live makes no setup under this key, or the history with it can't be numbered
abbrev pub renew_refusal : Epochs → (key : List ℕ) → Option Refusal
renew_refusal es key = option_or (renewal_refusal (Some es) (setup_renewed (last_run es))) (if is_full (Some (with_renewal key es)) then Some HistoryFull else None)

-- how many update frames a renewal may take: none where it would have no number as a command
abbrev pub frames_free : Epochs → ℕ
frames_free es = if nat_lt (2 ^ 32 - 1) (commands_in (Some es) + 2) then 0 else 2 ^ 32 - 1 - frames_in (Some es)

-- the epochs after a command that was refused or taken
abbrev pub epochs_after : Option Refusal → Epochs → Command → Epochs
epochs_after None es c = with_commands (c ∷ []) es
epochs_after (Some refusal) es c = es

-- after several commands that were refused or taken
abbrev pub epochs_after_all : Option Refusal → Epochs → List Command → Epochs
epochs_after_all None es commands = with_commands commands es
epochs_after_all (Some refusal) es commands = es

-- and after a renewal under this key that was refused or taken
abbrev pub epochs_renewed : Option Refusal → Epochs → (key : List ℕ) → Epochs
epochs_renewed None es key = with_renewal key es
epochs_renewed (Some refusal) es key = es

-- the refusal that a fault of a history is; none where memory was wanting
abbrev pub fault_refusal : HistoryFault → Option Refusal
fault_refusal (faults.AlreadyLive id) = Some (AlreadyLive id)
fault_refusal (faults.UnknownDocument id) = Some (UnknownDocument id)
fault_refusal (faults.CounterFull position) = Some (CounterFull position)
fault_refusal faults.NoMemory = None

-- the same of a renewal's fault
abbrev pub renewal_fault_refusal : RenewalFault → Option Refusal
renewal_fault_refusal (renewals.TooManyDocuments n) = Some (refusals.TooManyDocuments n)
renewal_fault_refusal (renewals.TooManyPairs n) = Some (refusals.TooManyPairs n)
renewal_fault_refusal (renewals.ListTooLong word n) = Some (refusals.ListTooLong word n)
renewal_fault_refusal (renewals.TooManyBytes n) = Some (refusals.TooManyBytes n)
renewal_fault_refusal renewals.HistoryFull = Some HistoryFull
renewal_fault_refusal renewals.NoMemory = None

-- what an update is refused for, where no fault of the history stands
abbrev pub update_refusal : Epochs → Command → Option Refusal
update_refusal es c = if is_update c then frame_refusal (Some es) else None

-- what is so of a history that is numbered: it can be counted, its update frames are, and so are its commands, the setup and each
-- renewal among them; and it has no more different words than are named
pub record IsNumbered (h : Inside) : Type 0 where
  pub counted : IsCountable (Some (epochs_in h.history))
  pub frames : h.frames ≡ frames_in (Some (epochs_in h.history))
  pub commands : h.commands ≡ commands_in (Some (epochs_in h.history)) + 1
  pub named : length (words_in (Some (epochs_in h.history))) ≤ h.named
