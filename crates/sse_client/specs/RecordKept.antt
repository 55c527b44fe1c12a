-- The record of a command, kept before anything of the command is sent.
use Rattle.std.specs.Prelude.{◌≡◌, ◌⊎◌, ℕ, List, [], ◌∷◌, ◌++◌, Result, Ok, Err, IfErr, OnOk}
use Rattle.client_core.specs.Owes.{Owes}
use Rattle.client_core.specs.Payloads.{renewal_payload, setup_payload, update_payload}
use Rattle.client_core.specs.Plans.{RenewalPlan, SetupPlan, UpdatePlan}
use Rattle.client_core.specs.TakenViews.{to_send}
use Rattle.client_core.specs.declared.behind.Behind.{Behind}
use Rattle.client_core.specs.declared.client.Client.{Client}
use Rattle.keyed_fn.specs.KeyFormulas.{mark_of}
use Rattle.keyed_fn.specs.KeyedFn.{KeyedFn}
use Rattle.script_run_texts.specs.Stops.{peer_cause}
use Rattle.script_run_texts.specs.declared.command_stop.CommandStop.{CommandStop}
use Rattle.script_run_texts.specs.declared.command_stop.CommandStop.TheVariants as commands
use Rattle.script_run_texts.specs.declared.stop_cause.StopCause.{StopCause}
use Rattle.script_run_texts.specs.declared.stop_cause.StopCause.TheVariants as stops
use Rattle.def_script_meaning.specs.Carries.{Keeps}
use Rattle.sse_outside.specs.Kept.{Kept, with_refused}
use Rattle.sse_client.specs.Exchanges.{HasExchanged, HasCut}
use Rattle.sse_client.specs.Known.{Known, OpensUnder}
use Rattle.sse_client.specs.Stands.{Seen}
use Rattle.sse_frames.specs.Frames.{FrameText}

-- a record wasn't taken: it was refused, or there was no memory to hand it over
abbrev pub IsNotTaken : (payload : List ℕ) → Kept → Kept → Type 0
IsNotTaken payload old new = (new ≡ old) ⊎ (new ≡ with_refused (payload ∷ []) old)

-- a record was taken behind those of before, or not
abbrev pub HasKept : {T E : Type 0} → (payload : List ℕ) → Kept → Kept → Result T E → Type 0
HasKept payload old new (Ok x) = Keeps old new (payload ∷ [])
HasKept payload old new (Err e) = IsNotTaken payload old new

-- this record was taken, and then these frames were exchanged, or the call was cut in them; or it wasn't, and nothing was sent
abbrev pub SendsKept : {T : Type 0} → (payload : List ℕ) → (old new : Seen) → List FrameText → Result T CommandStop → Type 0
SendsKept payload old new frames (Ok x) = Keeps old.kept new.kept (payload ∷ []) × HasExchanged old.told new.told [] frames
SendsKept payload old new frames (Err (commands.Exchange stop)) = Keeps old.kept new.kept (payload ∷ []) × HasCut old.told new.told frames (peer_cause stop)
SendsKept payload old new frames (Err (commands.Keeping fault)) = (new.told ≡ old.told) × IsNotTaken payload old.kept new.kept
SendsKept payload old new frames (Err _) = ⊥

-- this record is the last of these
abbrev pub EndsWith : (records : List (List ℕ)) (payload : List ℕ) → Type 0
EndsWith records payload = (before : List (List ℕ)) × (records ≡ before ++ payload ∷ [])

-- the frames that a client owes are those of the command of which the last record is, by the plan of both: a setup, an update, or a renewal of
-- the key; or the records open under the client's key, it stands for the last epoch, and it owes frames of the last command
abbrev pub OwesLast : KeyedFn → (records : List (List ℕ)) → Client Behind → Type 0
OwesLast f records client =
    ((planned : SetupPlan) × EndsWith records (setup_payload planned) × (to_send client.state ≡ planned.frames))
    ⊎ ((planned : UpdatePlan) × EndsWith records (update_payload planned) × (to_send client.state ≡ planned.frame ∷ []))
    ⊎ ((planned : RenewalPlan) × EndsWith records (renewal_payload planned) × (to_send client.state ≡ planned.frames))
    ⊎ ((known : Known) × (acknowledged : ℕ) × OpensUnder (mark_of f client.key) records known × Owes f (λ epoch. client.key) known.begins known.run acknowledged client.state)

-- what keeps the records takes more of them after a command that was stopped, unless it refused the command's record

abbrev pub WholeAt : (whole : Type 0) → CommandStop → Type 0
WholeAt whole (commands.Keeping fault) = Unit {0}
WholeAt whole _ = whole

-- the same after a run that was stopped
abbrev pub WholeAtStop : (whole : Type 0) → StopCause → Type 0
WholeAtStop whole (stops.Command stop) = WholeAt whole stop
WholeAtStop whole _ = whole

-- it takes more after a call, and also where the call was stopped, as the stop tells
pub record StaysWhole {T E : Type 0} (showing : Type 0 → E → Type 0) (whole : Type 0) (result : Result T E) : Type 0 where
  pub after : OnOk result whole
  pub stopped : IfErr result (showing whole)
