-- What a call keeps of the fault counts, by what its parts came to.
use Rattle.std.proofs.Common.{◌≡◌, ◌≤◌, ℕ, List, Ok, Err, refl, sym, ap, subst, arith}
use Rattle.std.specs.Prelude.{Result}
use Rattle.std.specs.Result.{IsErrAnd}
use Rattle.sse_outside.specs.Causes.{Rose}
use Rattle.sse_outside.specs.declared.device_fault.DeviceFault.{DeviceFault}
use Rattle.sse_outside.specs.declared.device_fault.DeviceFault.TheVariants as devices
use Rattle.script_run_texts.specs.Causes.{InputCause}
use Rattle.script_run_texts.specs.Stops.{stop_of_sink}
use Rattle.script_run_texts.specs.declared.command_stop.CommandStop.TheVariants as commands
use Rattle.script_run_texts.specs.declared.input_stop.InputStop.{InputStop}
use Rattle.script_run_texts.specs.declared.input_stop.InputStop.TheVariants as inputs
use Rattle.script_run_texts.specs.declared.stop_cause.StopCause.TheVariants as runs
use Rattle.vault_link.specs.Asks.{CountsReply}
use Rattle.vault_server.specs.VaultFrames.{StoreFault, vault_reply_bytes}
use Rattle.vault_script.specs.declared.vault_stop.VaultStop.{VaultStop}
use Rattle.vault_script.specs.declared.vault_stop.VaultStop.TheVariants as stops
use Rattle.doc_vault.specs.Counts.{AreLater, Counts, IsExchangeStop, KeepsCounts, RoseOnly, ShowsCause, TellsFault, recorder_stop, sink_stop, source_stop, with_link, with_recorder, with_sink, with_source}
use Rattle.doc_vault.specs.Outcomes.{link_stop, own_memory_stop}

-- a count whose device the run doesn't stop for
steady_only : (stops_for : Type 0) (n : ℕ) → (stops_for → ⊥) → RoseOnly stops_for n n
steady_only stops_for n never = record { rose = λ e. absurd (never e); steady = λ no. refl }

-- counts that are unchanged
none_later : (c : Counts) → AreLater c c
none_later c = record { source = omega arith; sink = omega arith; shortages = omega arith; link = omega arith; recorder = omega arith }

-- a stop for no device
pub shows-none : (c : Counts) (stop : VaultStop) → (stop ≡ source_stop → ⊥) → (stop ≡ sink_stop → ⊥) → (stop ≡ link_stop → ⊥) → (stop ≡ recorder_stop → ⊥) → ShowsCause c c stop
shows-none c stop source sink link recorder = record {
  source = steady_only (stop ≡ source_stop) c.source source;
  sink = steady_only (stop ≡ sink_stop) c.sink sink;
  link = steady_only (stop ≡ link_stop) c.link link;
  recorder = steady_only (stop ≡ recorder_stop) c.recorder recorder;
  supplied = λ other. refl;
  later = none_later c;
}

pub shows-memory : (c : Counts) → ShowsCause c c own_memory_stop
shows-memory c = shows-none c own_memory_stop (λ e. cc) (λ e. cc) (λ e. cc) (λ e. cc)

-- a line of the script that isn't read
pub shows-input : (before now : ℕ) (others : Counts) (why : InputStop) → before ≤ now → InputCause before now why → ShowsCause (with_source before others) (with_source now others) (stops.Run (runs.Input why))
shows-input before now others why later cause = record {
  source = by why cause;
  sink = steady_only (stops.Run (runs.Input why) ≡ sink_stop) others.sink (λ e. cc);
  link = steady_only (stops.Run (runs.Input why) ≡ link_stop) others.link (λ e. cc);
  recorder = steady_only (stops.Run (runs.Input why) ≡ recorder_stop) others.recorder (λ e. cc);
  supplied = λ other. refl;
  later = record { source = later; sink = omega arith; shortages = omega arith; link = omega arith; recorder = omega arith };
}
  where
    by : (w : InputStop) → InputCause before now w → RoseOnly (stops.Run (runs.Input w) ≡ source_stop) before now
    by (inputs.Line number) same = record { rose = λ e. cc; steady = λ no. same }
    by inputs.Source rose = record { rose = λ e. rose; steady = λ no. absurd (no refl) }
    by inputs.Memory same = record { rose = λ e. cc; steady = λ no. same }

-- a record that isn't taken
pub shows-kept : (before now : ℕ) (others : Counts) (fault : DeviceFault) → before ≤ now → (fault ≡ devices.Failed → Rose before now) → (fault ≡ devices.NoMemory → now ≡ before)
    → ShowsCause (with_recorder before others) (with_recorder now others) (stops.Run (runs.Command (commands.Keeping fault)))
shows-kept before now others fault later rose same = record {
  source = steady_only (stops.Run (runs.Command (commands.Keeping fault)) ≡ source_stop) others.source (λ e. cc);
  sink = steady_only (stops.Run (runs.Command (commands.Keeping fault)) ≡ sink_stop) others.sink (λ e. cc);
  link = steady_only (stops.Run (runs.Command (commands.Keeping fault)) ≡ link_stop) others.link (λ e. cc);
  recorder = by fault rose same;
  supplied = λ other. refl;
  later = record { source = omega arith; sink = omega arith; shortages = omega arith; link = omega arith; recorder = later };
}
  where
    by : (w : DeviceFault) → (w ≡ devices.Failed → Rose before now) → (w ≡ devices.NoMemory → now ≡ before) → RoseOnly (stops.Run (runs.Command (commands.Keeping w)) ≡ recorder_stop) before now
    by devices.Failed up still = record { rose = λ e. up refl; steady = λ no. absurd (no refl) }
    by devices.NoMemory up still = record { rose = λ e. cc; steady = λ no. still refl }

-- a line that isn't printed
pub shows-printed : (before now shortages shortages' : ℕ) (others : Counts) (fault : DeviceFault) → before ≤ now → shortages ≤ shortages' → (fault ≡ devices.Failed → Rose before now) → ((fault ≡ devices.Failed → ⊥) → now ≡ before)
    → ((fault ≡ devices.NoMemory → ⊥) → shortages' ≡ shortages) → ShowsCause (with_sink before shortages others) (with_sink now shortages' others) (stops.Run (stop_of_sink fault))
shows-printed before now shortages shortages' others devices.Failed later more rose same supplied = record {
  source = steady_only (sink_stop ≡ source_stop) others.source (λ e. cc);
  sink = record { rose = λ e. rose refl; steady = λ no. absurd (no refl) };
  link = steady_only (sink_stop ≡ link_stop) others.link (λ e. cc);
  recorder = steady_only (sink_stop ≡ recorder_stop) others.recorder (λ e. cc);
  supplied = λ other. supplied (λ e. cc);
  later = record { source = omega arith; sink = later; shortages = more; link = omega arith; recorder = omega arith };
}
shows-printed before now shortages shortages' others devices.NoMemory later more rose same supplied = record {
  source = steady_only (own_memory_stop ≡ source_stop) others.source (λ e. cc);
  sink = record { rose = λ e. cc; steady = λ no. same (λ e. cc) };
  link = steady_only (own_memory_stop ≡ link_stop) others.link (λ e. cc);
  recorder = steady_only (own_memory_stop ≡ recorder_stop) others.recorder (λ e. cc);
  supplied = λ other. absurd (other refl);
  later = record { source = omega arith; sink = later; shortages = more; link = omega arith; recorder = omega arith };
}

-- a stop in an exchange
pub shows-exchange : (before now : ℕ) (others : Counts) (stop : VaultStop) → IsExchangeStop stop → before ≤ now → RoseOnly (stop ≡ link_stop) before now → ShowsCause (with_link before others) (with_link now others) stop
shows-exchange before now others stop kind later link = record {
  source = steady_only (stop ≡ source_stop) others.source (λ e. subst IsExchangeStop e kind);
  sink = steady_only (stop ≡ sink_stop) others.sink (λ e. subst IsExchangeStop e kind);
  link = link;
  recorder = steady_only (stop ≡ recorder_stop) others.recorder (λ e. subst IsExchangeStop e kind);
  supplied = λ other. refl;
  later = record { source = omega arith; sink = omega arith; shortages = omega arith; link = later; recorder = omega arith };
}

pub shows-cut : (before now : ℕ) (others : Counts) → before ≤ now → Rose before now → ShowsCause (with_link before others) (with_link now others) link_stop
shows-cut before now others later rose = shows-exchange before now others link_stop tt later (record { rose = λ e. rose; steady = λ no. absurd (no refl) })

-- a stop in an exchange for another reason
pub shows-other : (c : Counts) (stop : VaultStop) → IsExchangeStop stop → (stop ≡ link_stop → ⊥) → ShowsCause c c stop
shows-other c stop kind other = shows-exchange c.link c.link c stop kind (omega arith) (steady_only (stop ≡ link_stop) c.link other)

module _ {T : Type 0} where
  -- a call that stops
  pub counts-stopped : (old new : Counts) (result : Result T VaultStop) (at : VaultStop) → IsErrAnd result (λ stop. stop ≡ at) → ShowsCause old new at → KeepsCounts old new result
  counts-stopped old new (Ok done) at is shows = absurd is
  counts-stopped old new (Err stop) at is shows = subst (ShowsCause old new) (sym is) shows

  -- a call after others that went well
  pub counts-then : (old mid new : Counts) (result : Result T VaultStop) → mid ≡ old → KeepsCounts mid new result → KeepsCounts old new result
  counts-then old mid new result same keeps = subst (λ (c : Counts). KeepsCounts c new result) same keeps

  -- a call that judges a reply
  pub counts-judged : (before now : ℕ) (others : Counts) (bytes : List ℕ) (result : Result T VaultStop) → before ≤ now → CountsReply bytes before now → TellsFault (bytes ≡ vault_reply_bytes StoreFault) result
      → KeepsCounts (with_link before others) (with_link now others) result
  counts-judged before now others bytes (Ok done) later counts tells =
      ap (λ (n : ℕ). with_link n others) (counts.steady (λ e. let no : ◌≡◌ {A = Result T VaultStop} (Ok done) (Err link_stop) = tells.fault e in cc))
  counts-judged before now others bytes (Err stop) later counts tells =
      shows-exchange before now others stop tells.kind later
      (record {
        rose = λ e. counts.store_fault (tells.only e);
        steady = λ no. counts.steady (λ e. no (let same : ◌≡◌ {A = Result T VaultStop} (Err stop) (Err link_stop) = tells.fault e in cc));
      })
