-- A run that resumes, by what its script came to and how its last line was printed.
use Rattle.std.proofs.Common.{◌≡◌, ◌≢◌, ◌≤◌, ℕ, Bool, List, [], None, Some, Result, Ok, Err, refl, sym, ap, ◌∙◌, subst, arith}
use Rattle.std.specs.Prelude.{Option, IfSome}
use Rattle.client_journal.specs.Shows as shows
use Rattle.client_journal.specs.Shows.{SinkShows}
use Rattle.keyed_fn.specs.KeyedFn.{KeyedFn}
use Rattle.keyed_fn.specs.VaultFormulas.{VaultSecrets, vault_secrets}
use Rattle.script_run_texts.specs.declared.journal_stop.JournalStop.{JournalStop}
use Rattle.script_run_texts.specs.declared.journal_stop.JournalStop.TheVariants as journals
use Rattle.script_run_texts.specs.declared.input_stop.InputStop.{InputStop}
use Rattle.script_run_texts.specs.declared.input_stop.InputStop.TheVariants as inputs
use Rattle.script_run_texts.specs.declared.stop_cause.StopCause.TheVariants as runs
use Rattle.sse_outside.specs.Kept.{Kept}
use Rattle.vault_link.specs.Served.{VaultRemote}
use Rattle.vault_shelf.specs.Shelves.{Shelf, VaultCommand, shelf_of}
use Rattle.vault_shelf.specs.VaultSessions.{SlotsDiffer}
use Rattle.vault_script.specs.VaultStops.{vault_status}
use Rattle.vault_script.specs.declared.vault_stop.VaultStop.{VaultStop}
use Rattle.vault_script.specs.declared.vault_stop.VaultStop.TheVariants as stops
use Rattle.doc_vault.specs.Acknowledged as sends
use Rattle.doc_vault.specs.Acknowledged.{StopsSending}
use Rattle.doc_vault.specs.FairStops.{StopsFairly}
use Rattle.doc_vault.specs.RecordersLeft.{LeavesRecorder}
use Rattle.doc_vault.specs.Sights.{LinkSight, Sight}
use Rattle.doc_vault.specs.VaultRuns.{commands_in}
use Rattle.vault_client.specs.Endings.{EndsLine, run_line, run_status}
use Rattle.vault_client.specs.ResumedRuns.{ForgedSomewhere, ForgedUnder, HeldUp, IsForgedResumed, IsResumedRun, ResumesScript, StandsThere, Under}
use Rattle.vault_client.proofs.EndsRun.{OnStop, through_low}
use Rattle.vault_client.proofs.ForgedRuns.{IsForgedStop, after_forged, after_wrong, asking_not, either_not, not_forged, unexpected_not}
use Rattle.vault_client.proofs.Headlines.{fair_status}
use Rattle.vault_client.proofs.RecordsKept.{after_refused}
use Rattle.vault_client.proofs.RunStops.{after_stop, asking_stop, link_or_memory, same_stop, unexpected_stop}
use Rattle.vault_client.proofs.StopStatuses.{IsOther, IsRunStop, other_run, tells_stop}
use Rattle.vault_client.proofs.WholeRun.{forged_stop}
use Rattle.vault_client.specs.CatchingUp as catches
use Rattle.vault_client.specs.CatchingUp.{MissesAtMostOne, StopsCatchingUp, StopsSendingAgain, StopsSupply, left_by}
use Rattle.vault_client.specs.Restorings as restores
use Rattle.vault_client.specs.Restorings.{StopsRestoring}
use Rattle.vault_client.specs.Resumptions as resumes
use Rattle.vault_client.specs.Resumptions.{AreKept, Resumes, StopsSomewhere}

-- The stops of a run that resumed.

sending_stop : (frame : List ℕ) (n : ℕ) (old new : LinkSight) (stop : VaultStop) → StopsSending frame n old new stop → IsOther stop
sending_stop frame n old new stop (sends.NotSent is same) = link_or_memory stop _ _ tt tt is
sending_stop frame n old new stop (sends.NotReplied is passed) = same_stop stop _ is tt
sending_stop frame n old new stop (sends.NotOwn reply passed read is_read other is) = same_stop stop _ is (unexpected_stop reply read)

sending_not : {B : Type 0} (frame : List ℕ) (n : ℕ) (old new : LinkSight) (stop : VaultStop) → StopsSending frame n old new stop → IsForgedStop stop → B
sending_not frame n old new stop (sends.NotSent is same) forged = either_not stop _ _ (λ no. no) (λ no. no) is forged
sending_not frame n old new stop (sends.NotReplied is passed) forged = not_forged stop _ is (λ no. no) forged
sending_not frame n old new stop (sends.NotOwn reply passed read is_read other is) forged = not_forged stop _ is (unexpected_not reply read) forged

module _ (f : KeyedFn) (keys : VaultSecrets) where
  again_stop : (s : Shelf) (c : VaultCommand) (old new : LinkSight) (stop : VaultStop) → StopsSendingAgain f keys s c old new stop → IsOther stop
  again_stop s c old new stop (catches.Unwritten is same) = same_stop stop _ is tt
  again_stop s c old new stop (catches.Unacknowledged grammar sending) = sending_stop _ s.sent old new stop sending

  again_not : {B : Type 0} (s : Shelf) (c : VaultCommand) (old new : LinkSight) (stop : VaultStop) → StopsSendingAgain f keys s c old new stop → IsForgedStop stop → B
  again_not s c old new stop (catches.Unwritten is same) forged = not_forged stop _ is (λ no. no) forged
  again_not s c old new stop (catches.Unacknowledged grammar sending) forged = sending_not _ s.sent old new stop sending forged

  module _ (cs : List VaultCommand) where
    supply_stop : (n : ℕ) (old new : LinkSight) (stop : VaultStop) → StopsSupply f keys cs n old new stop → IsOther stop
    supply_stop n old new stop (catches.Elsewhere all last is same) = same_stop stop _ is tt
    supply_stop n old new stop (catches.Unsupplied before command next are again) = again_stop (left_by before) command old new stop again

    supply_not : {B : Type 0} (n : ℕ) (old new : LinkSight) (stop : VaultStop) → StopsSupply f keys cs n old new stop → IsForgedStop stop → B
    supply_not n old new stop (catches.Elsewhere all last is same) forged = not_forged stop _ is (λ no. no) forged
    supply_not n old new stop (catches.Unsupplied before command next are again) forged = again_not (left_by before) command old new stop again forged

    catching_stop : (old new : LinkSight) (stop : VaultStop) → StopsCatchingUp f keys cs old new stop → IsOther stop
    catching_stop old new stop (catches.Unasked asking honest) = asking_stop old new stop asking
    catching_stop old new stop (catches.AfterNumber n asked said own supply) = supply_stop n asked new stop supply

    catching_not : {B : Type 0} (old new : LinkSight) (stop : VaultStop) → StopsCatchingUp f keys cs old new stop → IsForgedStop stop → B
    catching_not old new stop (catches.Unasked asking honest) forged = asking_not old new stop asking forged
    catching_not old new stop (catches.AfterNumber n asked said own supply) forged = supply_not n asked new stop supply forged

    resumed_stop : (number : ℕ) (left : Option (List (List ℕ))) (old new : Sight) (stop : VaultStop) → StopsSomewhere f keys cs number left old new stop → IsRunStop stop
    resumed_stop number left old new stop (resumes.Unready is same) = subst IsRunStop (sym is) tt
    resumed_stop number left old new stop (resumes.BeforeLine catching kept written) = other_run stop (catching_stop old.link new.link stop catching)
    resumed_stop number left old new stop (resumes.AtLine again frames caught kept printing) = subst IsRunStop (sym printing.stop_is) tt
    resumed_stop number left old new stop (resumes.InLines run) = after_stop f keys (shelf_of (left_by cs) (commands_in run.lines.run.turns)) _ _ run.lines.between new stop run.lines.stops

    -- no record of such a run is refused, at another status than 6 and 7
    resumed_refused : (number : ℕ) (left : Option (List (List ℕ))) (old new : Sight) (stop : VaultStop) → vault_status stop ≢ 6 → vault_status stop ≢ 7 → StopsSomewhere f keys cs number left old new stop → new.kept.refused ≡ old.kept.refused
    resumed_refused number left old new stop disk memory (resumes.Unready is same) = ap (λ (s : Sight). s.kept.refused) same
    resumed_refused number left old new stop disk memory (resumes.BeforeLine catching kept written) = ap (λ (k : Kept). k.refused) kept
    resumed_refused number left old new stop disk memory (resumes.AtLine again frames caught kept printing) = ap (λ (k : Kept). k.refused) kept
    resumed_refused number left old new stop disk memory (resumes.InLines run) =
        after_refused stop disk memory f keys (shelf_of (left_by cs) (commands_in run.lines.run.turns)) _ _ run.lines.between new run.lines.stops
        ∙ ap (λ (k : Kept). k.refused) run.lines.run.moves.kept
        ∙ ap (λ (k : Kept). k.refused) run.resumes.unkept

-- What a run that is held up stops for: never the sink, the link or a wrong tag.

pub record TellsHeld (stop : VaultStop) : Type 0 where
  pub least : 2 ≤ vault_status stop
  pub most : vault_status stop ≤ 11
  pub source : vault_status stop ≡ 3 → stop ≡ stops.Run (runs.Input inputs.Source)
  pub disk : vault_status stop ≡ 6 → stop ≡ stops.Unopened journals.Disk
  pub sink : vault_status stop ≢ 4
  pub link : vault_status stop ≢ 5
  pub clash : vault_status stop ≢ 8
  pub reply : vault_status stop ≢ 9

held_at : (stop : VaultStop) (n : ℕ) → vault_status stop ≡ n → 2 ≤ n → n ≤ 11 → (n ≡ 3 → stop ≡ stops.Run (runs.Input inputs.Source)) → (n ≡ 6 → stop ≡ stops.Unopened journals.Disk) → n ≢ 4 → n ≢ 5 → n ≢ 8 → n ≢ 9 → TellsHeld stop
held_at stop n is least most source disk sink link clash reply = record {
  least = omega (arith, is, least);
  most = omega (arith, is, most);
  source = λ e. source (sym is ∙ e);
  disk = λ e. disk (sym is ∙ e);
  sink = λ e. sink (sym is ∙ e);
  link = λ e. link (sym is ∙ e);
  clash = λ e. clash (sym is ∙ e);
  reply = λ e. reply (sym is ∙ e);
}

held_else : (stop : VaultStop) (n : ℕ) → vault_status stop ≡ n → 2 ≤ n → n ≤ 11 → n ≢ 3 → n ≢ 6 → n ≢ 4 → n ≢ 5 → n ≢ 8 → n ≢ 9 → TellsHeld stop
held_else stop n is least most source disk = held_at stop n is least most (λ e. absurd (source e)) (λ e. absurd (disk e))

held_two : (stop : VaultStop) → vault_status stop ≡ 2 → TellsHeld stop
held_two stop is = held_else stop 2 is (omega arith) (omega arith) (λ e. omega (arith, e)) (λ e. omega (arith, e)) (λ e. omega (arith, e)) (λ e. omega (arith, e)) (λ e. omega (arith, e)) (λ e. omega (arith, e))

held_seven : (stop : VaultStop) → vault_status stop ≡ 7 → TellsHeld stop
held_seven stop is = held_else stop 7 is (omega arith) (omega arith) (λ e. omega (arith, e)) (λ e. omega (arith, e)) (λ e. omega (arith, e)) (λ e. omega (arith, e)) (λ e. omega (arith, e)) (λ e. omega (arith, e))

held_ten : (stop : VaultStop) → vault_status stop ≡ 10 → TellsHeld stop
held_ten stop is = held_else stop 10 is (omega arith) (omega arith) (λ e. omega (arith, e)) (λ e. omega (arith, e)) (λ e. omega (arith, e)) (λ e. omega (arith, e)) (λ e. omega (arith, e)) (λ e. omega (arith, e))

held_eleven : (stop : VaultStop) → vault_status stop ≡ 11 → TellsHeld stop
held_eleven stop is = held_else stop 11 is (omega arith) (omega arith) (λ e. omega (arith, e)) (λ e. omega (arith, e)) (λ e. omega (arith, e)) (λ e. omega (arith, e)) (λ e. omega (arith, e)) (λ e. omega (arith, e))

held_input : (why : InputStop) → TellsHeld (stops.Run (runs.Input why))
held_input (inputs.Line number) = held_two (stops.Run (runs.Input (inputs.Line number))) refl
held_input inputs.Source = held_at (stops.Run (runs.Input inputs.Source)) 3 refl (omega arith) (omega arith) (λ e. refl) (λ e. absurd (omega (arith, e))) (λ e. omega (arith, e)) (λ e. omega (arith, e)) (λ e. omega (arith, e)) (λ e. omega (arith, e))
held_input inputs.Memory = held_seven (stops.Run (runs.Input inputs.Memory)) refl

held_journal : (why : JournalStop) → TellsHeld (stops.Unopened why)
held_journal journals.NoJournal = held_ten (stops.Unopened journals.NoJournal) refl
held_journal journals.HasRecords = held_ten (stops.Unopened journals.HasRecords) refl
held_journal (journals.BadRecord number) = held_ten (stops.Unopened (journals.BadRecord number)) refl
held_journal journals.WrongKey = held_eleven (stops.Unopened journals.WrongKey) refl
held_journal journals.Disk = held_at (stops.Unopened journals.Disk) 6 refl (omega arith) (omega arith) (λ e. absurd (omega (arith, e))) (λ e. refl) (λ e. omega (arith, e)) (λ e. omega (arith, e)) (λ e. omega (arith, e)) (λ e. omega (arith, e))
held_journal journals.Memory = held_seven (stops.Unopened journals.Memory) refl

pub tells_held : (f : KeyedFn) (left : Option (List (List ℕ))) (kept : Kept) (stop : VaultStop) → StopsRestoring f left kept stop → TellsHeld stop
tells_held f left kept stop (restores.AtKeyLine why is misses) = subst TellsHeld (sym is) (held_input why)
tells_held f left kept stop (restores.AtMemory is) = subst TellsHeld (sym is) (held_seven (stops.Run runs.Memory) refl)
tells_held f left kept stop (restores.AtRecords key number left' why finds is unread) = subst TellsHeld (sym is) (held_journal why)

-- The whole of a run.

pub stops-resumed : (f : KeyedFn) (keys : VaultSecrets) (cs : List VaultCommand) (number : ℕ) (left : Option (List (List ℕ))) (now end : Sight) (ended : Result Bool VaultStop) → Resumes f keys cs number left now end ended → OnStop ended
stops-resumed f keys cs number left now end (Ok refused) run = tt
stops-resumed f keys cs number left now end (Err stop) run = resumed_stop f keys cs number left now end stop run.where_is

module _ (f : KeyedFn) (left : Option (List (List ℕ))) (now end : Sight) where
  -- the stop of a wrong tag, both ways
  under_forged : (key : List ℕ) (cs : List VaultCommand) (number : ℕ) (rest : Option (List (List ℕ))) (ended : Result Bool VaultStop) (run : Resumes f (vault_secrets f key) cs number rest now end ended) → run_status ended ≡ 12 → ForgedUnder f key cs number rest now end ended run
  under_forged key cs number rest (Ok refused) run e = absurd (omega (arith, through_low refused, e))
  under_forged key cs number rest (Err stop) run e =
      let is = (tells_stop stop (resumed_stop f (vault_secrets f key) cs number rest now end stop run.where_is)).forged e in
      by run.where_is (subst IsForgedStop (sym is.1) tt)
    where
      by : (at : StopsSomewhere f (vault_secrets f key) cs number rest now end stop) → IsForgedStop stop → ForgedSomewhere f key cs at
      by (resumes.Unready is same) forged = not_forged stop _ is (λ no. no) forged
      by (resumes.BeforeLine catching kept written) forged = catching_not f (vault_secrets f key) cs now.link end.link stop catching forged
      by (resumes.AtLine again frames caught kept printing) forged = not_forged stop _ printing.stop_is (λ no. no) forged
      by (resumes.InLines lines) forged = after_forged f (vault_secrets f key) (shelf_of (left_by cs) (commands_in lines.lines.run.turns)) _ _ lines.lines.between end stop lines.lines.stops forged

  under_wrong : (key : List ℕ) (cs : List VaultCommand) (number : ℕ) (rest : Option (List (List ℕ))) (ended : Result Bool VaultStop) (run : Resumes f (vault_secrets f key) cs number rest now end ended) → ForgedUnder f key cs number rest now end ended run → run_status ended ≡ 12
  under_wrong key cs number rest (Ok refused) run wrong = absurd wrong
  under_wrong key cs number rest (Err stop) run wrong = forged_stop stop (by run.where_is wrong)
    where
      by : (at : StopsSomewhere f (vault_secrets f key) cs number rest now end stop) → ForgedSomewhere f key cs at → IsForgedStop stop
      by (resumes.Unready is same) wrong = absurd wrong
      by (resumes.BeforeLine catching kept written) wrong = absurd wrong
      by (resumes.AtLine again frames caught kept printing) wrong = absurd wrong
      by (resumes.InLines lines) wrong = after_wrong f (vault_secrets f key) (shelf_of (left_by cs) (commands_in lines.lines.run.turns)) _ _ lines.lines.between end stop lines.lines.stops wrong

  script_forged : (ended : Result Bool VaultStop) (runs : ResumesScript f left now end ended) → run_status ended ≡ 12 → IsForgedResumed f left now end ended runs
  script_forged ended (HeldUp stop is why same) e = absurd (omega (arith, (tells_held f left now.kept stop why).most, ap run_status is, e))
  script_forged ended (Under run) e = under_forged run.key run.commands run.number run.left_over ended run.resumes e

  script_wrong : (ended : Result Bool VaultStop) (runs : ResumesScript f left now end ended) → IsForgedResumed f left now end ended runs → run_status ended ≡ 12
  script_wrong ended (HeldUp stop is why same) wrong = absurd wrong
  script_wrong ended (Under run) wrong = under_wrong run.key run.commands run.number run.left_over ended run.resumes wrong

  -- no reply stops it
  abbrev NoReply : ℕ → Type 0
  NoReply status = (status ≢ 8) × (status ≢ 9) × (status ≢ 12)

  low_no_reply : (n : ℕ) → n ≤ 7 → NoReply n
  low_no_reply n low = ((λ e. omega (arith, low, e)), (λ e. omega (arith, low, e)), (λ e. omega (arith, low, e)))

  script_honest : (ended : Result Bool VaultStop) → ResumesScript f left now end ended → IfSome now.link.remote (λ before. StandsThere f left now.kept before.state → NoReply (run_status ended))
  script_honest ended (HeldUp stop is why same) = by now.link.remote
    where
      by : (remote : Option VaultRemote) → IfSome remote (λ before. StandsThere f left now.kept before.state → NoReply (run_status ended))
      by None = tt
      by (Some before) = λ stands.
          let tells = tells_held f left now.kept stop why in
          ((λ e. tells.clash (ap run_status (sym is) ∙ e)), (λ e. tells.reply (ap run_status (sym is) ∙ e)), (λ e. omega (arith, tells.most, ap run_status is, e)))
  script_honest (Ok refused) (Under run) = by now.link.remote
    where
      by : (remote : Option VaultRemote) → IfSome remote (λ before. StandsThere f left now.kept before.state → NoReply (run_status (Ok refused)))
      by None = tt
      by (Some before) = λ stands. low_no_reply (run_status (Ok refused)) (omega (arith, through_low refused))
  script_honest (Err stop) (Under run) = by now.link.remote run.resumes.fair
    where
      by : (remote : Option VaultRemote) → IfSome remote (λ before. SlotsDiffer f (vault_secrets f run.key) → MissesAtMostOne f (vault_secrets f run.key) run.commands before.state → StopsFairly stop)
          → IfSome remote (λ before. StandsThere f left now.kept before.state → NoReply (vault_status stop))
      by None fair = tt
      by (Some before) fair = λ stands.
          let there = stands run.key run.number run.left_over run.commands run.finds run.kept in
          low_no_reply (vault_status stop) (fair_status stop (fair there.0 there.1))

  pub resumed-run : (last : Sight) (sink sink' : SinkShows) (status : ℕ) (ended : Result Bool VaultStop) → ResumesScript f left now end ended → last.link ≡ end.link → last.kept ≡ end.kept
      → EndsLine (run_line ended) end.written sink sink' status → status ≡ run_status ended → IsResumedRun f left now last sink sink' status
  resumed-run last sink sink' status ended runs link kept line is = record {
    ended = ended;
    end = end;
    runs = runs;
    passed = link;
    kept = kept;
    line = line;
    status_is = is;
    forged_only = λ e. script_forged ended runs (sym is ∙ e);
    forged = λ forged. is ∙ script_wrong ended runs forged;
    honest = subst (λ (n : ℕ). IfSome now.link.remote (λ before. StandsThere f left now.kept before.state → NoReply n)) (sym is) (script_honest ended runs);
  }

-- what a run of this status leaves of its recorder, after commands that were kept under a key
resumed_all : (f : KeyedFn) (keys : VaultSecrets) (cs : List VaultCommand) (number : ℕ) (left : Option (List (List ℕ))) (now end : Sight) (ended : Result Bool VaultStop) → Resumes f keys cs number left now end ended → run_status ended ≢ 6 → run_status ended ≢ 7 → end.kept.refused ≡ now.kept.refused
resumed_all f keys cs number left now end (Ok refused) run disk memory = ap (λ (k : Kept). k.refused) run.lines.run.moves.kept ∙ ap (λ (k : Kept). k.refused) run.resumes.unkept
resumed_all f keys cs number left now end (Err stop) run disk memory = resumed_refused f keys cs number left now end stop disk memory run.where_is

pub records-resumed : (f : KeyedFn) {R : Type 0} (kept : R → Kept) (moment : R → ℕ) (left_since : R → ℕ → List ℕ → Type 0) (whole : R → Type 0) (old new : R) (keys : VaultSecrets) (cs : List VaultCommand) (number : ℕ) (left : Option (List (List ℕ))) (link link' : LinkSight)
    (written written' : Option (List ℕ)) (status : ℕ) (ended : Result Bool VaultStop) → (kept old).refused ≡ [] → Resumes f keys cs number left (record { link = link; kept = kept old; written = written }) (record { link = link'; kept = kept new; written = written' }) ended
    → LeavesRecorder kept moment left_since whole old new → status ≡ run_status ended → shows.LeavesRecorder kept moment left_since whole old new status
records-resumed f kept moment left_since whole old new keys cs number left link link' written written' status ended none run leaves is = record {
  kept_on = leaves.kept_on;
  lasts = λ disk memory.
      leaves.lasts
      (resumed_all f keys cs number left (record { link = link; kept = kept old; written = written }) (record { link = link'; kept = kept new; written = written' }) ended run (λ e. disk (is ∙ e)) (λ e. memory (is ∙ e)) ∙ none);
}
