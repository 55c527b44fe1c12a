-- The world that a command of a client leads to, by how the command ended.
use Rattle.std.proofs.Common.{◌≡◌, ℕ, ◌&&◌, Bool, true, false, Option, List, [], ◌∷◌, ◌++◌, length, None, Some, refl, sym, ap, ◌∙◌, subst}
use Rattle.std.specs.Prelude.{is_some, not, unwrap_or, if◌then◌else◌}
use Rattle.std.specs.Option.{option_map_or}
use Rattle.client_core.specs.States.{BehindState, ClientOf}
use Rattle.client_registry.specs.Histories.{frames_in}
use Rattle.client_registry.specs.Run.{History}
use Rattle.keyed_fn.specs.KeyedFn.{KeyedFn}
use Rattle.outside_memory_disk.specs.declared.mem_disk.MemDisk.{MemDisk}
use Rattle.sse_frames.specs.Frames.{FrameText}
use Rattle.sse_frames.specs.Replies.{ReplyText}
use Rattle.sse_journal.specs.declared.journal.Journal.{Journal}
use Rattle.sse_model.specs.Epochs.{key_in}
use Rattle.sse_model.specs.Histories.{frames_sent}
use Rattle.world_disks.specs.Disks.{Holds}
use Rattle.world_disks.specs.declared.stop.Stop as code
use Rattle.world_model.specs.Rules.{Rules}
use Rattle.world_model.specs.World.{Disk, Client, Sends}
use Rattle.world_model.specs.Events.{Command, Made, Crashes, Breaks, Happened, Nothing, Leads, EndsAs, EndsCalling, calls_disk, commanded, happens, later, left, in_doubt, settled, planned, rests, takes_command}
use Rattle.world_rules.proofs.Numbered.{history_of-push}
use Rattle.world_rules.specs.Changes.{Change, history_of, with_change}
use Rattle.world_rules.specs.Promises.{StoreWorld}
use Rattle.world_rules.specs.Rules.{accepts, store_rules}
use Rattle.world_client.proofs.Leading.{command_lacking, command_refused, command_taken}
use Rattle.world_client.specs.Clients.{IsClientIn}
use Rattle.world_client.specs.Histories.{records_under}
use Rattle.world_client.specs.Starting.{HasKey}
use Rattle.world_client.specs.declared.commanded.Commanded.TheVariants as ended
use Rattle.world_client.specs.declared.state.State.{State}
use Rattle.world_client.specs.declared.state.State.TheVariants as states
use Rattle.world_server.proofs.Sides.{later_comes, met_in, unmet_in}
use Rattle.world_server.specs.Sides.{stop_in}
use Rattle.world_server.specs.declared.replies.Replies.{Replies}
use Rattle.sse_world.specs.Reached.{IsReached}
use Rattle.sse_world.specs.Stands.{IsWaiting}
use Rattle.sse_world.specs.declared.event.Outcome.TheVariants as outcome
use Rattle.world_run.proofs.Came.{doubt_key, key_with, records_with}
use Rattle.world_run.proofs.Facts.{counted}
use Rattle.world_run.proofs.Sides.{gone_client, has_key, left_left, none_in, running_in, runs_client}
use Rattle.world_run.specs.Commands.{IsCame, in_hand, key_of, takes_change}
use Rattle.world_run.specs.Commanding.{IsCommanding}
use Rattle.world_run.specs.Sides.{ClientPart, IsClient, LeadsClient, RunsAs, client_part}
use Rattle.world_run.specs.declared.running.Running.{Running}

-- of a client that waits for nothing, and of one that waits
free_is : (rests waits accepted : Bool) → waits ≡ false → ((rests && not waits) && accepted) ≡ (rests && accepted)
free_is true waits accepted e = ap (λ b. not b && accepted) e
free_is false waits accepted e = refl

waiting_is : (rests waits accepted : Bool) → waits ≡ true → ((rests && not waits) && accepted) ≡ false
waiting_is true waits accepted e = ap (λ b. not b && accepted) e
waiting_is false waits accepted e = refl

module _ (f : KeyedFn) (first : List ℕ) (w : StoreWorld) (c : Change) where
  abbrev rules : Rules Change FrameText (List ℕ) (List ReplyText)
  rules = store_rules f first

  -- Where none runs, or one waits.

  pub none_leads : w.client ≡ None → Leads rules w (Command c) Nothing w
  none_leads none =
      let came : happens rules w (Command c) 0 (Made true) ≡ None = ap (λ x. commanded rules (record w { client_stop = later 0 w.client_stop }) x c (Made true)) none in
      let quiet : calls_disk rules w (Command c) ≡ false = ap (λ x. option_map_or (λ s. takes_command rules s c) x false) none in
      record {
        calls = 0;
        end = Made true;
        possible = subst (λ b. EndsAs rules b false 0 (Made true) w.client_stop) (sym quiet) (refl, tt);
        comes_to = sym (ap (λ o. if is_some o then Happened else Nothing) came);
        is = sym (ap (λ o. unwrap_or o w) came);
      }

  module _ (disk : MemDisk) (stop : Option code.Stop) (key : List ℕ) (other : Option (List ℕ)) (waiting : Option Replies) where
    pub none_refuses : IsClient f first (client_part w) None disk stop key other → IsWaiting w.waiting waiting → LeadsClient f first w (Command c) outcome.Nothing None disk stop key other waiting
    none_refuses is waits = (w, none_leads (none_in f first disk stop key (client_part w) other is), refl, is, waits)

    pub waiting_refuses : (running : Running) → running.waits ≡ true → IsClient f first (client_part w) (Some running) disk stop key other → IsWaiting w.waiting waiting
        → LeadsClient f first w (Command c) outcome.Nothing (Some running) disk stop key other waiting
    waiting_refuses running busy is waits =
        let it = running_in f first disk stop key (client_part w) running other is in
        let client : w.client ≡ Some it.r = ap (λ (p : ClientPart). p.client) it.part_is in
        let refused = waiting_is (rests rules (it.r).phase) (it.r).waits (accepts f first (history_of (it.r).commands) c) (sym it.runs_as.waits ∙ busy) in
        (w, command_refused rules w it.r c client refused, refl, is, waits)

    -- one that waits for nothing
    pub commanding : (running : Running) (own : Option (List ℕ)) → IsReached f first w → IsClient f first (client_part w) (Some running) disk stop key other → running.waits ≡ false → own ≡ key_of c
        → (t : IsCommanding f first w c stop key own) × IsClientIn f first (history_of t.r.commands) t.r.phase running.state × Holds (records_under f first (history_of t.r.commands)) running.journal disk
    commanding running own reached is free own_is =
        let it = running_in f first disk stop key (client_part w) running other is in (
          record {
            reached = reached;
            r = it.r;
            part_is = it.part_is;
            waits = sym it.runs_as.waits ∙ free;
            key_is = it.runs_as.key_is;
            own_is = own_is;
            to_come = it.to_come;
          },
          it.runs_as.is,
          it.runs_as.holds,
        )

  -- What a command of a client that waits for nothing leads to.

  module _ (stop : Option code.Stop) (key : List ℕ) (own : Option (List ℕ)) (t : IsCommanding f first w c stop key own) where
    abbrev r : Client Change (List ℕ)
    r = t.r

    abbrev h : History
    h = history_of r.commands

    client_is : w.client ≡ Some r
    client_is = ap (λ (p : ClientPart). p.client) t.part_is

    records_are : w.client_disk.records ≡ r.commands
    records_are = ap (λ (p : ClientPart). p.disk.records) t.part_is

    stop_is : w.client_stop ≡ stop_in stop
    stop_is = ap (λ (p : ClientPart). p.stop) t.part_is

    takes_is : (b : Bool) → takes_change f first h r.phase c ≡ b → takes_command rules r c ≡ b
    takes_is b e = free_is (rests rules r.phase) r.waits (accepts f first h c) t.waits ∙ e

    accepted_of : (rests accepted : Bool) → (rests && accepted) ≡ true → accepted ≡ true
    accepted_of true accepted e = e
    accepted_of false accepted e = cc

    is_accepted : takes_change f first h r.phase c ≡ true → accepts f first h c ≡ true
    is_accepted = accepted_of (rests rules r.phase) (accepts f first h c)

    frames_are : length (frames_sent f first h) ≡ frames_in h
    frames_are = subst (λ cs. length (frames_sent f first (history_of cs)) ≡ frames_in (history_of cs)) records_are (counted f first w t.reached false)

    -- it is recorded
    pub taken_leads : (client : ClientOf BehindState) (calls : ℕ) (journal : Journal) (disk : MemDisk) (running : Running) (stop' : Option code.Stop) (key' : List ℕ) (other : Option (List ℕ)) (waiting : Option Replies)
        → IsCame f first h r.phase c stop (ended.Done client) calls journal disk → running.state ≡ states.Sending client → running.journal ≡ journal → running.waits ≡ false → stop_in stop' ≡ later calls (stop_in stop) → key' ≡ unwrap_or own key
        → IsWaiting w.waiting waiting → LeadsClient f first w (Command c) outcome.Done (Some running) disk stop' key' other waiting
    taken_leads client calls journal disk running stop' key' other waiting came state_is journal_is free stop_now key_now waits =
        let takes = came.0 in
        let next : Client Change (List ℕ) = record { commands = r.commands ++ c ∷ []; phase = Sends (length (frames_sent f first h)); waits = false } in
        let one : history_of (r.commands ++ c ∷ []) ≡ with_change h c = history_of-push r.commands c in
        let sends : IsClientIn f first (with_change h c) (Sends (frames_in h)) running.state = subst (IsClientIn f first (with_change h c) (Sends (frames_in h))) (sym state_is) came.1 in
        let last : key' ≡ key_in first (with_change h c) = key_now ∙ ap (λ o. unwrap_or o key) t.own_is ∙ key_with f first h c key (is_accepted takes) t.key_is in
        let runs_as : RunsAs f first next running disk key' =
        record {
          holds = subst (λ x. Holds (records_under f first x) running.journal disk) (sym one) (subst (λ j. Holds (records_under f first (with_change h c)) j disk) (sym journal_is) came.3);
          is = subst (λ x. IsClientIn f first x (Sends (length (frames_sent f first h))) running.state) (sym one) (subst (λ n. IsClientIn f first (with_change h c) (Sends n) running.state) (sym frames_are) sends);
          waits = free;
          key_is = last ∙ sym (ap (key_in first) one);
        } in
        let ends : EndsCalling calls (Made false) w.client_stop = subst (EndsCalling calls (Made false)) (sym stop_is) (unmet_in stop calls false came.2) in (
          planned rules (record w { client_stop = later calls w.client_stop }) r c (Made false),
          command_taken rules w r c client_is (takes_is true takes) calls (Made false) ends,
          refl,
          subst (λ (p : ClientPart). IsClient f first (record { disk = settled (p.disk.records ++ c ∷ []); client = Some next; stop = later calls p.stop }) (Some running) disk stop' key' other) (sym t.part_is)
              (runs_client f first next running disk stop' key' other (later calls (stop_in stop)) runs_as (sym stop_now) (later_comes calls (stop_in stop))),
          waits,
        )

    -- the same side with the client in this state
    pub stays_so : (state : State) (journal : Journal) (disk : MemDisk) (running : Running) (other : Option (List ℕ)) → running.state ≡ state → running.journal ≡ journal → running.waits ≡ false → IsClientIn f first h r.phase state
        → Holds (records_under f first h) journal disk → IsClient f first (client_part w) (Some running) disk stop key other
    stays_so state journal disk running other state_is journal_is free is holds =
        let runs_as : RunsAs f first r running disk key =
        record {
          holds = subst (λ x. Holds (records_under f first h) x disk) (sym journal_is) holds;
          is = subst (IsClientIn f first h r.phase) (sym state_is) is;
          waits = free ∙ sym t.waits;
          key_is = t.key_is;
        } in
        subst (λ (p : ClientPart). IsClient f first p (Some running) disk stop key other) (sym t.part_is) (runs_client f first r running disk stop key other (stop_in stop) runs_as refl t.to_come)

    module _ (running : Option Running) (disk : MemDisk) (stop' : Option code.Stop) (key' : List ℕ) (other : Option (List ℕ)) (waiting : Option Replies) (is : IsClient f first (client_part w) running disk stop' key' other) (waits : IsWaiting w.waiting waiting) where
      -- it isn't taken
      pub refused_leads : takes_change f first h r.phase c ≡ false → LeadsClient f first w (Command c) outcome.Nothing running disk stop' key' other waiting
      refused_leads refused = (w, command_refused rules w r c client_is (takes_is false refused), refl, is, waits)

      -- there was no memory
      pub lacking_leads : LeadsClient f first w (Command c) outcome.NoMemory running disk stop' key' other waiting
      lacking_leads = (w, command_lacking rules w r c client_is, refl, is, waits)

    -- While its record is in doubt.

    doubt_records : accepts f first h c ≡ true → (there : Bool) → (left there (in_hand f first h c)).records ≡ records_under f first (history_of (left there (in_doubt (settled r.commands) c)).records)
    doubt_records ok true = sym (ap (records_under f first) (history_of-push r.commands c) ∙ records_with f first h c ok)
    doubt_records ok false = refl

    doubt_keys : accepts f first h c ≡ true → (there : Bool) → HasKey f first (history_of (left there (in_doubt (settled r.commands) c)).records) key own
    doubt_keys ok true = subst (λ o. HasKey f first (history_of (r.commands ++ c ∷ [])) key o) (sym t.own_is) (subst (λ x. HasKey f first x key (key_of c)) (sym (history_of-push r.commands c)) (doubt_key f first h c key ok t.key_is))
    doubt_keys ok false = has_key f first h key own t.key_is

    -- the client has stopped
    pub stopped_leads : (calls : ℕ) (journal : Journal) (disk : MemDisk) → IsCame f first h r.phase c stop ended.Stopped calls journal disk → LeadsClient f first w (Command c) outcome.Done None disk None key own None
    stopped_leads calls journal disk came =
        let there = came.2.0 in
        let ok = is_accepted came.0 in
        let gone = left there (in_doubt (settled r.commands) c) in
        let hand = left there (in_hand f first h c) in
        let ends : EndsCalling calls (Crashes there) w.client_stop = subst (EndsCalling calls (Crashes there)) (sym stop_is) (met_in stop calls there came.1) in
        let records : (there' : Bool) → (left there' hand).records ≡ records_under f first (history_of (left there' gone).records) =
        λ there'.
        ap (λ (d : Disk (List ℕ)). d.records) (left_left (in_hand f first h c) there there') ∙ doubt_records ok there
        ∙ ap (λ (d : Disk Change). records_under f first (history_of d.records)) (sym (left_left (in_doubt (settled r.commands) c) there there')) in
        let keys : (there' : Bool) → HasKey f first (history_of (left there' gone).records) key own =
        λ there'. subst (λ (d : Disk Change). HasKey f first (history_of d.records) key own) (sym (left_left (in_doubt (settled r.commands) c) there there')) (doubt_keys ok there) in (
          planned rules (record w { client_stop = None }) r c (Crashes there),
          command_taken rules w r c client_is (takes_is true came.0) calls (Crashes there) ends,
          refl,
          subst (λ (p : ClientPart). IsClient f first (record { disk = left there (in_doubt p.disk c); client = None; stop = None }) None disk None key own) (sym t.part_is) (gone_client f first gone hand disk None key own None came.2.1 records keys refl tt),
          tt,
        )

    -- memory ran out inside a call of its disk, and it has stopped
    pub broken_leads : (calls : ℕ) (journal : Journal) (disk : MemDisk) (stop' : Option code.Stop) → IsCame f first h r.phase c stop ended.Broken calls journal disk → stop_in stop' ≡ later calls (stop_in stop)
        → LeadsClient f first w (Command c) outcome.NoMemory None disk stop' key own None
    broken_leads calls journal disk stop' came stop_now =
        let ok = is_accepted came.0 in (
          planned rules (record w { client_stop = later calls w.client_stop }) r c Breaks,
          command_taken rules w r c client_is (takes_is true came.0) calls Breaks tt,
          refl,
          subst (λ (p : ClientPart). IsClient f first (record { disk = in_doubt p.disk c; client = None; stop = later calls p.stop }) None disk stop' key own) (sym t.part_is)
              (gone_client f first (in_doubt (settled r.commands) c) (in_hand f first h c) disk stop' key own (later calls (stop_in stop)) came.1 (doubt_records ok) (doubt_keys ok) (sym stop_now) (later_comes calls (stop_in stop))),
          tt,
        )
