-- The world that a client's Send leads to.
use Rattle.std.proofs.Common.{◌≡◌, ◌≤◌, ◌-◌, ℕ, ◌+◌, ◌==◌, Bool, true, false, Option, List, [], ◌∷◌, ◌++◌, map, length, None, Some, Result, Ok, Err, refl, sym, ap, ◌∙◌, subst, arith}
use Rattle.std.specs.Prelude.{IfSome, is_some, option_map, slice_get, unwrap_or, if◌then◌else◌}
use Rattle.std.specs.List.{AllByRecursion}
use Rattle.std.proofs.lemmas.List.{append-nil, length-append, length-map}
use Rattle.std.proofs.lemmas.Option.{slice_get-map}
use Rattle.client_registry.proofs.FromEnd.{from_end}
use Rattle.client_registry.specs.Histories.{frames_in}
use Rattle.client_registry.specs.Run.{History}
use Rattle.client_registry.specs.WordBytes.{word_bytes}
use Rattle.client_registry.specs.declared.word.Word.{Word}
use Rattle.keyed_fn.specs.KeyedFn.{KeyedFn, IsKeyedFn}
use Rattle.keyed_fn.specs.KeyFormulas.{token_of}
use Rattle.outside_memory_disk.specs.declared.mem_disk.MemDisk.{MemDisk}
use Rattle.sse_frames.proofs.Heads.{length-frame_bytes}
use Rattle.sse_frames.specs.Frames as frames
use Rattle.sse_frames.specs.Frames.{FrameText, SearchFrame, frame_bytes, update_number}
use Rattle.sse_frames.specs.Replies.{ReplyText}
use Rattle.sse_model.specs.Epochs.{key_in}
use Rattle.sse_model.specs.Histories.{frames_sent}
use Rattle.sse_journal.specs.JournalView.{records_of}
use Rattle.world_disks.specs.Disks.{Holds}
use Rattle.world_disks.specs.declared.stop.Stop as code
use Rattle.world_grammar.proofs.Grammar.{frame_in_grammar, search_in_grammar}
use Rattle.world_model.specs.Rules.{Rules, AreAccepted}
use Rattle.world_model.specs.World.{Client, Message, Hello, Update, Search, Phase, Greets, Rests, Sends, Asks, Reply, Next, Took, Shown, Refused}
use Rattle.world_model.specs.World as model
use Rattle.world_model.specs.Events.{Send, Made, Happened, Nothing, NoMemory, Leads, as_list, happens, sent_on, sends_on, sending_frame, client_gone, rests}
use Rattle.world_rules.proofs.Numbered.{history_of-push, accepted-push}
use Rattle.world_rules.specs.Changes.{Change, Deletes, history_of}
use Rattle.world_rules.specs.Promises.{StoreWorld, IsSizedChange, ids_shown}
use Rattle.world_rules.specs.Rules.{store_rules}
use Rattle.world_client.proofs.Leading.{send_first, send_none, send_lacking, send_waiting}
use Rattle.world_client.proofs.Taking.{heard_leads, unwanted_leads, lacking_leads}
use Rattle.world_client.specs.Answering.{frame_in}
use Rattle.world_client.specs.Clients.{IsClientIn}
use Rattle.world_client.specs.Hearing.{Hears, HasFound, done_by}
use Rattle.world_client.specs.Histories.{IsOfClient, records_under}
use Rattle.world_client.specs.declared.report.Report.{Report}
use Rattle.world_client.specs.declared.report.Report.TheVariants as report
use Rattle.world_client.specs.declared.state.Gone.{Gone}
use Rattle.world_client.specs.declared.state.Gone.TheVariants as gone
use Rattle.world_client.specs.declared.state.State.{State}
use Rattle.world_client.specs.declared.state.State.TheVariants as states
use Rattle.world_server.specs.Replies.{CanWrite}
use Rattle.world_server.specs.Sides.{stop_in}
use Rattle.world_server.specs.Waiting.{IsKept, IsMessage}
use Rattle.world_server.specs.declared.replies.Replies.{Replies}
use Rattle.sse_world.specs.Reached.{IsReached}
use Rattle.sse_world.specs.Stands.{AreMessages, IsLink, IsWaiting, outcome_in}
use Rattle.sse_world.specs.declared.event.Outcome.{Outcome}
use Rattle.sse_world.specs.declared.event.Outcome.TheVariants as outcome
use Rattle.world_run.proofs.Came.{records_with}
use Rattle.world_run.proofs.Facts.{accepted_is, of_client, sized_is}
use Rattle.world_run.proofs.Sides.{IsRunning, none_in, running_in, runs_client}
use Rattle.world_run.specs.Commands.{record_of}
use Rattle.world_run.specs.Sending.{AreReported, CanSend, IsReported, IsSender, LeadsSending, done_of, is_idle}
use Rattle.world_run.specs.Sides.{ClientPart, IsClient, RunsAs, client_part, words_asked}
use Rattle.world_run.specs.declared.done.Done.{Done}
use Rattle.world_run.specs.declared.running.Running.{Running}

-- One more.

AreMessages-push : (ms : List (Message FrameText)) (sent : List (List ℕ)) (m : Message FrameText) (bytes : List ℕ) → AreMessages ms sent → IsMessage m bytes → AreMessages (ms ++ m ∷ []) (sent ++ bytes ∷ [])
AreMessages-push [] [] m bytes are is = (is, tt)
AreMessages-push [] (x ∷ sent) m bytes are is = absurd are
AreMessages-push (x ∷ ms) [] m bytes are is = absurd are
AreMessages-push (x ∷ ms) (y ∷ sent) m bytes are is = (are.0, AreMessages-push ms sent m bytes are.1 is)

AreReported-push : (ds : List (model.Done (List ReplyText))) (dones : List Done) (d : model.Done (List ReplyText)) (told : Done) → AreReported ds dones → IsReported d told → AreReported (ds ++ d ∷ []) (dones ++ told ∷ [])
AreReported-push [] [] d told are is = (is, tt)
AreReported-push [] (x ∷ dones) d told are is = absurd are
AreReported-push (x ∷ ds) [] d told are is = absurd are
AreReported-push (x ∷ ds) (y ∷ dones) d told are is = (are.0, AreReported-push ds dones d told are.1 is)

-- What waits.

pub none_waits : (reply : Option (Reply (List ReplyText))) (waiting : Option Replies) → IsWaiting reply waiting → waiting ≡ None → reply ≡ None
none_waits None waiting is e = refl
none_waits (Some reply) None is e = absurd is
none_waits (Some reply) (Some replies) is e = cc

pub record IsAnswer (waiting : Option (Reply (List ReplyText))) (replies : Replies) : Type 0 where
  pub reply : Reply (List ReplyText)
  pub waiting_is : waiting ≡ Some reply
  pub kept : IsKept reply replies
  pub can : CanWrite replies

pub some_waits : (reply : Option (Reply (List ReplyText))) (waiting : Option Replies) (replies : Replies) → IsWaiting reply waiting → waiting ≡ Some replies → IsAnswer reply replies
some_waits None None replies is e = cc
some_waits None (Some other) replies is e = absurd is
some_waits (Some reply) None replies is e = absurd is
some_waits (Some reply) (Some other) replies is e =
    let same : other ≡ replies = cc in
    record { reply = reply; waiting_is = refl; kept = subst (IsKept reply) same is.0; can = subst CanWrite same is.1 }

module _ (f : KeyedFn) (first : List ℕ) where
  abbrev rules : Rules Change FrameText (List ℕ) (List ReplyText)
  rules = store_rules f first

  -- accepted commands have a record each
  pub count_records : (commands : List Change) → AreAccepted (store_rules f first) commands → length (records_under f first (history_of commands)) ≡ length commands
  count_records = from_end (λ cs. AreAccepted (store_rules f first) cs → length (records_under f first (history_of cs)) ≡ length cs) (λ are. refl) push
    where
      push : (xs : List Change) (c : Change) → (AreAccepted (store_rules f first) xs → length (records_under f first (history_of xs)) ≡ length xs)
          → AreAccepted (store_rules f first) (xs ++ c ∷ []) → length (records_under f first (history_of (xs ++ c ∷ []))) ≡ length (xs ++ c ∷ [])
      push xs c had are =
          let both = accepted-push (store_rules f first) [] xs c are in
          let h = history_of xs in
          let whole = ap (λ x. length (records_under f first x)) (history_of-push xs c) ∙ ap length (records_with f first h c both.1) in
          omega (arith, whole, had both.0, length-append (records_under f first h) (record_of f first h c ∷ []), length-append xs (c ∷ []))

  module _ (laws : IsKeyedFn f) (commands : List Change) (sized : AllByRecursion IsSizedChange commands) (are : AreAccepted (store_rules f first) commands) where
    abbrev h : History
    h = history_of commands

    -- one more frame was sent, which is a message and no longer than a frame can be, or none
    pub record IsSent (u : StoreWorld) (phase : Phase (List ℕ)) (v : StoreWorld) (bytes : Option (List ℕ)) : Type 0 where
      pub is : v ≡ record u { client = Some (record { commands = commands; phase = phase; waits = is_some bytes }); sent = v.sent; waiting = None }
      pub messages : (sent : List (List ℕ)) → AreMessages u.sent sent → AreMessages v.sent (sent ++ as_list bytes)
      pub short : IfSome bytes (λ frame. length frame ≤ 541709)

    -- what a client sends in a phase
    pub sent_in : (u : StoreWorld) (phase : Phase (List ℕ)) → IsSent u phase (sends_on rules u commands phase) (frame_in f first h phase)
    sent_in u Greets = record {
      is = refl;
      messages = λ sent ms. AreMessages-push u.sent sent Hello (frame_bytes frames.Hello) ms (record { kind = tt; grammar = tt; spelled = refl });
      short = length-frame_bytes frames.Hello tt;
    }
    sent_in u Rests = record { is = refl; messages = λ sent ms. subst (AreMessages u.sent) (sym (append-nil sent)) ms; short = tt }
    sent_in u (Sends k) =
        subst (IsSent u (Sends k) (sending_frame rules u commands k (slice_get (frames_sent f first h) k))) (sym (slice_get-map frame_bytes (frames_sent f first h) k)) (by (slice_get (frames_sent f first h) k) refl)
      where
        by : (o : Option FrameText) → slice_get (frames_sent f first h) k ≡ o → IsSent u (Sends k) (sending_frame rules u commands k o) (option_map frame_bytes o)
        by None at = record { is = refl; messages = λ sent ms. subst (AreMessages u.sent) (sym (append-nil sent)) ms; short = tt }
        by (Some frame) at =
            let both = frame_in_grammar f first laws commands k frame sized are at in
            record {
              is = refl;
              messages = λ sent ms. AreMessages-push u.sent sent (Update frame) (frame_bytes frame) ms (record { kind = ap is_some both.1; grammar = both.0; spelled = refl });
              short = length-frame_bytes frame both.0;
            }
    sent_in u (Asks word) =
        let token = token_of f (key_in first h) word in
        let grammar = search_in_grammar f (key_in first h) laws word in
        record {
          is = refl;
          messages = λ sent ms. AreMessages-push u.sent sent (Search (SearchFrame token)) (frame_bytes (SearchFrame token)) ms (record { kind = (token, refl); grammar = grammar; spelled = refl });
          short = length-frame_bytes (SearchFrame token) grammar;
        }

    pub short_in : (u : StoreWorld) (phase : Phase (List ℕ)) (bytes : List ℕ) → frame_in f first h phase ≡ Some bytes → length bytes ≤ 541709
    short_in u phase bytes e = subst (λ o. IfSome o (λ frame. length frame ≤ 541709)) e (sent_in u phase).short

  -- What is reported.

  module _ (w : StoreWorld) (commands : List Change) (dones : List Done) (told : AreReported w.done dones) (searches : ℕ) (searched : searches ≡ length w.searches) (records : ℕ) (counted : records ≡ length commands) where
    abbrev IsTold : Reply (List ReplyText) → Report → Type 0
    IsTold reply told = AreReported (done_by rules w commands reply told).done (dones ++ done_of told records searches)

    none_told : (reply : Reply (List ReplyText)) → IsTold reply report.Nothing
    none_told reply = subst (AreReported w.done) (sym (append-nil dones)) told

    sent_told : (reply : Reply (List ReplyText)) (b : Bool) → IsTold reply (if b then report.Updated else report.Nothing)
    sent_told reply true = AreReported-push w.done dones _ _ told (ap (λ n. n - 1) counted)
    sent_told reply false = none_told reply

    found_told : (all : List ReplyText) (r : Report) → HasFound r (ids_shown all) → IsTold (Shown all) r
    found_told all (report.Found ids) has = AreReported-push w.done dones _ _ told (ap (λ n. n - 1) searched, has)
    found_told all report.Nothing has = absurd has
    found_told all report.Updated has = absurd has

    never : (heard : State × Report) → Ok heard ≡ Err gone.Unwanted → ⊥
    never heard e = cc

    pub heard_told : (h : History) (phase : Phase (List ℕ)) (reply : Reply (List ReplyText)) (heard : State × Report) → Hears f first h phase reply (Ok heard) → IsTold reply heard.1
    heard_told h Greets (Next n) heard is = subst (IsTold (Next n)) (sym is.2) (none_told (Next n))
    heard_told h Greets (Took n) heard is = absurd (never heard is)
    heard_told h Greets (Shown a) heard is = absurd (never heard is)
    heard_told h Greets Refused heard is = absurd (never heard is)
    heard_told h Rests reply heard is = absurd (never heard is)
    heard_told h (Sends k) (Next n) heard is = absurd (never heard is)
    heard_told h (Sends k) (Took n) heard is = subst (IsTold (Took n)) (sym is.2) (sent_told (Took n) (k + 1 == frames_in h))
    heard_told h (Sends k) (Shown a) heard is = absurd (never heard is)
    heard_told h (Sends k) Refused heard is = absurd (never heard is)
    heard_told h (Asks word) (Next n) heard is = absurd (never heard is)
    heard_told h (Asks word) (Took n) heard is = absurd (never heard is)
    heard_told h (Asks word) (Shown a) heard is = found_told a heard.1 is.2
    heard_told h (Asks word) Refused heard is = absurd (never heard is)

  -- only that has changed
  pub done_same : (w : StoreWorld) (commands : List Change) (reply : Reply (List ReplyText)) (r : Report) → done_by rules w commands reply r ≡ record w { done = (done_by rules w commands reply r).done }
  done_same w commands reply report.Nothing = refl
  done_same w commands reply report.Updated = refl
  done_same w commands (Shown a) (report.Found ids) = refl
  done_same w commands (Next n) (report.Found ids) = refl
  done_same w commands (Took n) (report.Found ids) = refl
  done_same w commands Refused (report.Found ids) = refl

  -- a client rests if and only if it has nothing to send
  pub idle_is : (h : History) (phase : Phase (List ℕ)) (state : State) → IsClientIn f first h phase state → rests rules phase ≡ is_idle state
  idle_is h Greets (states.Greeting client) is = refl
  idle_is h Greets (states.Sending client) is = refl
  idle_is h Greets (states.Asking client word) is = refl
  idle_is None Greets (states.Fresh client) is = absurd is
  idle_is (Some es) Greets (states.Fresh client) is = absurd is
  idle_is None Greets (states.Resting client) is = absurd is
  idle_is (Some es) Greets (states.Resting client) is = absurd is
  idle_is h Rests (states.Fresh client) is = refl
  idle_is h Rests (states.Resting client) is = refl
  idle_is None Rests (states.Greeting client) is = absurd is
  idle_is (Some es) Rests (states.Greeting client) is = absurd is
  idle_is None Rests (states.Sending client) is = absurd is
  idle_is (Some es) Rests (states.Sending client) is = absurd is
  idle_is None Rests (states.Asking client word) is = absurd is
  idle_is (Some es) Rests (states.Asking client word) is = absurd is
  idle_is h (Sends k) (states.Greeting client) is = refl
  idle_is h (Sends k) (states.Sending client) is = refl
  idle_is h (Sends k) (states.Asking client word) is = refl
  idle_is None (Sends k) (states.Fresh client) is = absurd is
  idle_is (Some es) (Sends k) (states.Fresh client) is = absurd is
  idle_is None (Sends k) (states.Resting client) is = absurd is
  idle_is (Some es) (Sends k) (states.Resting client) is = absurd is
  idle_is h (Asks asked) (states.Greeting client) is = refl
  idle_is h (Asks asked) (states.Sending client) is = refl
  idle_is h (Asks asked) (states.Asking client word) is = refl
  idle_is None (Asks asked) (states.Fresh client) is = absurd is
  idle_is (Some es) (Asks asked) (states.Fresh client) is = absurd is
  idle_is None (Asks asked) (states.Resting client) is = absurd is
  idle_is (Some es) (Asks asked) (states.Resting client) is = absurd is

  -- A client that runs.

  module _ (laws : IsKeyedFn f) (w : StoreWorld) (running : Running) (disk : MemDisk) (stop : Option code.Stop) (key : List ℕ) (other : Option (List ℕ)) (sent : List (List ℕ)) (waiting : Option Replies) (dones : List Done) (searches : ℕ)
      (s : IsSender f first w (Some running) disk stop key other sent waiting dones searches) where
    abbrev it : IsRunning f first (client_part w) running disk stop key
    it = running_in f first disk stop key (client_part w) running other s.is

    abbrev pub r : Client Change (List ℕ)
    r = it.r

    abbrev now : History
    now = history_of r.commands

    pub client_is : w.client ≡ Some r
    client_is = ap (λ (p : ClientPart). p.client) it.part_is

    records_are : w.client_disk.records ≡ r.commands
    records_are = ap (λ (p : ClientPart). p.disk.records) it.part_is

    pub are_accepted : AreAccepted (store_rules f first) r.commands
    are_accepted = subst (AreAccepted (store_rules f first)) records_are (accepted_is f first w s.reached)

    are_sized : AllByRecursion IsSizedChange r.commands
    are_sized = subst (AllByRecursion IsSizedChange) records_are (sized_is f first w s.reached)

    pub of_history : IsOfClient f first now
    of_history = subst (λ cs. IsOfClient f first (history_of cs)) records_are (of_client f first w s.reached false)

    pub in_phase : IsClientIn f first now r.phase running.state
    in_phase = it.runs_as.is

    pub waits_is : (b : Bool) → running.waits ≡ b → r.waits ≡ b
    waits_is b e = sym it.runs_as.waits ∙ e

    pub can_send : (phase : Phase (List ℕ)) (state : State) → IsClientIn f first now phase state → CanSend f first now phase state key
    can_send phase state is = record { history = of_history; is = is; key_is = it.runs_as.key_is; short = short_in laws r.commands are_sized are_accepted w phase }

    -- its journal has a record for each command
    pub records_in : records_of running.journal ≡ length r.commands
    records_in = it.runs_as.holds.is.records_are ∙ count_records r.commands are_accepted

    -- it goes on in a phase, and has sent the frame of that
    pub sent_leads : (u : StoreWorld) (phase : Phase (List ℕ)) (after : Running) (sent' : List (List ℕ)) (waiting' : Option Replies) (dones' : List Done) → u ≡ record w { done = u.done }
        → Leads rules w Send Happened (sends_on rules u r.commands phase) → IsClientIn f first now phase after.state → after.journal ≡ running.journal
        → (sent' ≡ sent ++ as_list (frame_in f first now phase)) × (after.waits ≡ is_some (frame_in f first now phase)) → waiting' ≡ None → AreReported u.done dones' → LeadsSending f first w outcome.Done (Some after) disk stop key other sent' waiting' dones'
    sent_leads u phase after sent' waiting' dones' same leads is journal sends none told =
        let v = sends_on rules u r.commands phase in
        let one = sent_in laws r.commands are_sized are_accepted u phase in
        let next : Client Change (List ℕ) = record { commands = r.commands; phase = phase; waits = is_some (frame_in f first now phase) } in
        let x_is : v ≡ record w { client = Some next; sent = v.sent; waiting = None; done = u.done } = one.is ∙ ap (λ (x : StoreWorld). record x { client = Some next; sent = v.sent; waiting = None }) same in
        let runs_as : RunsAs f first next after disk key =
        record { holds = subst (λ j. Holds (records_under f first now) j disk) (sym journal) it.runs_as.holds; is = is; waits = sends.1; key_is = it.runs_as.key_is } in (
          record w { client = Some next; sent = v.sent; waiting = None; done = u.done },
          subst (Leads rules w Send Happened) x_is leads,
          refl,
          subst (λ (p : ClientPart). IsClient f first (record p { client = Some next }) (Some after) disk stop key other) (sym it.part_is) (runs_client f first next after disk stop key other (stop_in stop) runs_as refl it.to_come),
          record {
            messages = subst (AreMessages v.sent) (sym sends.0) (one.messages sent (subst (λ (x : StoreWorld). AreMessages x.sent sent) (sym same) s.link.messages));
            waits = subst (IsWaiting None) (sym none) tt;
          },
          told,
        )

    -- it is gone
    pub gone_leads : (out : Outcome) (waiting' : Option Replies) → Leads rules w Send (outcome_in out) (client_gone rules w w.client_disk) → waiting' ≡ None → LeadsSending f first w out None disk stop key other sent waiting' dones
    gone_leads out waiting' leads none = (
      client_gone rules w w.client_disk,
      leads,
      refl,
      record { payloads = s.is.payloads; disk_is = s.is.disk_is; records = s.is.records; keys = s.is.keys; runs = tt; stop_is = s.is.stop_is; to_come = s.is.to_come },
      record { messages = s.link.messages; waits = subst (IsWaiting None) (sym none) tt },
      s.reported,
    )

    -- the world stays
    pub stays_so : (out : Outcome) (sent' : List (List ℕ)) (waiting' : Option Replies) (dones' : List Done) → Leads rules w Send (outcome_in out) w → sent' ≡ sent → waiting' ≡ waiting → dones' ≡ dones
        → LeadsSending f first w out (Some running) disk stop key other sent' waiting' dones'
    stays_so out sent' waiting' dones' leads sent_is waiting_is dones_is = (
      w,
      leads,
      refl,
      s.is,
      record { messages = subst (AreMessages w.sent) (sym sent_is) s.link.messages; waits = subst (IsWaiting w.waiting) (sym waiting_is) s.link.waits },
      subst (AreReported w.done) (sym dones_is) s.reported,
    )

    -- By what it does.

    pub first_leads : running.waits ≡ false → is_idle running.state ≡ false → Leads rules w Send Happened (sends_on rules w r.commands r.phase)
    first_leads quiet busy = send_first rules w r (Deletes 0) client_is (waits_is false quiet) (idle_is now r.phase running.state in_phase ∙ busy)

    pub idle_leads : running.waits ≡ false → is_idle running.state ≡ true → Leads rules w Send Nothing w
    idle_leads quiet idle = send_none rules w r (Deletes 0) client_is (waits_is false quiet) (idle_is now r.phase running.state in_phase ∙ idle)

    pub lacking : Leads rules w Send NoMemory w
    lacking = send_lacking rules w r (Deletes 0) client_is

    pub unanswered_leads : running.waits ≡ true → waiting ≡ None → Leads rules w Send Nothing w
    unanswered_leads waits none = send_waiting rules w r (Deletes 0) client_is (waits_is true waits) (none_waits w.waiting waiting s.link.waits none)

    -- it sends its first frame
    pub first_sent : (after : Running) (sent' : List (List ℕ)) (waiting' : Option Replies) → running.waits ≡ false → is_idle running.state ≡ false → after.state ≡ running.state → after.journal ≡ running.journal
        → ((h : History) (phase : Phase (List ℕ)) → CanSend f first h phase running.state key → (sent' ≡ sent ++ as_list (frame_in f first h phase)) × (after.waits ≡ is_some (frame_in f first h phase))) → waiting' ≡ None
        → LeadsSending f first w outcome.Done (Some after) disk stop key other sent' waiting' dones
    first_sent after sent' waiting' quiet busy state_is journal_is sends none =
        sent_leads w r.phase after sent' waiting' dones refl (first_leads quiet busy) (subst (IsClientIn f first now r.phase) (sym state_is) in_phase) journal_is (sends now r.phase (can_send r.phase running.state in_phase)) none s.reported

    pub can_first : (h : History) × (phase : Phase (List ℕ)) × CanSend f first h phase running.state key
    can_first = (now, r.phase, can_send r.phase running.state in_phase)

    -- The answer that waits.

    module _ (replies : Replies) (some : waiting ≡ Some replies) (waits : running.waits ≡ true) where
      abbrev pub HearsSo : Result (State × Report) Gone → Type 0
      HearsSo result = (h : History) (phase : Phase (List ℕ)) (a : Reply (List ReplyText)) → IsOfClient f first h → IsClientIn f first h phase running.state → IsKept a replies → Hears f first h phase a result

      answer : IsAnswer w.waiting replies
      answer = some_waits w.waiting waiting replies s.link.waits some

      pub can_write : CanWrite replies
      can_write = answer.can

      hears_it : (result : Result (State × Report) Gone) → HearsSo result → Hears f first now r.phase answer.reply result
      hears_it result hears = hears now r.phase answer.reply of_history in_phase answer.kept

      -- it goes on in this phase
      goes : (heard : State × Report) → HearsSo (Ok heard)
          → (next : Phase (List ℕ)) × IsClientIn f first now next heard.0 × Leads rules w Send Happened (sends_on rules (done_by rules w r.commands answer.reply heard.1) r.commands next)
      goes heard hears = heard_leads f first w r client_is (waits_is true waits) answer.reply answer.waiting_is are_accepted heard (hears_it (Ok heard) hears)

      pub can_go_on : (heard : State × Report) → HearsSo (Ok heard) → (h : History) × (phase : Phase (List ℕ)) × CanSend f first h phase heard.0 key
      can_go_on heard hears = let on = goes heard hears in (now, on.0, can_send on.0 heard.0 on.1)

      -- and sends its next frame
      pub went_on : (heard : State × Report) (after : Running) (sent' : List (List ℕ)) (waiting' : Option Replies) (dones' : List Done) → HearsSo (Ok heard) → after.state ≡ heard.0 → after.journal ≡ running.journal
          → ((h : History) (phase : Phase (List ℕ)) → CanSend f first h phase heard.0 key → (sent' ≡ sent ++ as_list (frame_in f first h phase)) × (after.waits ≡ is_some (frame_in f first h phase))) → waiting' ≡ None
          → dones' ≡ dones ++ done_of heard.1 (records_of running.journal) searches → LeadsSending f first w outcome.Done (Some after) disk stop key other sent' waiting' dones'
      went_on heard after sent' waiting' dones' hears state_is journal_is sends none dones_is =
          let on = goes heard hears in
          let u = done_by rules w r.commands answer.reply heard.1 in
          let told = heard_told w r.commands dones s.reported searches s.searched (records_of running.journal) records_in now r.phase answer.reply heard (hears_it (Ok heard) hears) in
          sent_leads u on.0 after sent' waiting' dones' (done_same w r.commands answer.reply heard.1) on.2 (subst (IsClientIn f first now on.0) (sym state_is) on.1) journal_is (sends now on.0 (can_send on.0 heard.0 on.1)) none
          (subst (AreReported u.done) (sym dones_is) told)

      -- or it is gone
      pub unwanted_gone : (why : Gone) (waiting' : Option Replies) → why ≡ gone.Unwanted → HearsSo (Err why) → waiting' ≡ None → LeadsSending f first w outcome.Done None disk stop key other sent waiting' dones
      unwanted_gone why waiting' is hears none = gone_leads outcome.Done waiting' (unwanted_leads f first w r client_is (waits_is true waits) answer.reply answer.waiting_is are_accepted (hears_it (Err gone.Unwanted) (subst (λ x. HearsSo (Err x)) is hears))) none

      pub lacking_gone : (why : Gone) (waiting' : Option Replies) → why ≡ gone.NoMemory → HearsSo (Err why) → waiting' ≡ None → LeadsSending f first w outcome.NoMemory None disk stop key other sent waiting' dones
      lacking_gone why waiting' is hears none = gone_leads outcome.NoMemory waiting' (lacking_leads f first w r client_is (waits_is true waits) answer.reply answer.waiting_is are_accepted (hears_it (Err gone.NoMemory) (subst (λ x. HearsSo (Err x)) is hears))) none

  -- Where none runs.

  pub none_leads : (w : StoreWorld) → w.client ≡ None → Leads rules w Send Nothing w
  none_leads w none =
      let came : happens rules w Send 0 (Made true) ≡ None = ap (λ x. sent_on rules w x (Made true)) none in
      record { calls = 0; end = Made true; possible = (refl, tt); comes_to = sym (ap (λ o. if is_some o then Happened else Nothing) came); is = sym (ap (λ o. unwrap_or o w) came) }

  pub none_stays : (w : StoreWorld) (disk : MemDisk) (stop : Option code.Stop) (key : List ℕ) (other : Option (List ℕ)) (sent : List (List ℕ)) (waiting : Option Replies) (dones : List Done) → IsClient f first (client_part w) None disk stop key other
      → IsLink w sent waiting → AreReported w.done dones → LeadsSending f first w outcome.Nothing None disk stop key other sent waiting dones
  none_stays w disk stop key other sent waiting dones is link told = (w, none_leads w (none_in f first disk stop key (client_part w) other is), refl, is, link, told)

  -- how many searches were made
  pub searched_by : (w : StoreWorld) (asked : List Word) → words_asked w ≡ map word_bytes asked → length asked ≡ length w.searches
  searched_by w asked same = sym (length-map asked word_bytes) ∙ sym (ap length same) ∙ length-map w.searches (λ a. a.word)

  pub sender_same : (w : StoreWorld) (running : Option Running) (disk : MemDisk) (stop : Option code.Stop) (key : List ℕ) (other : Option (List ℕ)) (sent sent' : List (List ℕ)) (waiting waiting' : Option Replies) (dones dones' : List Done) (searches : ℕ)
      → sent' ≡ sent → waiting' ≡ waiting → dones' ≡ dones → IsSender f first w running disk stop key other sent waiting dones searches → IsSender f first w running disk stop key other sent' waiting' dones' searches
  sender_same w running disk stop key other sent sent' waiting waiting' dones dones' searches sent_is waiting_is dones_is s = record {
    reached = s.reached;
    is = s.is;
    link = record { messages = subst (AreMessages w.sent) (sym sent_is) s.link.messages; waits = subst (IsWaiting w.waiting) (sym waiting_is) s.link.waits };
    reported = subst (AreReported w.done) (sym dones_is) s.reported;
    searched = s.searched;
  }

  pub sender_of : (w : StoreWorld) (running running' : Option Running) (disk : MemDisk) (stop : Option code.Stop) (key : List ℕ) (other : Option (List ℕ)) (sent : List (List ℕ)) (waiting : Option Replies) (dones : List Done) (asked : List Word) (searches : ℕ)
      → running' ≡ running → searches ≡ length asked → IsReached f first w → IsClient f first (client_part w) running disk stop key other → IsLink w sent waiting → words_asked w ≡ map word_bytes asked → AreReported w.done dones
      → IsSender f first w running' disk stop key other sent waiting dones searches
  sender_of w running running' disk stop key other sent waiting dones asked searches same counted reached is link words told = record {
    reached = reached;
    is = subst (λ r. IsClient f first (client_part w) r disk stop key other) (sym same) is;
    link = link;
    reported = told;
    searched = counted ∙ searched_by w asked words;
  }
