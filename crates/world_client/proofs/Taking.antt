-- A client that takes an answer leads from one world to the next, by the store's rules.
use Rattle.std.proofs.Common.{◌≡◌, ◌≤◌, ℕ, ◌+◌, ◌-◌, ◌==◌, ◌&&◌, Bool, true, false, List, length, None, Some, Result, Ok, Err, refl, sym, ap, ◌∙◌, subst, arith}
use Rattle.std.specs.Prelude.{nat_le, if◌then◌else◌}
use Rattle.keyed_fn.specs.KeyedFn.{KeyedFn}
use Rattle.client_registry.specs.Histories.{frames_in}
use Rattle.client_registry.specs.Run.{History, From, Renewed}
use Rattle.sse_frames.specs.Frames.{FrameText}
use Rattle.sse_frames.specs.Replies.{ReplyText}
use Rattle.sse_model.specs.Histories.{frames_sent}
use Rattle.world_model.specs.Rules.{Rules, AreAccepted}
use Rattle.world_model.specs.World.{Phase, Greets, Rests, Sends, Asks, Client, Reply, Next, Took, Shown, Refused, Updated, Found}
use Rattle.world_model.specs.Events.{Send, Happened, NoMemory, Leads, answered, acknowledged, but_last, client_gone, greets, is_within, phase_from, reported, sends_on}
use Rattle.world_rules.proofs.LastFrames.{first_of_last-frames, last_frames_in}
use Rattle.world_rules.proofs.Numbered.{gapless}
use Rattle.world_rules.specs.Changes.{Change, Deletes, history_of}
use Rattle.world_rules.specs.Promises.{StoreWorld}
use Rattle.world_rules.specs.Rules.{store_rules}
use Rattle.world_client.proofs.Leading.{send_answered, send_broken}
use Rattle.world_client.specs.Clients.{IsClientIn}
use Rattle.world_client.specs.Hearing.{Hears, done_by}
use Rattle.world_client.specs.Histories.{CanExpect, phase_at}
use Rattle.world_client.specs.declared.report.Report.{Report}
use Rattle.world_client.specs.declared.report.Report.TheVariants as report
use Rattle.world_client.specs.declared.state.Gone.{Gone}
use Rattle.world_client.specs.declared.state.Gone.TheVariants as gone
use Rattle.world_client.specs.declared.state.State.{State}

module _ (f : KeyedFn) (first : List ℕ) where
  abbrev rules : Rules Change FrameText (List ℕ) (List ReplyText)
  rules = store_rules f first

  -- a server that expects this number lacks none but frames of the last command, and has none that isn't of the history
  can_expect : (h : History) (n : ℕ) → CanExpect f first h n → (frames_in h - length (last_frames_in f first h) ≤ n) × (n ≤ frames_in h)
  can_expect None n is = (omega (arith, is), omega (arith, is))
  can_expect (Some (From o run)) n is = is
  can_expect (Some (Renewed before own run)) n is = is

  expected : (h : History) (n : ℕ) → (frames_in h - length (last_frames_in f first h) ≤ n) × (n ≤ frames_in h) → CanExpect f first h n
  expected None n is = omega (arith, is.1)
  expected (Some (From o run)) n is = is
  expected (Some (Renewed before own run)) n is = is

  module _ (commands : List Change) (are : AreAccepted (store_rules f first) commands) where
    abbrev h : History
    h = history_of commands

    abbrev low : ℕ
    low = length (frames_sent f first (history_of (but_last commands)))

    all : length (frames_sent f first h) ≡ frames_in h
    all = (gapless f first commands are).count

    before : frames_in h - length (last_frames_in f first h) ≡ low
    before = first_of_last-frames f first commands are

    no_memory : (a : Result (State × Report) Gone) → a ≡ Err gone.NoMemory → a ≡ Err gone.Unwanted → ⊥
    no_memory a lacks unwanted = cc

    le_true : (n m : ℕ) → n ≤ m → nat_le n m ≡ true
    le_true n m le = grind (arith, le)

    true_le : (n m : ℕ) → nat_le n m ≡ true → n ≤ m
    true_le n m e = grind (arith, e)

    within_true : (n : ℕ) → CanExpect f first h n → is_within rules commands n ≡ true
    within_true n is =
        let both = can_expect h n is in
        let one = le_true low n (omega (arith, both.0, before)) in
        let two = le_true n (length (frames_sent f first h)) (omega (arith, both.1, all)) in
        λ i. one i && two i

    within_false : (n : ℕ) → (CanExpect f first h n → ⊥) → is_within rules commands n ≡ false
    within_false n not = by (nat_le low n) (nat_le n (length (frames_sent f first h))) refl refl
      where
        by : (a b : Bool) → nat_le low n ≡ a → nat_le n (length (frames_sent f first h)) ≡ b → (a && b) ≡ false
        by true true one two =
            let le = true_le low n one in
            let within = true_le n (length (frames_sent f first h)) two in
            absurd (not (expected h n (omega (arith, le, before), omega (arith, within, all))))
        by true false one two = refl
        by false b one two = refl

    -- the phase that a server's number gives
    abbrev phase_by : ℕ → Bool → Phase (List ℕ)
    phase_by n b = if b then Rests else Sends n

    phase_same : (n : ℕ) → phase_from rules commands n ≡ phase_at h n
    phase_same n = ap (λ k. phase_by n (n == k)) all

    module _ (w : StoreWorld) where
      -- the answer leads there, with the client that goes on in this phase
      pub record GoesOnTo (phase : Phase (List ℕ)) (reply : Reply (List ReplyText)) (heard : State × Report) : Type 0 where
        pub next : Phase (List ℕ)
        pub client : IsClientIn f first h next heard.0
        pub leads : answered rules w commands phase reply ≡ sends_on rules (done_by rules w commands reply heard.1) commands next

      goes_on_greeting : (n : ℕ) (heard : State × Report) → Hears f first h Greets (Next n) (Ok heard) → GoesOnTo Greets (Next n) heard
      goes_on_greeting n heard is = record {
        next = phase_at h n;
        client = is.1;
        leads = ap (λ b. if b then sends_on rules w commands (phase_from rules commands n) else client_gone rules w w.client_disk) (within_true n is.0)
            ∙ ap (sends_on rules w commands) (phase_same n)
            ∙ ap (λ r. sends_on rules (done_by rules w commands (Next n) r) commands (phase_at h n)) (sym is.2);
      }

      acknowledged_by : (k : ℕ) (reply : Reply (List ReplyText)) (b : Bool) → (if b then sends_on rules (reported rules w (Updated (length commands - 1))) commands Rests else sends_on rules w commands (Sends (k + 1)))
          ≡ sends_on rules (done_by rules w commands reply (if b then report.Updated else report.Nothing)) commands (phase_by (k + 1) b)
      acknowledged_by k reply true = refl
      acknowledged_by k reply false = refl

      goes_on_sending : (k n : ℕ) (heard : State × Report) → Hears f first h (Sends k) (Took n) (Ok heard) → GoesOnTo (Sends k) (Took n) heard
      goes_on_sending k n heard is = record {
        next = phase_at h (k + 1);
        client = is.1;
        leads = ap (λ b. if b then acknowledged rules w commands k else client_gone rules w w.client_disk) (same_number n k is.0)
            ∙ ap (λ m. if k + 1 == m then sends_on rules (reported rules w (Updated (length commands - 1))) commands Rests else sends_on rules w commands (Sends (k + 1))) all
            ∙ acknowledged_by k (Took n) (k + 1 == frames_in h)
            ∙ ap (λ r. sends_on rules (done_by rules w commands (Took n) r) commands (phase_at h (k + 1))) (sym is.2);
      }
        where
          same_number : (n m : ℕ) → n ≡ m → (n == m) ≡ true
          same_number n m e = grind (arith, e)

      goes_on_asking : (word : List ℕ) (a : List ReplyText) (state : State) (told : Report) → Hears f first h (Asks word) (Shown a) (Ok (state, told)) → GoesOnTo (Asks word) (Shown a) (state, told)
      goes_on_asking word a state (report.Found ids) is = record {
        next = Rests;
        client = is.1;
        leads = ap (λ b. if b then sends_on rules (reported rules w (Found (length w.searches - 1) a)) commands Rests else client_gone rules w w.client_disk) is.0;
      }
      goes_on_asking word a state report.Nothing is = absurd is.2
      goes_on_asking word a state report.Updated is = absurd is.2

      never : (heard : State × Report) → Ok heard ≡ Err gone.Unwanted → ⊥
      never heard e = cc

      pub goes_on : (phase : Phase (List ℕ)) (reply : Reply (List ReplyText)) (heard : State × Report) → Hears f first h phase reply (Ok heard) → GoesOnTo phase reply heard
      goes_on Greets (Next n) heard is = goes_on_greeting n heard is
      goes_on Greets (Took n) heard is = absurd (never heard is)
      goes_on Greets (Shown a) heard is = absurd (never heard is)
      goes_on Greets Refused heard is = absurd (never heard is)
      goes_on Rests reply heard is = absurd (never heard is)
      goes_on (Sends k) (Next n) heard is = absurd (never heard is)
      goes_on (Sends k) (Took n) heard is = goes_on_sending k n heard is
      goes_on (Sends k) (Shown a) heard is = absurd (never heard is)
      goes_on (Sends k) Refused heard is = absurd (never heard is)
      goes_on (Asks word) (Next n) heard is = absurd (never heard is)
      goes_on (Asks word) (Took n) heard is = absurd (never heard is)
      goes_on (Asks word) (Shown a) heard is = goes_on_asking word a heard.0 heard.1 is
      goes_on (Asks word) Refused heard is = absurd (never heard is)

      -- a client that the answer ends is gone in the model too
      pub ends : (phase : Phase (List ℕ)) (reply : Reply (List ReplyText)) → Hears f first h phase reply (Err gone.Unwanted) → answered rules w commands phase reply ≡ client_gone rules w w.client_disk
      ends Greets (Next n) is = ap (λ b. if b then sends_on rules w commands (phase_from rules commands n) else client_gone rules w w.client_disk) (within_false n is)
      ends Greets (Took n) is = refl
      ends Greets (Shown a) is = refl
      ends Greets Refused is = refl
      ends Rests reply is = refl
      ends (Sends k) (Next n) is = refl
      ends (Sends k) (Took n) is = ap (λ b. if b then acknowledged rules w commands k else client_gone rules w w.client_disk) (other_number n k is)
        where
          other_number : (n m : ℕ) → (n ≡ m → ⊥) → (n == m) ≡ false
          other_number n m not = grind (arith, not)
      ends (Sends k) (Shown a) is = refl
      ends (Sends k) Refused is = refl
      ends (Asks word) (Next n) is = refl
      ends (Asks word) (Took n) is = refl
      ends (Asks word) (Shown a) is = ap (λ b. if b then sends_on rules (reported rules w (Found (length w.searches - 1) a)) commands Rests else client_gone rules w w.client_disk) is
      ends (Asks word) Refused is = refl

    -- only one that greets runs out of memory
    pub lacks : (phase : Phase (List ℕ)) (reply : Reply (List ReplyText)) → Hears f first h phase reply (Err gone.NoMemory) → greets rules phase ≡ true
    lacks Greets reply is = refl
    lacks Rests reply is = absurd (no_memory (Err gone.NoMemory) refl is)
    lacks (Sends k) (Next n) is = absurd (no_memory (Err gone.NoMemory) refl is)
    lacks (Sends k) (Took n) is = absurd is
    lacks (Sends k) (Shown a) is = absurd (no_memory (Err gone.NoMemory) refl is)
    lacks (Sends k) Refused is = absurd (no_memory (Err gone.NoMemory) refl is)
    lacks (Asks word) (Next n) is = absurd (no_memory (Err gone.NoMemory) refl is)
    lacks (Asks word) (Took n) is = absurd (no_memory (Err gone.NoMemory) refl is)
    lacks (Asks word) (Shown a) is = absurd is
    lacks (Asks word) Refused is = absurd (no_memory (Err gone.NoMemory) refl is)

  -- A client that runs and waits takes the answer that is there.

  module _ (w : StoreWorld) (r : Client Change (List ℕ)) (client : w.client ≡ Some r) (waits : r.waits ≡ true) (reply : Reply (List ReplyText)) (waiting : w.waiting ≡ Some reply) (are : AreAccepted (store_rules f first) r.commands) where
    -- it goes on, and the world is the one with what is reported, in which it sends what it has to send
    pub heard_leads : (heard : State × Report) → Hears f first (history_of r.commands) r.phase reply (Ok heard)
        → (next : Phase (List ℕ)) × IsClientIn f first (history_of r.commands) next heard.0 × Leads rules w Send Happened (sends_on rules (done_by rules w r.commands reply heard.1) r.commands next)
    heard_leads heard is =
        let on = goes_on r.commands are w r.phase reply heard is in
        (on.next, on.client, subst (Leads rules w Send Happened) on.leads (send_answered rules w r (Deletes 0) client reply waits waiting))

    -- or it is gone
    pub unwanted_leads : Hears f first (history_of r.commands) r.phase reply (Err gone.Unwanted) → Leads rules w Send Happened (client_gone rules w w.client_disk)
    unwanted_leads is = subst (Leads rules w Send Happened) (ends r.commands are w r.phase reply is) (send_answered rules w r (Deletes 0) client reply waits waiting)

    -- or there is no memory to go on
    pub lacking_leads : Hears f first (history_of r.commands) r.phase reply (Err gone.NoMemory) → Leads rules w Send NoMemory (client_gone rules w w.client_disk)
    lacking_leads is = send_broken rules w r (Deletes 0) client reply (lacks r.commands are r.phase reply is) waits waiting
