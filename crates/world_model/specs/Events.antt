-- What each event makes of a world.
use Rattle.std.specs.Prelude.{ℕ, zero, suc, ◌+◌, ◌-◌, ◌==◌, ◌<◌, ◌≤◌, ◌≡◌, ◌&&◌, not, nat_le, nat_lt, Bool, true, false, is_some, IfSome, List, [], ◌∷◌, ◌++◌, length, take, slice_get, Option, None, Some, if◌then◌else◌}
use Rattle.std.specs.Option.{option_map_or, unwrap_or}
use Rattle.world_model.specs.Rules.{Rules}
use Rattle.world_model.specs.World.{Disk, Phase, Greets, Rests, Sends, Asks, Client, Message, Hello, Update, Search, Reply, Next, Took, Shown, Refused, Done, Updated, Found, Stop, World}

-- C are commands, and W is what is asked for
pub data Event (C W : Type 0) : Type 0 where
  -- the client is given a command, or is to search
  Command : C → Event C W
  Find : W → Event C W
  -- it takes the answer that waits and sends its next frame
  Send : Event C W
  -- the frame at this place of all that were ever sent comes to the server
  Deliver : ℕ → Event C W
  -- the answer that waits is lost, and the client stops
  LoseReply : Event C W
  -- a side stops: now, if the number of the call is 0, and else inside that call of its disk from now on
  StopClient : (call pick : ℕ) → Event C W
  StopServer : (call pick : ℕ) → Event C W
  -- a side is started from its journal
  StartClient : Event C W
  StartServer : Event C W

-- what an event comes to: it happened, it can't happen, or memory was missing
pub data Outcome : Type 0 where
  Happened : Outcome
  Nothing : Outcome
  NoMemory : Outcome

-- how an event ends; a record in doubt that a crash or a start settles is there behind the others or it isn't
pub data End : Type 0 where
  -- all calls of the disk were made
  Made : (there : Bool) → End
  -- the side stops inside one of them
  Crashes : (there : Bool) → End
  -- memory is missing before the first of them
  Lacks : End
  -- it is missing later, and the side stops: what is in doubt stays so
  Breaks : End

abbrev pub as_list : {X : Type 0} → Option X → List X
as_list None = []
as_list (Some x) = x ∷ []

-- a disk on which nothing is in doubt
abbrev pub settled : {X : Type 0} → List X → Disk X
settled records = record { records = records; doubt = None }

-- what a crash leaves
abbrev pub left : {X : Type 0} → (there : Bool) → Disk X → Disk X
left true d = settled (d.records ++ as_list d.doubt)
left false d = settled d.records

-- one record more, which may be there or not
abbrev pub in_doubt : {X : Type 0} → Disk X → X → Disk X
in_doubt d x = record { records = d.records; doubt = Some x }

-- all commands but the last
abbrev pub but_last : {X : Type 0} → List X → List X
but_last xs = take (length xs - 1) xs

-- The calls of disks.

-- a stop behind so many calls comes so many earlier; one that was among them has come
abbrev pub later : (calls : ℕ) → Option Stop → Option Stop
later calls None = None
later calls (Some stop) = if nat_lt calls stop.call then Some (record { call = stop.call - calls; pick = stop.pick }) else None

-- what is left of a stop behind an event that made so many calls of its side's disk
abbrev pub stop_behind : (calls : ℕ) → End → Option Stop → Option Stop
stop_behind calls (Made there) stop = later calls stop
stop_behind calls (Crashes there) stop = None
stop_behind calls Lacks stop = stop
stop_behind calls Breaks stop = later calls stop

-- a side that runs is stopped before it is started, which replaces a stop that hasn't come yet
abbrev pub stop_before : {X : Type 0} → Option X → Option Stop → Option Stop
stop_before None stop = stop
stop_before (Some side) stop = None

-- how an event can end that makes so many calls of its side's disk: the side stops if and only if the stop's call is among them
abbrev pub EndsCalling : (calls : ℕ) → End → Option Stop → Type 0
EndsCalling calls (Made there) stop = IfSome stop (λ s. calls < s.call)
EndsCalling calls (Crashes there) stop = (s : Stop) × (stop ≡ Some s) × (s.call ≤ calls)
EndsCalling calls Lacks stop = Unit {0}
EndsCalling calls Breaks stop = Unit {0}

module _ {C F W A : Type 0} (rules : Rules C F W A) where
  -- a client that stopped, with this disk
  abbrev pub client_gone : World C F W A → Disk C → World C F W A
  client_gone w disk = record w { client_disk = disk; client = None; waiting = None }

  abbrev pub server_gone : World C F W A → Disk F → World C F W A
  server_gone w disk = record w { server_disk = disk; server = None }

  -- Command.

  abbrev pub rests : Phase W → Bool
  rests Greets = false
  rests Rests = true
  rests (Sends k) = false
  rests (Asks word) = false

  abbrev pub greets : Phase W → Bool
  greets Greets = true
  greets Rests = false
  greets (Sends k) = false
  greets (Asks word) = false

  -- it has nothing to send, and waits for nothing
  abbrev pub is_free : Client C W → Bool
  is_free r = rests r.phase && not r.waits

  abbrev pub planned : World C F W A → Client C W → C → End → World C F W A
  planned w r c (Made there) = record w {
    client_disk = settled (w.client_disk.records ++ c ∷ []);
    client = Some (record { commands = r.commands ++ c ∷ []; phase = Sends (length (rules.frames r.commands)); waits = false });
  }
  planned w r c (Crashes there) = client_gone w (left there (in_doubt w.client_disk c))
  planned w r c Lacks = w
  planned w r c Breaks = client_gone w (in_doubt w.client_disk c)

  abbrev pub takes_command : Client C W → C → Bool
  takes_command r c = is_free r && rules.accepts r.commands c

  abbrev pub commanded : World C F W A → Option (Client C W) → C → End → Option (World C F W A)
  commanded w None c end = None
  commanded w (Some r) c end = if takes_command r c then Some (planned w r c end) else None

  abbrev pub asking : World C F W A → Client C W → W → World C F W A
  asking w r word = record w {
    client = Some (record { commands = r.commands; phase = Asks word; waits = false });
    searches = w.searches ++ record { word = word; before = length r.commands } ∷ [];
  }

  abbrev pub asked_for : World C F W A → Option (Client C W) → W → Option (World C F W A)
  asked_for w None word = None
  asked_for w (Some r) word = if is_free r && rules.may_search r.commands word then Some (asking w r word) else None

  -- Send.

  -- the client of these commands in a phase, with nothing out
  abbrev pub going_on : World C F W A → List C → Phase W → World C F W A
  going_on w commands phase = record w { client = Some (record { commands = commands; phase = phase; waits = false }); waiting = None }

  -- and its next frame sent, for which it waits
  abbrev pub sending : World C F W A → List C → Phase W → Message F → World C F W A
  sending w commands phase message = record w {
    client = Some (record { commands = commands; phase = phase; waits = true });
    sent = w.sent ++ message ∷ [];
    waiting = None;
  }

  abbrev pub sending_frame : World C F W A → List C → ℕ → Option F → World C F W A
  sending_frame w commands k None = going_on w commands (Sends k)
  sending_frame w commands k (Some f) = sending w commands (Sends k) (Update f)

  -- a client that waits for nothing sends what it has to send
  abbrev pub sends_on : World C F W A → List C → Phase W → World C F W A
  sends_on w commands Greets = sending w commands Greets Hello
  sends_on w commands Rests = going_on w commands Rests
  sends_on w commands (Sends k) = sending_frame w commands k (slice_get (rules.frames commands) k)
  sends_on w commands (Asks word) = sending w commands (Asks word) (Search (rules.asks commands word))

  -- the phase of a client whose server expects this frame
  abbrev pub phase_from : List C → ℕ → Phase W
  phase_from commands n = if n == length (rules.frames commands) then Rests else Sends n

  -- a server may expect the frames from the first of the last command on to the one behind its last
  abbrev pub is_within : List C → ℕ → Bool
  is_within commands n = nat_le (length (rules.frames (but_last commands))) n && nat_le n (length (rules.frames commands))

  abbrev pub reported : World C F W A → Done A → World C F W A
  reported w d = record w { done = w.done ++ d ∷ [] }

  -- the frame of this number was taken
  abbrev pub acknowledged : World C F W A → List C → ℕ → World C F W A
  acknowledged w commands k =
      if k + 1 == length (rules.frames commands)
      then sends_on (reported w (Updated (length commands - 1))) commands Rests
      else sends_on w commands (Sends (k + 1))

  -- a client takes the answer to its last frame, and goes on where it is a wanted one
  abbrev pub answered : World C F W A → List C → Phase W → Reply A → World C F W A
  answered w commands Greets (Next n) = if is_within commands n then sends_on w commands (phase_from commands n) else client_gone w w.client_disk
  answered w commands (Sends k) (Took n) = if n == k then acknowledged w commands k else client_gone w w.client_disk
  answered w commands (Asks word) (Shown a) =
      if rules.shows a then sends_on (reported w (Found (length w.searches - 1) a)) commands Rests else client_gone w w.client_disk
  answered w commands _ _ = client_gone w w.client_disk

  -- it needs an answer that waits, or a frame to send
  abbrev pub acting : World C F W A → Client C W → (waits : Bool) → (waiting : Option (Reply A)) → Option (World C F W A)
  acting w r true None = None
  acting w r true (Some reply) = Some (answered w r.commands r.phase reply)
  acting w r false waiting = if rests r.phase then None else Some (sends_on w r.commands r.phase)

  abbrev pub sent_on : World C F W A → Option (Client C W) → End → Option (World C F W A)
  sent_on w None end = None
  sent_on w (Some r) (Made there) = acting w r r.waits w.waiting
  sent_on w (Some r) (Crashes there) = acting w r r.waits w.waiting
  sent_on w (Some r) Lacks = None
  -- a client that is to go on, and lacks memory for it, has stopped
  sent_on w (Some r) Breaks = Some (client_gone w w.client_disk)

  -- Deliver.

  -- what waits once the server has answered: the answer where it is that to the last frame and the client waits for one
  abbrev pub waiting_with : Reply A → (is_last : Bool) → Option (Client C W) → Option (Reply A) → Option (Reply A)
  waiting_with reply true (Some r) None = if r.waits then Some reply else None
  waiting_with reply _ _ waiting = waiting

  abbrev pub replied : World C F W A → ℕ → Reply A → World C F W A
  replied w place reply = record w { waiting = waiting_with reply (place + 1 == length w.sent) w.client w.waiting }

  abbrev pub kept : World C F W A → ℕ → List F → F → End → World C F W A
  kept w place taken f (Made there) =
      replied (record w { server_disk = settled (w.server_disk.records ++ f ∷ []); server = Some (taken ++ f ∷ []) }) place (Took (rules.number f))
  kept w place taken f (Crashes there) = server_gone w (left there (in_doubt w.server_disk f))
  kept w place taken f Lacks = w
  kept w place taken f Breaks = server_gone w (in_doubt w.server_disk f)

  abbrev pub handled : World C F W A → ℕ → List F → Message F → End → World C F W A
  handled w place taken Hello end = replied w place (Next (length taken))
  handled w place taken (Update f) end = if rules.takes taken f then kept w place taken f end else replied w place Refused
  handled w place taken (Search f) end = replied w place (Shown (rules.answer taken f))

  abbrev pub delivered : World C F W A → ℕ → Option (List F) → Option (Message F) → End → Option (World C F W A)
  delivered w place None message end = None
  delivered w place (Some taken) None end = None
  delivered w place (Some taken) (Some message) end = Some (handled w place taken message end)

  abbrev pub lost : World C F W A → Option (Reply A) → Option (World C F W A)
  lost w None = None
  lost w (Some reply) = Some (client_gone w w.client_disk)

  -- Stops and starts.

  -- whether what is in doubt is there behind it
  abbrev pub is_there : End → Bool
  is_there (Made there) = there
  is_there (Crashes there) = there
  is_there Lacks = false
  is_there Breaks = false

  -- a stop event replaces one of its side that hasn't come yet
  abbrev pub client_stops : World C F W A → (call pick : ℕ) → End → World C F W A
  client_stops w zero pick end = client_gone (record w { client_stop = None }) (left (is_there end) w.client_disk)
  client_stops w (suc call) pick end = record w { client_stop = Some (record { call = suc call; pick = pick }) }

  abbrev pub server_stops : World C F W A → (call pick : ℕ) → End → World C F W A
  server_stops w zero pick end = server_gone (record w { server_stop = None }) (left (is_there end) w.server_disk)
  server_stops w (suc call) pick end = record w { server_stop = Some (record { call = suc call; pick = pick }) }

  -- a side is started from its disk: the client is to greet, and the server has taken the frames of its records
  abbrev pub client_started : World C F W A → End → World C F W A
  client_started w (Made there) =
      let disk = left there w.client_disk in
      record w { client_disk = disk; client = Some (record { commands = disk.records; phase = Greets; waits = false }); waiting = None }
  client_started w (Crashes there) = client_gone w (left there w.client_disk)
  client_started w Lacks = client_gone w w.client_disk
  client_started w Breaks = client_gone w w.client_disk

  abbrev pub server_started : World C F W A → End → World C F W A
  server_started w (Made there) = let disk = left there w.server_disk in record w { server_disk = disk; server = Some disk.records }
  server_started w (Crashes there) = server_gone w (left there w.server_disk)
  server_started w Lacks = server_gone w w.server_disk
  server_started w Breaks = server_gone w w.server_disk

  -- What an event makes of a world.

  -- what the event makes of a world, where it made so many calls of its side's disk and ended so; None where nothing happens
  abbrev pub happens : World C F W A → Event C W → (calls : ℕ) → End → Option (World C F W A)
  happens w (Command c) calls end = commanded (record w { client_stop = stop_behind calls end w.client_stop }) w.client c end
  happens w (Find word) calls end = asked_for w w.client word
  happens w Send calls end = sent_on w w.client end
  happens w (Deliver place) calls end = delivered (record w { server_stop = stop_behind calls end w.server_stop }) place w.server (slice_get w.sent place) end
  happens w LoseReply calls end = lost w w.waiting
  happens w (StopClient call pick) calls end = Some (client_stops w call pick end)
  happens w (StopServer call pick) calls end = Some (server_stops w call pick end)
  happens w StartClient calls end = Some (client_started (record w { client_stop = stop_behind calls end (stop_before w.client w.client_stop) }) end)
  happens w StartServer calls end = Some (server_started (record w { server_stop = stop_behind calls end (stop_before w.server w.server_stop) }) end)

  -- without memory the world is as it was, but that a side that was to be started doesn't run
  abbrev pub lacking : World C F W A → Event C W → World C F W A
  lacking w (Command c) = w
  lacking w (Find word) = w
  lacking w Send = w
  lacking w (Deliver place) = w
  lacking w LoseReply = w
  lacking w (StopClient call pick) = w
  lacking w (StopServer call pick) = w
  lacking w StartClient = client_gone (record w { client_stop = stop_before w.client w.client_stop }) w.client_disk
  lacking w StartServer = server_gone (record w { server_stop = stop_before w.server w.server_stop }) w.server_disk

  -- the world behind an event
  abbrev pub behind : World C F W A → Event C W → (calls : ℕ) → End → World C F W A
  behind w e calls Lacks = lacking w e
  behind w e calls end = unwrap_or (happens w e calls end) w

  -- Which ends are possible.

  -- a server takes the frame of this message
  abbrev pub takes_message : List F → Message F → Bool
  takes_message taken Hello = false
  takes_message taken (Update f) = rules.takes taken f
  takes_message taken (Search f) = false

  -- whether an event makes calls of its side's disk: a command and a frame that are taken do, and a start
  abbrev pub calls_disk : World C F W A → Event C W → Bool
  calls_disk w (Command c) = option_map_or (λ r. takes_command r c) w.client false
  calls_disk w (Deliver place) = option_map_or (λ taken. option_map_or (takes_message taken) (slice_get w.sent place) false) w.server false
  calls_disk w StartClient = true
  calls_disk w StartServer = true
  calls_disk w _ = false

  -- the stop that it may meet in one of them
  abbrev pub stop_of : World C F W A → Event C W → Option Stop
  stop_of w (Command c) = w.client_stop
  stop_of w (Deliver place) = w.server_stop
  stop_of w StartClient = stop_before w.client w.client_stop
  stop_of w StartServer = stop_before w.server w.server_stop
  stop_of w _ = None

  -- a client that is told where to go on takes memory to do so, and without it has stopped
  abbrev pub goes_on : World C F W A → Event C W → Bool
  goes_on w Send = option_map_or (λ r. greets r.phase && r.waits) w.client false && is_some w.waiting
  goes_on w _ = false

  -- how an event can end that makes no call of its side's disk
  abbrev pub EndsQuietly : (goes_on : Bool) → End → Type 0
  EndsQuietly goes_on (Made there) = Unit {0}
  EndsQuietly goes_on (Crashes there) = ⊥
  EndsQuietly goes_on Lacks = Unit {0}
  EndsQuietly goes_on Breaks = goes_on ≡ true

  abbrev pub EndsAs : (calling goes_on : Bool) (calls : ℕ) → End → Option Stop → Type 0
  EndsAs true goes_on calls end stop = EndsCalling calls end stop
  EndsAs false goes_on calls end stop = (calls ≡ 0) × EndsQuietly goes_on end

  -- an event of this world can
  abbrev pub CanEnd : World C F W A → Event C W → (calls : ℕ) → End → Type 0
  CanEnd w e calls end = EndsAs (calls_disk w e) (goes_on w e) calls end (stop_of w e)

  -- what an event comes to that ends so
  abbrev pub outcome : World C F W A → Event C W → (calls : ℕ) → End → Outcome
  outcome w e calls (Made there) = if is_some (happens w e calls (Made there)) then Happened else Nothing
  outcome w e calls (Crashes there) = if is_some (happens w e calls (Crashes there)) then Happened else Nothing
  outcome w e calls _ = NoMemory

  -- from one world to the next by an event, with this outcome
  pub record Leads (old : World C F W A) (e : Event C W) (out : Outcome) (new : World C F W A) : Type 0 where
    pub calls : ℕ
    pub end : End
    pub possible : CanEnd old e calls end
    pub comes_to : out ≡ outcome old e calls end
    pub is : new ≡ behind old e calls end

  -- from one world to a later one by these events, with these outcomes
  abbrev pub Led : World C F W A → List (Event C W × Outcome) → World C F W A → Type 0
  Led old [] new = new ≡ old
  Led old (e ∷ es) new = (mid : World C F W A) × Leads old e.0 e.1 mid × Led mid es new
