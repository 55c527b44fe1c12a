-- A world in which a command is the number of its frames, a frame is its number, and a search is answered by how many frames the
-- server took; and what a list of events makes of it.
use Rattle.std.specs.Prelude.{if◌then◌else◌, ◌≡◌, ℕ, ◌==◌, Bool, true, false, List, [], ◌∷◌, ◌++◌, length, sum, None, Some}
use Rattle.std.specs.List.{range_with_len}
use Rattle.world_model.specs.Rules.{Rules}
use Rattle.world_model.specs.World.{Greets, Hello, Update, Updated, Found, World, at_first}
use Rattle.world_model.specs.Events.{Event, Command, Find, Send, Deliver, LoseReply, StopClient, StartClient, StartServer, Made, Crashes, Outcome, Happened, Nothing, behind, calls_disk, outcome, Led}

abbrev pub counting : Rules ℕ ℕ ℕ ℕ
counting = record {
  frames = λ h. range_with_len 0 (sum h);
  number = λ f. f;
  accepts = λ h c. true;
  may_search = λ h word. true;
  asks = λ h word. word;
  takes = λ taken f. f == length taken;
  answer = λ taken f. length taken;
  shows = λ a. true;
}

abbrev pub Counted : Type 0
Counted = World ℕ ℕ ℕ ℕ

abbrev pub Events : Type 0
Events = List (Event ℕ ℕ)

-- the world behind an event that makes one call of its side's disk, if any, and stops in none
abbrev pub calls_in : Counted → Event ℕ ℕ → ℕ
calls_in w e = if calls_disk counting w e then 1 else 0

abbrev pub next : Counted → Event ℕ ℕ → Counted
next w e = behind counting w e (calls_in w e) (Made false)

-- the world behind such events; what each of them comes to; and each with that
abbrev pub world_behind : Counted → Events → Counted
world_behind w [] = w
world_behind w (e ∷ es) = world_behind (next w e) es

abbrev pub outcomes : Counted → Events → List Outcome
outcomes w [] = []
outcomes w (e ∷ es) = outcome counting w e (calls_in w e) (Made false) ∷ outcomes (next w e) es

abbrev pub told : Counted → Events → List (Event ℕ ℕ × Outcome)
told w [] = []
told w (e ∷ es) = (e, outcome counting w e (calls_in w e) (Made false)) ∷ told (next w e) es

-- both sides start and greet; a setup of three frames is begun, and the answer to its first frame is lost
abbrev pub begun : Events
begun = StartServer ∷ StartClient ∷ Send ∷ Deliver 0 ∷ Send ∷ Command 3 ∷ Send ∷ Deliver 1 ∷ LoseReply ∷ []

-- the client starts again, is told to go on from frame 1, and sends it; the first frame comes again
abbrev pub again : Events
again = StartClient ∷ Send ∷ Deliver 2 ∷ Send ∷ Deliver 1 ∷ []

-- the others come, and are acknowledged
abbrev pub finished : Events
finished = Deliver 3 ∷ Send ∷ Deliver 4 ∷ Send ∷ []

pub record IsTable : Type 0 where
  pub led : let events = begun ++ again ++ finished ++ LoseReply ∷ [] in Led counting at_first (told at_first events) (world_behind at_first events)
  pub happened : outcomes at_first (begun ++ again ++ finished ++ LoseReply ∷ [])
      ≡ Happened ∷ Happened ∷ Happened ∷ Happened ∷ Happened ∷ Happened ∷ Happened ∷ Happened ∷ Happened ∷ Happened ∷ Happened ∷ Happened ∷ Happened ∷ Happened ∷ Happened ∷ Happened ∷ Happened ∷ Happened ∷ Nothing ∷ []
  pub stopped : (world_behind at_first begun).client ≡ None
  pub sent : (world_behind at_first (begun ++ again)).sent ≡ Hello ∷ Update 0 ∷ Hello ∷ Update 1 ∷ []
  pub dropped : (world_behind at_first (begun ++ again)).waiting ≡ None
  pub done : (world_behind at_first (begun ++ again ++ finished)).done ≡ Updated 0 ∷ []
  pub taken : (world_behind at_first (begun ++ again ++ finished)).server_disk.records ≡ 0 ∷ 1 ∷ 2 ∷ []

-- a client stops inside the append of its second command, and is started: it is there or it isn't
abbrev pub crashed : (there : Bool) → Counted
crashed there = next (behind counting (world_behind at_first (begun ++ again ++ finished ++ StopClient 2 0 ∷ [])) (Command 1) 2 (Crashes there)) StartClient

abbrev pub found : Counted
found = world_behind (crashed true) (Send ∷ Deliver 5 ∷ Send ∷ Deliver 6 ∷ Send ∷ Find 9 ∷ Send ∷ Deliver 7 ∷ Send ∷ [])

pub record IsCrash : Type 0 where
  pub without : (crashed false).client ≡ Some (record { commands = 3 ∷ []; phase = Greets; waits = false })
  pub with : (crashed true).client ≡ Some (record { commands = 3 ∷ 1 ∷ []; phase = Greets; waits = false })
  pub came : (crashed true).client_stop ≡ None
  -- the command that was there is sent, and a search finds all four frames
  pub done : found.done ≡ Updated 0 ∷ Updated 1 ∷ Found 0 4 ∷ []
