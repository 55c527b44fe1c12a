-- What is promised of a world after any events.
use Rattle.std.specs.Prelude.{◌≡◌, ℕ, ◌+◌, ◌<◌, ◌≤◌, Bool, true, List, length, take, slice_get, Option, Some}
use Rattle.std.specs.List.{AllByRecursion}
use Rattle.world_model.specs.Rules.{Rules, IsFront, AreAccepted, AreTaken}
use Rattle.world_model.specs.World.{Client, Message, Hello, Update, Search, Reply, Next, Asked, Done, Updated, Found, World, at_first}
use Rattle.world_model.specs.Events.{Event, Command, Outcome, left, but_last, Led}

-- what is so of the command of an event, if it is one
abbrev pub IsOfCommand : {C W : Type 0} → (C → Type 0) → Event C W → Type 0
IsOfCommand P (Command c) = P c
IsOfCommand P _ = Unit {0}

module _ {C F W A : Type 0} (rules : Rules C F W A) where
  -- a frame that was sent is the one of its number among these
  abbrev pub IsFrameOf : List F → Message F → Type 0
  IsFrameOf frames Hello = Unit {0}
  IsFrameOf frames (Update f) = slice_get frames (rules.number f) ≡ Some f
  IsFrameOf frames (Search f) = Unit {0}

  -- the answer to the search at a place of those made is that of a server that took the frames of all commands before it and no others, and
  -- was asked by a client of these commands
  pub record IsAnswered (commands : List C) (searches : List (Asked W)) (i : ℕ) (a : A) : Type 0 where
    pub asked : Asked W
    pub made : slice_get searches i ≡ Some asked
    pub before : asked.before ≤ length commands
    pub answer : let first = take asked.before commands in a ≡ rules.answer (rules.frames first) (rules.asks first asked.word)
    pub shown : rules.shows a ≡ true

  -- what was reported done is so: a server that took so many frames has all of the command, and an answer is the right one
  abbrev pub IsDone : List C → (taken : ℕ) → List (Asked W) → Done A → Type 0
  IsDone commands taken searches (Updated i) = (i < length commands) × (length (rules.frames (take (i + 1) commands)) ≤ taken)
  IsDone commands taken searches (Found i a) = IsAnswered commands searches i a

  -- a number that waits for a client is one from which it can go on: from that of its last command's first frame to the one behind its last
  abbrev pub CanGoOn : Option (Client C W) → Option (Reply A) → Type 0
  CanGoOn (Some r) (Some (Next n)) = (length (rules.frames (but_last r.commands)) ≤ n) × (n ≤ length (rules.frames r.commands))
  CanGoOn _ _ = Unit {0}

  -- of what a crash may leave, or starting give, of both disks
  pub record Keeps (commands : List C) (taken : List F) (w : World C F W A) : Type 0 where
    -- each command of the client's history was accepted after those before it
    pub accepted : AreAccepted rules commands
    -- each frame of the server is one that it takes after those before it
    pub served : AreTaken rules taken
    -- and they are the first of the frames of that history
    pub front : IsFront taken (rules.frames commands)
    -- it has all commands but the last, and all that were reported done
    pub most : length (rules.frames (but_last commands)) ≤ length taken
    pub done : AllByRecursion (IsDone commands (length taken) w.searches) w.done
    -- each update frame that was ever sent is that of its number in the history
    pub sent : AllByRecursion (IsFrameOf (rules.frames commands)) w.sent
    -- and a client that is told where to go on can
    pub goes_on : CanGoOn w.client w.waiting

  abbrev pub KeepsAll : World C F W A → Type 0
  KeepsAll w = (there there' : Bool) → Keeps (left there w.client_disk).records (left there' w.server_disk).records w

  -- so it is after every list of events, whatever each of them comes to
  abbrev pub IsPromised : Type 0
  IsPromised = (events : List (Event C W × Outcome)) (w : World C F W A) → Led rules at_first events w → KeepsAll w

  -- and what is so of all commands of the events is so of all commands of the client's history
  abbrev pub AreOfEvents : Type 1
  AreOfEvents =
      (P : C → Type 0) (events : List (Event C W × Outcome)) (w : World C F W A) → AllByRecursion (λ e. IsOfCommand P e.0) events → Led rules at_first events w →
      (there : Bool) → AllByRecursion P (left there w.client_disk).records
