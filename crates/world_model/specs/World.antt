-- A client and a server with their journals, and what passed between them.
use Rattle.std.specs.Prelude.{ℕ, Bool, List, [], Option, None}

-- a journal's disk: the records that starting gives of each crash image, and one more that it may give behind them
pub record Disk (X : Type 0) : Type 0 where
  pub records : List X
  pub doubt : Option X

-- what a running client does: it is to be told which frames the server lacks; it has nothing to send; it sends the frame of this number;
-- or it searches
pub data Phase (W : Type 0) : Type 0 where
  Greets : Phase W
  Rests : Phase W
  Sends : ℕ → Phase W
  Asks : W → Phase W

-- its commands are those of its journal; it waits for the answer to the last frame that it sent
pub record Client (C W : Type 0) : Type 0 where
  pub commands : List C
  pub phase : Phase W
  pub waits : Bool

-- what a client sends: its greeting, the frame of an update, or that of a search
pub data Message (F : Type 0) : Type 0 where
  Hello : Message F
  Update : F → Message F
  Search : F → Message F

-- what a server answers: the number of the frame that it expects, that of a frame that it took, what it found, or that it refuses
pub data Reply (A : Type 0) : Type 0 where
  Next : ℕ → Reply A
  Took : ℕ → Reply A
  Shown : A → Reply A
  Refused : Reply A

-- a search that was made, and the number of commands before it
pub record Asked (W : Type 0) : Type 0 where
  pub word : W
  pub before : ℕ

-- what was reported done: the command at a place, or the search at a place, with its answer
pub data Done (A : Type 0) : Type 0 where
  Updated : ℕ → Done A
  Found : ℕ → A → Done A

-- a stop that is to come inside the call of this number, from 1, of those that a side's disk is asked to make from now on; and the number
-- by which one of the images is chosen that a crash may leave there
pub record Stop : Type 0 where
  pub call : ℕ
  pub pick : ℕ

pub record World (C F W A : Type 0) : Type 0 where
  pub client_disk : Disk C
  pub server_disk : Disk F
  -- the sides, where they run; a server by the frames that it took
  pub client : Option (Client C W)
  pub server : Option (List F)
  -- all that was ever sent
  pub sent : List (Message F)
  pub searches : List (Asked W)
  -- the answer that waits for the client
  pub waiting : Option (Reply A)
  pub done : List (Done A)
  -- the stops that haven't come yet
  pub client_stop : Option Stop
  pub server_stop : Option Stop

-- at the beginning neither side runs, and both disks are empty
abbrev pub at_first : {C F W A : Type 0} → World C F W A
at_first = record {
  client_disk = record { records = []; doubt = None };
  server_disk = record { records = []; doubt = None };
  client = None;
  server = None;
  sent = [];
  searches = [];
  waiting = None;
  done = [];
  client_stop = None;
  server_stop = None;
}
