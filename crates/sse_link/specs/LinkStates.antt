-- The observable parts of a loopback, and the effect of a call on them.
use Rattle.std.specs.Prelude.{◌≡◌, ℕ, List, [], ◌∷◌, ◌++◌, Option, None, refl}
use Rattle.std.specs.Coded.{Coded, code_by, coded×, coded_list, coded_option, coded_ℕ}
use Rattle.keyed_fn.specs.KeyedFn.{KeyedFn}
use Rattle.server_core.specs.State.{ServerState, state_code}
use Rattle.def_link_events.specs.declared.mark.Mark.{Mark}
use Rattle.def_link_events.specs.Events.{Event, Sent, Received, IsKnown, events_code}
use Rattle.def_link_events.specs.Served.{Served, Serves}
use Rattle.sse_server.specs.Taken.{IsTaken}

-- all that passed; the server at its other end, and the bytes of its file where they are told, as it was before and as it is
-- now; and the replies that wait
pub record LinkState : Type 0 where
  pub events : List Event
  pub began : ServerState
  pub began_file : Option (List ℕ)
  pub state : ServerState
  pub file : Option (List ℕ)
  -- the bytes of each reply that waits
  pub due : List (List ℕ)

-- a server that was handed in with its file, and nothing that passed
abbrev pub link_state_on : ServerState → Option (List ℕ) → LinkState
link_state_on state file = record { events = []; began = state; began_file = file; state = state; file = file; due = [] }

-- a server without a file that was handed in, and nothing that passed
abbrev pub link_state_first : ServerState → LinkState
link_state_first state = link_state_on state None

-- the server at the other end, and the replies that wait
abbrev pub served : LinkState → Served
served told = record { state = told.state; due = told.due }

-- a frame reached the server: it is told, with the mark of its answer, and the replies of that answer wait; a frame that the
-- server doesn't take as an update leaves the file
pub record IsSent (f : KeyedFn) (old new : LinkState) (bytes : List ℕ) : Type 0 where
  pub mark : Mark
  pub known : IsKnown mark
  pub events : new.events ≡ old.events ++ Sent bytes mark ∷ []
  pub serves : Serves f old.state bytes mark (served new)
  pub untouched : (IsTaken old.state serves.sent.frame → ⊥) → new.file ≡ old.file
  pub began : new.began ≡ old.began
  pub began_file : new.began_file ≡ old.began_file

-- the first of the replies that waited was received
pub record IsReceived (old new : LinkState) (reply : List ℕ) : Type 0 where
  pub first : old.due ≡ reply ∷ new.due
  pub others : new ≡ record old { events = old.events ++ Received reply ∷ []; due = new.due }

-- the same, of which no reply waits
abbrev pub dropped : LinkState → LinkState
dropped told = record told { due = [] }

-- a frame reached the server, and its replies were dropped
pub record IsLost (f : KeyedFn) (old new : LinkState) (bytes : List ℕ) : Type 0 where
  pub between : LinkState
  pub sent : IsSent f old between bytes
  pub dropped_is : new ≡ dropped between

-- the code by which a proof tells these values apart

abbrev Server : Type 0
Server = ServerState × Option (List ℕ)

abbrev server_code : Coded Server
server_code = coded× state_code (coded_option (coded_list coded_ℕ))

abbrev pub link_state_code : Coded LinkState
link_state_code =
    code_by (List Event × (Server × (Server × List (List ℕ)))) (coded× events_code (coded× server_code (coded× server_code (coded_list (coded_list coded_ℕ))))) (λ t. (t.events, ((t.began, t.began_file), ((t.state, t.file), t.due)))) (λ p. record { events = p.0; began = p.1.0.0; began_file = p.1.0.1; state = p.1.1.0.0; file = p.1.1.0.1; due = p.1.1.1 }) (λ _. refl)
