-- The invariant of a loopback, and that of a steady one.
use Rattle.std.specs.Prelude.{◌≢◌, ℕ, List, map}
use Rattle.sse_frames.specs.Replies.{reply_bytes}
use Rattle.keyed_fn.specs.KeyedFn.{KeyedFn}
use Rattle.server_core.specs.State.{ServerState}
use Rattle.sse_link.specs.declared.due.Due.{Due}
use Rattle.sse_link.specs.Due.{waiting, IsDue}
use Rattle.sse_link.specs.Marks.{mark_of}
use Rattle.def_link_events.specs.Events.{Event, AreKnown}
use Rattle.def_link_events.specs.Served.{IsServed, idle}
use Rattle.def_link_events.specs.declared.mark.Mark.TheVariants.{StoreFailed}

-- the replies that wait can be written, and all that passed since it began is honest and has known marks
pub record IsTelling (f : KeyedFn) (events : List Event) (began state : ServerState) (due : Due) (page : List ℕ) : Type 0 where
  pub writable : IsDue f state due page
  pub known : AreKnown events
  pub honest : IsServed f (idle began) events (record { state = state; due = map reply_bytes (waiting f state due page) })

-- and no reply that waits reports a fault of a disk
pub record IsSteady (f : KeyedFn) (events : List Event) (began state : ServerState) (due : Due) (page : List ℕ) : Type 0 where
  pub telling : IsTelling f events began state due page
  pub no_fault : mark_of due ≢ StoreFailed
