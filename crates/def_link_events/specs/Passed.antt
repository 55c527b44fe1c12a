-- The events that a record of bytes stands for.
use Rattle.std.specs.Prelude.{List, map}
use Rattle.def_link_events.specs.declared.passed.Passed as code
use Rattle.def_link_events.specs.declared.passed.Passed.TheVariants as passed
use Rattle.def_link_events.specs.Events.{Event, Sent, Received}

abbrev pub event_of : code.Passed → Event
event_of (passed.Sent bytes mark) = Sent bytes.items mark
event_of (passed.Received bytes) = Received bytes.items

abbrev pub events_of : List code.Passed → List Event
events_of records = map event_of records
