-- The contents of a link's record of all traffic, and whether it has the memory for one more event.
use Rattle.std.specs.Prelude.{List, ◌<◌, vec_len, vec_capacity}
use Rattle.sse_link.specs.declared.transcript.Transcript.{Transcript}
use Rattle.def_link_events.specs.Events.{Event}
use Rattle.def_link_events.specs.Passed.{events_of}

abbrev pub recorded : Transcript → List Event
recorded kept = events_of kept.passed.items

abbrev pub HasRoom : Transcript → Type 0
HasRoom kept = vec_len kept.passed < vec_capacity kept.passed
