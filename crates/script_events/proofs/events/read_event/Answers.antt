use Rattle.script_events.proofs.Few.{few}
use Rattle.script_world.specs.WorldLineViews.{world_line_view}
use Rattle.script_events.proofs.events.read_event.Goals as goal

pub event_of-requires : goal.event_of-requires
event_of-requires c = record { words = few c.args.bytes.now (world_line_view c.in-Ok.line) c.in-Ok.ensures.read }
