-- A line of a world as it was read, seen as what it says.
use Rattle.sse_script.specs.Views.{line_view}
use Rattle.script_world.specs.WorldLines.{WorldLineText, ScriptLine, NextWorld, SendLine, DeliverLine, LoseLine, StopLine, StartLine}
use Rattle.script_world.specs.declared.world_line.WorldLine.{WorldLine}
use Rattle.script_world.specs.declared.world_line.WorldLine.TheVariants.{Script, World, Send, Deliver, Lose, Stop, Start}

-- what a line that was read says
abbrev pub world_line_view : WorldLine → WorldLineText
world_line_view (Script line) = ScriptLine (line_view line)
world_line_view World = NextWorld
world_line_view Send = SendLine
world_line_view (Deliver place) = DeliverLine place
world_line_view Lose = LoseLine
world_line_view (Stop side call pick) = StopLine side call pick
world_line_view (Start side) = StartLine side
