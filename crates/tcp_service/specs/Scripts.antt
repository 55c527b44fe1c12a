-- The scripts that connections in memory are made of.
use Rattle.std.specs.Prelude.{◌≡◌, List, [], ◌∷◌}
use Rattle.sse_outside.specs.MemSource as sources
use Rattle.sse_outside.specs.MemSource.{left_of}
use Rattle.sse_outside.specs.MemSink as sinks
use Rattle.sse_outside.specs.MemSink.{bytes_of}
use Rattle.tcp_service.specs.QueuedConns.{MemConn}
use Rattle.tcp_service.specs.declared.script.Script.{Script}

-- a connection over which nothing has passed, as its script says
pub record IsMade (conn : MemConn) (script : Script) : Type 0 where
  pub input : left_of conn.source ≡ script.input.items
  pub read_fails : sources.fails_of conn.source ≡ script.read_fails.items
  pub none_written : bytes_of conn.sink ≡ []
  pub write_fails : sinks.fails_of conn.sink ≡ script.write_fails.items

-- one for each script, in order
abbrev pub AreMade : List MemConn → List Script → Type 0
AreMade [] [] = Unit {0}
AreMade [] (_ ∷ _) = ⊥
AreMade (_ ∷ _) [] = ⊥
AreMade (conn ∷ conns) (script ∷ scripts) = IsMade conn script × AreMade conns scripts
