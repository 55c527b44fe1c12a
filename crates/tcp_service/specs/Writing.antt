-- Bytes that are written over a connection.
use Rattle.std.specs.Prelude.{◌≡◌, ◌⊎◌, ℕ, List, Option, Result, MatchResult}
use Rattle.std.specs.Io.KnownBytes.{append_known}
use Rattle.sse_outside.specs.Fronts.{TookFront}
use Rattle.tcp_service.specs.declared.conn_end.ConnEnd.{ConnEnd}
use Rattle.tcp_service.specs.declared.conn_end.ConnEnd.TheVariants.{WriteFault, OutOfMemory}

-- the sink took a strict prefix of these bytes, and failed
pub record IsUnsaid (end : ConnEnd) (written written2 : Option (List ℕ)) (bytes : List ℕ) : Type 0 where
  pub end_is : (end ≡ WriteFault) ⊎ (end ≡ OutOfMemory)
  pub front : TookFront written written2 bytes

-- all of these bytes were written, or the sink failed
abbrev pub IsSaid : (written written2 : Option (List ℕ)) → List ℕ → Result Unit ConnEnd → Type 0
IsSaid written written2 bytes result = MatchResult result
    (λ _. written2 ≡ append_known written bytes)
    (λ end. IsUnsaid end written written2 bytes)
