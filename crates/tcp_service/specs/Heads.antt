-- Bytes that are read before the first frame of a connection.
use Rattle.std.specs.Prelude.{◌≡◌, ◌⊎◌, ℕ, ◌<◌, List, length, Option}
use Rattle.std.specs.Io.KnownBytes.{prepend_known, IsAtEnd}
use Rattle.sse_outside.specs.Causes.{Rose}
use Rattle.tcp_service.specs.declared.conn_end.ConnEnd.{ConnEnd}
use Rattle.tcp_service.specs.declared.conn_end.ConnEnd.TheVariants.{CutShort, ReadFault}

-- fewer bytes than these were read: the source ended there, or it failed
pub record IsCutShort (size : ℕ) (remaining remaining2 : Option (List ℕ)) (faults now : ℕ) (end : ConnEnd) : Type 0 where
  pub read : List ℕ
  pub short : length read < size
  pub read_is : remaining ≡ prepend_known read remaining2
  pub why : ((end ≡ CutShort) × IsAtEnd remaining2 × (now ≡ faults)) ⊎ ((end ≡ ReadFault) × Rose faults now)
