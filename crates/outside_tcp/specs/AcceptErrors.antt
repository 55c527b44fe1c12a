-- The errors of `accept` after which a listener waits for the next connection.
use Rattle.std.specs.Prelude.{ℕ, ℤ, pos, Bool, true, false, List, [], ◌∷◌, Option, Some, None, ◌==◌}
use Rattle.std.specs.List.{list_any}
use Rattle.std.specs.declared.io.ErrorKind.{ErrorKind}
use Rattle.std.specs.declared.io.ErrorKind.TheVariants.{Interrupted, ConnectionAborted, ConnectionReset, HostUnreachable, NetworkUnreachable, NetworkDown}

-- the connection that was waited for was lost, or the network to its peer was; or a signal came
abbrev pub is_lost : ErrorKind → Bool
is_lost Interrupted = true
is_lost ConnectionAborted = true
is_lost ConnectionReset = true
is_lost HostUnreachable = true
is_lost NetworkUnreachable = true
is_lost NetworkDown = true
is_lost _ = false

-- the system was out of memory (ENOMEM 12, ENOBUFS 105) or of files (ENFILE 23, EMFILE 24), or the protocol failed (EPROTO 71)
abbrev pub is_short : Option ℤ → Bool
is_short (Some (pos code)) = list_any (λ n. code == n) (12 ∷ 23 ∷ 24 ∷ 71 ∷ 105 ∷ [])
is_short _ = false
