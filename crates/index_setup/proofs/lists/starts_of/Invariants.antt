use Rattle.std.proofs.Common.{◌≡◌, take}
use Rattle.std.specs.Prelude.{sum}
use Rattle.client_registry.specs.Documents.{list_lengths}
use Rattle.index_setup.specs.Lists.{starts_from}
use Rattle.index_setup.proofs.lists.starts_of.Given as goal

-- where the first w lists begin, and the next one
abbrev pub invariant-loop-w : goal.invariant-loop-w
invariant-loop-w l = record {
  starts : l.starts.items ≡ starts_from 0 (take l.w (list_lengths l.docs.documents));
  start : l.start ≡ sum (take l.w (list_lengths l.docs.documents));
}
