use Rattle.std.proofs.Common.{◌≡◌, take}
use Rattle.std.specs.Prelude.{sum}
use Rattle.client_registry.specs.Documents.{list_lengths}
use Rattle.index_setup.proofs.lists.total_of.Given as goal

-- the identifiers of the first w lists
abbrev pub invariant-loop-w : goal.invariant-loop-w
invariant-loop-w l = l.sum ≡ sum (take l.w (list_lengths l.docs.documents))
