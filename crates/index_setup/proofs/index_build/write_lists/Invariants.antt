use Rattle.keyed_fn.specs.KeyedFn.{keyed_fn}
use Rattle.list_packing.specs.Parts.{parts}
use Rattle.std.proofs.Common.{◌+◌, ◌*◌}
use Rattle.index_setup.specs.SizeOf.{setup_sized}
use Rattle.index_setup.proofs.ListWrites.{Remains}
use Rattle.index_setup.proofs.index_build.write_lists.Given as goal

-- the entries and blocks of the words from w on are left to write
abbrev pub invariant-loop-w : goal.invariant-loop-w
invariant-loop-w g l =
    Remains (keyed_fn g.K.Keyed.prf g.K.Keyed.pad) l.master (setup_sized l.docs.documents l.fn.size) l.w l.ids l.ranks
    (parts (17 + 8 * l.fn.size.shape.b) l.entries) (parts (8 * l.fn.size.shape.big) l.array) (parts (17 + 8 * l.fn.size.shape.b) l.fn.entries) (parts (8 * l.fn.size.shape.big) l.fn.array) l.from.entry_ranks.now
