use Rattle.std.proofs.Common.{◌≡◌, ◌*◌, length, take}
use Rattle.keyed_fn.specs.KeyFormulas.{plain_key}
use Rattle.keyed_fn.specs.KeyedFn.{keyed_fn}
use Rattle.list_packing.specs.Parts.{parts}
use Rattle.index_setup.specs.Placed.{dummy_block_texts, placed}
use Rattle.index_setup.proofs.dummies.write_dummy_blocks.Given as goal

-- the first j dummies stand in their places
abbrev pub invariant-loop-j : goal.invariant-loop-j
invariant-loop-j g l =
    parts (8 * l.fn.shape.big) l.array ≡ placed (parts (8 * l.fn.shape.big) l.initial.array) (take l.j l.places)
    (take l.j (dummy_block_texts (keyed_fn g.K.Keyed.prf g.K.Keyed.pad) (plain_key (keyed_fn g.K.Keyed.prf g.K.Keyed.pad) l.master 9) l.fn.shape (length l.places)))
