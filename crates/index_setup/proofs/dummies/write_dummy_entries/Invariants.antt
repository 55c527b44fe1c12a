use Rattle.std.proofs.Common.{◌≡◌, ◌+◌, ◌*◌, map, take}
use Rattle.keyed_fn.specs.KeyFormulas.{plain_key}
use Rattle.keyed_fn.specs.KeyedFn.{keyed_fn}
use Rattle.list_packing.specs.Parts.{parts}
use Rattle.index_setup.specs.Placed.{dummy_entry_texts, placed}
use Rattle.index_setup.proofs.dummies.write_dummy_entries.Given as goal

-- the first i dummies stand in their places
abbrev pub invariant-loop-i : goal.invariant-loop-i
invariant-loop-i g l =
    parts (17 + 8 * l.fn.shape.b) l.entries ≡ placed (parts (17 + 8 * l.fn.shape.b) l.initial.entries) (take l.i l.places)
    (take l.i (dummy_entry_texts (keyed_fn g.K.Keyed.prf g.K.Keyed.pad) (plain_key (keyed_fn g.K.Keyed.prf g.K.Keyed.pad) l.master 9) l.fn.shape (map (λ e. e.tag) l.labels) l.places))
