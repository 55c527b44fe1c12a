use Rattle.std.proofs.Common.{◌≡◌, ◌*◌, take}
use Rattle.keyed_fn.specs.KeyedFn.{keyed_fn}
use Rattle.list_packing.specs.Parts.{parts}
use Rattle.word_keys.specs.PadName.{block_name}
use Rattle.index_setup.specs.Placed.{block_texts, placed}
use Rattle.index_setup.proofs.entry_bytes.write_blocks.Given as goal

-- the first i blocks stand in their places
abbrev pub invariant-loop-i : goal.invariant-loop-i
invariant-loop-i g l = record {
  pads : l.pads ≡ block_name l.initial.pads.key l.i;
  array : parts (8 * l.shape.big) l.array ≡ placed (parts (8 * l.shape.big) l.initial.array) (take l.i l.ranks)
      (take l.i (block_texts (keyed_fn g.K.Keyed.prf g.K.Keyed.pad) l.initial.pads.key l.shape l.ranks l.ids));
}
