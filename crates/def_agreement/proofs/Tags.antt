-- A setup's labels differ, and so do the tags of its blocks.
use Rattle.std.proofs.Common.{ℕ, List, map, sym, subst}
use Rattle.std.specs.Prelude.{Contains}
use Rattle.std.proofs.lemmas.List.Elements.{Contains-append_left, Contains-append_right}
use Rattle.std.proofs.lemmas.Simd.{map-map}
use Rattle.client_registry.specs.Run.{Run, Offsets}
use Rattle.sse_frames.proofs.Sorted.{AllDiffer}
use Rattle.sse_frames.specs.Frames.{Entry, labels_of}
use Rattle.sse_model.proofs.Collisions.{joined}
use Rattle.sse_model.proofs.LabelsApart.{entry_labels_differ, block_tags_differ}
use Rattle.sse_model.proofs.Members.{AllByRecursion-from_members}
use Rattle.sse_model.proofs.SentNumbers.{set_up_is_drawn}
use Rattle.sse_model.specs.Drawn.{drawn, AreDistinct}
use Rattle.sse_model.specs.Names.{Table}
use Rattle.sse_model.specs.Positions.{Position, entry_positions, block_positions, sealed}
use Rattle.sse_model.specs.Wire.{labels_in}
use Rattle.def_agreement.proofs.SetupHeld.{entries_in, blocks_in}
use Rattle.def_agreement.specs.Held.{ranks_in}

sealed_differ : (t : Table) (ranks : List ℕ) (positions : List Position) → AllDiffer (labels_in t positions) → AllDiffer (labels_of (map (sealed t ranks) positions))
sealed_differ t ranks positions = subst AllDiffer (sym (map-map (λ (e : Entry). e.label) (sealed t ranks) positions))

-- the label of each entry of the setup is drawn
pub label_is_drawn : (o : Offsets) (run : Run) (p : Position) → Contains (entry_positions o.epoch run.setup) p → Contains (joined (drawn o run)) p.label
label_is_drawn o run p within =
    let s = run.setup in
    (set_up_is_drawn o s run.later p (Contains-append_left (entry_positions o.epoch s) (block_positions o.epoch s) p within)).0

-- so the labels of a setup differ where the drawn names are told apart
pub labels_differ : (t : Table) (o : Offsets) (run : Run) → AreDistinct t (joined (drawn o run)) → AllDiffer (labels_in t (entry_positions o.epoch run.setup))
labels_differ t o run apart =
    entry_labels_differ t o.epoch run.setup (joined (drawn o run)) apart
    (AllByRecursion-from_members (λ p. Contains (joined (drawn o run)) p.label) (entry_positions o.epoch run.setup) (label_is_drawn o run))

-- and so do those of its entries
pub entries_differ : (t : Table) (o : Offsets) (run : Run) → AreDistinct t (joined (drawn o run)) → AllDiffer (labels_of (entries_in t o.epoch run.setup))
entries_differ t o run apart = sealed_differ t (ranks_in t o.epoch run.setup) (entry_positions o.epoch run.setup) (labels_differ t o run apart)

-- the tags of a setup differ where the drawn names are told apart
pub tags_differ : (t : Table) (o : Offsets) (run : Run) → AreDistinct t (joined (drawn o run)) → AllDiffer (labels_in t (block_positions o.epoch run.setup))
tags_differ t o run apart =
    let s = run.setup in
    block_tags_differ t o.epoch s (joined (drawn o run)) apart
    (AllByRecursion-from_members (λ p. Contains (joined (drawn o run)) p.label) (block_positions o.epoch s)
    (λ p within. (set_up_is_drawn o s run.later p (Contains-append_right (entry_positions o.epoch s) (block_positions o.epoch s) p within)).0))

-- and so do those of its blocks
pub blocks_differ : (t : Table) (o : Offsets) (run : Run) → AreDistinct t (joined (drawn o run)) → AllDiffer (labels_of (blocks_in t o.epoch run.setup))
blocks_differ t o run apart = sealed_differ t (ranks_in t o.epoch run.setup) (block_positions o.epoch run.setup) (tags_differ t o run apart)
