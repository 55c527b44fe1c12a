use Rattle.std.proofs.Common.{◌≡◌, map, take}
use Rattle.std.specs.List.{flat_map}
use Rattle.add_counters.specs.NewEntry.{entry_text}
use Rattle.sse_frames.specs.Frames.{entry_bytes}
use Rattle.client_core.specs.UpdateTexts.{HaveSizes}
use Rattle.client_core.proofs.new_pairs.joined_entries.Given as goal

abbrev pub invariant-loop-entry : goal.invariant-loop-entry
invariant-loop-entry l = record {
  bytes : l.bytes.items ≡ flat_map entry_bytes (map entry_text (take l.entry-index l.entries));
  sizes : HaveSizes (take l.entry-index l.entries);
}
