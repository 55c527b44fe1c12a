use Rattle.std.proofs.Common.{◌≡◌, ◌≤◌, filter, length, map, take}
use Rattle.sse_simulator.specs.Simulator.{is_entry}
use Rattle.leakage_frames.specs.Views.{word_view}
use Rattle.leakage_frames.proofs.made_frames.count_entries.Given as goal

abbrev pub invariant-loop-word : goal.invariant-loop-word
invariant-loop-word l = record {
  same : l.count ≡ length (filter is_entry (map word_view (take l.word-index l.words)));
  within : l.count ≤ l.word-index;
}
