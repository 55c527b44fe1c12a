use Rattle.std.proofs.Common.{◌≡◌, ◌<◌, ◌≤◌, ℕ, [], length, slice_index, slice_index_or}
use Rattle.chacha_stream.specs.Pad.{chacha_pad}
use Rattle.chacha_stream.specs.Xored.{xored}
use Rattle.chacha_lanes.proofs.first_pads.xor_first_pads.Given as goal

abbrev pub invariant-loop-j : goal.invariant-loop-j
invariant-loop-j g l = record {
  count : length l.texts ≡ 8;
  done : (k : ℕ) → k < l.j → slice_index_or l.texts k []
      ≡ xored (slice_index_or l.fn.texts k []) (chacha_pad (slice_index_or l.keys k []) (slice_index l.numbers k) g.row.N);
  rest : (k : ℕ) → l.j ≤ k → slice_index_or l.texts k [] ≡ slice_index_or l.fn.texts k [];
}
