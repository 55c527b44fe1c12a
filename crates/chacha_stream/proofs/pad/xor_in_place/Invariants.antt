use Rattle.std.proofs.Common.{◌≡◌, ℕ, ◌+◌, ◌/◌, ◌%◌, ◌<◌, ◌≤◌, get_or}
use Rattle.std.specs.Prelude.{bit_xor}
use Rattle.rand_chacha.specs.ChaCha.{key_of}
use Rattle.chacha_stream.specs.Rfc8439.{key_stream_byte}
use Rattle.chacha_stream.specs.Pad.{pad_nonce}
use Rattle.chacha_stream.proofs.Streams.{stream_word}
use Rattle.chacha_stream.proofs.pad.xor_in_place.Given as goal

abbrev pub invariant-loop-i : goal.invariant-loop-i
invariant-loop-i l = record {
  stream : l.stream ≡ record { key = key_of l.key; stream = l.n; word_pos = (l.i + 3) / 4 };
  word : 0 < l.i % 4 → l.word ≡ stream_word l.key (pad_nonce l.n) (l.i / 4);
  done : (k : ℕ) → k < l.i → get_or l.bytes k 0 ≡ bit_xor (get_or l.fn.bytes k 0) (key_stream_byte l.key (pad_nonce l.n) k);
  rest : (k : ℕ) → l.i ≤ k → get_or l.bytes k 0 ≡ get_or l.fn.bytes k 0;
}
