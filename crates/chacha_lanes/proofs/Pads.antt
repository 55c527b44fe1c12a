-- A pad of at most a block is in front of its first block.
use Rattle.std.proofs.Common.{◌≡◌, ℕ, ◌<◌, ◌≤◌, List, length, slice_index, sym, ap, ◌∙◌, arith, zero-add}
use Rattle.std.specs.Prelude.{bit_xor}
use Rattle.std.proofs.lemmas.List.FromFn.{fill_by_all, get_or-map-range_with_len}
use Rattle.chacha_stream.specs.Rfc8439.{key_stream_byte}
use Rattle.chacha_stream.specs.Pad.{chacha_pad, pad_nonce}
use Rattle.chacha_stream.specs.Xored.{xored}
use Rattle.chacha_stream.proofs.Laws.{get_or-xored, length-xored}
use Rattle.chacha_lanes.specs.Pads.{pad_block}

byte_of_pad : (key : List ℕ) (n len k : ℕ) → k < len → slice_index (chacha_pad key n len) k ≡ key_stream_byte key (pad_nonce n) k
byte_of_pad key n len k below = get_or-map-range_with_len (key_stream_byte key (pad_nonce n)) 0 len k k 0 below (zero-add k)

pub xored_first : (text key : List ℕ) (n len : ℕ) → length text ≡ len → len ≤ 64 → xored text (pad_block key n 0) ≡ xored text (chacha_pad key n len)
xored_first text key n len long fits =
    fill_by_all (λ k. bit_xor (slice_index text k) (slice_index (chacha_pad key n len) k)) (xored text (pad_block key n 0)) (length text) 0
    (length-xored text (pad_block key n 0))
    (λ k below. get_or-xored text (pad_block key n 0) k 0 below
    ∙ ap (bit_xor (slice_index text k)) (byte_of_pad key n 64 k (omega arith) ∙ sym (byte_of_pad key n len k (omega (arith, long)))))
