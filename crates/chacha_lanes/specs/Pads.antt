-- The blocks of a pad.
use Rattle.std.specs.Prelude.{ℕ, List, ◌*◌, map}
use Rattle.std.specs.List.{range_with_len}
use Rattle.chacha_stream.specs.Rfc8439.{block_word, key_stream_byte}
use Rattle.chacha_stream.specs.Pad.{pad_nonce}

-- the 16 words of block `counter` of pad number n
abbrev pub pad_words : List ℕ → ℕ → ℕ → List ℕ
pad_words key n counter = map (block_word key counter (pad_nonce n)) (range_with_len 0 16)

-- its 64 bytes, which are those of the key stream from byte 64 * counter on
abbrev pub pad_block : List ℕ → ℕ → ℕ → List ℕ
pad_block key n counter = map (key_stream_byte key (pad_nonce n)) (range_with_len (64 * counter) 64)
