use Rattle.std.proofs.Common.{◌≡◌, ◌≢◌, ℕ, ◌%◌, ◌<◌, length, get_or, sym, ap, ◌∙◌, arith, zero-add, get_or-set_other}
use Rattle.std.specs.Prelude.{bit_xor, slice_set}
use Rattle.std.proofs.lemmas.List.Edits.{fill_by_more}
use Rattle.std.proofs.lemmas.List.FromFn.{fill_by_all, get_or-map-range_with_len}
use Rattle.chacha_stream.specs.Rfc8439.{key_stream_byte}
use Rattle.chacha_stream.specs.Pad.{pad_nonce}
use Rattle.chacha_stream.proofs.Streams.{InHand, word_taken, word_stays, word_goes_on, byte_in_hand}
use Rattle.chacha_stream.proofs.pad.xor_in_place.Goals as goal
use Rattle.chacha_stream.proofs.pad.xor_in_place.Goals.{then-i-eq0, else-i-eq0}

pub loop-i-preserved : goal.loop-i-preserved
loop-i-preserved c =
    let key = c.args.key.now in
    let n : ℕ = c.args.n in
    let i : ℕ = c.loop-i.i in
    let within : i < length c.loop-i.bytes = omega arith in
    let now : InHand key n i c.if-i-eq0.word c.if-i-eq0.stream =
    elim c.if-i-eq0.branch [
      | then-i-eq0 w ↦ rw (w.word-is, w.stream-is) (word_taken key n i _ _ _ c.ranges.n.fits (omega arith) w.if-i-eq0.true c.loop-i.invariant.stream w.next_word-word.ensures)
      | else-i-eq0 w ↦ let inside : 0 < i % 4 = omega arith in
          rw (w.word-is, w.stream-is) (word_stays key n i _ _ inside c.loop-i.invariant.stream (c.loop-i.invariant.word inside))
    ] in
    let byte : bit_xor (get_or c.loop-i.bytes i 0) (get_or c.to_le_bytes.result (i % 4) 0)
    ≡ bit_xor (get_or c.args.bytes.now i 0) (key_stream_byte key (pad_nonce n) i) =
    ap (λ b. bit_xor b (get_or c.to_le_bytes.result (i % 4) 0)) (c.loop-i.invariant.rest i (omega arith))
    ∙ ap (bit_xor (get_or c.args.bytes.now i 0)) (byte_in_hand key n i _ _ _ now c.to_le_bytes.ensures) in
    record {
      stream = now.stream_is;
      word = word_goes_on key n i _ _ now;
      done = λ k below. ap (λ v. get_or (slice_set c.loop-i.bytes i v) k 0) byte
          ∙ fill_by_more (λ j. bit_xor (get_or c.args.bytes.now j 0) (key_stream_byte key (pad_nonce n) j)) c.loop-i.bytes i 0 within c.loop-i.invariant.done k below;
      rest = λ k above. let other : k ≢ i = omega arith in rw get_or-set_other (c.loop-i.invariant.rest k (omega arith));
    }

pub returns : goal.returns
returns c =
    fill_by_all _ _ (length c.args.bytes.now) 0 c.loop-i.auto.bytes
    (λ k within. c.loop-i.invariant.done k (omega arith)
    ∙ ap (bit_xor (get_or c.args.bytes.now k 0)) (sym (get_or-map-range_with_len _ 0 (length c.args.bytes.now) k k 0 within (zero-add k))))
