use Rattle.std.proofs.Common.{rules, ◌≡◌, ◌*◌, flat_map, take, arith, sym, ap, ◌∙◌, refl}
use Rattle.std.specs.Int.{w32, to_le_bytes}
use Rattle.std.proofs.lemmas.List.{take_all}
use Rattle.std.proofs.lemmas.Slice.{overwrites}
use Rattle.chacha_stream.proofs.FirstBlocks.{word_written}
use Rattle.chacha_stream.proofs.first_block.bytes_of.Goals as goal

pub loop-k-init : goal.loop-k-init
loop-k-init c = (refl, refl)

pub loop-k-preserved : goal.loop-k-preserved
loop-k-preserved c = (
  search (rules, overwrites),
  word_written c.loop-k.bytes c.copy_from_slice.new.self c.args.words.now c.loop-k.k _ c.loop-k.invariant.1 (omega arith) (omega arith)
      (c.copy_from_slice.ensures.after ∙ c.to_le_bytes.ensures),
)

pub returns : goal.returns
returns c =
    let words = c.args.words.now in
    let end : c.loop-k.k ≡ 16 = omega arith in
    sym (take_all 64 c.loop-k.bytes (omega arith)) ∙ ap (λ k. take (4 * k) c.loop-k.bytes) (sym end) ∙ c.loop-k.invariant.1
    ∙ ap (λ k. flat_map (to_le_bytes w32) (take k words)) end ∙ ap (flat_map (to_le_bytes w32)) (take_all 16 words (omega arith))
