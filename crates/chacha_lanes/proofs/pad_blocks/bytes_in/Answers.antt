use Rattle.std.proofs.Common.{rules, ◌≡◌, ◌*◌, flat_map, take, arith, sym, ap, ◌∙◌, refl}
use Rattle.std.specs.Int.{w32, to_le_bytes}
use Rattle.std.proofs.lemmas.List.{take_all}
use Rattle.std.proofs.lemmas.Slice.{overwrites}
use Rattle.rand_chacha.specs.Lanes.{lane}
use Rattle.rand_chacha.proofs.LaneLemmas.{slice_index-lane}
use Rattle.chacha_stream.proofs.FirstBlocks.{word_written}
use Rattle.chacha_lanes.proofs.pad_blocks.bytes_in.Goals as goal

pub loop-k-init : goal.loop-k-init
loop-k-init c = (refl, refl)

pub loop-k-preserved : goal.loop-k-preserved
loop-k-preserved c =
    let words = lane c.args.j c.args.words.now in
    let word = slice_index-lane c.args.words.now c.args.j c.loop-k.k (omega arith) in (
      search (rules, overwrites),
      word_written c.loop-k.bytes c.copy_from_slice.new.self words c.loop-k.k _ c.loop-k.invariant.1 (omega arith) (omega arith)
          (c.copy_from_slice.ensures.after ∙ c.to_le_bytes.ensures ∙ ap (to_le_bytes w32) (sym word)),
    )

pub returns : goal.returns
returns c =
    let words = lane c.args.j c.args.words.now in
    let end : c.loop-k.k ≡ 16 = omega arith in
    sym (take_all 64 c.loop-k.bytes (omega arith)) ∙ ap (λ k. take (4 * k) c.loop-k.bytes) (sym end) ∙ c.loop-k.invariant.1
    ∙ ap (λ k. flat_map (to_le_bytes w32) (take k words)) end
