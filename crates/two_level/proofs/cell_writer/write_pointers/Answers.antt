use Rattle.std.proofs.Common.{◌≡◌, ◌<◌, ◌+◌, ◌*◌, ◌-◌, ◌++◌, length, take, drop, length-drop, replicate, get_or, arith, sym, ap, ◌∙◌}
use Rattle.std.proofs.lemmas.List.{take_all, take_rest, get_or-map}
use Rattle.std.proofs.lemmas.Slice.{take-put_mid}
use Rattle.std.specs.Int.{w64, to_be_bytes}
use Rattle.list_packing.specs.Numbers.{number_bytes}
use Rattle.list_packing.proofs.NumbersLemmas.{number_bytes-more}
use Rattle.list_packing.proofs.Written.{put_mid-to_end}
use Rattle.two_level.specs.Laid.{pointers}
use Rattle.two_level.proofs.LaidLemmas.{length-pointers}
use Rattle.two_level.proofs.cell_writer.write_pointers.Goals as goal

pub loop-i-preserved : goal.loop-i-preserved
loop-i-preserved c =
    let i = c.loop-i.i in
    let ranks = c.args.ranks.now in
    let ps = pointers ranks in
    let out = c.loop-i.out in
    let bytes = c.copy_from_slice.new.self in
    let inside : i < length ranks = c.loop-i-test.true in
    let pointer : c.from-pointer.result + 1 ≡ get_or ps i 0 = ap (λ n. n + 1) c.from-pointer.ensures ∙ sym (get_or-map (λ rank. rank + 1) ranks i 0 0 inside) in
    let after : bytes ≡ to_be_bytes w64 (get_or ps i 0) = c.copy_from_slice.ensures.after ∙ c.to_be_bytes.ensures ∙ ap (to_be_bytes w64) pointer in
    take-put_mid (8 * i) (8 * i + 8 - 8 * i) out bytes (8 * (i + 1)) (omega (arith, ap length after)) (omega arith)
    ∙ ap (λ front. front ++ bytes) c.loop-i.invariant
    ∙ ap (λ back. number_bytes (take i ps) ++ back) after
    ∙ sym (number_bytes-more ps i (omega (arith, length-pointers ranks)))

pub returns : goal.returns
returns c =
    let ranks = c.args.ranks.now in
    let ps = pointers ranks in
    let a = 8 * length ranks in
    let out = c.loop-i.out in
    let same : length out ≡ length c.args.out.now = c.loop-i.auto.out in
    let all : c.loop-i.i ≡ length ranks = omega (arith, c.loop-i-test.false, c.loop-i.auto.i-end) in
    let front : take a out ≡ number_bytes ps =
    ap (λ i. take (8 * i) out) (sym all) ∙ c.loop-i.invariant ∙ ap (λ i. number_bytes (take i ps)) all ∙ ap number_bytes (take_all (length ranks) ps (omega (arith, length-pointers ranks))) in
    let room : length (take (length out - a) (drop a out)) ≡ length c.args.out.now - a = ap length (take_rest out a) ∙ length-drop a out ∙ ap (λ n. n - a) same in
    put_mid-to_end a (length out - a) out c.fill.new.self (omega arith)
    ∙ ap (λ bytes. bytes ++ c.fill.new.self) front
    ∙ ap (λ zeros. number_bytes ps ++ zeros) (c.fill.ensures.after (λ y is. is) ∙ ap (λ n. replicate n 0) room)
