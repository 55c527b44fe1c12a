use Rattle.std.proofs.Common.{drop, length-drop, ◌≡◌, ◌+◌, ◌*◌, ◌-◌, ◌++◌, length, take, replicate, arith, sym, ap, ◌∙◌}
use Rattle.std.proofs.lemmas.List.{take_all, take_rest}
use Rattle.std.proofs.lemmas.Slice.{take-put_mid}
use Rattle.list_packing.specs.Numbers.{number_bytes}
use Rattle.list_packing.proofs.NumbersLemmas.{number_bytes-more}
use Rattle.list_packing.proofs.Written.{put_mid-to_end}
use Rattle.list_packing.proofs.packed_list.write_numbers.Goals as goal

pub loop-i-preserved : goal.loop-i-preserved
loop-i-preserved c =
    let i = c.loop-i.i in
    let numbers = c.args.numbers.now in
    let out = c.loop-i.out in
    let bytes = c.copy_from_slice.new.self in
    let after = c.copy_from_slice.ensures.after ∙ c.to_be_bytes.ensures in
    take-put_mid (8 * i) (8 * i + 8 - 8 * i) out bytes (8 * (i + 1)) (omega (arith, ap length after)) (omega arith)
    ∙ ap (λ front. front ++ bytes) c.loop-i.invariant
    ∙ ap (λ back. number_bytes (take i numbers) ++ back) after
    ∙ sym (number_bytes-more numbers i c.loop-i-test.true)

pub returns : goal.returns
returns c =
    let numbers = c.args.numbers.now in
    let a = 8 * length numbers in
    let out = c.loop-i.out in
    let same : length out ≡ length c.args.out.now = c.loop-i.auto.out in
    let all : c.loop-i.i ≡ length numbers = omega (arith, c.loop-i-test.false, c.loop-i.auto.i-end) in
    let front : take a out ≡ number_bytes numbers =
    ap (λ i. take (8 * i) out) (sym all) ∙ c.loop-i.invariant ∙ ap (λ i. number_bytes (take i numbers)) all ∙ ap number_bytes (take_all (length numbers) numbers (omega arith)) in
    let room : length (take (length out - a) (drop a out)) ≡ length c.args.out.now - a = ap length (take_rest out a) ∙ length-drop a out ∙ ap (λ n. n - a) same in
    put_mid-to_end a (length out - a) out c.fill.new.self (omega arith)
    ∙ ap (λ bytes. bytes ++ c.fill.new.self) front
    ∙ ap (λ zeros. number_bytes numbers ++ zeros) (c.fill.ensures.after (λ y is. is) ∙ ap (λ n. replicate n 0) room)
