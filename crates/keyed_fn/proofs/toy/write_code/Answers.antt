use Rattle.std.proofs.Common.{◌+◌, ◌%◌, ◌≡◌, arith, length}
use Rattle.std.specs.Prelude.{slice_index}
use Rattle.std.proofs.lemmas.List.FromFn.{fill_by_all}
use Rattle.keyed_fn.proofs.toy.write_code.Goals as goal

pub returns : goal.returns
returns c =
    let reached : c.loop-i.i ≡ length c.args.out.now = omega arith in
    fill_by_all (λ i. (slice_index c.args.key.now i + c.args.sum + i) % 256) c.loop-i.out (length c.args.out.now) 0
    (omega arith) (λ k within. c.loop-i.invariant k (omega arith))
