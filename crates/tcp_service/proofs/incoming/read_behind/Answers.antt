use Rattle.std.proofs.Common.{◌≡◌, ◌+◌, ◌++◌, length, take, ap, sym, ◌∙◌, arith}
use Rattle.std.proofs.Math.Seq.{take-append-add}
use Rattle.tcp_service.proofs.incoming.read_behind.Goals as goal

-- what was held stands in front of what came
pub returns-clause-more : goal.returns-clause-more
returns-clause-more g c =
    let count = c.in_ok-count.count in
    let out = c.read.new.out in
    let front = c.split_at_mut-room.result.0.now in
    let size : length front ≡ c.args.held = omega (arith, c.split_at_mut-room.ensures.front_len) in (
      take count out,
      sym c.in_ok-count.ensures.bound.1,
      ap (λ k. take (k + count) (front ++ out)) (sym size) ∙ take-append-add front out count ∙ ap (λ l. l ++ take count out) c.split_at_mut-room.ensures.front,
      c.in_ok-count.ensures.bytes,
    )
