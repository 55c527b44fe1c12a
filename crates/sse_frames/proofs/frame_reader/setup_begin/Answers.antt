use Rattle.std.proofs.Common.{◌≡◌, length, arith}
use Rattle.std.proofs.lemmas.Bool.{eqb-true}
use Rattle.sse_frames.proofs.Cut.{AreBytes}
use Rattle.sse_frames.proofs.Numbers.{stands16, stands32}
use Rattle.sse_frames.proofs.FrameBodies.{setup_begin_body}
use Rattle.sse_frames.proofs.frame_reader.setup_begin.Goals as goal

pub returns-clause-found : goal.returns-clause-found
returns-clause-found c =
    let body = c.args.body.now in
    let bytes : AreBytes body = λ i. omega (arith, c.type_inv.body i) in
    let q = stands32 0 0xfffffffe 1 body c.in_ok-q.ensures.0 in
    let b = stands16 1 64 5 body c.in_ok-b.ensures.0 in
    let big = stands16 1 256 7 body c.in_ok-big.ensures.0 in
    let m = stands32 0 0x100000 9 body c.in_ok-m.ensures.0 in
    let a = stands32 0 0x100000 13 body c.in_ok-a.ensures.0 in
    let end : length body ≡ 17 = eqb-true _ _ c.in_ok-read_end.ensures.0 in
    rw (c.in_ok-q.ensures.1, c.in_ok-b.ensures.1, c.in_ok-big.ensures.1, c.in_ok-m.ensures.1, c.in_ok-a.ensures.1) (record {
      grammar = record { number = omega (arith, q.below); cell = (b.above, b.below); block = (big.above, big.below); words = m.below; blocks = a.below };
      spelled = setup_begin_body body bytes c.requires.kind end;
      sizes = tt;
    })
