use Rattle.std.proofs.Common.{◌≡◌, length, arith}
use Rattle.std.proofs.lemmas.Bool.{eqb-true}
use Rattle.sse_frames.proofs.Cut.{AreBytes}
use Rattle.sse_frames.proofs.Numbers.{stands8, stands32}
use Rattle.sse_frames.proofs.ReplyBodies.{clash_body}
use Rattle.sse_frames.proofs.reply_reader.clash.Goals as goal

pub returns-clause-found : goal.returns-clause-found
returns-clause-found c =
    let body = c.args.body.now in
    let bytes : AreBytes body = λ i. omega (arith, c.type_inv.body i) in
    let what = stands8 1 3 1 body c.in_ok-what.ensures.0 in
    let place = stands32 0 0xffffffff 2 body c.in_ok-place.ensures.0 in
    let end : length body ≡ 6 = eqb-true _ _ c.in_ok-read_end.ensures.0 in
    rw (c.in_ok-what.ensures.1, c.in_ok-place.ensures.1) (record {
      grammar = (what.above, what.below, omega (arith, place.below));
      spelled = clash_body 0x84 body bytes c.requires.kind end;
      sizes = tt;
    })
