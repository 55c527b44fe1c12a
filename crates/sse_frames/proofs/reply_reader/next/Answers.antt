use Rattle.std.proofs.Common.{◌≡◌, length, ap, sym, ◌∙◌, arith}
use Rattle.std.proofs.lemmas.Bool.{eqb-true}
use Rattle.sse_frames.specs.Replies.{Next, reply_body}
use Rattle.sse_frames.proofs.Cut.{AreBytes}
use Rattle.sse_frames.proofs.Numbers.{stands32}
use Rattle.sse_frames.proofs.ReplyBodies.{number_body}
use Rattle.sse_frames.proofs.reply_reader.next.Goals as goal

pub returns-clause-found : goal.returns-clause-found
returns-clause-found c =
    let body = c.args.body.now in
    let bytes : AreBytes body = λ i. omega (arith, c.type_inv.body i) in
    let q = stands32 0 0xffffffff 1 body c.in_ok-q.ensures.0 in
    let end : length body ≡ 5 = eqb-true _ _ c.in_ok-read_end.ensures.0 in
    record {
      grammar = omega (arith, q.below, c.in_ok-q.ensures.1);
      spelled = number_body 0x81 body bytes c.requires.kind end ∙ ap (λ n. reply_body (Next n)) (sym c.in_ok-q.ensures.1);
      sizes = tt;
    }
