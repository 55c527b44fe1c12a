use Rattle.std.proofs.Common.{ap, sym, ◌∙◌, arith}
use Rattle.std.proofs.lemmas.Bool.{eqb-true}
use Rattle.sse_frames.specs.Frames.{SetupEnd, body_of}
use Rattle.sse_frames.proofs.Cut.{AreBytes}
use Rattle.sse_frames.proofs.Numbers.{stands32}
use Rattle.sse_frames.proofs.FrameBodies.{setup_end_body}
use Rattle.sse_frames.proofs.frame_reader.setup_end.Goals as goal

pub returns-clause-found : goal.returns-clause-found
returns-clause-found c =
    let body = c.args.body.now in
    let bytes : AreBytes body = λ i. omega (arith, c.type_inv.body i) in
    let q = stands32 0 0xfffffffe 1 body c.in_ok-q.ensures.0 in
    let end = eqb-true _ _ c.in_ok-read_end.ensures.0 in
    record {
      grammar = omega (arith, q.below, c.in_ok-q.ensures.1);
      spelled = setup_end_body body bytes c.requires.kind end ∙ ap (λ n. body_of (SetupEnd n)) (sym c.in_ok-q.ensures.1);
      sizes = tt;
    }
