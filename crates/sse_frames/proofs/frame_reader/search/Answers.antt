use Rattle.std.proofs.Common.{ap, sym, ◌∙◌, arith}
use Rattle.std.proofs.lemmas.Bool.{eqb-true}
use Rattle.sse_frames.specs.Frames.{SearchFrame, body_of}
use Rattle.sse_frames.proofs.Cut.{AreBytes, AreBytes-at, length-bytes_at}
use Rattle.sse_frames.proofs.FrameBodies.{search_body}
use Rattle.sse_frames.proofs.frame_reader.search.Goals as goal

pub returns-clause-found : goal.returns-clause-found
returns-clause-found c =
    let body = c.args.body.now in
    let bytes : AreBytes body = λ i. omega (arith, c.type_inv.body i) in
    let end = eqb-true _ _ c.in_ok-read_end.ensures.0 in
    let whole = length-bytes_at 1 160 body (omega (arith, end)) in
    let token = c.in_ok-token.ensures.1 in
    record {
      grammar = rw token (record { size_is = whole; each = AreBytes-at 1 160 body bytes });
      spelled = search_body body c.requires.kind end ∙ ap (λ t. body_of (SearchFrame t)) (sym token);
      sizes = tt;
    }
