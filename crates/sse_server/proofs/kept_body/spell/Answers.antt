use Rattle.std.proofs.Common.{◌≤◌, length, sym, subst, arith}
use Rattle.std.specs.Prelude.{Result, Ok, Err, OnOk}
use Rattle.sse_frames.specs.FrameViews.{frame_view}
use Rattle.sse_journal.specs.Files.{IsPayload}
use Rattle.sse_server.proofs.Bodies.{payload_of, spelled_most, spelled_body}
use Rattle.sse_server.proofs.kept_body.spell.Goals as goal

pub overflow_cast-len : goal.overflow_cast-len
overflow_cast-len c =
    let most : length c.write_frame.new.out.items ≤ 541709 = spelled_most (frame_view c.args.frame.now) c.write_frame.new.out.items c.clear.new.self.items c.requires.grammar c.clear.ensures.items c.in_ok-write_frame.ensures.ok in
    omega (arith, most, c.len.ensures)

on_ok : {T E : Type 0} (r : Result T E) (P : Type 0) → P → OnOk r P
on_ok (Ok x) P is = is
on_ok (Err e) P is = tt

pub returns-clause-payload : goal.returns-clause-payload
returns-clause-payload c =
    on_ok c.reserve.result _ (subst IsPayload (sym (spelled_body (frame_view c.args.frame.now) c.write_frame.new.out.items c.clear.new.self.items c.clear.ensures.items c.in_ok-write_frame.ensures.ok)) (payload_of (frame_view c.args.frame.now) c.requires.grammar))
