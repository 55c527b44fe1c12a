use Rattle.std.proofs.Common.{ℕ, ◌≤◌, List, ◌++◌, length, drop, sym, ap, subst, ◌∙◌, arith}
use Rattle.sse_frames.specs.FrameViews.{frame_view}
use Rattle.sse_frames.proofs.Heads.{written, length-frame_bytes}
use Rattle.sse_frames.proofs.FrameBytesLaws.{length-body_of}
use Rattle.sse_frames.proofs.frame_writer.write_frame_into.Goals as goal

pub put_all-requires : goal.put_all-requires
put_all-requires c =
    let whole = written c.args.frame.now c.as_slice.result.now c.lists_of.result.0.now c.lists_of.result.1.now c.requires.grammar c.requires.sizes (c.as_slice.ensures ∙ c.head_of-head.ensures) c.lists_of.ensures in
    subst (λ (n : ℕ). n ≤ length c.args.out.now) (sym (ap length whole)) c.requires.room

pub returns-clause-len : goal.returns-clause-len
returns-clause-len c =
    let whole = written c.args.frame.now c.as_slice.result.now c.lists_of.result.0.now c.lists_of.result.1.now c.requires.grammar c.requires.sizes (c.as_slice.ensures ∙ c.head_of-head.ensures) c.lists_of.ensures in
    c.put_all.ensures.len ∙ ap length whole

pub returns-clause-bytes : goal.returns-clause-bytes
returns-clause-bytes c =
    let whole = written c.args.frame.now c.as_slice.result.now c.lists_of.result.0.now c.lists_of.result.1.now c.requires.grammar c.requires.sizes (c.as_slice.ensures ∙ c.head_of-head.ensures) c.lists_of.ensures in
    c.put_all.ensures.bytes ∙ ap (λ (x : List ℕ). x ++ drop c.put_all.result c.args.out.now) whole

pub returns-clause-least : goal.returns-clause-least
returns-clause-least c =
    let some = (length-body_of (frame_view c.args.frame.now) c.requires.grammar).some in
    omega (arith, returns-clause-len c, some)

pub returns-clause-most : goal.returns-clause-most
returns-clause-most c = omega (arith, returns-clause-len c, length-frame_bytes (frame_view c.args.frame.now) c.requires.grammar)
