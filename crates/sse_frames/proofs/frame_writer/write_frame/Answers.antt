use Rattle.std.proofs.Common.{◌≡◌, ℕ, ◌≤◌, List, ◌++◌, length, OnOk, sym, ap, subst, ◌∙◌, length-append, arith}
use Rattle.sse_frames.specs.FrameViews.{frame_view}
use Rattle.sse_frames.proofs.Heads.{written, length-frame_bytes}
use Rattle.sse_frames.proofs.frame_writer.write_frame.Goals as goal

pub append-requires : goal.append-requires
append-requires c =
    let head = c.as_slice.result.now in
    let first = c.lists_of.result.0.now in
    let second = c.lists_of.result.1.now in
    let whole = written c.args.frame.now head first second c.requires.grammar c.requires.sizes (c.as_slice.ensures ∙ c.head_of-head.ensures) c.lists_of.ensures in
    let len : length (head ++ (first ++ second)) ≤ 541709 = subst (λ (n : ℕ). n ≤ 541709) (sym (ap length whole)) (length-frame_bytes (frame_view c.args.frame.now) c.requires.grammar) in
    omega (arith, len, length-append head (first ++ second), length-append first second)

pub returns-clause-ok : goal.returns-clause-ok
returns-clause-ok c =
    let whole = written c.args.frame.now c.as_slice.result.now c.lists_of.result.0.now c.lists_of.result.1.now c.requires.grammar c.requires.sizes (c.as_slice.ensures ∙ c.head_of-head.ensures) c.lists_of.ensures in
    subst (λ (x : List ℕ). OnOk c.append.result (c.append.new.out.items ≡ c.args.out.now.items ++ x)) whole c.append.ensures.ok
