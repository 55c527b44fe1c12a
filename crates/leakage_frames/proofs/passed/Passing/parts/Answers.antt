use Rattle.std.proofs.Common.{ℕ, ◌+◌, ◌<◌, ◌≤◌, List, [], ◌++◌, length, map, drop, get_or, sym, ap, ◌∙◌, arith}
use Rattle.std.proofs.lemmas.List.{at_drop_all, drop_more}
use Rattle.list_packing.proofs.PartsLemmas.{length-parts}
use Rattle.list_packing.specs.Parts.{parts}
use Rattle.sse_frames.specs.Frames.{Entry, FrameText, body_of}
use Rattle.leakage_frames.proofs.UpdateLaws.{asked-part_frame}
use Rattle.leakage_frames.specs.MadeFrames.{part_frame, then_updates}
use Rattle.leakage_frames.proofs.passed.Passing.parts.Goals as goal

pub loop-i-preserved : goal.loop-i-preserved
loop-i-preserved c =
    let i = c.loop-i.i in
    let section = c.args.section in
    let width = c.args.width in
    let ps : List (List Entry) = parts c.args.size c.args.items.now in
    let q = c.loop-i.self.next in
    let make : List Entry → ℕ → FrameText = part_frame section width in
    let within : i < length ps = omega (arith, c.loop-i-test.true, c.div_ceil-i-end.ensures, length-parts c.args.size c.args.items.now) in
    λ rest.
    c.in_ok-update.ensures (make (get_or ps i [])) (asked-part_frame section width (get_or ps i []) q)
    (c.as_slice.ensures ∙ c.in_ok-body.ensures ∙ ap (λ (p : List Entry). body_of (make p q)) c.part.ensures) (map make (drop (i + 1) ps) ++ rest)
    ∙ ap (λ (left : List (List Entry)). then_updates c.loop-i.self (map make left ++ rest)) (sym (drop_more ps i [] within))
    ∙ c.loop-i.invariant rest

pub returns : goal.returns
returns c =
    let ps : List (List Entry) = parts c.args.size c.args.items.now in
    let end : length ps ≤ c.loop-i.i = omega (arith, c.loop-i-test.false, c.div_ceil-i-end.ensures, length-parts c.args.size c.args.items.now) in
    λ rest.
    sym (at_drop_all (λ left. then_updates c.loop-i.self (map (part_frame c.args.section c.args.width) left ++ rest)) ps c.loop-i.i end) ∙ c.loop-i.invariant rest
