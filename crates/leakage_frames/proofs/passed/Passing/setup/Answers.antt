use Rattle.std.proofs.Common.{ℕ, ◌+◌, ◌*◌, List, [], ◌∷◌, ◌++◌, length, refl, sym, ap, ◌∙◌, append_assoc}
use Rattle.std.proofs.lemmas.Result.{on_ok_weaker}
use Rattle.sse_frames.specs.Frames.{Entry, FrameText, SetupBegin, SetupEnd}
use Rattle.leakage_frames.specs.MadeFrames.{part_frames, then_updates}
use Rattle.leakage_frames.specs.declared.drawn.Section.TheVariants as sections
use Rattle.leakage_frames.proofs.passed.Passing.setup.Goals as goal

pub returns : goal.returns
returns c =
    let es : List Entry = c.args.entries.now in
    let bs : List Entry = c.args.blocks.now in
    let first : List (ℕ → FrameText) = part_frames sections.Entries (1 + 8 * c.args.b) 1024 es in
    let second : List (ℕ → FrameText) = part_frames sections.Blocks (8 * c.args.big) 256 bs in
    let last : List (ℕ → FrameText) = (λ q. SetupEnd q) ∷ [] in
    let begin : ℕ → FrameText = λ q. SetupBegin q c.args.b c.args.big (length es) (length bs) in
    on_ok_weaker c.update-2.result
    (λ more.
    more (λ q. SetupEnd q) refl (c.as_slice-2.ensures ∙ c.in_ok-end.ensures) []
    ∙ c.in_ok-parts-2.ensures last
    ∙ c.in_ok-parts.ensures (second ++ last)
    ∙ c.in_ok-update.ensures begin refl (c.as_slice.ensures ∙ c.in_ok-begin.ensures) (first ++ (second ++ last))
    ∙ ap (λ fs. then_updates c.args.self.now (begin ∷ fs)) (sym (append_assoc first second last)))
    c.update-2.ensures
