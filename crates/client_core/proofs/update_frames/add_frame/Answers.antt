use Rattle.std.proofs.Common.{◌≡◌, subst, ◌∙◌}
use Rattle.std.specs.Prelude.{IfOk}
use Rattle.sse_frames.specs.Frames.{AddFrame, frame_bytes}
use Rattle.sse_frames.specs.FrameViews.{entries_in}
use Rattle.client_core.proofs.UpdateBytes.{Adds-made, entries_again, numbers_again}
use Rattle.client_core.proofs.update_frames.add_frame.Goals as goal

pub add_of-requires : goal.add_of-requires
add_of-requires c =
    Adds-made c.args.q c.args.entries.now c.args.numbers.now c.as_slice.result.now c.as_slice-2.result.now c.requires.number c.requires.count c.requires.rises c.requires.numbers_rise
    (c.as_slice.ensures.value ∙ c.in_ok-entries.ensures.bytes) c.in_ok-entries.ensures.sizes (c.as_slice-2.ensures.value ∙ c.in_ok-numbers.ensures) c.told-numbers

pub returns-clause-bytes : goal.returns-clause-bytes
returns-clause-bytes c =
    let q = c.args.q in
    let a = c.as_slice.result.now in
    subst (λ es. IfOk c.add_of.result (λ bytes. bytes.items ≡ frame_bytes (AddFrame q es c.args.numbers.now)))
    (entries_again c.args.entries.now a (c.as_slice.ensures.value ∙ c.in_ok-entries.ensures.bytes) c.in_ok-entries.ensures.sizes)
    (subst (λ ns. IfOk c.add_of.result (λ bytes. bytes.items ≡ frame_bytes (AddFrame q (entries_in 8 a) ns)))
    (numbers_again c.args.numbers.now c.as_slice-2.result.now (c.as_slice-2.ensures.value ∙ c.in_ok-numbers.ensures) c.told-numbers) c.add_of.ensures.bytes)
