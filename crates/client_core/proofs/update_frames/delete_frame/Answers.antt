use Rattle.std.proofs.Common.{◌≡◌, subst, ◌∙◌}
use Rattle.std.specs.Prelude.{IfOk}
use Rattle.sse_frames.specs.Frames.{DeleteFrame, frame_bytes}
use Rattle.client_core.proofs.UpdateBytes.{Revokes-made, numbers_again}
use Rattle.client_core.proofs.update_frames.delete_frame.Goals as goal

pub delete_of-requires : goal.delete_of-requires
delete_of-requires c =
    Revokes-made c.args.numbers.now c.as_slice.result.now (c.as_slice.ensures.value ∙ c.in_ok-numbers.ensures) c.told-numbers c.args.q c.requires.number c.requires.count c.requires.numbers_rise

pub returns-clause-bytes : goal.returns-clause-bytes
returns-clause-bytes c =
    subst (λ ns. IfOk c.delete_of.result (λ bytes. bytes.items ≡ frame_bytes (DeleteFrame c.args.q ns)))
    (numbers_again c.args.numbers.now c.as_slice.result.now (c.as_slice.ensures.value ∙ c.in_ok-numbers.ensures) c.told-numbers) c.delete_of.ensures.bytes
