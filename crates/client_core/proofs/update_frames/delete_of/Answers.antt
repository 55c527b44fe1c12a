use Rattle.std.proofs.Common.{◌++◌, ap, ◌∙◌, arith}
use Rattle.sse_frames.specs.Frames.{DeleteFrame, frame_bytes}
use Rattle.sse_frames.specs.FrameViews.{items_in}
use Rattle.client_core.proofs.UpdateBytes.{IsDelete-Revokes}
use Rattle.client_core.proofs.update_frames.delete_of.Goals as goal

pub write_frame-requires-clause-grammar : goal.write_frame-requires-clause-grammar
write_frame-requires-clause-grammar c = IsDelete-Revokes c.args.q c.args.numbers.now c.requires (λ i. omega (arith, c.type_inv.numbers i))

pub returns-clause-frame : goal.returns-clause-frame
returns-clause-frame c = record {
  frame = DeleteFrame c.args.q (items_in 16 c.args.numbers.now);
  grammar = IsDelete-Revokes c.args.q c.args.numbers.now c.requires (λ i. omega (arith, c.type_inv.numbers i));
  spelled = c.in_ok-write_frame.ensures.ok ∙ ap (λ front. front ++ frame_bytes (DeleteFrame c.args.q (items_in 16 c.args.numbers.now))) c.new-bytes.ensures.items;
}
