use Rattle.std.proofs.Common.{◌++◌, ap, ◌∙◌, arith}
use Rattle.sse_frames.specs.Frames.{AddFrame, frame_bytes}
use Rattle.sse_frames.specs.FrameViews.{entries_in, items_in}
use Rattle.client_core.proofs.UpdateBytes.{IsAdd-Adds}
use Rattle.client_core.proofs.update_frames.add_of.Goals as goal

pub write_frame-requires-clause-grammar : goal.write_frame-requires-clause-grammar
write_frame-requires-clause-grammar c =
    IsAdd-Adds c.args.q c.args.entries.now c.args.numbers.now c.requires (λ i. omega (arith, c.type_inv.entries i)) (λ i. omega (arith, c.type_inv.numbers i))

pub returns-clause-frame : goal.returns-clause-frame
returns-clause-frame c = record {
  frame = AddFrame c.args.q (entries_in 8 c.args.entries.now) (items_in 16 c.args.numbers.now);
  grammar = IsAdd-Adds c.args.q c.args.entries.now c.args.numbers.now c.requires (λ i. omega (arith, c.type_inv.entries i)) (λ i. omega (arith, c.type_inv.numbers i));
  spelled =
      c.in_ok-write_frame.ensures.ok
      ∙ ap (λ front. front ++ frame_bytes (AddFrame c.args.q (entries_in 8 c.args.entries.now) (items_in 16 c.args.numbers.now))) c.new-bytes.ensures.items;
}
