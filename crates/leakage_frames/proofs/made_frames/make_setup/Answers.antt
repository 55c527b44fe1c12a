use Rattle.std.proofs.Common.{sym, ap, ◌∙◌}
use Rattle.sse_simulator.specs.Simulator.{as_block, first_of}
use Rattle.leakage_frames.proofs.UpdateLaws.{setup_made}
use Rattle.leakage_frames.proofs.made_frames.make_setup.Goals as goal

pub returns : goal.returns
returns c = record {
  made = λ kept.
      setup_made c.args.passing.now c.setup.new.self kept c.args.shape.0 c.args.shape.1 c.args.words c.args.blocks _ _ _ _ _
      c.in_ok-own_entries.ensures.found
      (ap (first_of as_block c.args.blocks) (sym c.draws_after-behind.ensures) ∙ c.in_ok-own_blocks.ensures.found)
      (c.as_slice.ensures.value ∙ c.in_ok-entries.ensures)
      (c.as_slice-2.ensures.value ∙ c.in_ok-blocks.ensures)
      c.in_ok-setup.ensures;
}
