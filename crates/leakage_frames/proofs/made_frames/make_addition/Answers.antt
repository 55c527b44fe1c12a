use Rattle.std.proofs.Common.{[], refl, sym, ap, ◌∙◌}
use Rattle.sse_frames.specs.Frames.{AddFrame}
use Rattle.sse_simulator.specs.Simulator.{as_entry, first_of}
use Rattle.leakage_frames.proofs.UpdateLaws.{addition_made}
use Rattle.leakage_frames.specs.MadeFrames.{kept_view}
use Rattle.leakage_frames.specs.Views.{draw_view, word_view}
use Rattle.std.proofs.Common.{map}
use Rattle.leakage_frames.proofs.made_frames.make_addition.Goals as goal

pub returns : goal.returns
returns c = record {
  made =
      let draws = map draw_view c.args.draws.now in
      addition_made c.args.passing.now c.update.new.self (map kept_view c.args.kept.now) (map word_view c.args.words.now) draws _ c.as_slice.result.now _ c.as_slice-2.result.now
      (ap (λ n. first_of as_entry n draws) (sym c.count_entries.ensures) ∙ c.in_ok-fresh.ensures.found)
      c.in_ok-again.ensures.found
      (c.as_slice.ensures.value ∙ c.in_ok-entries.ensures)
      (c.as_slice-2.ensures.value ∙ c.in_ok-numbers.ensures)
      (c.in_ok-update.ensures (λ q. AddFrame q c.as_slice.result.now c.as_slice-2.result.now) refl (c.as_slice-3.ensures ∙ c.in_ok-body.ensures) []);
}
