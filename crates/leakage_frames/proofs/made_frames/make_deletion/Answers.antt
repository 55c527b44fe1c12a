use Rattle.std.proofs.Common.{[], map, refl, ◌∙◌}
use Rattle.sse_frames.specs.Frames.{DeleteFrame}
use Rattle.leakage_frames.proofs.UpdateLaws.{deletion_made}
use Rattle.leakage_frames.specs.MadeFrames.{kept_view}
use Rattle.leakage_frames.specs.Views.{draw_view, word_view}
use Rattle.leakage_frames.proofs.made_frames.make_deletion.Goals as goal

pub returns : goal.returns
returns c = record {
  made =
      deletion_made c.args.passing.now c.update.new.self (map kept_view c.args.kept.now) (map word_view c.args.words.now) (map draw_view c.args.draws.now) _ c.as_slice.result.now
      c.in_ok-shown.ensures.found
      (c.as_slice.ensures.value ∙ c.in_ok-numbers.ensures)
      (c.in_ok-update.ensures (λ q. DeleteFrame q c.as_slice.result.now) refl (c.as_slice-2.ensures ∙ c.in_ok-body.ensures) []);
}
