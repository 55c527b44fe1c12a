use Rattle.std.proofs.Common.{sym, refl}
use Rattle.sha256_lanes.proofs.Lanes.{window_word-lane}
use Rattle.sha256_lanes.proofs.block.next_word.Goals as goal

pub returns : goal.returns
returns c = record {
  value = λ j below.
      rw (
        c.add-word.ensures j below,
        c.add-known.ensures j below,
        c.add-recent.ensures j below,
        c.small_sigma0-s0.ensures j below,
        c.small_sigma1-s1.ensures j below,
      ) (sym (window_word-lane j c.args.w.now c.args.place c.requires));
  window = refl;
}
