use Rattle.std.proofs.Common.{◌∷◌, [], None, refl, sym, ap, ◌∙◌}
use Rattle.def_duel.specs.Choices.{SetsUp}
use Rattle.keyed_fn.specs.KeyedFn.{keyed_fn}
use Rattle.leakage_frames.specs.Views.{leak_view}
use Rattle.sse_game.proofs.Gaming.{alike, is_next_setup, marks_first}
use Rattle.sse_game.proofs.begin.show_setups.Goals as goal

pub show_last-all_shown-requires-clause-next : goal.show_last-all_shown-requires-clause-next
show_last-all_shown-requires-clause-next g c =
    (None, is_next_setup (keyed_fn g.K.Keyed.prf g.K.Keyed.pad) c.args.key.now c.requires.begun.0 c.args.both.left (leak_view c.args.both.leak) c.args.shown c.requires.passed c.requires.begun.2)

pub returns-clause-game : goal.returns-clause-game
returns-clause-game g c =
    let f = keyed_fn g.K.Keyed.prf g.K.Keyed.pad in
    let begun = c.requires.begun in
    record {
      left = begun.2.side;
      right = begun.3.side;
      leaks = alike None None (SetsUp begun.0) (SetsUp begun.1) c.args.both.left c.args.both.right (leak_view c.args.both.leak) refl begun.2 begun.3;
      passed = c.in_ok-all_shown.ensures;
      marks = c.in_ok-marks.ensures.items ∙ ap (λ m. m ∷ []) c.mark_of.ensures ∙ sym (marks_first f c.args.key.now begun.0 c.args.both.left (leak_view c.args.both.leak) begun.2);
    }
