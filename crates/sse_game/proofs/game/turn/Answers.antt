use Rattle.std.proofs.Common.{◌++◌, ◌∷◌, [], Bool, None, Some, Err, ap, ◌∙◌, subst}
use Rattle.std.specs.Prelude.{option_map}
use Rattle.std.specs.declared.option.Option.{Option}
use Rattle.def_duel.specs.Turns.{turn}
use Rattle.keyed_fn.specs.KeyedFn.{keyed_fn}
use Rattle.sse_game.specs.Views.{pair_view}
use Rattle.sse_game.specs.declared.choice.Pair.{Pair}
use Rattle.sse_game.specs.declared.fault.DuelFault.TheVariants as faults
use Rattle.sse_game.proofs.Faults.{same_error}
use Rattle.sse_game.proofs.Turned.{differs, few, turned_none, turned_pair}
use Rattle.sse_game.proofs.game.turn.Goals as goal

pub returns-in-Err-clause-differ : goal.returns-in-Err-clause-differ
returns-in-Err-clause-differ g c = λ k past e tells.
    let f = keyed_fn g.K.Keyed.prf g.K.Keyed.pad in
    let old = c.args.game.now in
    let p = pair_view c.in-Some.pair in (
      past ++ turn old.shown.seen (Some p) ∷ [],
      subst (λ (o : Option Pair). g.C.Chooser.tells c.next.new.self (past ++ turn old.shown.seen (option_map pair_view o) ∷ [])) c.in-Some.is (c.in_ok-pair.ensures.told past tells),
      differs f c.args.key.now old c.requires.game past p k (c.play.ensures.differ k (c.in-Err.is ∙ ap Err (same_error Bool c.in-Err.fault (faults.LeaksDiffer k) e))),
    )

pub returns-in-Ok-clause-turned : goal.returns-in-Ok-clause-turned
returns-in-Ok-clause-turned g c = λ past tells.
    let f = keyed_fn g.K.Keyed.prf g.K.Keyed.pad in
    let old = c.args.game.now in
    let p = pair_view c.in-Some.pair in (
      past ++ turn old.shown.seen (Some p) ∷ [],
      subst (λ (o : Option Pair). g.C.Chooser.tells c.next.new.self (past ++ turn old.shown.seen (option_map pair_view o) ∷ [])) c.in-Some.is (c.in_ok-pair.ensures.told past tells),
      turned_pair f c.args.key.now old c.requires.game past c.play.new.game p c.in-Ok.ensures.game c.in-Ok.ensures.played,
    )

pub returns-in-None-clause-turned : goal.returns-in-None-clause-turned
returns-in-None-clause-turned g c = λ past tells.
    let f = keyed_fn g.K.Keyed.prf g.K.Keyed.pad in
    let old = c.args.game.now in (
      past ++ turn old.shown.seen None ∷ [],
      subst (λ (o : Option Pair). g.C.Chooser.tells c.next.new.self (past ++ turn old.shown.seen (option_map pair_view o) ∷ [])) c.in-None.is (c.in_ok-pair.ensures.told past tells),
      turned_none f c.args.key.now old c.requires.game past,
    )

pub returns-in-Ok-clause-few : goal.returns-in-Ok-clause-few
returns-in-Ok-clause-few g c = few (keyed_fn g.K.Keyed.prf g.K.Keyed.pad) c.args.key.now c.args.game.now c.play.new.game (pair_view c.in-Some.pair) c.in-Ok.ensures.played
