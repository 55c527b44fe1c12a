use Rattle.std.proofs.Common.{◌≡◌, ap, ◌++◌, ◌∷◌, [], None, Some, subst}
use Rattle.std.specs.Prelude.{option_map}
use Rattle.std.specs.declared.option.Option.{Option}
use Rattle.std.proofs.lemmas.Result.{IfOk-weaker}
use Rattle.def_duel.specs.Choices.{Sides}
use Rattle.def_duel.specs.Turns.{turn}
use Rattle.keyed_fn.specs.KeyedFn.{keyed_fn}
use Rattle.sse_game.specs.Views.{pair_view}
use Rattle.sse_game.specs.declared.game.Game.{Game}
use Rattle.sse_game.specs.declared.choice.Pair.{Pair}
use Rattle.sse_game.proofs.Turned.{begun_result, differs_first, no_pair, no_setups}
use Rattle.sse_game.proofs.begin.begin.Goals as goal

pub begin_with-requires : goal.begin_with-requires
begin_with-requires g c = c.in_ok-shown.ensures (keyed_fn g.K.Keyed.prf g.K.Keyed.pad) c.args.key.now

pub returns-in-Ok-Some-clause-begun : goal.returns-in-Ok-Some-clause-begun
returns-in-Ok-Some-clause-begun g c = λ past tells.
    let f = keyed_fn g.K.Keyed.prf g.K.Keyed.pad in
    let shown = c.in_ok-shown.shown in
    let there = subst (λ (o : Option Pair). g.C.Chooser.tells c.next.new.self (past ++ turn shown.seen (option_map pair_view o) ∷ [])) c.in-Ok-Some.field-0-is (c.in-Ok-Some.ensures.told past tells) in
    begun_result f c.args.key.now shown (c.in_ok-shown.ensures f c.args.key.now) past (g.C.Chooser.tells c.next.new.self) (pair_view c.in-Ok-Some.pair) there c.begin_with.result c.begin_with.ensures.game c.begin_with.ensures.taken c.begin_with.ensures.sides

pub returns-in-Ok-Some-clause-differ : goal.returns-in-Ok-Some-clause-differ
returns-in-Ok-Some-clause-differ g c = λ k past e tells.
    let f = keyed_fn g.K.Keyed.prf g.K.Keyed.pad in
    let shown = c.in_ok-shown.shown in (
      past ++ turn shown.seen (Some (pair_view c.in-Ok-Some.pair)) ∷ [],
      subst (λ (o : Option Pair). g.C.Chooser.tells c.next.new.self (past ++ turn shown.seen (option_map pair_view o) ∷ [])) c.in-Ok-Some.field-0-is (c.in-Ok-Some.ensures.told past tells),
      differs_first f c.args.key.now shown (c.in_ok-shown.ensures f c.args.key.now) past (pair_view c.in-Ok-Some.pair) k (c.begin_with.ensures.differ k e),
    )

pub returns-in-Ok-Some-clause-no_setup : goal.returns-in-Ok-Some-clause-no_setup
returns-in-Ok-Some-clause-no_setup g c = λ most past e tells.
    let f = keyed_fn g.K.Keyed.prf g.K.Keyed.pad in
    let shown = c.in_ok-shown.shown in (
      past ++ turn shown.seen (Some (pair_view c.in-Ok-Some.pair)) ∷ [],
      subst (λ (o : Option Pair). g.C.Chooser.tells c.next.new.self (past ++ turn shown.seen (option_map pair_view o) ∷ [])) c.in-Ok-Some.field-0-is (c.in-Ok-Some.ensures.told past tells),
      no_setups f c.args.key.now shown (c.in_ok-shown.ensures f c.args.key.now) past most (pair_view c.in-Ok-Some.pair) (c.begin_with.ensures.no_setup e),
    )

pub returns-in-Ok-None-clause-no_setup : goal.returns-in-Ok-None-clause-no_setup
returns-in-Ok-None-clause-no_setup g c = λ most past e tells.
    let f = keyed_fn g.K.Keyed.prf g.K.Keyed.pad in
    let shown = c.in_ok-shown.shown in (
      past ++ turn shown.seen None ∷ [],
      subst (λ (o : Option Pair). g.C.Chooser.tells c.next.new.self (past ++ turn shown.seen (option_map pair_view o) ∷ [])) c.in-Ok-None.field-0-is (c.in-Ok-None.ensures.told past tells),
      no_pair f c.args.key.now shown (c.in_ok-shown.ensures f c.args.key.now) past most,
    )

pub returns-in-Ok-Some-clause-skipped : goal.returns-in-Ok-Some-clause-skipped
returns-in-Ok-Some-clause-skipped g c = IfOk-weaker c.begin_with.result _ (λ (game : Game). game.skipped ≡ 0) (λ game is. ap (λ (s : Sides). s.skipped) is) c.begin_with.ensures.sides
