use Rattle.std.proofs.Common.{◌++◌, ◌∷◌, [], None, Some, sym, ap, subst, ◌∙◌}
use Rattle.def_duel.specs.Choices.{Pair}
use Rattle.def_duel.specs.Turns.{turn}
use Rattle.script_game.specs.GameRule.{RuleState, game_choice, state_after}
use Rattle.sse_game.specs.Rule.{HasToldRule, last_text}
use Rattle.sse_game.specs.Views.{pair_view}
use Rattle.sse_game.proofs.RuleTurns.{HasToldRule-next}
use Rattle.sse_game.proofs.played.RuleChooserChooser.next.Goals as goal

pub returns-in_ok-pair_by-in-Some : goal.returns-in_ok-pair_by-in-Some
returns-in_ok-pair_by-in-Some c = record {
  told = λ past tells f key.
      let r : RuleState = c.args.self.now.rule in
      let choice = c.in-Some.choice in
      let seen = c.args.seen.now in
      subst (λ (now : RuleState). HasToldRule f key now (past ++ turn seen (Some (pair_view c.in_ok-pair_by-in-Some.field-0)) ∷ [])) (sym (c.in_ok-choice.ensures.after ∙ ap (state_after r) c.in-Some.is))
      (subst (λ (pair : Pair). HasToldRule f key (state_after r (Some choice)) (past ++ turn seen (Some pair) ∷ [])) (sym c.in_ok-pair_by-in-Some.ensures)
      (HasToldRule-next f key r (tells f key).own c.in_ok-choice.ensures.few.0 (tells f key).rule seen past (tells f key).told_is (Some choice)
      (λ live are. sym c.in-Some.is ∙ c.in_ok-choice.ensures.follows live are ∙ ap (game_choice r.seed r.turns r.turn live) (c.last_text.ensures ∙ ap last_text c.as_slice.ensures))));
}

pub returns-in-None : goal.returns-in-None
returns-in-None c = record {
  told = λ past tells f key.
      let r : RuleState = c.args.self.now.rule in
      let seen = c.args.seen.now in
      subst (λ (now : RuleState). HasToldRule f key now (past ++ turn seen None ∷ [])) (sym (c.in_ok-choice.ensures.after ∙ ap (state_after r) c.in-None.is))
      (HasToldRule-next f key r (tells f key).own c.in_ok-choice.ensures.few.0 (tells f key).rule seen past (tells f key).told_is None
      (λ live are. sym c.in-None.is ∙ c.in_ok-choice.ensures.follows live are ∙ ap (game_choice r.seed r.turns r.turn live) (c.last_text.ensures ∙ ap last_text c.as_slice.ensures)));
}
