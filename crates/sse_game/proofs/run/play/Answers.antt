use Rattle.std.proofs.Common.{◌≡◌, ℕ, List, [], ◌∷◌, Err, refl, sym, ap, subst, ◌∙◌}
use Rattle.std.specs.Prelude.{sum_by, length}
use Rattle.keyed_fn.specs.KeyedFn.{KeyedFn, keyed_fn}
use Rattle.leakage_history.specs.HashedEpochs.{epochs_in}
use Rattle.script_game.specs.GameRule.{RuleState}
use Rattle.sse_game.proofs.RulePlayed.{IsDuelOf-played, no_setup-never}
use Rattle.sse_game.proofs.RuleTurns.{HasToldRule-none}
use Rattle.sse_game.specs.Game.{sides_of}
use Rattle.sse_game.specs.Rule.{HasToldRule, made_with}
use Rattle.sse_game.proofs.run.play.Goals as goal

begun : (seed turns : ℕ) (r : RuleState) → r ≡ record { seed = seed; turns = turns; turn = 0; added = [] } → (f : KeyedFn) (key : List ℕ) → HasToldRule f key r (made_with seed turns ∷ [])
begun seed turns r is f key = subst (λ (now : RuleState). HasToldRule f key now (made_with seed turns ∷ [])) (sym is) (HasToldRule-none f key seed turns)

pub stop_of-requires : goal.stop_of-requires
stop_of-requires g c = record {
  begun = λ none.
      let f = keyed_fn g.K.Keyed.prf g.K.Keyed.pad in
      let seed = c.args.game.seed in
      let turns = c.args.game.turns in
      let told = c.play_duel-played.ensures.no_setup (made_with seed turns ∷ []) (c.in-Err.is ∙ ap (λ fault. Err fault) none) (begun seed turns c.new-rule.result c.new-rule.ensures) in
      no_setup-never f c.new-key.result seed turns c.play_duel-played.new.chooser.rule told.0 (told.1 f c.new-key.result) told.2;
}

pub returns-in-Ok-bytes-clause-counts : goal.returns-in-Ok-bytes-clause-counts
returns-in-Ok-bytes-clause-counts g c =
    let f = keyed_fn g.K.Keyed.prf g.K.Keyed.pad in
    let seed = c.args.game.seed in
    let turns = c.args.game.turns in
    let told = c.in-Ok.ensures.whole (made_with seed turns ∷ []) (begun seed turns c.new-rule.result c.new-rule.ensures) in
    IsDuelOf-played f c.new-key.result seed turns c.play_duel-played.new.chooser.rule told.0 (told.1 f c.new-key.result) (sides_of c.in-Ok.duel) (epochs_in c.in-Ok.duel.left) c.in-Ok.duel.commands c.in-Ok-bytes.bytes
    told.2.duelled refl c.in-Ok.ensures.commands (c.in-Ok-bytes.ensures ∙ ap (sum_by length) (c.as_slice.ensures ∙ c.in-Ok.ensures.seen)) (c.new-key.ensures ∙ c.game_key.ensures)
