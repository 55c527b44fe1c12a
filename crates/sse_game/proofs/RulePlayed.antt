-- A duel that the chooser of `duel SEED N` played is that of its rule, and it begins.
use Rattle.std.proofs.Common.{◌≡◌, inl, inr, ℕ, suc, ◌+◌, false, List, [], ◌∷◌, length, None, Some, refl, sym, ap, subst, ◌∙◌, arith}
use Rattle.std.specs.Prelude.{slice_index, sum_by}
use Rattle.std.proofs.lemmas.Bool.{true≢false}
use Rattle.client_registry.specs.Epochs.{next_begins}
use Rattle.client_registry.specs.Run.{Epochs, History}
use Rattle.def_duel.specs.Choices.{Sides, at_start, is_taken}
use Rattle.def_duel.specs.Duels.{HasDuelled, HasNoSetup, IsNoSetup}
use Rattle.def_duel.specs.Turns.{Turn, turn, sides_after, texts_of}
use Rattle.keyed_fn.specs.KeyedFn.{KeyedFn}
use Rattle.script_game.specs.GameRule.{RuleState}
use Rattle.script_game.specs.declared.game_choice.GameChoice.TheVariants.{SetUp}
use Rattle.script_made_lines.specs.Lines.{made_key}
use Rattle.sse_game.proofs.RuleTurns.{all_turned, commands_left, is_taken-setup, skipped_none}
use Rattle.sse_game.specs.Rule.{AreChosen, HasToldRule, IsDuelOf, IsRuleAt, made_with, pair_by}

-- what was told first are the numbers of the chooser, and then its own turns
pub record AreOwn (seed turns : ℕ) (r : RuleState) (own played : List Turn) : Type 0 where
  pub seed_is : r.seed ≡ seed
  pub turns_is : r.turns ≡ turns
  pub own_is : own ≡ played

first_seen_of : List Turn → List (List ℕ)
first_seen_of [] = []
first_seen_of (t ∷ ts) = t.seen

later_of : List Turn → List Turn
later_of [] = []
later_of (t ∷ ts) = ts

number_in : ℕ → List (List ℕ) → ℕ
number_in i [] = 0
number_in i (text ∷ texts) = slice_index text i

some : {A : Type 0} (x y : A) → Some x ≡ Some y → x ≡ y
some x y e = cc

own_turns : (seed turns : ℕ) (r : RuleState) (now own played : List Turn) → now ≡ made_with r.seed r.turns ∷ own → Some now ≡ Some (made_with seed turns ∷ played) → AreOwn seed turns r own played
unfolding first_seen_of later_of number_in
own_turns seed turns r now own played told is =
    let same : made_with r.seed r.turns ∷ own ≡ made_with seed turns ∷ played = sym told ∙ some now _ is in
    record {
      seed_is = ap (λ (ts : List Turn). number_in 0 (first_seen_of ts)) same;
      turns_is = ap (λ (ts : List Turn). number_in 1 (first_seen_of ts)) same;
      own_is = ap later_of same;
    }

module _ (f : KeyedFn) (key : List ℕ) (seed turns : ℕ) (r : RuleState) (now : List Turn) (tells : HasToldRule f key r now) where
  chosen : (played : List Turn) → AreOwn seed turns r tells.own played → AreChosen f key seed turns 0 at_start played
  chosen played are =
      subst (λ (ts : List Turn). AreChosen f key seed turns 0 at_start ts) are.own_is
      (subst (λ (n : ℕ). AreChosen f key seed n 0 at_start tells.own) are.turns_is
      (subst (λ (n : ℕ). AreChosen f key n r.turns 0 at_start tells.own) are.seed_is tells.rule.chosen))

  -- the duel is that of the rule
  pub IsDuelOf-played : (end : Sides) (es : Epochs) (commands bytes : ℕ) → HasDuelled f key (turns + 1) (Some (made_with seed turns ∷ [])) (Some now) end
      → end.left ≡ Some es → commands ≡ (next_begins es).command → bytes ≡ sum_by length (texts_of f key (Some es)) → key ≡ made_key seed → IsDuelOf f seed turns commands bytes
  IsDuelOf-played end es commands bytes duelled left commands_are bytes_are key_is = record {
    told = duelled.turns;
    end = end;
    unskipped = skipped_none f key r.turn r.added end sides;
    all = commands_are ∙ commands_left f key turns r.added end es (subst (λ (n : ℕ). IsRuleAt n r.added end) last sides) left;
    duelled = subst (λ (k : List ℕ). HasDuelled f k (turns + 1) (Some []) (Some duelled.turns) end) key_is
        (record { turns = duelled.turns; told = refl; shown = duelled.shown; over = duelled.over; sides = duelled.sides; goes_on = duelled.goes_on });
    chosen = subst (λ (k : List ℕ). AreChosen f k seed turns 0 at_start duelled.turns) key_is (chosen duelled.turns (own_turns seed turns r now tells.own duelled.turns tells.told_is duelled.told));
    epochs = es;
    left = left;
    commands_are = commands_are;
    bytes_are = bytes_are ∙ ap (λ (h : History). sum_by length (texts_of f key h)) (sym left) ∙ ap (λ (k : List ℕ). sum_by length (texts_of f k end.left)) key_is;
  }
    where
      are : AreOwn seed turns r tells.own duelled.turns
      are = own_turns seed turns r now tells.own duelled.turns tells.told_is duelled.told

      sides : IsRuleAt r.turn r.added end
      sides = subst (IsRuleAt r.turn r.added) (ap (sides_after f key at_start) are.own_is ∙ sym duelled.sides) tells.rule.sides

      last : r.turn ≡ suc turns
      last =
          let many : length duelled.turns ≡ turns + 1 = all_turned f key seed turns 0 (turns + 1) at_start duelled.turns (chosen duelled.turns are) duelled.over (omega arith) in
          let own = ap length are.own_is in
          let turn_is = tells.rule.turn in
          let same = are.turns_is in
          omega (arith, many, own, turn_is, same)

  -- it begins
  pub no_setup-never : HasNoSetup f key (turns + 1) (Some (made_with seed turns ∷ [])) (Some now) → ⊥
  no_setup-never (inl none) = let zero_is = none.0 in omega (arith, zero_is)
  no_setup-never (inr (answer, told, is)) =
      let are = chosen (turn (texts_of f key None) answer ∷ []) (own_turns seed turns r now tells.own _ tells.told_is told) in
      let setup : answer ≡ Some (pair_by SetUp) = are.0 in
      let untaken : is_taken f key at_start (pair_by SetUp) ≡ false = subst (IsNoSetup f key) setup is in
      true≢false (sym (is_taken-setup f key) ∙ untaken)
