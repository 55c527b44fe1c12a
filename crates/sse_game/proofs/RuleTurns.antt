-- A duel that follows the rule of `duel SEED N`: its pairs are taken, and its chooser tells its turns.
use Rattle.std.proofs.Common.{◌≡◌, inl, inr, ℕ, zero, suc, ◌+◌, ◌<◌, ◌≤◌, ◌^◌, ◌==◌, Bool, true, false, List, [], ◌∷◌, ◌++◌, length, map, min, nat_lt, slice_get, Option, None, Some, if◌then◌else◌, refl, sym, ap, subst, ◌∙◌, arith, add-one}
use Rattle.std.specs.Prelude.{◌%◌, codes, drop, option_map, sum}
use Rattle.std.proofs.lemmas.Bool.{and_from, eqb-true, lt-ltb, ltb-false, ltb-true, ne_eqb}
use Rattle.client_registry.specs.Command as commands
use Rattle.client_registry.specs.Command.{Command}
use Rattle.client_registry.specs.Epochs.{Does, next_begins}
use Rattle.client_registry.specs.Live.{live_of}
use Rattle.client_registry.specs.Run.{Epochs, History, From, at_first}
use Rattle.def_duel.specs.Choices.{Choice, Goes, Sides, accepts_choice, at_start, can_take, grown, has_new_mark, is_numbered, is_taken, played, taken_if}
use Rattle.def_duel.specs.Turns.{Turn, turn, answered, sides_after, AreOver}
use Rattle.keyed_fn.specs.KeyedFn.{KeyedFn}
use Rattle.script_game.proofs.RisingLaws.{above_100-live, ids-documents}
use Rattle.script_game.proofs.RuleRuns.{accepts-add, accepts-delete, after-add, after-delete, after-search, after-setup, length-push, update_frames-game}
use Rattle.script_game.specs.GameDocuments.{game_document, game_setup}
use Rattle.script_game.specs.GameRule.{RuleState, above_100, added_after, choice_by, choice_with, deletion_of, game_choice, state_after}
use Rattle.script_game.specs.RuleRuns.{IsRuleRun, live_with}
use Rattle.script_game.specs.declared.game_choice.GameChoice.{GameChoice}
use Rattle.script_game.specs.declared.game_choice.GameChoice.TheVariants.{SetUp, Search, Add, Delete}
use Rattle.script_game.specs.declared.game_side.GameSide.{GameSide}
use Rattle.script_game.specs.declared.game_side.GameSide.TheVariants.{Left, Right}
use Rattle.sse_game.specs.Rule.{AreChosen, HasRule, HasToldRule, IsRuleAt, IsRuleGame, chosen_at, choice_on, last_text, made_with, pair_by}

-- What the rule may choose.

-- at turn t after the setup
abbrev IsPossible : (t : ℕ) (added : List ℕ) → GameChoice → Type 0
IsPossible t added SetUp = ⊥
IsPossible t added Search = Unit {0}
IsPossible t added (Add id) = id ≡ 100 + t
IsPossible t added (Delete id) = (rest : List ℕ) × (added ≡ id ∷ rest)

possible : (t : ℕ) (added : List ℕ) (first second : Bool) → IsPossible t added (if first then Search else if second then Add (100 + t) else deletion_of (slice_get added 0))
possible t added true second = tt
possible t added false true = refl
possible t [] false false = tt
possible t (id ∷ rest) false false = (rest, refl)

some : {A : Type 0} (x y : A) → Some x ≡ Some y → x ≡ y
some x y e = cc

none_from : (c : Option GameChoice) → option_map pair_by c ≡ None → c ≡ None
none_from None e = refl
none_from (Some c) e = absurd (cc)

module _ (seed turns : ℕ) (least : Option ℕ) (last : List ℕ) where
  -- after the last turn nothing is chosen
  late : (t : ℕ) → turns < t → choice_with seed turns t least last ≡ None
  late t past = rw (ne_eqb t 0 (λ e. omega (arith, e, past)), lt-ltb turns t past) refl

  abbrev by_tests : (first over : Bool) (t : ℕ) → Option GameChoice
  by_tests first over t = if first then Some SetUp else if over then None else Some (choice_by ((seed + t + sum last) % 3) t least)

  none_is_late : (t : ℕ) → choice_with seed turns t least last ≡ None → turns < t
  none_is_late t none = by (t == 0) (nat_lt turns t) refl none
    where
      by : (first over : Bool) → nat_lt turns t ≡ over → by_tests first over t ≡ None → turns < t
      by true over e is = absurd (cc)
      by false true e is = ltb-true turns t e
      by false false e is = absurd (cc)

  some_is_within : (t : ℕ) (c : GameChoice) → choice_with seed turns t least last ≡ Some c → t ≤ turns
  some_is_within t c is = by (nat_lt turns t) refl
    where
      by : (over : Bool) → nat_lt turns t ≡ over → t ≤ turns
      by true e = let no : None ≡ Some c = sym (late t (ltb-true turns t e)) ∙ is in absurd (cc)
      by false e = let most = ltb-false turns t e in omega (arith, most)

  -- turns after the last one are alike
  alike : (t n : ℕ) → t ≡ min n (turns + 1) → choice_with seed turns t least last ≡ choice_with seed turns n least last
  alike t n is = by (nat_lt turns n) refl
    where
      by : (over : Bool) → nat_lt turns n ≡ over → choice_with seed turns t least last ≡ choice_with seed turns n least last
      by true e = let past = ltb-true turns n e in late t (omega (arith, is, past)) ∙ sym (late n past)
      by false e = let most = ltb-false turns n e in ap (λ (m : ℕ). choice_with seed turns m least last) (let same : t ≡ n = omega (arith, is, most) in same)

chosen_is_possible : (seed turns count : ℕ) (added last : List ℕ) (c : GameChoice) → choice_with seed turns (suc count) (slice_get added 0) last ≡ Some c → IsPossible (suc count) added c
chosen_is_possible seed turns count added last c is = by (suc count == 0) (nat_lt turns (suc count)) refl is
  where
    by : (first over : Bool) → (suc count == 0) ≡ first → by_tests seed turns (slice_get added 0) last first over (suc count) ≡ Some c → IsPossible (suc count) added c
    by true over e is = let no = eqb-true (suc count) 0 e in absurd (omega (arith, no))
    by false true e is = absurd (cc)
    by false false e is =
        let x = (seed + suc count + sum last) % 3 in
        subst (IsPossible (suc count) added) (some _ c is) (possible (suc count) added (x == 0) (x == 1))

-- One side.

abbrev history_with : GameSide → List Command → History
history_with side later = Some (From at_first (record { setup = game_setup side; later = later }))

module _ (side : GameSide) where
  numbered : (later : List Command) → length later < 2 ^ 30 → is_numbered (history_with side later) ≡ true
  numbered later few =
      let es = From at_first (record { setup = game_setup side; later = later }) in
      and_from _ _ (lt-ltb (next_begins es).command (2 ^ 32) (omega (arith, few))) (lt-ltb (next_begins es).frame (2 ^ 32) (omega (arith, few, update_frames-game side later)))

  module _ (added : List ℕ) (later : List Command) (run : IsRuleRun side added later) (few : length later < 2 ^ 29) where
    -- the side accepts a choice, has the command more, and is as the rule has it
    record IsStep (c : GameChoice) : Type 0 where
      command : Command
      is : choice_on side c ≡ Goes (Does command)
      accepted : accepts_choice (history_with side later) (Goes (Does command)) ≡ true
      kept : IsRuleRun side (added_after added c) (later ++ command ∷ [])

    step : (c : GameChoice) → IsPossible (length later + 1) added c → IsStep c
    step SetUp is = absurd is
    step Search is = record { command = commands.Search (codes "s"); is = refl; accepted = refl; kept = after-search side added later run }
    step (Add id) is =
        let place : id ≡ 101 + length later = omega (arith, is) in
        record { command = commands.Add (game_document side id); is = refl; accepted = accepts-add side added later run id place (omega (arith, few)); kept = after-add side added later run id place }
    step (Delete id) is =
        let there = subst (λ (a : List ℕ). IsRuleRun side a later) is.1 run in
        record {
          command = commands.Delete id;
          is = refl;
          accepted = accepts-delete side id is.0 later there;
          kept = subst (λ (a : List ℕ). IsRuleRun side (drop 1 a) (later ++ commands.Delete id ∷ [])) (sym is.1) (after-delete side id is.0 later there);
        }

    can_take-step : (c : GameChoice) (s : IsStep c) → can_take (history_with side later) (choice_on side c) ≡ true
    can_take-step c s =
        ap (can_take (history_with side later)) s.is
        ∙ and_from _ _ s.accepted (numbered (later ++ s.command ∷ []) (let more = length-push later s.command in omega (arith, more, few)))

    grown-step : (c : GameChoice) (s : IsStep c) → grown (history_with side later) (choice_on side c) ≡ history_with side (later ++ s.command ∷ [])
    grown-step c s = ap (grown (history_with side later)) s.is

  can_take-setup : can_take None (choice_on side SetUp) ≡ true
  can_take-setup = by side (numbered [] (omega arith))
    where
      by : (side : GameSide) → is_numbered (history_with side []) ≡ true → can_take None (choice_on side SetUp) ≡ true
      by Left e = and_from _ _ refl e
      by Right e = and_from _ _ refl e

-- Both sides.

module _ (f : KeyedFn) (key : List ℕ) where
  -- the first pair is taken
  pub is_taken-setup : is_taken f key at_start (pair_by SetUp) ≡ true
  is_taken-setup = and_from _ _ (can_take-setup Left) (and_from _ _ (can_take-setup Right) refl)

  begun : IsRuleGame 0 [] (played f key at_start (pair_by SetUp))
  begun = record {
    left = [];
    right = [];
    are = ap (λ (b : Bool). taken_if b at_start (pair_by SetUp)) is_taken-setup;
    on_left = after-setup Left;
    on_right = after-setup Right;
    count_left = refl;
    count_right = refl;
  }

  module _ (count : ℕ) (added : List ℕ) (left right : List Command) (on_left : IsRuleRun Left added left) (on_right : IsRuleRun Right added right)
      (count_left : length left ≡ count) (count_right : length right ≡ count) (few : count < 2 ^ 29) (c : GameChoice) (is : IsPossible (suc count) added c) where
    abbrev both : Sides
    both = record { left = history_with Left left; right = history_with Right right; skipped = 0 }

    step_left : IsStep Left added left on_left (omega (arith, few, count_left)) c
    step_left = step Left added left on_left _ c (subst (λ (n : ℕ). IsPossible n added c) (let same : suc count ≡ length left + 1 = omega (arith, count_left) in same) is)

    step_right : IsStep Right added right on_right (omega (arith, few, count_right)) c
    step_right = step Right added right on_right _ c (subst (λ (n : ℕ). IsPossible n added c) (let same : suc count ≡ length right + 1 = omega (arith, count_right) in same) is)

    new_mark : (choice : Choice) (command : Command) → choice ≡ Goes (Does command) → has_new_mark f key (history_with Left left) choice ≡ true
    new_mark choice command is = ap (has_new_mark f key (history_with Left left)) is

    taken : is_taken f key both (pair_by c) ≡ true
    taken =
        and_from _ _
        (and_from _ _ (can_take-step Left added left on_left _ c step_left) (can_take-step Right added right on_right _ c step_right))
        (new_mark (choice_on Left c) step_left.command step_left.is)

    gone_on : IsRuleGame (suc count) (added_after added c) (played f key both (pair_by c))
    gone_on = record {
      left = left ++ step_left.command ∷ [];
      right = right ++ step_right.command ∷ [];
      are = ap (λ (b : Bool). taken_if b both (pair_by c)) taken
          ∙ ap (λ (h : History). record { left = h; right = grown both.right (choice_on Right c); skipped = 0 }) (grown-step Left added left on_left _ c step_left)
          ∙ ap (λ (h : History). record { left = history_with Left (left ++ step_left.command ∷ []); right = h; skipped = 0 }) (grown-step Right added right on_right _ c step_right);
      on_left = step_left.kept;
      on_right = step_right.kept;
      count_left = let more = length-push left step_left.command in omega (arith, more, count_left);
      count_right = let more = length-push right step_right.command in omega (arith, more, count_right);
    }

  next_game : (count : ℕ) (added : List ℕ) (s : Sides) → IsRuleGame count added s → count < 2 ^ 29 → (c : GameChoice) → IsPossible (suc count) added c → IsRuleGame (suc count) (added_after added c) (played f key s (pair_by c))
  next_game count added s g few c is =
      subst (λ (now : Sides). IsRuleGame (suc count) (added_after added c) (played f key now (pair_by c))) (sym g.are)
      (gone_on count added g.left g.right g.on_left g.on_right g.count_left g.count_right few c is)

  -- at each turn
  next_at : (seed turns t : ℕ) (added : List ℕ) (s : Sides) (last : List ℕ) (c : GameChoice) → turns ≤ 1000 → IsRuleAt t added s
      → choice_with seed turns t (slice_get added 0) last ≡ Some c → IsRuleAt (suc t) (added_after added c) (played f key s (pair_by c))
  next_at seed turns zero added s last c few at is =
      let setup : SetUp ≡ c = some SetUp c is in
      subst (λ (choice : GameChoice). IsRuleGame 0 (added_after added choice) (played f key s (pair_by choice))) setup
      (subst (λ (now : Sides). IsRuleGame 0 added (played f key now (pair_by SetUp))) (sym at.0)
      (subst (λ (a : List ℕ). IsRuleGame 0 a (played f key at_start (pair_by SetUp))) (sym at.1) begun))
  next_at seed turns (suc count) added s last c few at is =
      let within = some_is_within seed turns (slice_get added 0) last (suc count) c is in
      next_game count added s at (omega (arith, within, few)) c (chosen_is_possible seed turns count added last c is)

  ids_are : (t : ℕ) (added : List ℕ) (s : Sides) → IsRuleAt t added s → above_100 (map (λ d. d.id) (live_of s.left)) ≡ added
  ids_are zero added s at = ap (λ (now : Sides). above_100 (map (λ d. d.id) (live_of now.left))) at.0 ∙ sym at.1
  ids_are (suc count) added s g =
      ap (λ (now : Sides). above_100 (map (λ d. d.id) (live_of now.left))) g.are
      ∙ ap (λ docs. above_100 (map (λ d. d.id) docs)) g.on_left.live
      ∙ ap above_100 (ids-documents Left (live_with added))
      ∙ above_100-live _ added g.on_left.rising

  -- One turn more.

  sides_after-push : (s : Sides) (ts : List Turn) (t : Turn) → sides_after f key s (ts ++ t ∷ []) ≡ answered f key (sides_after f key s ts) t.answer
  sides_after-push s [] t = refl
  sides_after-push s (x ∷ xs) t = sides_after-push (answered f key s x.answer) xs t

  AreChosen-push : (seed turns t : ℕ) (s : Sides) (ts : List Turn) (x : Turn) → AreChosen f key seed turns t s ts
      → x.answer ≡ chosen_at seed turns (t + length ts) (sides_after f key s ts) x.seen → AreChosen f key seed turns t s (ts ++ x ∷ [])
  AreChosen-push seed turns t s [] x are is =
      (subst (λ (n : ℕ). x.answer ≡ chosen_at seed turns n s x.seen) (let same : t + 0 ≡ t = omega arith in same) is, tt)
  AreChosen-push seed turns t s (y ∷ ys) x are is = (
    are.0,
    AreChosen-push seed turns (t + 1) (answered f key s y.answer) ys x are.1
        (subst (λ (n : ℕ). x.answer ≡ chosen_at seed turns n (sides_after f key s (y ∷ ys)) x.seen) (let same : t + length (y ∷ ys) ≡ t + 1 + length ys = omega arith in same) is),
  )

  module _ (r : RuleState) (told : List Turn) (few : r.turns ≤ 1000) (rule : HasRule f key r told) (seen : List (List ℕ)) where
    abbrev now : Sides
    now = sides_after f key at_start told

    abbrev least : Option ℕ
    least = slice_get r.added 0

    abbrev ids : List ℕ
    ids = map (λ d. d.id) (live_of now.left)

    live_is : above_100 ids ≡ r.added
    live_is = ids_are r.turn r.added now rule.sides

    chosen : (c : Option GameChoice) → c ≡ choice_with r.seed r.turns r.turn least (last_text seen) → AreChosen f key r.seed r.turns 0 at_start (told ++ turn seen (option_map pair_by c) ∷ [])
    chosen c is =
        AreChosen-push r.seed r.turns 0 at_start told (turn seen (option_map pair_by c)) rule.chosen
        (ap (option_map pair_by)
        (is
        ∙ alike r.seed r.turns least (last_text seen) r.turn (0 + length told) (let same = rule.turn in omega (arith, same))
        ∙ ap (λ (a : List ℕ). choice_with r.seed r.turns (0 + length told) (slice_get a 0) (last_text seen)) (sym live_is)))

    turned : (c : Option GameChoice) → c ≡ choice_with r.seed r.turns r.turn least (last_text seen) → HasRule f key (state_after r c) (told ++ turn seen (option_map pair_by c) ∷ [])
    turned None is = record {
      chosen = chosen None is;
      turn = let past = none_is_late r.seed r.turns least (last_text seen) r.turn (sym is) in
          let more = length-push told (turn seen None) in
          let same = rule.turn in omega (arith, past, more, same);
      sides = subst (IsRuleAt r.turn r.added) (sym (sides_after-push at_start told (turn seen None))) rule.sides;
    }
    turned (Some c) is = record {
      chosen = chosen (Some c) is;
      turn = let within = some_is_within r.seed r.turns least (last_text seen) r.turn c (sym is) in
          let more = length-push told (turn seen (Some (pair_by c))) in
          let same = rule.turn in omega (arith, within, more, same);
      sides = subst (λ (n : ℕ). IsRuleAt n (added_after r.added c) (sides_after f key at_start (told ++ turn seen (Some (pair_by c)) ∷ []))) (sym (add-one r.turn))
          (subst (IsRuleAt (suc r.turn) (added_after r.added c)) (sym (sides_after-push at_start told (turn seen (Some (pair_by c)))))
          (next_at r.seed r.turns r.turn r.added now (last_text seen) c few rule.sides (sym is)));
    }

    -- the chooser tells one turn more
    pub HasRule-next : (c : Option GameChoice) → ((live : List ℕ) → above_100 live ≡ r.added → c ≡ game_choice r.seed r.turns r.turn live (last_text seen))
        → HasRule f key (state_after r c) (told ++ turn seen (option_map pair_by c) ∷ [])
    HasRule-next c follows = turned c (follows ids live_is ∙ ap (λ (a : List ℕ). choice_with r.seed r.turns r.turn (slice_get a 0) (last_text seen)) live_is)

    pub HasToldRule-next : (past : List Turn) → past ≡ made_with r.seed r.turns ∷ told → (c : Option GameChoice)
        → ((live : List ℕ) → above_100 live ≡ r.added → c ≡ game_choice r.seed r.turns r.turn live (last_text seen))
        → HasToldRule f key (state_after r c) (past ++ turn seen (option_map pair_by c) ∷ [])
    HasToldRule-next past is None follows = record {
      own = told ++ turn seen None ∷ [];
      told_is = ap (λ (ts : List Turn). ts ++ turn seen None ∷ []) is;
      rule = HasRule-next None follows;
    }
    HasToldRule-next past is (Some c) follows = record {
      own = told ++ turn seen (Some (pair_by c)) ∷ [];
      told_is = ap (λ (ts : List Turn). ts ++ turn seen (Some (pair_by c)) ∷ []) is;
      rule = HasRule-next (Some c) follows;
    }

  -- before the first turn
  HasRule-none : (seed turns : ℕ) → HasRule f key (record { seed = seed; turns = turns; turn = 0; added = [] }) []
  HasRule-none seed turns = record { chosen = tt; turn = (let none : 0 ≡ min 0 (turns + 1) = omega arith in none); sides = (refl, refl) }

  pub HasToldRule-none : (seed turns : ℕ) → HasToldRule f key (record { seed = seed; turns = turns; turn = 0; added = [] }) (made_with seed turns ∷ [])
  HasToldRule-none seed turns = record { own = []; told_is = refl; rule = HasRule-none seed turns }

  -- What is known at the end.

  -- a duel that isn't ended by the chooser before has all of its turns
  pub all_turned : (seed turns t most : ℕ) (s : Sides) (ts : List Turn) → AreChosen f key seed turns t s ts → AreOver most ts → t + most ≡ turns + 1 → length ts ≡ most
  all_turned seed turns t most s [] are over sum = sym over
  all_turned seed turns t most s (x ∷ xs) are (inl ended) sum =
      let least = slice_get (above_100 (map (λ d. d.id) (live_of s.left))) 0 in
      let past = none_is_late seed turns least (last_text x.seen) t (none_from _ (sym are.0 ∙ ended.0)) in
      absurd (omega (arith, past, sum, ended.2))
  all_turned seed turns t most s (x ∷ xs) are (inr (pair, rest, answer, more, over)) sum =
      let all = all_turned seed turns (t + 1) rest (answered f key s x.answer) xs are.1 over (omega (arith, sum, more)) in
      omega (arith, all, more)

  pub skipped_none : (t : ℕ) (added : List ℕ) (s : Sides) → IsRuleAt t added s → s.skipped ≡ 0
  skipped_none zero added s at = ap (λ (now : Sides). now.skipped) at.0
  skipped_none (suc count) added s g = ap (λ (now : Sides). now.skipped) g.are

  -- the left history has as many commands as there were turns
  pub commands_left : (count : ℕ) (added : List ℕ) (s : Sides) (es : Epochs) → IsRuleAt (suc count) added s → s.left ≡ Some es → (next_begins es).command ≡ count + 1
  commands_left count added s es g left =
      let same : From at_first (record { setup = game_setup Left; later = g.left }) ≡ es = some _ es (sym (ap (λ (now : Sides). now.left) g.are) ∙ left) in
      let begun = ap (λ (e : Epochs). (next_begins e).command) same in
      let many = g.count_left in
      omega (arith, begun, many)
