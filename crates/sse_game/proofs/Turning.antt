-- Turns in a row, and what each of them tells.
use Rattle.std.proofs.Common.{◌≡◌, ℕ, ◌+◌, ◌-◌, ◌<◌, ◌≤◌, Bool, true, false, List, [], ◌∷◌, ◌++◌, refl, sym, ap, ◌∙◌, subst, arith, append_assoc, inl, inr, Some, None}
use Rattle.std.specs.Prelude.{Option, is_some}
use Rattle.std.proofs.lemmas.Bool.{true≢false}
use Rattle.std.proofs.lemmas.List.{append-nil}
use Rattle.def_duel.proofs.TurnsTell.{turn_table_stays, turn_tells_nothing_else}
use Rattle.def_duel.proofs.TheoremA.{AreKept}
use Rattle.def_duel.specs.Choices.{Pair, Sides, at_start, is_taken, taken_if, played}
use Rattle.def_duel.specs.Duels.{DiffersAt, HasDuelled, HasTurned, told_more}
use Rattle.def_duel.specs.Telling.{AgreeAtNames}
use Rattle.def_duel.specs.Turns.{Turn, turn, answered, sides_after, texts_of, AreAnswered, AreOver, AreShown}
use Rattle.def_leakage.specs.Histories.{leak_in}
use Rattle.def_relabelling.specs.Histories.{relabelled_from}
use Rattle.keyed_fn.specs.KeyedFn.{KeyedFn, IsKeyedFn}
use Rattle.sse_game.specs.Played.{EndsUnequal, HasBegun, IsBegun, IsDuel, IsPlayed, TellAlone}

told_both : (old : Option (List Turn)) (xs ys : List Turn) → told_more (told_more old xs) ys ≡ told_more old (xs ++ ys)
told_both None xs ys = refl
told_both (Some zs) xs ys = ap Some (append_assoc zs xs ys)

few_if : (b : Bool) (s : Sides) (p : Pair) → (taken_if b s p).skipped ≤ s.skipped + 1
few_if true s p = omega arith
few_if false s p = omega arith

answered-push : (count : ℕ) (ts : List Turn) (t : Turn) (p : Pair) → AreAnswered count ts → t.answer ≡ Some p → AreAnswered (count + 1) (ts ++ t ∷ [])
answered-push count [] t p are is = (p, 0, is, omega (arith, are), refl)
answered-push count (x ∷ xs) t p (own, rest, here, number, are) is = (own, rest + 1, here, omega (arith, number), answered-push rest xs t p are is)

over-push : (count most : ℕ) (ts : List Turn) (t : Turn) → AreAnswered count ts → t.answer ≡ None → count < most → AreOver most (ts ++ t ∷ [])
over-push count most [] t are is less = inl (is, refl, omega (arith, are, less))
over-push count most (x ∷ xs) t (own, rest, here, number, are) is less = inr (own, most - 1, here, omega (arith, less), over-push rest (most - 1) xs t are is (omega (arith, number, less)))

over-all : (count : ℕ) (ts : List Turn) → AreAnswered count ts → AreOver count ts
over-all count [] are = are
over-all count (x ∷ xs) (own, rest, here, number, are) = inr (own, rest, here, number, over-all rest xs are)

module _ (f : KeyedFn) (key : List ℕ) where
  shown-push : (s : Sides) (ts : List Turn) (t : Turn) → AreShown f key s ts → t.seen ≡ texts_of f key (sides_after f key s ts).left → AreShown f key s (ts ++ t ∷ [])
  shown-push s [] t are is = (is, tt)
  shown-push s (x ∷ xs) t are is = (are.0, shown-push (answered f key s x.answer) xs t are.1 is)

  sides-push : (s : Sides) (ts : List Turn) (t : Turn) → sides_after f key s (ts ++ t ∷ []) ≡ answered f key (sides_after f key s ts) t.answer
  sides-push s [] t = refl
  sides-push s (x ∷ xs) t = sides-push (answered f key s x.answer) xs t

  begun-push : (ts : List Turn) (t : Turn) → IsBegun f key ts → IsBegun f key (ts ++ t ∷ [])
  begun-push [] t begun = absurd begun
  begun-push (x ∷ xs) t begun = begun

  -- What the turns of a duel tell.

  tell_alone : IsKeyedFn f → (most : ℕ) (old new : Option (List Turn)) (end : Sides) (duel : HasDuelled f key most old new end) → TellAlone f key duel.turns end
  tell_alone laws most old new end duel before after t is =
      let there : end ≡ sides_after f key at_start (before ++ t ∷ after) = duel.sides ∙ ap (sides_after f key at_start) is in
      let kept : AreKept (sides_after f key at_start (before ++ t ∷ after)) = subst AreKept there (duel.goes_on.left, duel.goes_on.right) in
      let leaks : leak_in (sides_after f key at_start (before ++ t ∷ after)).left ≡ leak_in (sides_after f key at_start (before ++ t ∷ after)).right =
      subst (λ (s : Sides). leak_in s.left ≡ leak_in s.right) there duel.goes_on.leaks in
      record {
        shown = turn_tells_nothing_else f laws key before after t (subst (AreShown f key at_start) is duel.shown) kept leaks;
        table =
            subst (λ (s : Sides). AgreeAtNames (sides_after f key at_start before).right (relabelled_from f key (sides_after f key at_start before).left (sides_after f key at_start before).right) (relabelled_from f key s.left s.right))
            (sym there) (turn_table_stays f laws key before (t ∷ after) kept leaks);
      }

  -- The first turn.

  pub first_turn : (old now : Option (List Turn)) (s : Sides) → s.skipped ≡ 0 → HasBegun f key old now s → IsPlayed f key 1 old now s
  first_turn old now s none begun = record {
    played = record {
      turns = turn (texts_of f key None) (Some begun.pair) ∷ [];
      told = begun.told;
      shown = (refl, tt);
      answered = (begun.pair, 0, refl, refl, refl);
      few = omega (arith, none);
      sides = begun.sides ∙ ap (λ b. taken_if b at_start begun.pair) (sym begun.taken);
      goes_on = begun.goes_on;
    };
    begun = (begun.pair, refl, begun.taken);
  }

  pub unequal_first : (old new : Option (List Turn)) (k : ℕ) → DiffersAt f key old new at_start k → EndsUnequal f key old new k
  unequal_first old new k differs = record {
    differed = record {
      turns = [];
      before = old;
      told = nothing old;
      shown = tt;
      same = refl;
      last = differs;
    };
    begun = (differs.pair, refl, differs.taken);
  }
    where
      nothing : (old : Option (List Turn)) → old ≡ told_more old []
      nothing None = refl
      nothing (Some xs) = ap Some (sym (append-nil xs))

  -- A turn more.

  module _ (count : ℕ) (old now new : Option (List Turn)) (s : Sides) (so_far : IsPlayed f key count old now s) where
    abbrev turns : List Turn
    turns = so_far.played.turns

    is_shown : texts_of f key s.left ≡ texts_of f key (sides_after f key at_start turns).left
    is_shown = ap (λ (x : Sides). texts_of f key x.left) so_far.played.sides

    pub one_more : (next : Sides) → HasTurned f key now new s next true → IsPlayed f key (count + 1) old new next
    one_more next turned = by turned.answer refl
      where
        by : (answer : Option Pair) → turned.answer ≡ answer → IsPlayed f key (count + 1) old new next
        by None is = absurd (true≢false (turned.given ∙ ap is_some is))
        by (Some p) is =
            let t : Turn = turn (texts_of f key s.left) (Some p) in
            let sides : next ≡ played f key s p = turned.sides ∙ ap (answered f key s) is in
            record {
              played = record {
                turns = turns ++ t ∷ [];
                told = turned.told ∙ ap (λ a. told_more now (turn (texts_of f key s.left) a ∷ [])) is ∙ ap (λ o. told_more o (t ∷ [])) so_far.played.told ∙ told_both old turns (t ∷ []);
                shown = shown-push at_start turns t so_far.played.shown is_shown;
                answered = answered-push count turns t p so_far.played.answered refl;
                few = omega (arith, so_far.played.few, ap (λ (x : Sides). x.skipped) sides, few_if (is_taken f key s p) s p);
                sides = sides ∙ ap (λ x. played f key x p) so_far.played.sides ∙ sym (sides-push at_start turns t);
                goes_on = turned.goes_on;
              };
              begun = begun-push turns t so_far.begun;
            }

    pub last_turn : (most : ℕ) (next : Sides) → IsKeyedFn f → count < most → HasTurned f key now new s next false → IsDuel f key most old new next
    last_turn most next laws less turned = by turned.answer refl
      where
        by : (answer : Option Pair) → turned.answer ≡ answer → IsDuel f key most old new next
        by (Some p) is = absurd (true≢false (sym (turned.given ∙ ap is_some is)))
        by None is =
            let t : Turn = turn (texts_of f key s.left) None in
            let duelled : HasDuelled f key most old new next = record {
              turns = turns ++ t ∷ [];
              told = turned.told ∙ ap (λ a. told_more now (turn (texts_of f key s.left) a ∷ [])) is ∙ ap (λ o. told_more o (t ∷ [])) so_far.played.told ∙ told_both old turns (t ∷ []);
              shown = shown-push at_start turns t so_far.played.shown is_shown;
              over = over-push count most turns t so_far.played.answered refl less;
              sides = turned.sides ∙ ap (answered f key s) is ∙ so_far.played.sides ∙ sym (sides-push at_start turns t);
              goes_on = turned.goes_on;
            } in
            record { duelled = duelled; begun = begun-push turns t so_far.begun; tells = tell_alone laws most old new next duelled }

    pub all_turns : IsKeyedFn f → new ≡ now → IsDuel f key count old new s
    all_turns laws same =
        let duelled : HasDuelled f key count old new s = record {
          turns = turns;
          told = same ∙ so_far.played.told;
          shown = so_far.played.shown;
          over = over-all count turns so_far.played.answered;
          sides = so_far.played.sides;
          goes_on = so_far.played.goes_on;
        } in
        record { duelled = duelled; begun = so_far.begun; tells = tell_alone laws count old new s duelled }

    pub unequal : (k : ℕ) → DiffersAt f key now new s k → EndsUnequal f key old new k
    unequal k differs =
        let there : DiffersAt f key now new (sides_after f key at_start turns) k = subst (λ x. DiffersAt f key now new x k) so_far.played.sides differs in
        record {
          differed = record {
            turns = turns;
            before = now;
            told = so_far.played.told;
            shown = so_far.played.shown;
            same = ap (λ (x : Sides). leak_in x.left) (sym so_far.played.sides) ∙ so_far.played.goes_on.leaks ∙ ap (λ (x : Sides). leak_in x.right) so_far.played.sides;
            last = there;
          };
          begun = begun-push turns (turn (texts_of f key (sides_after f key at_start turns).left) (Some there.pair)) so_far.begun;
        }
