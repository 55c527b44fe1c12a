-- A duel after a pair that is taken.
use Rattle.std.proofs.Common.{◌≡◌, ℕ, ◌<◌, ◌^◌, true, List, [], ◌∷◌, ◌++◌, nat_lt, Some, None, sym, ap, ◌∙◌}
use Rattle.std.proofs.lemmas.Bool.{and_parts, ltb-true}
use Rattle.client_registry.specs.Epochs.{next_begins}
use Rattle.client_registry.specs.Run.{Epochs, From, History, at_first}
use Rattle.client_registry.specs.Setup.{Setup}
use Rattle.def_comparison.specs.FirstDifference.{IsFirstDifference}
use Rattle.def_duel.specs.Choices.{Choice, SetsUp, Pair, Sides, accepts_choice, can_take, grown, has_new_mark, is_numbered, is_taken, taken_if}
use Rattle.def_leakage.specs.Histories.{leak_in, draws_in}
use Rattle.keyed_fn.specs.KeyFormulas.{mark_of}
use Rattle.keyed_fn.specs.KeyedFn.{KeyedFn}
use Rattle.sse_simulator.specs.Leaks.{Leak}
use Rattle.sse_game.specs.Game.{IsGame, sides_at}
use Rattle.sse_game.specs.Passing.{HasPassed, IsNext, marks_by, marks_in}
use Rattle.sse_game.specs.Side.{HasTaken, LeaksOther, epochs_at, history_at}
use Rattle.sse_game.specs.declared.game.Game.{Game}
use Rattle.sse_game.specs.declared.shown.Shown.{Shown}
use Rattle.sse_game.specs.declared.side.Side.{Side}
use Rattle.sse_game.proofs.Growing.{draws-grown, marks-grown}
use Rattle.sse_game.proofs.Unequal.{first_difference}

inside : {A : Type 0} (x y : A) → Some x ≡ Some y → x ≡ y
inside x y e = cc

pub accepted : (h : History) (c : Choice) → can_take h c ≡ true → accepts_choice h c ≡ true
accepted h c taken = (and_parts (accepts_choice h c) (is_numbered (grown h c)) taken).0

pub numbered : (h : History) (c : Choice) (es : Epochs) → can_take h c ≡ true → Some es ≡ grown h c → (next_begins es).command < 2 ^ 32
numbered h c es taken after =
    let both : is_numbered (Some es) ≡ true = ap is_numbered after ∙ (and_parts (accepts_choice h c) (is_numbered (grown h c)) taken).1 in
    ltb-true (next_begins es).command (2 ^ 32) (and_parts (nat_lt (next_begins es).command (2 ^ 32)) (nat_lt (next_begins es).frame (2 ^ 32)) both).0

module _ (f : KeyedFn) (key : List ℕ) (s : Sides) (p : Pair) (taken : is_taken f key s p ≡ true) where
  pub on_both : (can_take s.left p.left ≡ true) × (can_take s.right p.right ≡ true)
  on_both = and_parts (can_take s.left p.left) (can_take s.right p.right) (and_parts _ (has_new_mark f key s.left p.left) taken).0

-- what is shown next is of the last command
pub is_next : (f : KeyedFn) (key : List ℕ) (before : History) (c : Choice) (side : Side) (leak : Leak) (shown : Shown) → HasPassed f key before shown → can_take before c ≡ true → HasTaken before c side leak
    → IsNext f key before (epochs_at side) leak shown
is_next f key before c side leak shown passed taken has =
    let own = draws-grown f key before c (accepted before c taken) in
    record { passed = passed; leaks = ap leak_in has.after ∙ has.leaks; drawn = (own.0, ap (λ h. draws_in f key h) has.after ∙ own.1) }

-- both sides leak the same
pub alike : (before other : History) (c d : Choice) (left right : Side) (leak : Leak) → leak_in before ≡ leak_in other → HasTaken before c left leak → HasTaken other d right leak
    → leak_in (history_at left) ≡ leak_in (history_at right)
alike before other c d left right leak same one two =
    ap leak_in one.after ∙ one.leaks ∙ ap (λ ls. ls ++ leak ∷ []) same ∙ sym two.leaks ∙ sym (ap leak_in two.after)

-- or they leak something else
pub unlike : (k : ℕ) (before other : History) (c d : Choice) (left : Side) (leak : Leak) → leak_in before ≡ leak_in other → HasTaken before c left leak → LeaksOther k other d leak
    → IsFirstDifference k (leak_in (grown before c)) (leak_in (grown other d))
unlike k before other c d left leak same one two =
    first_difference k (leak_in other) (leak_in (grown before c)) (leak_in (grown other d)) leak two.own (one.leaks ∙ ap (λ ls. ls ++ leak ∷ []) same) two.leaks two.number two.other

module _ (f : KeyedFn) (key : List ℕ) (old new : Game) (p : Pair) (leak : Leak) (game : IsGame f key old) (taken : is_taken f key (sides_at old) p ≡ true)
    (left : HasTaken (history_at old.left) p.left new.left leak) (right : HasTaken (history_at old.right) p.right new.right leak) where
  pub played_game : new.marks.items ≡ old.marks.items ++ marks_by f p.left → HasPassed f key (history_at new.left) new.shown → IsGame f key new
  played_game marks passed = record {
    left = left.side;
    right = right.side;
    leaks = alike (history_at old.left) (history_at old.right) p.left p.right new.left new.right leak game.leaks left right;
    passed = passed;
    marks =
        marks ∙ ap (λ ms. ms ++ marks_by f p.left) game.marks
        ∙ sym (marks-grown f key (epochs_at old.left) (epochs_at new.left) p.left (accepted (history_at old.left) p.left (on_both f key (sides_at old) p taken).0) left.after);
  }

  pub played_sides : new.skipped ≡ old.skipped → sides_at new ≡ taken_if true (sides_at old) p
  played_sides same = λ i. record { left = left.after i; right = right.after i; skipped = same i }

-- The first pair.

pub is_next_setup : (f : KeyedFn) (key : List ℕ) (s : Setup) (side : Side) (leak : Leak) (shown : Shown) → HasPassed f key None shown → HasTaken None (SetsUp s) side leak → IsNext f key None (epochs_at side) leak shown
is_next_setup f key s side leak shown passed has = record {
  passed = passed;
  leaks = ap leak_in has.after ∙ has.leaks;
  drawn = (_, ap (λ h. draws_in f key h) has.after);
}

pub marks_first : (f : KeyedFn) (key : List ℕ) (s : Setup) (side : Side) (leak : Leak) → HasTaken None (SetsUp s) side leak → marks_in f key (epochs_at side) ≡ mark_of f key ∷ []
marks_first f key s side leak has = ap (marks_in f key) (inside (epochs_at side) (From at_first (record { setup = s; later = [] })) has.after)
