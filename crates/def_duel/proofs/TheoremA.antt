-- At each step of a duel whose sides leak the same in the end, what is seen tells nothing but the leakage, and the relabelled table of
-- that step is a restriction of the last one.
use Rattle.std.proofs.Common.{◌≡◌, ℕ, ◌+◌, Bool, true, false, List, [], ◌∷◌, ◌++◌, length, refl, sym, ap, ◌∙◌, subst, arith, Some, None}
use Rattle.std.proofs.lemmas.Bool.{true≢false, and_parts}
use Rattle.std.proofs.lemmas.List.{length-append}
use Rattle.client_registry.proofs.HistoryLaws.{IsKept-first, IsFirstOf-same, IsFirstOf-trans, joined-longer}
use Rattle.client_registry.specs.Command.{Command}
use Rattle.client_registry.specs.Epochs.{Does, Renews, first_begins, with_commands}
use Rattle.client_registry.specs.Histories.{IsKept, IsFirstOf, IsWhole}
use Rattle.client_registry.specs.Over.{over}
use Rattle.client_registry.specs.Run.{Epochs, From, Renewed, History}
use Rattle.def_leakage.proofs.Fronts.{leak_in-first, leak-append}
use Rattle.def_leakage.proofs.Sessions.{session_is_simulated}
use Rattle.def_leakage.specs.CommandLeaks.{leak_by, leak}
use Rattle.def_leakage.specs.Histories.{leak_in}
use Rattle.def_relabelling.proofs.Histories.{session_relabelled}
use Rattle.def_relabelling.proofs.Pairs.{heads, tails, fewer}
use Rattle.def_relabelling.specs.Histories.{relabelled_from}
use Rattle.keyed_fn.specs.KeyedFn.{KeyedFn, IsKeyedFn}
use Rattle.sse_model.specs.Transcript.{session}
use Rattle.def_duel.proofs.GrownEpochs.{relabelled_from-first}
use Rattle.def_duel.specs.Choices.{Choice, SetsUp, Goes, Pair, Sides, at_start, grown, accepts_choice, is_numbered, can_take, has_new_mark, is_taken, taken_if, played, played_all}
use Rattle.def_duel.specs.Telling.{AgreeAtNames, TellsNothingElse}

same_front : {A : Type 0} (xs us ys vs : List A) → length xs ≡ length us → xs ++ ys ≡ us ++ vs → xs ≡ us
same_front [] [] ys vs even e = refl
same_front [] (u ∷ us) ys vs even e = absurd (omega (arith, even))
same_front (x ∷ xs) [] ys vs even e = absurd (omega (arith, even))
same_front (x ∷ xs) (u ∷ us) ys vs even e =
    λ i. heads x u (xs ++ ys) (us ++ vs) e i ∷ same_front xs us ys vs (fewer (length xs) (length us) even) (tails x u (xs ++ ys) (us ++ vs) e) i

-- A history with a command more.

-- it is the first part of it
pub first-grown : (h : History) (c : Choice) → accepts_choice h c ≡ true → IsFirstOf h (grown h c)
first-grown None c ok = tt
first-grown (Some es) (SetsUp s) ok = absurd (true≢false (sym ok))
first-grown (Some es) (Goes step) ok = (step ∷ [], refl)

first_begins-with_commands : (cs : List Command) (es : Epochs) → first_begins (with_commands cs es) ≡ first_begins es
first_begins-with_commands cs (From o run) = refl
first_begins-with_commands cs (Renewed before key run) = refl

-- it is whole if the history is
pub whole-grown : (h : History) (c : Choice) → IsWhole h → IsWhole (grown h c)
whole-grown h (SetsUp s) whole = refl
whole-grown None (Goes step) whole = tt
whole-grown (Some es) (Goes (Does c)) whole = first_begins-with_commands (c ∷ []) es ∙ whole
whole-grown (Some es) (Goes (Renews key)) whole = whole

-- and leaks one item more
pub leaks-grown : (h : History) (c : Choice) → accepts_choice h c ≡ true → length (leak_in (grown h c)) ≡ length (leak_in h) + 1
leaks-grown None (SetsUp s) ok = refl
leaks-grown None (Goes step) ok = absurd (true≢false (sym ok))
leaks-grown (Some es) (SetsUp s) ok = absurd (true≢false (sym ok))
leaks-grown (Some es) (Goes (Does c)) ok =
    ap length (joined-longer (λ key o run. leak o run) (λ key o run cs. over (leak_by o run.setup) run.later cs) (λ key o run cs. leak-append o run cs) [] es (c ∷ []))
    ∙ length-append (leak_in (Some es)) _
leaks-grown (Some es) (Goes (Renews key)) ok = length-append (leak_in (Some es)) _

-- Sides.

-- they begin at no frame before the first, and leak equally many items
pub record AreLevel (s : Sides) : Type 0 where
  pub left : IsWhole s.left
  pub right : IsWhole s.right
  pub leaks : length (leak_in s.left) ≡ length (leak_in s.right)

pub level-start : AreLevel at_start
level-start = record { left = tt; right = tt; leaks = refl }

abbrev pub AreKept : Sides → Type 0
AreKept s = IsKept s.left × IsKept s.right

abbrev pub IsBefore : Sides → Sides → Type 0
IsBefore s t = IsFirstOf s.left t.left × IsFirstOf s.right t.right

module _ (f : KeyedFn) (key : List ℕ) where
  pub played_all-append : (s : Sides) (ps qs : List Pair) → played_all f key s (ps ++ qs) ≡ played_all f key (played_all f key s ps) qs
  played_all-append s [] qs = refl
  played_all-append s (p ∷ ps) qs = played_all-append (played f key s p) ps qs

  -- a pair that is taken is accepted by both
  module _ (s : Sides) (p : Pair) (taken : is_taken f key s p ≡ true) where
    both : (can_take s.left p.left ≡ true) × (can_take s.right p.right ≡ true)
    both = and_parts (can_take s.left p.left) (can_take s.right p.right) (and_parts _ (has_new_mark f key s.left p.left) taken).0

    accepted_left : accepts_choice s.left p.left ≡ true
    accepted_left = (and_parts (accepts_choice s.left p.left) (is_numbered (grown s.left p.left)) both.0).0

    accepted_right : accepts_choice s.right p.right ≡ true
    accepted_right = (and_parts (accepts_choice s.right p.right) (is_numbered (grown s.right p.right)) both.1).0

  level_if : (b : Bool) (s : Sides) (p : Pair) → is_taken f key s p ≡ b → AreLevel s → AreLevel (taken_if b s p)
  level_if true s p is level = record {
    left = whole-grown s.left p.left level.left;
    right = whole-grown s.right p.right level.right;
    leaks = leaks-grown s.left p.left (accepted_left s p is) ∙ ap (λ n. n + 1) level.leaks ∙ sym (leaks-grown s.right p.right (accepted_right s p is));
  }
  level_if false s p is level = record { left = level.left; right = level.right; leaks = level.leaks }

  pub level_all : (s : Sides) (ps : List Pair) → AreLevel s → AreLevel (played_all f key s ps)
  level_all s [] level = level
  level_all s (p ∷ ps) level = level_all (played f key s p) ps (level_if (is_taken f key s p) s p refl level)

  before_if : (b : Bool) (s : Sides) (p : Pair) → is_taken f key s p ≡ b → IsBefore s (taken_if b s p)
  before_if true s p is = (first-grown s.left p.left (accepted_left s p is), first-grown s.right p.right (accepted_right s p is))
  before_if false s p is = (IsFirstOf-same s.left, IsFirstOf-same s.right)

  pub before_all : (s : Sides) (ps : List Pair) → IsBefore s (played_all f key s ps)
  before_all s [] = (IsFirstOf-same s.left, IsFirstOf-same s.right)
  before_all s (p ∷ ps) =
      let next = played f key s p in
      let one = before_if (is_taken f key s p) s p refl in
      let rest = before_all next ps in (
        IsFirstOf-trans s.left next.left (played_all f key next ps).left one.0 rest.0,
        IsFirstOf-trans s.right next.right (played_all f key next ps).right one.1 rest.1,
      )

-- equal leakage in the end is equal leakage before
pub leaks_before : (s end : Sides) → IsBefore s end → AreLevel s → leak_in end.left ≡ leak_in end.right → leak_in s.left ≡ leak_in s.right
leaks_before s end before level leaks =
    let one = leak_in-first s.left end.left before.0 in
    let two = leak_in-first s.right end.right before.1 in
    same_front (leak_in s.left) (leak_in s.right) one.0 two.0 level.leaks (sym one.1 ∙ leaks ∙ two.1)

-- What is seen.

module _ (f : KeyedFn) (laws : IsKeyedFn f) (key : List ℕ) where
  pub tells_nothing_else : (s : Sides) → AreLevel s → AreKept s → leak_in s.left ≡ leak_in s.right → TellsNothingElse f key s.left s.right (session f key s.left)
  tells_nothing_else s level kept leaks = record {
    is = refl;
    made = session_is_simulated f key s.left level.left kept.0;
    moved = session_relabelled f laws key s.left s.right level.left level.right kept.0 kept.1 leaks;
  }

  module _ (start : Sides) (level : AreLevel start) (ps qs : List Pair) (kept : AreKept (played_all f key start (ps ++ qs)))
      (leaks : leak_in (played_all f key start (ps ++ qs)).left ≡ leak_in (played_all f key start (ps ++ qs)).right) where
    abbrev now : Sides
    now = played_all f key start ps

    abbrev end : Sides
    end = played_all f key start (ps ++ qs)

    now_before : IsBefore now end
    now_before = subst (IsBefore now) (sym (played_all-append f key start ps qs)) (before_all f key now qs)

    level_now : AreLevel now
    level_now = level_all f key start ps level

    level_end : AreLevel end
    level_end = level_all f key start (ps ++ qs) level

    leaks_now : leak_in now.left ≡ leak_in now.right
    leaks_now = leaks_before now end now_before level_now leaks

    kept_now : AreKept now
    kept_now = (IsKept-first now.left end.left now_before.0 kept.0, IsKept-first now.right end.right now_before.1 kept.1)

    -- Promise P314, also here
    -- before each choice what is seen tells nothing but the leakage
    pub theorem_a : TellsNothingElse f key now.left now.right (session f key now.left)
    theorem_a = tells_nothing_else now level_now kept_now leaks_now

    -- Promise P315, also here
    -- and the relabelled table of that step agrees with the last one at the names of the right history so far
    pub theorem_a_moved : AgreeAtNames now.right (relabelled_from f key now.left now.right) (relabelled_from f key end.left end.right)
    theorem_a_moved =
        relabelled_from-first f key now.left now.right end.left end.right now_before.0 now_before.1 level_end.left level_end.right level_now.left level_now.right
        kept.0 kept.1 leaks_now leaks
