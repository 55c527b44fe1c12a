-- All that passes for a history, made command by command.
use Rattle.std.specs.Prelude.{◌≡◌, ◌≢◌, ℕ, List, [], ◌∷◌, ◌++◌, length, map, Option, None, Some, IfSome}
use Rattle.client_registry.specs.Epochs.{Does, Renews, joined}
use Rattle.client_registry.specs.Run.{History, Epochs}
use Rattle.def_duel.specs.Choices.{Choice, SetsUp, Goes}
use Rattle.def_leakage.specs.Histories.{leak_in, draws_in}
use Rattle.keyed_fn.specs.KeyFormulas.{mark_of}
use Rattle.keyed_fn.specs.KeyedFn.{KeyedFn}
use Rattle.leakage_frames.specs.MadeFrames.{HasRun}
use Rattle.leakage_frames.specs.Steps.{step}
use Rattle.leakage_frames.specs.Views.{draw_view}
use Rattle.leakage_frames.specs.declared.leak.Draw.{Draw as Drawn}
use Rattle.sse_simulator.specs.Leaks.{Draw, Leak}
use Rattle.sse_game.specs.declared.shown.Shown.{Shown}

-- these texts passed for a history, and this is the simulator after them
pub record HasPassed (f : KeyedFn) (key : List ℕ) (h : History) (shown : Shown) : Type 0 where
  pub level : length (draws_in f key h) ≡ length (leak_in h)
  pub run : HasRun (length (leak_in h)) (leak_in h) (draws_in f key h) shown.seen shown.sim

-- what passes for a command that leaks and draws this was appended
pub record HasShown (leak : Leak) (draws : List Draw) (old new : Shown) : Type 0 where
  pub more : List (List ℕ)
  pub made : step old.sim leak draws ≡ Some (more, new.sim)
  pub seen : new.seen ≡ old.seen ++ more

-- something passes for a command that leaks this and draws what comes last
abbrev pub MakesLast : Leak → List (List Draw) → Shown → Type 0
MakesLast leak all shown = (front : List (List Draw)) × (own : List Draw) × (all ≡ front ++ own ∷ []) × (step shown.sim leak own ≢ None)

-- this is what the last command of a history leaks, and these texts passed for those before it
pub record IsNext (f : KeyedFn) (key : List ℕ) (before : History) (es : Epochs) (leak : Leak) (shown : Shown) : Type 0 where
  pub passed : HasPassed f key before shown
  pub leaks : leak_in (Some es) ≡ leak_in before ++ leak ∷ []
  pub drawn : (own : List Draw) × (draws_in f key (Some es) ≡ draws_in f key before ++ own ∷ [])

-- the last command of a history draws this, if it is known
abbrev pub DrawsLast : KeyedFn → (key : List ℕ) → (before after : History) → Option (List Drawn) → Type 0
DrawsLast f key before after drawn = IfSome drawn (λ own. draws_in f key after ≡ draws_in f key before ++ map draw_view own ∷ [])

-- the marks of the keys of epochs
abbrev pub marks_in : KeyedFn → (key : List ℕ) → Epochs → List (List ℕ)
marks_in f key es = joined (λ own o run. mark_of f own ∷ []) key es

-- the mark of the key of a renewal; other commands have none
abbrev pub marks_by : KeyedFn → Choice → List (List ℕ)
marks_by f (SetsUp s) = []
marks_by f (Goes (Does c)) = []
marks_by f (Goes (Renews own)) = mark_of f own ∷ []
