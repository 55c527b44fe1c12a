-- The turns of a duel: what the adversary is shown at each, and what it answers.
use Rattle.std.specs.Prelude.{◌≡◌, ◌⊎◌, ℕ, ◌+◌, ◌<◌, List, [], ◌∷◌, map, Option, None, Some}
use Rattle.client_registry.specs.Run.{History}
use Rattle.keyed_fn.specs.KeyedFn.{KeyedFn}
use Rattle.leakage_frames.specs.Steps.{passed_bytes}
use Rattle.sse_model.specs.Transcript.{session}
use Rattle.def_duel.specs.Choices.{Pair, Sides, played}

-- the texts that were shown, and the answer: a pair, or none to end the duel
pub record Turn : Type 0 where
  pub seen : List (List ℕ)
  pub answer : Option Pair

abbrev pub turn : List (List ℕ) → Option Pair → Turn
turn seen answer = record { seen = seen; answer = answer }

-- the sides after an answer, and after turns
abbrev pub answered : KeyedFn → (key : List ℕ) → Sides → Option Pair → Sides
answered f key s None = s
answered f key s (Some p) = played f key s p

abbrev pub sides_after : KeyedFn → (key : List ℕ) → Sides → List Turn → Sides
sides_after f key s [] = s
sides_after f key s (t ∷ ts) = sides_after f key (answered f key s t.answer) ts

-- the texts of all that passes for a history under a key, the greeting included
abbrev pub texts_of : KeyedFn → (key : List ℕ) → History → List (List ℕ)
texts_of f key h = map passed_bytes (session f key h)

-- each turn was shown all that had passed for the left history
abbrev pub AreShown : KeyedFn → (key : List ℕ) → Sides → List Turn → Type 0
AreShown f key s [] = Unit {0}
AreShown f key s (t ∷ ts) = (t.seen ≡ texts_of f key s.left) × AreShown f key (answered f key s t.answer) ts

-- there are so many turns, and each was answered by a pair
abbrev pub AreAnswered : (count : ℕ) → List Turn → Type 0
AreAnswered count [] = count ≡ 0
AreAnswered count (t ∷ ts) = (p : Pair) × (rest : ℕ) × (t.answer ≡ Some p) × (count ≡ rest + 1) × AreAnswered rest ts

-- the turns ended by an answer that is no pair, which is the last, or there were as many as this and each was answered by a pair
abbrev pub AreOver : (most : ℕ) → List Turn → Type 0
AreOver most [] = most ≡ 0
AreOver most (t ∷ ts) = ((t.answer ≡ None) × (ts ≡ []) × (0 < most)) ⊎ ((p : Pair) × (rest : ℕ) × (t.answer ≡ Some p) × (most ≡ rest + 1) × AreOver rest ts)
