-- The rules of a store, whatever it holds: what commands send, and what a server takes and answers.
use Rattle.std.specs.Prelude.{◌≡◌, ℕ, ◌<◌, Bool, true, List, [], ◌∷◌, ◌++◌, length, slice_get, Some}

-- C are the commands that change what is stored, F the frames, W is what is asked for and A what is answered
pub record Rules (C F W A : Type 0) : Type 0 where
  -- the update frames of these commands, in the order in which they are sent, and the number in one
  pub frames : List C → List F
  pub number : F → ℕ
  -- whether a client of these commands takes one more, and whether it takes a search
  pub accepts : List C → C → Bool
  pub may_search : List C → W → Bool
  -- the frame by which it asks
  pub asks : List C → W → F
  -- whether a server that took these frames takes one more, and what it answers to a search's frame
  pub takes : List F → F → Bool
  pub answer : List F → F → A
  -- whether a client takes that as the answer; else it stops
  pub shows : A → Bool

-- these are the first of those
abbrev pub IsFront : {X : Type 0} → List X → List X → Type 0
IsFront {X} xs ys = (rest : List X) × (xs ++ rest ≡ ys)

module _ {C F W A : Type 0} (rules : Rules C F W A) where
  -- each of these commands after others was accepted after those before it
  abbrev pub AreAcceptedBehind : List C → List C → Type 0
  AreAcceptedBehind past [] = Unit {0}
  AreAcceptedBehind past (c ∷ cs) = (rules.accepts past c ≡ true) × AreAcceptedBehind (past ++ c ∷ []) cs

  abbrev pub AreAccepted : List C → Type 0
  AreAccepted h = AreAcceptedBehind [] h

  -- each of these frames after others is taken by a server that took those before it
  abbrev pub AreTakenBehind : List F → List F → Type 0
  AreTakenBehind past [] = Unit {0}
  AreTakenBehind past (f ∷ fs) = (rules.takes past f ≡ true) × AreTakenBehind (past ++ f ∷ []) fs

  abbrev pub AreTaken : List F → Type 0
  AreTaken taken = AreTakenBehind [] taken

  -- the frames of accepted commands are numbered from 0 without a gap; one command more has one frame more at least, behind those before;
  -- and a server takes the frame of the next number alone
  pub record AreNumbered : Type 0 where
    pub none : rules.frames [] ≡ []
    pub grows : (h : List C) (c : C) → AreAccepted h → rules.accepts h c ≡ true → IsFront (rules.frames h) (rules.frames (h ++ c ∷ []))
    pub some : (h : List C) (c : C) → AreAccepted h → rules.accepts h c ≡ true → length (rules.frames h) < length (rules.frames (h ++ c ∷ []))
    pub numbered : (h : List C) (i : ℕ) (f : F) → AreAccepted h → slice_get (rules.frames h) i ≡ Some f → rules.number f ≡ i
    pub next : (taken : List F) (f : F) → AreTaken taken → rules.takes taken f ≡ true → rules.number f ≡ length taken
