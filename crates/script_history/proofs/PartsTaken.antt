-- The lines of the first of two scripts, as lines are taken from both.
use Rattle.std.proofs.Common.{◌≡◌, ℕ, ◌+◌, ◌^◌, Bool, true, false, List, [], ◌∷◌, length, refl, sym, ap, subst, ◌∙◌}
use Rattle.std.specs.Prelude.{Option, None, Some, Result, Ok, Err, IfErr, IfOk, IfSome, option_map, if◌then◌else◌}
use Rattle.std.proofs.lemmas.Bool.{lt-ltb}
use Rattle.script_run_texts.proofs.TwinLines.{is_twin_line-long, line_of-twin}
use Rattle.script_run_texts.specs.Causes.{KeepsSource, SourceCause}
use Rattle.script_run_texts.specs.Twins.{is_twin_line}
use Rattle.script_run_texts.specs.declared.stop_cause.StopCause.{StopCause}
use Rattle.sse_script.specs.Lines as read
use Rattle.sse_script.specs.Lines.{line_of}
use Rattle.sse_script.specs.TextLines.{TakesLine, SkipsLine}
use Rattle.def_script_meaning.proofs.Steps.{IsBadFirst}
use Rattle.def_script_meaning.specs.Lines.{line_in}
use Rattle.sse_script.specs.Shown.{BadLine}
use Rattle.script_history.specs.Reads.{Stopped, ReadsFirstFrom}
use Rattle.script_history.specs.TwoScripts.{EndsPart, before_twin, behind_twin, first_left, behind_left}
use Rattle.script_history.specs.Turns.{IsElsewhere, IsTurnAt, OnLine, PartsOn}
use Rattle.script_history.specs.declared.lines.Turn.{Turn}
use Rattle.script_history.specs.declared.lines.Turn.TheVariants.{Next, End}
use Rattle.script_history.proofs.ReadingGoesOn.{GoesOnFirst, elsewhere-steady, opening-bad, opening-end}

-- One text.

-- a line of a script isn't the line between two
pub no_twin : (text : List ℕ) (line : read.Line) → Some line ≡ line_of text → is_twin_line text ≡ false
no_twin text line e = by (is_twin_line text) refl
  where
    by : (b : Bool) → is_twin_line text ≡ b → b ≡ false
    by true is = let no : Some line ≡ None = e ∙ line_of-twin text is in absurd (cc)
    by false is = refl

before-other : (b : Bool) (text : List ℕ) (texts : List (List ℕ)) → b ≡ false → (if b then [] else text ∷ before_twin texts) ≡ text ∷ before_twin texts
before-other b text texts e = ap (λ b. if b then [] else text ∷ before_twin texts) e

behind-other : (b : Bool) (texts : List (List ℕ)) → b ≡ false → (if b then Some texts else behind_twin texts) ≡ behind_twin texts
behind-other b texts e = ap (λ b. if b then Some texts else behind_twin texts) e

before-none : (b : Bool) (text : List ℕ) (texts : List (List ℕ)) → b ≡ true → (if b then [] else text ∷ before_twin texts) ≡ []
before-none b text texts e = ap (λ b. if b then [] else text ∷ before_twin texts) e

behind-all : (b : Bool) (texts : List (List ℕ)) → b ≡ true → (if b then Some texts else behind_twin texts) ≡ Some texts
behind-all b texts e = ap (λ b. if b then Some texts else behind_twin texts) e

-- What is left.

module _ (text : List ℕ) (behind : Option (List (List ℕ))) where
  abbrev with_text : Option (List (List ℕ))
  with_text = option_map (λ lines. text ∷ lines) behind

  -- with a line that isn't the one between two scripts
  pub first-next : is_twin_line text ≡ false → first_left with_text ≡ option_map (λ lines. text ∷ lines) (first_left behind)
  first-next other = of behind
    where
      of : (b : Option (List (List ℕ))) → first_left (option_map (λ lines. text ∷ lines) b) ≡ option_map (λ lines. text ∷ lines) (first_left b)
      of None = refl
      of (Some texts) = ap (λ ts. Some ts) (before-other (is_twin_line text) text texts other)

  behind-next : is_twin_line text ≡ false → behind_left with_text ≡ behind_left behind
  behind-next other = of behind
    where
      of : (b : Option (List (List ℕ))) → behind_left (option_map (λ lines. text ∷ lines) b) ≡ behind_left b
      of None = refl
      of (Some texts) = ap (λ o. Some o) (behind-other (is_twin_line text) texts other)

  -- and with the one that is
  pub first-none : is_twin_line text ≡ true → IfSome (first_left with_text) (λ lines. lines ≡ [])
  first-none is = of behind
    where
      of : (b : Option (List (List ℕ))) → IfSome (first_left (option_map (λ lines. text ∷ lines) b)) (λ lines. lines ≡ [])
      of None = tt
      of (Some texts) = before-none (is_twin_line text) text texts is

  behind-rest : is_twin_line text ≡ true → behind_left with_text ≡ option_map (λ lines. Some lines) behind
  behind-rest is = of behind
    where
      of : (b : Option (List (List ℕ))) → behind_left (option_map (λ lines. text ∷ lines) b) ≡ option_map (λ lines. Some lines) b
      of None = refl
      of (Some texts) = ap (λ o. Some o) (behind-all (is_twin_line text) texts is)

module _ (left behind : Option (List (List ℕ))) where
  module _ (text : List ℕ) (taken : TakesLine left behind text) where
    pub taken-first : is_twin_line text ≡ false → TakesLine (first_left left) (first_left behind) text
    taken-first other = ap first_left taken ∙ first-next text behind other

    pub taken-behind : is_twin_line text ≡ false → behind_left left ≡ behind_left behind
    taken-behind other = ap behind_left taken ∙ behind-next text behind other

    pub ended-first : is_twin_line text ≡ true → IfSome (first_left left) (λ lines. lines ≡ [])
    ended-first is = subst (λ l. IfSome (first_left l) (λ lines. lines ≡ [])) (sym taken) (first-none text behind is)

    pub ended-behind : is_twin_line text ≡ true → behind_left left ≡ option_map (λ lines. Some lines) behind
    ended-behind is = ap behind_left taken ∙ behind-rest text behind is

  -- a line that is too long
  pub skipped-first : SkipsLine left behind → SkipsLine (first_left left) (first_left behind)
  skipped-first long = record {
    long = long.long;
    above = long.above;
    skipped = taken-first long.long long.skipped (is_twin_line-long long.long (lt-ltb (2 ^ 19) (length long.long) long.above));
  }

-- no line is left
pub none-first : (left : Option (List (List ℕ))) → IfSome left (λ lines. lines ≡ []) → IfSome (first_left left) (λ lines. lines ≡ [])
none-first None none = tt
none-first (Some texts) none = ap before_twin none

pub none-behind : (left : Option (List (List ℕ))) → IfSome left (λ lines. lines ≡ []) → IfSome left (λ lines. behind_twin lines ≡ None)
none-behind None none = tt
none-behind (Some texts) none = ap behind_twin none

-- before the key line: a bad line, be it the one between two scripts
pub opening-wrong : (mark : Option (List ℕ → List ℕ)) (first : ℕ) (all : Option (List (List ℕ))) (number : ℕ) (left behind : Option (List (List ℕ))) → GoesOnFirst mark first all (number + 1) (first_left left) → (text : List ℕ) → TakesLine left behind text
    → (now : Option (List ℕ)) (m : ℕ) → IsBadFirst (line_in text) → m ≡ number + 1 → ReadsFirstFrom mark first all now now (Stopped (Some (BadLine m)))
opening-wrong mark first all number left behind on text taken now m bad counted = by (is_twin_line text) refl
  where
    by : (b : Bool) → is_twin_line text ≡ b → ReadsFirstFrom mark first all now now (Stopped (Some (BadLine m)))
    by true is = opening-end mark first all number (first_left left) on now m (ended-first left behind text taken is) counted
    by false is = opening-bad mark first all number (first_left left) on (first_left behind) text (taken-first left behind text taken is) now m bad counted

-- The loop: where the lines ended.
pub parts-ended : (at_twin : Bool) (old now new : Option (List (List ℕ))) (remaining : Option (List ℕ)) (few : Type 0) → behind_left old ≡ behind_left now → EndsPart at_twin now new remaining (Unit {0}) → (at_twin ≡ true → few)
    → EndsPart at_twin old new remaining few
parts-ended true old now new remaining few same parts countable = (same ∙ parts.0, countable refl)
parts-ended false old now new remaining few same parts countable = (none-same old now same parts.0, parts.1)
  where
    some : {X : Type 0} {a b : X} → Some a ≡ Some b → a ≡ b
    some e = cc

    none-same : (old now : Option (List (List ℕ))) → behind_left old ≡ behind_left now → IfSome now (λ lines. behind_twin lines ≡ None) → IfSome old (λ lines. behind_twin lines ≡ None)
    none-same None now same none = tt
    none-same (Some lines) None same none = absurd (cc)
    none-same (Some lines) (Some others) same none = some same ∙ none

-- One turn.

-- what is left of both scripts after a line
pub turned-parts : (r : Result Turn StopCause) (left behind : Option (List (List ℕ))) (text : List ℕ) (remaining : Option (List ℕ)) → TakesLine left behind text → IfOk r (IsTurnAt (is_twin_line text))
    → IfOk r (λ turn. PartsOn turn left behind remaining)
turned-parts (Ok (Next next)) left behind text remaining taken at = taken-behind left behind text taken at
turned-parts (Ok (End last)) left behind text remaining taken at = subst (λ b. EndsPart b left behind remaining (Unit {0})) (sym at.1) (ended-behind left behind text taken at.0, tt)
turned-parts (Err stop) left behind text remaining taken at = tt

-- what holds of a line that was read
pub turned-line : (r : Result Turn StopCause) (P : Type 0) → P → IfOk r (λ turn. OnLine turn P)
turned-line (Ok (Next next)) P p = p
turned-line (Ok (End last)) P p = λ twin. p
turned-line (Err stop) P p = tt

-- the source's count stays in taking a line
pub taken-steady : (before now : ℕ) (r : Result Turn StopCause) → now ≡ before → IfErr r IsElsewhere → KeepsSource SourceCause before now r
taken-steady before now (Ok turn) same elsewhere = record { steady = same; cause = tt }
taken-steady before now (Err stop) same elsewhere = record { steady = tt; cause = elsewhere-steady before now stop same elsewhere }
