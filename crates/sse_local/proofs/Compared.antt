-- Two scripts, each part of what is done with them.
use Rattle.std.proofs.Common.{◌≡◌, ◌≤◌, inr, ℕ, ◌+◌, Bool, true, false, List, [], Option, None, Some, refl, sym, ap, subst, ◌∙◌, arith}
use Rattle.std.specs.Prelude.{IfErr, IfSome, IsErrAnd, Result, Ok, Err}
use Rattle.client_registry.specs.Run.{Epochs}
use Rattle.script_history.proofs.ReadingGoesOn.{elsewhere-steady, first-reading}
use Rattle.script_history.specs.Endings.{ending, stop_for}
use Rattle.script_history.specs.Reads.{ReadEnd, ReadsFirstFrom}
use Rattle.script_history.specs.Reads.{Stopped as NotRead}
use Rattle.script_history.specs.Turns.{IsElsewhere}
use Rattle.script_history.specs.TwoScripts.{EndsPart, behind_twin, first_left}
use Rattle.keyed_fn.specs.KeyFormulas.{mark_of}
use Rattle.keyed_fn.specs.KeyedFn.{KeyedFn}
use Rattle.script_run_texts.specs.Causes.{KeepsSink, KeepsSource, SourceCause}
use Rattle.script_run_texts.specs.Stops.{stop_cause}
use Rattle.script_run_texts.specs.declared.stop_cause.StopCause.{StopCause}
use Rattle.def_script_meaning.specs.Stops.{Stop, At}
use Rattle.sse_script.specs.Shown.{Cause, NoMemory}
use Rattle.sse_script.specs.TextLines.{lines_left, lines_of}
use Rattle.sse_local.specs.Compared.{AreBehind, AreComparedSo, GoesOnBehind, GoesOnFirst, ReadsBehind}

-- The second script.

pub reads-behind : (f : KeyedFn) (key : List ℕ) (es : Epochs) (refused : Bool) (number : ℕ) (left : Option (List (List ℕ))) (now between last : Option (List ℕ)) (end : ReadEnd) (stop : Stop)
    → ReadsFirstFrom None (number + 1) left now between end → GoesOnBehind f key es refused end between last stop → IfSome left (λ lines. ReadsBehind f key es refused number lines now last stop)
reads-behind f key es refused number None now between last end stop reads goes = tt
reads-behind f key es refused number (Some lines) now between last end stop reads goes = record { end = end; between = between; reads = reads; goes_on = goes }

-- the counts of the devices, where the first step went well and the second isn't for the source
pub kept-source : (before now : ℕ) (r : Result Bool StopCause) → now ≡ before → IfErr r IsElsewhere → KeepsSource SourceCause before now r
kept-source before now (Ok refused) same elsewhere = record { steady = same; cause = tt }
kept-source before now (Err stop) same elsewhere = record { steady = tt; cause = elsewhere-steady before now stop same elsewhere }

pub kept-sink : (f0 f1 f2 s0 s1 s2 : ℕ) (r : Result Bool StopCause) → f1 ≡ f0 → s0 ≤ s1 → KeepsSink f1 f2 s1 s2 r → KeepsSink f0 f2 s0 s2 r
kept-sink f0 f1 f2 s0 s1 s2 r same fewer keeps = let other = subst (λ f. KeepsSink f f2 s1 s2 r) same keeps in record {
  steady = other.steady;
  cause = other.cause;
  no_fewer = omega (arith, fewer, other.no_fewer);
}

-- The first script.

-- nothing more is done behind a reading that stopped
pub stopped-first : (f : KeyedFn) (behind : Option (List (List ℕ))) (cause : Option Cause) (now : Option (List ℕ)) → GoesOnFirst f behind (NotRead cause) now now (stop_for cause)
stopped-first f None cause now = (refl, refl)
stopped-first f (Some lines) cause now = (refl, refl)

-- what is left behind it
pub are-behind : (at_twin : Bool) (lines : List (List ℕ)) (left new : Option (List (List ℕ))) (remaining : Option (List ℕ)) (few : Type 0) → left ≡ Some lines → EndsPart at_twin left new remaining few → AreBehind at_twin (behind_twin lines) new
are-behind at_twin lines left new remaining few is ends = of at_twin new (subst (λ l. EndsPart at_twin l new remaining few) is ends)
  where
    inner : {X : Type 0} {a b : X} → Some a ≡ Some b → a ≡ b
    inner e = cc

    of : (b : Bool) (new : Option (List (List ℕ))) → EndsPart b (Some lines) new remaining few → AreBehind b (behind_twin lines) new
    of true None parts = absurd (let e = parts.0 in cc)
    of true (Some rest) parts = subst (λ o. AreBehind true o (Some rest)) (sym (inner parts.0)) refl
    of false new parts = subst (λ o. AreBehind false o new) (sym parts.0) tt

-- the lines at the beginning
pub left-first : (number : ℕ) (pending bytes : List ℕ) (remaining : Option (List ℕ)) → pending ≡ [] → remaining ≡ Some bytes → lines_left pending remaining ≡ Some (lines_of bytes)
left-first number pending bytes remaining none is = ap (λ p. lines_left p remaining) none ∙ ap (lines_left []) is

-- all of it
pub compared-so : (f : KeyedFn) (remaining : Option (List ℕ)) (number : ℕ) (pending : List ℕ) (now between last : Option (List ℕ)) (end : ReadEnd) (stop : Stop) → number ≡ 0 → pending ≡ []
    → ReadsFirstFrom (Some (mark_of f)) (number + 1) (first_left (lines_left pending remaining)) now between end → ((bytes : List ℕ) → remaining ≡ Some bytes → GoesOnFirst f (behind_twin (lines_of bytes)) end between last stop)
    → IfSome remaining (λ bytes. AreComparedSo f (lines_of bytes) now last stop)
compared-so f None number pending now between last end stop first none reads goes = tt
compared-so f (Some bytes) number pending now between last end stop first none reads goes = record {
  end = end;
  between = between;
  reads =
      let mark = Some (mark_of f) in
      subst (λ n. ReadsFirstFrom mark (n + 1) (first_left (lines_left [] (Some bytes))) now between end) first
      (subst (λ p. ReadsFirstFrom mark (number + 1) (first_left (lines_left p (Some bytes))) now between end) none reads);
  goes_on = goes bytes refl;
}

-- there was no memory to begin with
pub none-compared : (f : KeyedFn) (remaining : Option (List ℕ)) (now : Option (List ℕ)) → IfSome remaining (λ bytes. AreComparedSo f (lines_of bytes) now now (At NoMemory))
none-compared f None now = tt
none-compared f (Some bytes) now = record {
  end = NotRead (Some NoMemory);
  between = now;
  reads = first-reading (Some (mark_of f)) 1 now (first_left (lines_left [] (Some bytes))) (NotRead (Some NoMemory)) (inr refl);
  goes_on = stopped-first f (behind_twin (lines_of bytes)) (Some NoMemory) now;
}

-- what holds of a stop holds of the result that tells it
pub stopped-compared : (f : KeyedFn) (remaining : Option (List ℕ)) (now last : Option (List ℕ)) (r : Result Bool StopCause) (stop : StopCause) → IsErrAnd r (λ e. e ≡ stop)
    → IfSome remaining (λ bytes. AreComparedSo f (lines_of bytes) now last (stop_for (stop_cause stop))) → IfSome remaining (λ bytes. AreComparedSo f (lines_of bytes) now last (ending r))
stopped-compared f remaining now last (Ok refused) stop is told = absurd is
stopped-compared f remaining now last (Err e) stop is told = subst (λ s. IfSome remaining (λ bytes. AreComparedSo f (lines_of bytes) now last (stop_for (stop_cause s)))) (sym is) told
