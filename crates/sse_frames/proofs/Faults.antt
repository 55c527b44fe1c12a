-- The first fault of fields that follow one another.
use Rattle.std.proofs.Common.{◌≡◌, Bool, true, false, cond, List, [], ◌∷◌, ◌++◌, ℕ, Option, Some, None, refl}
use Rattle.sse_frames.specs.declared.fault.FrameFault.{FrameFault}
use Rattle.sse_frames.specs.declared.fault.FrameFault.TheVariants.{BadBody}
use Rattle.sse_frames.specs.Fields.{Field, first_fault}

cond_none : {A : Type 0} (b : Bool) (o : Option A) (x : A) → cond b o (Some x) ≡ None → (b ≡ true) × (o ≡ None)
cond_none true o x e = (refl, e)
cond_none false o x e = absurd cc

-- where no field is at fault, the first stands and no later one is at fault
pub stands_first : (field : Field) (fields : List Field) (body : List ℕ) → first_fault (field ∷ fields) body ≡ None → (field.stands body ≡ true) × (first_fault fields body ≡ None)
stands_first field fields body e = cond_none (field.stands body) (first_fault fields body) (BadBody field.place) e

pub first_fault-append : (fields more : List Field) (body : List ℕ) → first_fault fields body ≡ None → first_fault (fields ++ more) body ≡ first_fault more body
first_fault-append [] more body e = refl
first_fault-append (field ∷ fields) more body e =
    let first = stands_first field fields body e in
    rw first.0 (first_fault-append fields more body first.1)

fault_goes_on : (b : Bool) (o p : Option FrameFault) (x y : FrameFault) → cond b o (Some x) ≡ Some y → (o ≡ Some y → p ≡ Some y) → cond b p (Some x) ≡ Some y
fault_goes_on true o p x y e f = f e
fault_goes_on false o p x y e f = e

pub first_fault-front : (fields more : List Field) (body : List ℕ) (fault : FrameFault) → first_fault fields body ≡ Some fault → first_fault (fields ++ more) body ≡ Some fault
first_fault-front [] more body fault e = absurd cc
first_fault-front (field ∷ fields) more body fault e =
    fault_goes_on (field.stands body) (first_fault fields body) (first_fault (fields ++ more) body) (BadBody field.place) fault e (first_fault-front fields more body fault)

pub ruleset appended = (first_fault-append, first_fault-front)
