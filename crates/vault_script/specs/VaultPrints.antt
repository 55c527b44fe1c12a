-- What printing a text does to a sink.
use Rattle.std.specs.Prelude.{◌≡◌, ℕ, ◌≤◌, List, Option, Result, IsErrOf, OnOk, OnErr}
use Rattle.std.specs.Io.KnownBytes.{append_known}
use Rattle.sse_outside.specs.Causes.{Rose}
use Rattle.sse_outside.specs.Fronts.{TookFront}
use Rattle.sse_outside.specs.declared.device_fault.DeviceFault.{DeviceFault}

-- it took all of the text; after an error it took a strict prefix of it, and no other byte
pub record TakesText {T : Type 0} (result : Result T DeviceFault) (old new : Option (List ℕ)) (text : List ℕ) : Type 0 where
  pub all : OnOk result (new ≡ append_known old text)
  pub front : OnErr result (TookFront old new text)

-- the sink's count for this fault never falls. It rose if the fault is what stopped the printing, and is unchanged otherwise
pub record CountsFault {T : Type 0} (fault : DeviceFault) (result : Result T DeviceFault) (before now : ℕ) : Type 0 where
  pub later : before ≤ now
  pub rose : IsErrOf result fault → Rose before now
  pub steady : (IsErrOf result fault → ⊥) → now ≡ before
