-- Whether a line that was printed is whole.
use Rattle.std.proofs.Common.{◌≡◌, inl, inr, ℕ, List, Ok, Err, refl}
use Rattle.std.specs.Prelude.{IsErrOf, OnErr, OnOk}
use Rattle.std.specs.Io.KnownBytes.{append_known}
use Rattle.std.specs.declared.option.Option.{Option}
use Rattle.std.specs.declared.result.Result.{Result}
use Rattle.sse_outside.specs.Causes.{Rose}
use Rattle.sse_outside.specs.Fronts.{TookFront, TookOrRose}
use Rattle.sse_outside.specs.declared.device_fault.DeviceFault.{DeviceFault}
use Rattle.sse_outside.specs.declared.device_fault.DeviceFault.TheVariants.{Failed, NoMemory}

-- it is, or a strict prefix of it was printed and one of the sink's counts rose
pub took_or_rose : {T : Type 0} (result : Result T DeviceFault) (old new : Option (List ℕ)) (text : List ℕ) (f f' s s' : ℕ)
    → OnOk result (new ≡ append_known old text) → OnErr result (TookFront old new text) → OnOk result (f' ≡ f)
    → (IsErrOf result Failed → Rose f f') → (IsErrOf result NoMemory → Rose s s') → TookOrRose old new text f f' s s'
took_or_rose (Ok x) old new text f f' s s' all front steady failed shortage = inl (all, steady)
took_or_rose (Err Failed) old new text f f' s s' all front steady failed shortage = inr (front, inl (failed refl))
took_or_rose (Err NoMemory) old new text f f' s s' all front steady failed shortage = inr (front, inr (shortage refl))
