-- Whether a line that was printed is whole.
use Rattle.std.proofs.Common.{inl, inr, ℕ, List, Ok, Err, refl}
use Rattle.std.specs.declared.option.Option.{Option}
use Rattle.std.specs.declared.result.Result.{Result}
use Rattle.sse_outside.specs.Fronts.{TookOrRose}
use Rattle.sse_outside.specs.declared.device_fault.DeviceFault.{DeviceFault}
use Rattle.sse_outside.specs.declared.device_fault.DeviceFault.TheVariants.{Failed, NoMemory}
use Rattle.vault_script.specs.VaultPrints.{CountsFault, TakesText}

-- it is, or a strict prefix of it was printed and one of the sink's counts rose
pub took_or_rose : {T : Type 0} (result : Result T DeviceFault) (old new : Option (List ℕ)) (text : List ℕ) (f f' s s' : ℕ)
    → TakesText result old new text → CountsFault Failed result f f' → CountsFault NoMemory result s s' → TookOrRose old new text f f' s s'
took_or_rose (Ok x) old new text f f' s s' takes faults shortages = inl (takes.all, faults.steady (λ e. cc))
took_or_rose (Err Failed) old new text f f' s s' takes faults shortages = inr (takes.front, inl (faults.rose refl))
took_or_rose (Err NoMemory) old new text f f' s s' takes faults shortages = inr (takes.front, inr (shortages.rose refl))
