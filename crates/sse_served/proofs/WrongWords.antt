-- The end of the program for words that are wrong, or that there is no memory to read in.
use Rattle.std.proofs.Common.{◌≡◌, ◌⊎◌, inl, inr, ℕ, Result, Ok, Err, subst}
use Rattle.std.specs.Prelude.{IfErr}
use Rattle.service_places.specs.Endings.{EndsFor, Printed}
use Rattle.service_places.specs.declared.stop.ServiceStop.TheVariants.{Memory}
use Rattle.service_places.specs.declared.stop.Stop.{Stop}
use Rattle.service_places.specs.declared.stop.Stop.TheVariants.{Service}
use Rattle.sse_served.specs.Asked.{Wanted}

pub ends_wrong : (wanted : Result Wanted Stop) (stop : Stop) (p : Printed) (status : ℕ) → (wanted ≡ Err stop) ⊎ (stop ≡ Service Memory) → EndsFor stop p status
    → IfErr wanted (λ cause. EndsFor cause p status ⊎ EndsFor (Service Memory) p status)
ends_wrong (Ok w) stop p status is ends = tt
ends_wrong (Err cause) stop p status (inl same) ends = inl (subst (λ s. EndsFor s p status) (let is : stop ≡ cause = cc in is) ends)
ends_wrong (Err cause) stop p status (inr memory) ends = inr (subst (λ s. EndsFor s p status) memory ends)
