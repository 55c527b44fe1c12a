-- Which fault refuses a setup whose parameters are within their limits.
use Rattle.std.proofs.Common.{◌≡◌, ◌≤◌, ◌<◌, ◌^◌, None, Some}
use Rattle.std.specs.Prelude.{if◌then◌else◌}
use Rattle.std.specs.Option.{option_or}
use Rattle.std.proofs.lemmas.Bool.{lt-ltb, le-ltb}
use Rattle.client_registry.specs.Acceptance.{parameter_refusal, list_refusal, bytes_refusal, size_refusal, index_bytes}
use Rattle.client_registry.specs.Setup.{Setup}
use Rattle.client_registry.specs.declared.faults.SizeFault.{SizeFault}
use Rattle.client_registry.specs.declared.faults.SizeFault.TheVariants.{TooManyBytes}

module _ (s : Setup) (within : parameter_refusal s ≡ None) where
  -- a list that is too long is the fault
  pub refused_by_list : (fault : SizeFault) → list_refusal s ≡ Some fault → size_refusal s ≡ Some fault
  refused_by_list fault long = λ i. option_or (within i) (option_or (long i) (bytes_refusal s))

  module _ (fit : list_refusal s ≡ None) where
    -- else too many bytes
    pub refused_by_bytes : 2 ^ 28 < index_bytes s → size_refusal s ≡ Some (TooManyBytes (index_bytes s))
    refused_by_bytes over =
        λ i. option_or (within i) (option_or (fit i) (if lt-ltb (2 ^ 28) (index_bytes s) over i then Some (TooManyBytes (index_bytes s)) else None))

    -- else it is accepted
    pub not_refused : index_bytes s ≤ 2 ^ 28 → size_refusal s ≡ None
    not_refused few =
        λ i. option_or (within i) (option_or (fit i) (if le-ltb (2 ^ 28) (index_bytes s) few i then Some (TooManyBytes (index_bytes s)) else None))
