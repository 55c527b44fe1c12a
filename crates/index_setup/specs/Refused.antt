-- Why an index isn't built.
use Rattle.std.specs.Prelude.{ℕ, List, Option, option_map}
use Rattle.std.specs.Option.{option_or}
use Rattle.client_registry.specs.Acceptance.{size_refusal}
use Rattle.client_registry.specs.Setup.{Setup}
use Rattle.client_registry.specs.declared.faults.SizeFault.{SizeFault}
use Rattle.client_registry.specs.declared.faults.SizeFault.TheVariants as sizes
use Rattle.keyed_fn.specs.KeyedFn.{KeyedFn}
use Rattle.index_setup.specs.Entries.{label_clash, place_clash}
use Rattle.index_setup.specs.declared.fault.BuildFault.{BuildFault}
use Rattle.index_setup.specs.declared.fault.BuildFault.TheVariants as builds

-- the fault of a setup whose size is refused
abbrev pub refused_by_size : SizeFault → BuildFault
refused_by_size (sizes.BadParameter which value) = builds.BadParameter which value
refused_by_size (sizes.ListTooLong word n) = builds.ListTooLong word n
refused_by_size (sizes.TooManyBytes count) = builds.TooManyBytes count

-- the first clash of a setup under a key: of labels, else of places
abbrev pub clash_refusal : KeyedFn → List ℕ → Setup → Option BuildFault
clash_refusal f key s =
    option_or (option_map (λ entries. builds.LabelClash entries.0 entries.1) (label_clash f key s))
    (option_map (λ blocks. builds.PlaceClash blocks.0 blocks.1) (place_clash f key s))

-- why a setup makes no index under a key: its size, else a clash
abbrev pub build_refusal : KeyedFn → List ℕ → Setup → Option BuildFault
build_refusal f key s = option_or (option_map refused_by_size (size_refusal s)) (clash_refusal f key s)
