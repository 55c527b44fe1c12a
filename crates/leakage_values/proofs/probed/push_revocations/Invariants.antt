use Rattle.std.proofs.Common.{◌≡◌, ◌++◌, map, take}
use Rattle.client_registry.specs.IdNumber.{id_number}
use Rattle.leakage_values.specs.SetupDrawings.{code_name}
use Rattle.leakage_names.specs.declared.name.NameKind.TheVariants as kinds
use Rattle.leakage_values.proofs.probed.push_revocations.Given as goal

abbrev pub invariant-loop-id : goal.invariant-loop-id
invariant-loop-id l = l.names ≡ l.initial.names ++ map (code_name l.epoch l.word kinds.Revocation) (map id_number (take l.id-index l.ids))
