use Rattle.std.proofs.Common.{sym, ap, ◌∙◌}
use Rattle.std.specs.Option.{option_and_then, option_map}
use Rattle.client_registry.specs.IdNumber.{id_number}
use Rattle.leakage_frames.specs.Views.{origin_view}
use Rattle.leakage_model.proofs.PairEntries.{number-lookup}
use Rattle.leakage_model.specs.declared.pair.Pair.{Pair}
use Rattle.leakage_model.proofs.pairs.number_in.Goals as goal

pub returns-in-Some : goal.returns-in-Some
returns-in-Some c =
    ap (option_and_then (λ (v : Pair). option_map origin_view v.number)) c.in-Some.ensures.value ∙ sym (number-lookup (id_number c.args.id) c.args.pairs.now.entries)

pub returns-in-None : goal.returns-in-None
returns-in-None c =
    ap (option_and_then (λ (v : Pair). option_map origin_view v.number)) c.in-None.ensures.value ∙ sym (number-lookup (id_number c.args.id) c.args.pairs.now.entries)
