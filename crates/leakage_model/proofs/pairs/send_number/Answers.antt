use Rattle.std.proofs.Common.{sym, ◌∙◌}
use Rattle.client_registry.specs.IdNumber.{id_number}
use Rattle.leakage_frames.specs.Views.{origin_view}
use Rattle.leakage_model.proofs.PairEntries.{lists-lookup, sent-absent, sent-set}
use Rattle.leakage_model.specs.Pairs.{pairs_in}
use Rattle.leakage_model.proofs.pairs.send_number.Goals as goal

pub returns-in_default-clause-found : goal.returns-in_default-clause-found
returns-in_default-clause-found c = c.in_default.ensures.found ∙ sym (lists-lookup (id_number c.args.id) c.args.pairs.now.entries)

pub returns-in_default-clause-sent : goal.returns-in_default-clause-sent
returns-in_default-clause-sent c = sym (sent-absent (id_number c.args.id) (origin_view c.args.there) c.args.revoked (pairs_in c.args.pairs.now.entries) (sym (returns-in_default-clause-found c)))

pub returns-clause-found : goal.returns-clause-found
returns-clause-found c = c.in-Some.ensures.found ∙ sym (lists-lookup (id_number c.args.id) c.args.pairs.now.entries)

pub returns-clause-sent : goal.returns-clause-sent
returns-clause-sent c =
    sent-set c.args.pairs.now.entries (id_number c.args.id) c.in-Some.place c.index_mut-pair.result.now c.send.new.self (origin_view c.args.there) c.args.revoked
    c.in-Some.ensures.unique (sym c.in-Some.ensures.index) c.index_mut-pair.ensures.value
    (record { origin = c.send.ensures.origin; number = c.send.ensures.number; revoked = c.send.ensures.revoked })
