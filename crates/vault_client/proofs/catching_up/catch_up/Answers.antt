use Rattle.std.proofs.Common.{List, refl, sym, subst}
use Rattle.keyed_fn.specs.KeyedFn.{keyed_fn}
use Rattle.vault_shelf.specs.Shelves.{VaultCommand}
use Rattle.vault_shelf.specs.CommandView.{command_view}
use Rattle.doc_vault.specs.Sights.{sight_of}
use Rattle.vault_client.specs.CatchingUp.{SuppliesAll}
use Rattle.vault_client.proofs.CaughtUp.{counts-first, catches_asked, catches_unasked, last_apart, last_none, supplied_first}
use Rattle.doc_vault.proofs.CountLaws.{counts-then}
use Rattle.vault_client.proofs.catching_up.catch_up.Goals as goal

pub returns-in_err-next-clause-catches : goal.returns-in_err-next-clause-catches
returns-in_err-next-clause-catches g c cs keeps =
    catches_unasked (keyed_fn g.K.Keyed.prf g.K.Keyed.pad) c.args.tools.now.keys cs _ _ c.from_residual.result c.in_err-next.field-0.0 c.from_residual.ensures.1 c.in_err-next.ensures.asks c.in_err-next.ensures.honest

pub returns-in-Some-clause-catches : goal.returns-in-Some-clause-catches
returns-in-Some-clause-catches g c cs keeps =
    let f = keyed_fn g.K.Keyed.prf g.K.Keyed.pad in
    let asked = sight_of (g.L.VaultLink.transcript c.ask_next.new.link) (g.L.VaultLink.remote c.ask_next.new.link) in
    let last = sight_of (g.L.VaultLink.transcript c.supply_last.new.link) (g.L.VaultLink.remote c.supply_last.new.link) in
    let apart = last_apart c.args.shelf.now c.args.last.now cs (command_view c.in-Some.command) keeps c.in-Some.ensures.recorded c.in-Some.ensures.found in
    catches_asked f c.args.tools.now.keys cs c.in_ok-next.next _ asked last c.supply_last.result c.in_ok-next.ensures.asks c.in_ok-next.ensures.honest
    (subst (λ (all : List VaultCommand). SuppliesAll f c.args.tools.now.keys all c.in_ok-next.next asked last c.supply_last.result) (sym apart.1) (c.supply_last.ensures.supplies apart.0 apart.2))

pub returns-in-Some-clause-counts : goal.returns-in-Some-clause-counts
returns-in-Some-clause-counts g c others = counts-then _ _ _ c.supply_last.result (c.in_ok-next.ensures.counts others) (c.supply_last.ensures.counts others)

pub returns-in-None-clause-catches : goal.returns-in-None-clause-catches
returns-in-None-clause-catches g c cs keeps =
    let f = keyed_fn g.K.Keyed.prf g.K.Keyed.pad in
    let none = last_none c.args.shelf.now c.args.last.now cs keeps (c.in-None.ensures.none refl) in
    catches_asked f c.args.tools.now.keys cs c.in_ok-next.next _ _ _ c.expects_first.result c.in_ok-next.ensures.asks c.in_ok-next.ensures.honest
    (supplied_first f c.args.tools.now.keys cs none.0 c.in_ok-next.next _ c.expects_first.result c.expects_first.ensures)

pub returns-in-None-clause-counts : goal.returns-in-None-clause-counts
returns-in-None-clause-counts g c others = counts-then _ _ _ c.expects_first.result (c.in_ok-next.ensures.counts others) (counts-first c.in_ok-next.next c.expects_first.result _ c.expects_first.ensures)
