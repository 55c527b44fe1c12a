use Rattle.std.proofs.Common.{◌+◌, refl, ◌∙◌}
use Rattle.keyed_fn.specs.KeyedFn.{keyed_fn}
use Rattle.vault_shelf.specs.OpenedView.{text_in}
use Rattle.vault_restore.specs.Slots.{line_of}
use Rattle.doc_vault.specs.Counts.{Counts, with_link, with_sink}
use Rattle.doc_vault.proofs.CountLaws.{counts-stopped, counts-then}
use Rattle.vault_restore.proofs.Fetched.{visited-fetch, visited-unprinted}
use Rattle.vault_restore.proofs.scan.visit.Goals as goal

pub returns-in_err-slot-clause-visits : goal.returns-in_err-slot-clause-visits
returns-in_err-slot-clause-visits g c =
    visited-fetch (keyed_fn g.K.Keyed.prf g.K.Keyed.pad) c.args.tools.now.keys c.args.v _ _ _ c.from_residual.result c.in_err-slot.field-0.0 c.from_residual.ensures.1 c.in_err-slot.ensures.fetches refl

pub returns-in_err-slot-clause-counts : goal.returns-in_err-slot-clause-counts
returns-in_err-slot-clause-counts g c others =
    let printed : Counts = with_sink (g.W.Sink.faults c.args.sink.now) (g.W.Sink.shortages c.args.sink.now) others in
    counts-stopped _ _ c.from_residual.result c.in_err-slot.field-0.0 c.from_residual.ensures.1 (c.in_err-slot.ensures.counts printed)

pub returns-in_err-show_slot-clause-visits : goal.returns-in_err-show_slot-clause-visits
returns-in_err-show_slot-clause-visits g c =
    visited-unprinted (keyed_fn g.K.Keyed.prf g.K.Keyed.pad) c.args.tools.now.keys c.args.v _ _ _ (line_of c.in_ok-slot.slot (c.args.v + 1) (text_in c.fetch.new.text)) c.from_residual-in_err-show_slot.result c.in_err-show_slot.field-0.0
    c.from_residual-in_err-show_slot.ensures.1 c.in_ok-slot.ensures.fetches (rw c.from.ensures at c.in_err-show_slot.ensures.prints)

pub returns-in_err-show_slot-clause-counts : goal.returns-in_err-show_slot-clause-counts
returns-in_err-show_slot-clause-counts g c others =
    let printed : Counts = with_sink (g.W.Sink.faults c.args.sink.now) (g.W.Sink.shortages c.args.sink.now) others in
    counts-then _ _ _ c.from_residual-in_err-show_slot.result (c.in_ok-slot.ensures.counts printed)
    (counts-stopped _ _ c.from_residual-in_err-show_slot.result c.in_err-show_slot.field-0.0 c.from_residual-in_err-show_slot.ensures.1 (c.in_err-show_slot.ensures.counts (with_link (g.L.VaultLink.faults c.fetch.new.link) others)))

pub returns-clause-counts : goal.returns-clause-counts
returns-clause-counts g c others =
    let printed : Counts = with_sink (g.W.Sink.faults c.args.sink.now) (g.W.Sink.shortages c.args.sink.now) others in
    c.in_ok-show_slot.ensures.counts (with_link (g.L.VaultLink.faults c.fetch.new.link) others) ∙ c.in_ok-slot.ensures.counts printed

pub returns-clause-visits : goal.returns-clause-visits
returns-clause-visits g c =
    let fetched = c.in_ok-slot.ensures.fetches in (
      fetched.reply,
      record {
        is = record { grammar = fetched.grammar; comes = fetched.comes };
        passed = fetched.passed;
        printed = rw c.from.ensures at c.in_ok-show_slot.ensures.prints;
      },
    )
