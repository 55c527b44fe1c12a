use Rattle.std.proofs.Common.{◌∙◌}
use Rattle.keyed_fn.specs.KeyedFn.{keyed_fn}
use Rattle.keyed_fn.specs.VaultFormulas.{vault_slot}
use Rattle.vault_server.specs.VaultFrames.{FetchFrame}
use Rattle.vault_shelf.specs.OpenedView.{text_in}
use Rattle.doc_vault.proofs.CountLaws.{counts-judged, counts-stopped}
use Rattle.vault_restore.proofs.Fetched.{fetched-judged}
use Rattle.vault_restore.proofs.Judged.{slot_tells}
use Rattle.vault_restore.proofs.scan.fetch.Goals as goal

pub ask-requires-clause-frame : goal.ask-requires-clause-frame
ask-requires-clause-frame g c = record {
  frame = FetchFrame (vault_slot (keyed_fn g.K.Keyed.prf g.K.Keyed.pad) c.args.tools.now.keys.slots c.args.v);
  grammar = c.write_fetch.ensures.grammar;
  spelled = c.deref.ensures.value ∙ c.in_ok-write_fetch.ensures.bytes;
}

pub returns-in_err-n-clause-counts : goal.returns-in_err-n-clause-counts
returns-in_err-n-clause-counts g c others = counts-stopped _ _ c.from_residual-in_err-n.result c.in_err-n.field-0.0 c.from_residual-in_err-n.ensures.1 (c.in_err-n.ensures.cause others)

pub returns-clause-fetches : goal.returns-clause-fetches
returns-clause-fetches g c =
    fetched-judged (keyed_fn g.K.Keyed.prf g.K.Keyed.pad) c.args.tools.now.keys c.args.v _ _ (text_in c.judge_slot.new.text) _ _ c.judge_slot.result (c.deref.ensures.value ∙ c.in_ok-write_fetch.ensures.bytes) c.write_fetch.ensures.grammar
    c.in_ok-n.ensures.asked c.judge_slot.ensures

pub returns-clause-counts : goal.returns-clause-counts
returns-clause-counts g c others =
    counts-judged _ _ others _ c.judge_slot.result c.ask.ensures.later c.in_ok-n.ensures.counts (slot_tells _ (keyed_fn g.K.Keyed.prf g.K.Keyed.pad) c.args.tools.now.keys c.args.v _ _ c.judge_slot.result c.judge_slot.ensures)
