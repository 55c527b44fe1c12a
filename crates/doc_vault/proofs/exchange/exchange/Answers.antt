use Rattle.keyed_fn.specs.KeyedFn.{keyed_fn}
use Rattle.vault_shelf.specs.CommandView.{command_view}
use Rattle.vault_shelf.specs.OpenedView.{text_in}
use Rattle.doc_vault.proofs.CountLaws.{counts-judged, counts-stopped}
use Rattle.doc_vault.proofs.Exchanged.{exchanged_frame}
use Rattle.doc_vault.proofs.exchange.exchange.Goals as goal

pub returns-in_err-n-clause-counts : goal.returns-in_err-n-clause-counts
returns-in_err-n-clause-counts g c others = counts-stopped _ _ c.from_residual.result c.in_err-n.field-0.0 c.from_residual.ensures.1 (c.in_err-n.ensures.cause others)

pub returns-clause-exchanges : goal.returns-clause-exchanges
returns-clause-exchanges g c s keeps is grammar =
    exchanged_frame (keyed_fn g.K.Keyed.prf g.K.Keyed.pad) c.args.tools.now.keys s (command_view c.args.command.now) _ _ (text_in c.judge.new.text) c.judge.result c.args.frame.now _ is
    c.in_ok-n.ensures.asked grammar (λ known. c.judge.ensures.comes known s keeps)

pub returns-clause-counts : goal.returns-clause-counts
returns-clause-counts g c others = counts-judged _ _ others _ c.judge.result c.ask.ensures.later c.in_ok-n.ensures.counts c.judge.ensures.fault
