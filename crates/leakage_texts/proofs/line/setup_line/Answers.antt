use Rattle.std.proofs.Common.{sym, ap, ◌∙◌}
use Rattle.std.specs.Prelude.{codes, decimal}
use Rattle.std.proofs.lemmas.List.{append-nil}
use Rattle.leakage_texts.specs.LeakTexts.{plural}
use Rattle.leakage_texts.proofs.line.setup_line.Goals as goal

pub returns : goal.returns
returns c =
    let entries = c.plural-entries_are.ensures ∙ ap (λ n. plural n (codes "entry") (codes "entries")) c.from.ensures in
    let blocks = c.plural-blocks_are.ensures ∙ ap (λ n. plural n (codes "block") (codes "blocks")) c.from-2.ensures in
    rw (sym entries, sym blocks, append-nil (decimal c.args.big)) c.format.ensures.ok
