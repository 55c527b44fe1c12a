use Rattle.std.proofs.Common.{◌≡◌, ◌+◌, true, Some, sym, ap, ◌∙◌, arith}
use Rattle.vault_script.specs.VaultLineViews.{vault_line_view}
use Rattle.vault_script.specs.VaultLines.{vault_line_of}
use Rattle.vault_restore.proofs.key_script.skip_empty.Goals as goal

pub returns-clause-skips : goal.returns-clause-skips
returns-clause-skips g c =
    let more : c.in_ok-advance.field-0 ≡ true = grind arith in (
      omega (arith, c.number-2.ensures, c.in_ok-advance.ensures.counted, c.requires.few),
      Some (vault_line_view c.in_ok-line.line),
      record {
        line = c.advance.new.self.line;
        takes = c.in_ok-advance.ensures.line more;
        reads = ap vault_line_of (sym c.bytes.ensures) ∙ c.in_ok-line.ensures.read;
      },
      λ after. c.is_empty.ensures.not c.if-is_empty.false (c.args.input.now.number + 1) after,
    )
