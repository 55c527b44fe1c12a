use Rattle.vault_script.proofs.Printed.{took_or_rose}
use Rattle.vault_script.proofs.stop_line.finish_vault.Goals as goal

pub returns-in-Clash-clause-line : goal.returns-in-Clash-clause-line
returns-in-Clash-clause-line g c = rw c.in-Clash.is (took_or_rose c.print_bytes.result _ _ _ _ _ _ _ c.print_bytes.ensures.text c.print_bytes.ensures.faults c.print_bytes.ensures.shortages)

pub returns-in-Clash-clause-later : goal.returns-in-Clash-clause-later
returns-in-Clash-clause-later g c = c.print_bytes.ensures.faults.later

pub returns-in-Forged-clause-line : goal.returns-in-Forged-clause-line
returns-in-Forged-clause-line g c = rw c.in-Forged.is (took_or_rose c.print_one.result _ _ _ _ _ _ _ c.print_one.ensures.text c.print_one.ensures.faults c.print_one.ensures.shortages)

pub returns-in-Forged-clause-later : goal.returns-in-Forged-clause-later
returns-in-Forged-clause-later g c = c.print_one.ensures.faults.later

pub returns-in-Run-clause-line : goal.returns-in-Run-clause-line
returns-in-Run-clause-line g c = rw c.in-Run.is c.finish.ensures.line

pub returns-in-Unopened-clause-line : goal.returns-in-Unopened-clause-line
returns-in-Unopened-clause-line g c = rw c.in-Unopened.is c.finish_unopened.ensures.line
