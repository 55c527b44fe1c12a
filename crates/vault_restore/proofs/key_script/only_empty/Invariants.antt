use Rattle.std.proofs.Common.{◌≡◌, ◌≤◌, ◌+◌, ◌^◌, ℕ, List}
use Rattle.sse_script.specs.TextLines.{bytes_to_come, lines_left}
use Rattle.vault_restore.specs.KeyScripts.{KeyScript, LeavesKeyScript}
use Rattle.vault_restore.proofs.key_script.only_empty.Given as goal

abbrev pub invariant-lines : goal.invariant-lines
invariant-lines g l = record {
  few : l.input.number + bytes_to_come l.input.pending (g.S.Source.handed_out l.source) ≤ 2 ^ 63;
  source : g.S.Source.faults l.source ≡ g.S.Source.faults l.fn.source;
  makes : (key : List ℕ) (made : KeyScript) → LeavesKeyScript key (l.input.number + 1) (lines_left l.input.pending (g.S.Source.remaining l.source)) made
      → LeavesKeyScript key (l.fn.input.number + 1) (lines_left l.fn.input.pending (g.S.Source.remaining l.fn.source)) made;
}

abbrev pub decreases-lines : goal.decreases-lines
decreases-lines g l = bytes_to_come l.input.pending (g.S.Source.handed_out l.source)
