use Rattle.std.proofs.Common.{◌≡◌, ◌≤◌, ◌-◌, length}
use Rattle.keyed_fn.specs.KeyedFn.{keyed_fn}
use Rattle.doc_vault.specs.Counts.{Counts, with_link, with_sink}
use Rattle.doc_vault.specs.Sights.{sight_of}
use Rattle.vault_restore.proofs.ScanLaws.{HasScanned}
use Rattle.vault_restore.proofs.scan.scan.Given as goal

abbrev pub invariant-loop-v : goal.invariant-loop-v
invariant-loop-v g l = record {
  room : 65604 ≤ length l.reply;
  bound : l.v ≤ l.n;
  few : l.texts ≤ l.v;
  most : l.last ≤ l.v;
  scanned : HasScanned (keyed_fn g.K.Keyed.prf g.K.Keyed.pad) l.tools.keys l.v l.texts l.last
      (record { link = sight_of (g.L.VaultLink.transcript l.fn.link) (g.L.VaultLink.remote l.fn.link); written = g.W.Sink.written l.fn.sink })
      (record { link = sight_of (g.L.VaultLink.transcript l.link) (g.L.VaultLink.remote l.link); written = g.W.Sink.written l.sink }) l.forged;
  counts : (others : Counts) → with_link (g.L.VaultLink.faults l.link) (with_sink (g.W.Sink.faults l.sink) (g.W.Sink.shortages l.sink) others)
      ≡ with_link (g.L.VaultLink.faults l.fn.link) (with_sink (g.W.Sink.faults l.fn.sink) (g.W.Sink.shortages l.fn.sink) others);
}

abbrev pub decreases-loop-v : goal.decreases-loop-v
decreases-loop-v g l = l.n - l.v
