use Rattle.std.proofs.Common.{Ok, Err, refl, rules}
use Rattle.keyed_fn.specs.KeyedFn.{keyed_fn}
use Rattle.doc_vault.specs.Counts.{Counts}
use Rattle.doc_vault.specs.Sights.{sight_of}
use Rattle.vault_restore.specs.WholeRestores.{prints}
use Rattle.vault_restore.proofs.StopKinds.{script_kind, tells_stop, tells_through}
use Rattle.vault_restore.proofs.WholeRuns.{brings, not_through}
use Rattle.vault_restore.proofs.whole.vault_restore.Goals as goal

pub returns-in-Ok-clause-brings : goal.returns-in-Ok-clause-brings
returns-in-Ok-clause-brings g c = brings (keyed_fn g.K.Keyed.prf g.K.Keyed.pad) _ _ _ (Ok c.in-Ok.forged) _ c.from.result c.in-Ok.ensures.restores (search rules) (λ forged e. refl)

pub returns-in-Ok-clause-devices : goal.returns-in-Ok-clause-devices
returns-in-Ok-clause-devices g c =
    let others : Counts = record { source = 0; sink = 0; shortages = 0; link = 0; recorder = 0 } in
    tells_through _ _ _ c.from.result (search rules) (c.in-Ok.ensures.counts others) refl

pub returns-in-Err-clause-run : goal.returns-in-Err-clause-run
returns-in-Err-clause-run g c = record {
  end = Err c.in-Err.stop;
  between = record { link = sight_of (g.L.VaultLink.transcript c.restore_script.new.link) (g.L.VaultLink.remote c.restore_script.new.link); written = g.W.Sink.written c.restore_script.new.sink };
  sink = prints (g.W.Sink.written c.restore_script.new.sink) (g.W.Sink.faults c.restore_script.new.sink) (g.W.Sink.shortages c.restore_script.new.sink);
  runs = c.in-Err.ensures.restores;
  link = refl;
  printed = refl;
  line = c.finish_vault.ensures.line;
  status_is = c.finish_vault.ensures.status;
}

pub returns-in-Err-clause-devices : goal.returns-in-Err-clause-devices
returns-in-Err-clause-devices g c =
    let others : Counts = record { source = 0; sink = 0; shortages = 0; link = 0; recorder = 0 } in
    rw c.finish_vault.ensures.status
    (tells_stop _ _ _ c.in-Err.stop (c.in-Err.ensures.counts others) c.finish_vault.ensures.later
    (script_kind (keyed_fn g.K.Keyed.prf g.K.Keyed.pad) _ _ _ c.in-Err.stop c.in-Err.ensures.restores))

pub returns-in-Err-clause-brings : goal.returns-in-Err-clause-brings
returns-in-Err-clause-brings g c =
    brings (keyed_fn g.K.Keyed.prf g.K.Keyed.pad) _ _ _ (Err c.in-Err.stop) _ c.finish_vault.result c.in-Err.ensures.restores c.finish_vault.ensures.status (λ forged e. absurd (not_through c.in-Err.stop forged e))
