use Rattle.std.proofs.Common.{refl}
use Rattle.client_journal.proofs.Counts.{counts-took, devices-idle}
use Rattle.vault_client.proofs.on_disk.vault_run.Goals as goal

pub returns-in-Some-Run-clause-begun : goal.returns-in-Some-Run-clause-begun
returns-in-Some-Run-clause-begun g c = λ asked. record {
  begun = c.begin_run.ensures.begun;
  refused = c.begin_run.ensures.refused;
  accepted = c.begin_run.ensures.accepted;
  exact = c.begin_run.ensures.exact;
}

pub returns-in-Some-More-clause-more : goal.returns-in-Some-More-clause-more
returns-in-Some-More-clause-more g c = λ asked. record {
  gone_on = c.more.ensures.more;
  accepted = c.more.ensures.accepted;
  refused = c.more.ensures.refused;
  exact = c.more.ensures.exact;
}

pub returns-in-None-clause-other : goal.returns-in-None-clause-other
returns-in-None-clause-other g c = λ asked. record { says = record { unread = refl; status_is = c.finish.ensures.status; line = c.finish.ensures.line }; unsent = refl; unkept = refl }

pub returns-in-None-clause-devices : goal.returns-in-None-clause-devices
returns-in-None-clause-devices g c = record {
  tells = devices-idle _ _ _ _ _ _ c.finish.result c.finish.ensures.status;
  line = counts-took _ _ _ c.finish.result _ _ _ _ c.finish.ensures.line;
}
