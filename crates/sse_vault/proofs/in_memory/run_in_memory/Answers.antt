use Rattle.std.proofs.Common.{inl}
use Rattle.sse_vault.proofs.in_memory.run_in_memory.Goals as goal

pub returns-in-Ok-clause-runs : goal.returns-in-Ok-clause-runs
returns-in-Ok-clause-runs g c =
    let run = c.vault_run-status in
    inl (record {
      disk = c.new-own.result;
      link = c.in-Ok.link;
      disk2 = run.result.1;
      link2 = run.new.link;
      no_journal = c.new-own.ensures.content;
      unused = c.in-Ok.ensures;
      ran = record { begun = run.ensures.begun; resumed = run.ensures.more; devices = run.ensures.devices };
    })
