use Rattle.world_client.proofs.starts.restored.Goals as goal

pub returns-in-Some-under_last-clause-disk : goal.returns-in-Some-under_last-clause-disk
returns-in-Some-under_last-clause-disk g c = λ model is. c.under_last.ensures.disk model (c.under.ensures.disk model is)

pub returns-in-None-under_last-clause-disk : goal.returns-in-None-under_last-clause-disk
returns-in-None-under_last-clause-disk g c = λ model is. c.under_last.ensures.disk model (c.under.ensures.disk model is)
