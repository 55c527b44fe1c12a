use Rattle.sse_client.proofs.resumed_run.lacking.Goals as goal

pub returns-in-Ok-clause-lacks : goal.returns-in-Ok-clause-lacks
returns-in-Ok-clause-lacks c = λ f key known knows. c.in-Ok.ensures.lacks f key known.begins known.run knows

pub returns-in-Err-clause-meant : goal.returns-in-Err-clause-meant
returns-in-Err-clause-meant c = (c.in-Err.fault, c.stop_of.ensures)

pub returns-in-Err-clause-stopped : goal.returns-in-Err-clause-stopped
returns-in-Err-clause-stopped c = λ f key known knows. (c.in-Err.fault, c.stop_of.ensures, c.in-Err.ensures.lacks f key known.begins known.run knows)
