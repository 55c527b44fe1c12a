use Rattle.world_run.proofs.sending.sent_on.Goals as goal

pub returns-clause-leads : goal.returns-clause-leads
returns-clause-leads g c = λ first w disk stop other s. c.sent_first.ensures.leads first w disk stop other c.args.done.now.items c.args.searches s
