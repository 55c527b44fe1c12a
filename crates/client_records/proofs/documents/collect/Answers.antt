use Rattle.std.proofs.Common.{rules}
use Rattle.client_records.proofs.MemoryLaws.{not_refused}
use Rattle.client_records.proofs.documents.collect.Goals as goal

pub returns-in_err-push-clause-memory : goal.returns-in_err-push-clause-memory
returns-in_err-push-clause-memory c =
    λ memory. not_refused c.args.docs.now.documents c.args.doc c.push.result c.in_err-push.field-0.0 c.push.ensures.refused c.in_err-push.was (search rules)
