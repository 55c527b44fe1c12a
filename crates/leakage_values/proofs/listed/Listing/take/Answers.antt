use Rattle.std.proofs.lemmas.Result.{on_ok_weaker}
use Rattle.leakage_values.proofs.listed.Listing.take.Goals as goal

pub returns : goal.returns
returns c =
    on_ok_weaker c.register.result
    (λ told s past listing. record {
      registry = told s past listing.registry;
      table = c.in_ok-list_command.ensures s past listing.registry listing.table;
    })
    c.register.ensures.ok
