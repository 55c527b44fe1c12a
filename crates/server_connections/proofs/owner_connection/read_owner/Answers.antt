use Rattle.std.proofs.Common.{sym, ap, ◌∙◌}
use Rattle.std.specs.Io.KnownBytes.{prepend_known}
use Rattle.server_connections.proofs.owner_connection.read_owner.Goals as goal

pub returns-in-Ok-clause-owner : goal.returns-in-Ok-clause-owner
returns-in-Ok-clause-owner g c = c.in-Ok.ensures.full ∙ ap (λ bytes. prepend_known bytes (g.S.Source.remaining c.read_full.new.source)) (sym c.number_of.ensures.number)
