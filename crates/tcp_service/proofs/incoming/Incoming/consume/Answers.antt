use Rattle.tcp_service.proofs.Ranges.{slice_range-consumed}
use Rattle.tcp_service.proofs.incoming.Incoming.consume.Goals as goal

pub returns : goal.returns
returns c = slice_range-consumed _ _ _ _ _ c.self.view_is c.requires
