use Rattle.keyed_fn.specs.KeyedFn.{keyed_fn}
use Rattle.def_link_events.specs.Served.{idle}
use Rattle.sse_link.specs.LinkStates.{served}
use Rattle.sse_link.proofs.Kept.{cut_served}
use Rattle.sse_link.proofs.loopback.Loopback.transcript.Goals as goal

-- the link inside it is honest, and a cut drops what waits
pub returns-clause-honest : goal.returns-clause-honest
returns-clause-honest g c = rw (← c.self.view_is)
    (cut_served (keyed_fn g.K.Keyed.prf g.K.Keyed.pad) (idle c.self.inside.far.began) (served c.self.inside.far) c.self.inside.far.events c.self.inside.cut c.transcript.ensures.honest)
