use Rattle.keyed_fn.specs.KeyedFn.{keyed_fn}
use Rattle.world_run.proofs.whole_run.run.Goals as goal

pub play-requires-clause-first : goal.play-requires-clause-first
play-requires-clause-first g c = (c.args.key, c.new-world.ensures.stands (keyed_fn g.K.Keyed.prf g.K.Keyed.pad))

pub returns : goal.returns
returns g c = record { passes = c.in_ok-behinds.ensures.passes c.args.key (c.new-world.ensures.stands (keyed_fn g.K.Keyed.prf g.K.Keyed.pad)) }
