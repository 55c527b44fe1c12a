use Rattle.std.proofs.Common.{[], refl}
use Rattle.std.proofs.lemmas.Result.{IfOk-weaker}
use Rattle.client_registry.specs.Run.{at_first}
use Rattle.leakage_model.specs.TrailFacts.{Follows}
use Rattle.leakage_model.proofs.trail.Trail.begin.Goals as goal

pub returns-clause-follows : goal.returns-clause-follows
returns-clause-follows c = IfOk-weaker c.begin_at.result _ (λ trail. Follows trail at_first c.args.history.now.setup []) (λ trail follows. follows at_first refl) c.begin_at.ensures.follows
