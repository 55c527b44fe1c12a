use Rattle.std.proofs.Common.{subst}
use Rattle.keyed_fn.specs.KeyedFn.{keyed_fn}
use Rattle.leakage_history.specs.HashedEpochs.{epochs_in}
use Rattle.script_history.proofs.UsedKeysLaws.{rebuild-before, rebuild-behind}
use Rattle.script_history.specs.Stages.{IsAt}
use Rattle.script_history.specs.UsedKeys.{marks_known}
use Rattle.script_history.proofs.taken_line.rebuild.Goals as goal

pub returns-in-Collecting-clause-takes : goal.returns-in-Collecting-clause-takes
returns-in-Collecting-clause-takes g c = rebuild-before (keyed_fn g.K.Keyed.prf g.K.Keyed.pad) c.args.standing c.in-Collecting.docs c.in-Collecting.is c.args.key

pub returns-in_ok-found-in-Built-clause-takes : goal.returns-in_ok-found-in-Built-clause-takes
returns-in_ok-found-in-Built-clause-takes g c = λ place stands.
    rebuild-behind (keyed_fn g.K.Keyed.prf g.K.Keyed.pad) c.args.key place (epochs_in c.in-Built.history) (subst (λ s. IsAt s place) c.in-Built.is stands.at) (marks_known c.args.standing.used) stands.knows c.in_ok-found-in-Built.found c.renew.new.history c.renew.new.used
    c.in_ok-found-in-Built.ensures.found c.in_ok-found-in-Built.ensures.after c.in_ok-found-in-Built.ensures.known
