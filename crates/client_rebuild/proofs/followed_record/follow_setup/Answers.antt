use Rattle.std.proofs.Common.{◌+◌, sym, ap, refl, subst, ◌∙◌}
use Rattle.client_registry.specs.Facts.{Facts}
use Rattle.client_rebuild.proofs.LastLaws.{counted_last, fewer_last, free_after, is_followed, parameters_accepted}
use Rattle.client_rebuild.specs.Recalls.{setup_in}
use Rattle.client_rebuild.specs.Updates.{AreCounted, command_of, fits}
use Rattle.client_rebuild.specs.declared.last.Last.TheVariants as last
use Rattle.client_rebuild.proofs.followed_record.follow_setup.Goals as goal

pub invariant_of-result-clause-sized : goal.invariant_of-result-clause-sized
invariant_of-result-clause-sized c = parameters_accepted (setup_in c.args.setup) c.args.setup.accepted

pub invariant_of-result-clause-accepted : goal.invariant_of-result-clause-accepted
invariant_of-result-clause-accepted c =
    let l = last.Setup c.args.setup in
    ap (λ (x : Facts). fits x (command_of c.args.update)) (c.from_docs.ensures.setup (record { b = c.args.setup.b; big = c.args.setup.big }) c.args.setup.pad)
    ∙ (free_after l (command_of c.args.update) c.requires).0

pub invariant_of-result-clause-counted : goal.invariant_of-result-clause-counted
invariant_of-result-clause-counted c =
    let l = last.Setup c.args.setup in
    subst (λ (x : Facts). AreCounted x (c.args.setup.before + c.args.setup.frames)) (sym (c.from_docs.ensures.setup (record { b = c.args.setup.b; big = c.args.setup.big }) c.args.setup.pad)) (counted_last l)

pub invariant_of-result-clause-number : goal.invariant_of-result-clause-number
invariant_of-result-clause-number c = (free_after (last.Setup c.args.setup) (command_of c.args.update) c.requires).1

pub invariant_of-result-clause-fewer : goal.invariant_of-result-clause-fewer
invariant_of-result-clause-fewer c = fewer_last (last.Setup c.args.setup)

pub returns : goal.returns
returns c =
    is_followed (last.Setup c.args.setup) _ (c.from_docs.ensures.setup (record { b = c.args.setup.b; big = c.args.setup.big }) c.args.setup.pad) refl refl c.from_docs.ensures.keys refl refl
