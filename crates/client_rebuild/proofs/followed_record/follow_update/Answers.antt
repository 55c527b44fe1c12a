use Rattle.std.proofs.Common.{◌+◌, sym, ap, refl, subst, ◌∙◌}
use Rattle.client_registry.specs.Facts.{Facts}
use Rattle.client_rebuild.proofs.LastLaws.{counted_last, fewer_last, free_after, is_followed}
use Rattle.client_rebuild.specs.Updates.{AreCounted, command_of, fits}
use Rattle.client_rebuild.specs.declared.last.Last.TheVariants as last
use Rattle.client_rebuild.proofs.followed_record.follow_update.Goals as goal

pub invariant_of-result-clause-accepted : goal.invariant_of-result-clause-accepted
invariant_of-result-clause-accepted c =
    ap (λ (x : Facts). fits x (command_of c.args.update)) c.in-Ok.ensures.ok ∙ (free_after (last.Update c.args.before) (command_of c.args.update) c.requires).0

pub invariant_of-result-clause-counted : goal.invariant_of-result-clause-counted
invariant_of-result-clause-counted c = subst (λ (x : Facts). AreCounted x (c.args.before.frames + 1)) (sym c.in-Ok.ensures.ok) (counted_last (last.Update c.args.before))

pub invariant_of-result-clause-number : goal.invariant_of-result-clause-number
invariant_of-result-clause-number c = (free_after (last.Update c.args.before) (command_of c.args.update) c.requires).1

pub invariant_of-result-clause-fewer : goal.invariant_of-result-clause-fewer
invariant_of-result-clause-fewer c = fewer_last (last.Update c.args.before)

pub invariant_of-result-in-Err-clause-accepted : goal.invariant_of-result-in-Err-clause-accepted
invariant_of-result-in-Err-clause-accepted c = ap (λ (x : Facts). fits x (command_of c.args.before.update)) c.in-Err.ensures.err ∙ c.args.before.accepted

pub invariant_of-result-in-Err-clause-counted : goal.invariant_of-result-in-Err-clause-counted
invariant_of-result-in-Err-clause-counted c = subst (λ (x : Facts). AreCounted x c.args.before.frames) (sym c.in-Err.ensures.err) c.args.before.counted

pub returns-in-Ok : goal.returns-in-Ok
returns-in-Ok c = is_followed (last.Update c.args.before) _ c.in-Ok.ensures.ok refl refl c.carry_out.ensures.keys refl refl
