use Rattle.std.proofs.Common.{Bool, ap, ◌∙◌}
use Rattle.bool_search.proofs.NumbersJoined.{join-next, pushed}
use Rattle.bool_search.proofs.joining.joined.Goals as goal

pub ids-preserved : goal.ids-preserved
ids-preserved c =
    let first = c.in-Some.first in record {
      joined = join-next c.args.join _ _ c.ids.ids.items _ _ _ _ first.number first.in_left first.in_right c.ids.invariant.joined c.in-Some.ensures.some _
          (c.in_ok-push_if.ensures ∙ ap (λ (b : Bool). pushed b c.ids.ids.items first.number) c.takes-taken.ensures);
    }
