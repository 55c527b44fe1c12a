use Rattle.std.proofs.Common.{◌≡◌, ap, arith, length, sym, ◌∙◌}
use Rattle.client_core.proofs.planned_renewal.PlannedRenewal.payload_into.Goals as goal

pub returns-clause-most : goal.returns-clause-most
returns-clause-most c =
    let size : length c.args.self.now.mark ≡ 16 = ap (λ plan. length plan.mark) (sym c.self.view_is) ∙ c.is_mark.ensures in
    omega (arith, size)
