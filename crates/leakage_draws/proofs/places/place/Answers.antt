use Rattle.std.proofs.Common.{◌≡◌, [], Some, sym, ap, ◌∙◌}
use Rattle.std.specs.Prelude.{is_some, unwrap_or}
use Rattle.leakage_values.proofs.HeldLaws.{holds_one}
use Rattle.keyed_fn.specs.Xored.{xored}
use Rattle.leakage_names.specs.Sheets.{value_at}
use Rattle.leakage_draws.proofs.places.place.Goals as goal

pub returns-clause-valued : goal.returns-clause-valued
returns-clause-valued c = ap is_some (sym c.in-Some.ensures)

pub returns-clause-held : goal.returns-clause-held
returns-clause-held c = λ names value is had.
    let there : value_at c.args.sheet.now c.args.from.now ≡ Some c.in-Some.value.now = sym c.in-Some.ensures in
    holds_one c.args.moved.now c.set.new.self names value c.args.to.now had
    (c.in_ok-set.ensures.given
    ∙ ap (λ v. Some v)
    (c.as_slice.ensures
    ∙ c.mask-2.ensures
    ∙ ap (λ v. xored v c.args.other.now) (c.mask.ensures ∙ ap (λ v. xored v c.args.one.now) (c.in_ok-value.ensures ∙ sym (ap (λ o. unwrap_or o []) there)))
    ∙ sym is))
    c.in_ok-set.ensures.others
