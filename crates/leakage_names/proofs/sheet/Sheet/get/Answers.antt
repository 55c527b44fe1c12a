use Rattle.std.proofs.Common.{Some, sym, ap, ◌∙◌}
use Rattle.std.specs.Prelude.{option_map}
use Rattle.std.specs.BTreeMap.{get}
use Rattle.std.specs.Ordering.{nat_cmp}
use Rattle.std.specs.Cmp.Lexicographic.{slice_cmp}
use Rattle.leakage_names.specs.Sheets.{value_at}
use Rattle.leakage_names.proofs.SheetLaws.{value_at-get}
use Rattle.leakage_names.proofs.sheet.Sheet.get.Goals as goal

pub returns-in-Some : goal.returns-in-Some
returns-in-Some c = ap (λ items. Some items) c.as_slice.ensures.value ∙ ap (option_map (λ v. v.items)) (c.in-Some.ensures.value ∙ ap (get (slice_cmp nat_cmp) c.self.inside.values) c.key_of.ensures) ∙ sym (value_at-get c.self.inside c.args.name.now) ∙ ap (λ values. value_at values c.args.name.now) c.self.view_is

pub returns-in-None : goal.returns-in-None
returns-in-None c = ap (option_map (λ v. v.items)) (c.in-None.ensures.value ∙ ap (get (slice_cmp nat_cmp) c.self.inside.values) c.key_of.ensures) ∙ sym (value_at-get c.self.inside c.args.name.now) ∙ ap (λ values. value_at values c.args.name.now) c.self.view_is
