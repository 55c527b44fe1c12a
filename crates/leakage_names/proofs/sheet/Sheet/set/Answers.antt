use Rattle.std.proofs.Common.{◌≡◌, false, Some, sym, ap, ◌∙◌, subst}
use Rattle.std.specs.Prelude.{option_map}
use Rattle.std.specs.BTreeMap.{get, is_at}
use Rattle.std.specs.Ordering.{nat_cmp}
use Rattle.std.specs.Cmp.Lexicographic.{slice_cmp}
use Rattle.leakage_names.specs.Keys.{key_of}
use Rattle.leakage_names.specs.Sheets.{value_at}
use Rattle.leakage_names.proofs.SheetLaws.{value_at-get, other_key}
use Rattle.leakage_names.proofs.sheet.Sheet.set.Goals as goal

pub returns-clause-given : goal.returns-clause-given
returns-clause-given c =
    value_at-get (record { values = c.insert.new.self; alloc = c.self.inside.alloc }) c.args.name
    ∙ ap (option_map (λ v. v.items)) (ap (get (slice_cmp nat_cmp) c.insert.new.self) (sym c.key_of.ensures) ∙ c.in_ok-insert.ensures.updates.1)
    ∙ ap (λ items. Some items) c.in_ok-copy.ensures.items

pub returns-clause-others : goal.returns-clause-others
returns-clause-others c other differ =
    value_at-get (record { values = c.insert.new.self; alloc = c.self.inside.alloc }) other
    ∙ ap (option_map (λ v. v.items)) (c.in_ok-insert.ensures.updates.2 (key_of other) (subst (λ key. is_at (slice_cmp nat_cmp key) (key_of other) ≡ false) (sym c.key_of.ensures) (other_key c.args.name other differ)))
    ∙ sym (value_at-get c.self.inside other) ∙ ap (λ values. value_at values other) c.self.view_is
