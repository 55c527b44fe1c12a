use Rattle.std.proofs.Common.{Some, ap, subst, ◌∙◌}
use Rattle.client_registry.specs.Sized.{run_words}
use Rattle.leakage_history.specs.HashedRun.{run_of}
use Rattle.leakage_values.specs.NamesOnce.{Marks}
use Rattle.leakage_values.specs.Numbered.{numbered}
use Rattle.keyed_fn.specs.KeyedFn.{keyed_fn}
use Rattle.def_comparison.specs.UsedNames as used
use Rattle.leakage_values.proofs.HeldLaws.{held, marks}
use Rattle.leakage_sheets.proofs.ValueLaws.{value-numbered}
use Rattle.leakage_sheets.specs.ByKeys.{value_by_keys}
use Rattle.leakage_sheets.proofs.sheet.sheet_of.Goals as goal

pub returns-clause-values : goal.returns-clause-values
returns-clause-values g c =
    let f = keyed_fn g.K.Keyed.prf g.K.Keyed.pad in
    let keys = c.in_ok-keys.keys in
    let run = run_of c.args.history.now in
    let words = run_words run in
    λ o is n within.
    held c.in_ok-sheet.sheet c.as_slice.result.now (value_by_keys f keys.shape keys.words keys.dummies) (numbered words) (used.names o run)
    c.in_ok-sheet.ensures (c.as_slice.ensures ∙ c.in_ok-names.ensures o is) n within
    ∙ ap (λ v. Some v) (c.in_ok-keys.ensures.values (numbered words n) ∙ value-numbered f c.args.key.now o run n c.in_ok-keys.ensures.few within)

pub returns-clause-names : goal.returns-clause-names
returns-clause-names g c o is =
    let keys = c.in_ok-keys.keys in
    subst (Marks c.in_ok-sheet.sheet) (c.as_slice.ensures ∙ c.in_ok-names.ensures o is)
    (marks c.in_ok-sheet.sheet c.as_slice.result.now (value_by_keys (keyed_fn g.K.Keyed.prf g.K.Keyed.pad) keys.shape keys.words keys.dummies) c.in_ok-sheet.ensures)
