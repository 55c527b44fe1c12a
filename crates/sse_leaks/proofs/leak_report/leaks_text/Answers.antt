use Rattle.std.proofs.Common.{◌≡◌, length, map, ap, subst, string_bytes, ◌∙◌, arith}
use Rattle.std.specs.Prelude.{IfOk}
use Rattle.std.proofs.lemmas.List.{length-map}
use Rattle.leakage_history.specs.HashedEpochs.{epochs_in}
use Rattle.leakage_frames.specs.Views.{leak_view}
use Rattle.sse_leaks.specs.LeakReport.{leak_lines}
use Rattle.sse_leaks.proofs.LeaksPrinted.{length-leaks}
use Rattle.sse_leaks.proofs.leak_report.leaks_text.Goals as goal

pub lines_of-requires : goal.lines_of-requires
lines_of-requires c =
    let leaks = c.as_slice.result.now in
    omega (arith, c.requires, length-leaks (epochs_in c.args.epochs.now), ap length (ap (map leak_view) c.as_slice.ensures ∙ c.in_ok-leaks.ensures), length-map leaks leak_view)

pub returns : goal.returns
returns c =
    subst (λ leaks. IfOk c.lines_of.result (λ text. string_bytes text ≡ leak_lines leaks)) (ap (map leak_view) c.as_slice.ensures ∙ c.in_ok-leaks.ensures) c.lines_of.ensures
