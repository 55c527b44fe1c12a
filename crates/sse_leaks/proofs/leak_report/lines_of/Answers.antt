use Rattle.std.proofs.Common.{◌≤◌, ◌≡◌, ◌++◌, [], length, map, ap, string_bytes, ◌∙◌, arith}
use Rattle.std.proofs.lemmas.List.{length-map, take_all}
use Rattle.leakage_texts.proofs.LineLemmas.{push_placed}
use Rattle.leakage_texts.specs.LeakTexts.{text_of_leak}
use Rattle.leakage_frames.specs.Views.{leak_view}
use Rattle.sse_leaks.specs.LeakReport.{leak_lines}
use Rattle.sse_leaks.proofs.leak_report.lines_of.Goals as goal

pub loop-command-preserved : goal.loop-command-preserved
loop-command-preserved c =
    let leak = c.index-leaks-command.result in
    let next : string_bytes c.push_line.new.text ≡ string_bytes c.loop-command.text ++ text_of_leak c.loop-command.command (leak_view leak) = c.in_ok-push_line.ensures in
    push_placed leak_view c.args.leaks.now c.loop-command.command leak c.loop-command-test.true (λ e. text_of_leak e.0 e.1) [] (string_bytes c.loop-command.text) (string_bytes c.push_line.new.text) c.loop-command.invariant
    (next ∙ ap (λ l. string_bytes c.loop-command.text ++ text_of_leak c.loop-command.command (leak_view l)) c.index-leaks-command.is)

pub returns : goal.returns
returns c =
    let leaks = map leak_view c.args.leaks.now in
    let all : length leaks ≤ c.loop-command.command = omega (arith, length-map c.args.leaks.now leak_view, c.loop-command-test.false) in
    c.loop-command.invariant ∙ ap leak_lines (take_all c.loop-command.command leaks all)
