use Rattle.std.proofs.Common.{◌≡◌, ◌<◌, List, ℕ, ◌∷◌, length, drop, sym, ap, ◌∙◌, arith}
use Rattle.sse_script.specs.TextLines.{lines_of}
use Rattle.script_made_lines.proofs.DropLemmas.{drop-past}
use Rattle.script_made_lines.proofs.PrintedLemmas.{FirstLine, lines_of-cut}
use Rattle.script_made_lines.proofs.printed.first_line.Goals as goal

pub returns-then-is_empty-2-clause-some : goal.returns-then-is_empty-2-clause-some
returns-then-is_empty-2-clause-some c =
    let end = c.split_at.result.1.now in
    let line = c.split_at.result.0.now in
    let none : length end ≡ 0 = grind arith in
    let nothing : drop 1 end ≡ end = drop-past end 1 (omega (arith, none)) ∙ sym (drop-past end 0 (omega (arith, none))) in
    let some : 0 < length c.args.text.now = grind arith in
    let cut : FirstLine c.args.text.now line end = record { n = c.line_len.result; place = c.line_len.ensures.count; front = c.split_at.ensures.front; back = c.split_at.ensures.back } in
    lines_of-cut c.args.text.now line end some cut ∙ ap (λ (rest : List ℕ). line ∷ lines_of rest) nothing

pub returns-clause-some : goal.returns-clause-some
returns-clause-some c =
    let end = c.split_at.result.1.now in
    let line = c.split_at.result.0.now in
    let some : 0 < length c.args.text.now = grind arith in
    let cut : FirstLine c.args.text.now line end = record { n = c.line_len.result; place = c.line_len.ensures.count; front = c.split_at.ensures.front; back = c.split_at.ensures.back } in
    lines_of-cut c.args.text.now line end some cut ∙ ap (λ (rest : List ℕ). line ∷ lines_of rest) (sym c.split_at-2.ensures.back)
