use Rattle.std.proofs.Common.{ℕ, ◌+◌, List, ◌++◌, drop, sym, ap, ◌∙◌, arith}
use Rattle.script_made_lines.specs.Lines.{made_lines}
use Rattle.script_made_lines.specs.Script.{text_of_lines}
use Rattle.script_made_lines.proofs.DropLemmas.{drop-head, drop-none, drop-past}
use Rattle.script_made_lines.proofs.source.MadeScript.advance.Goals as goal

-- nothing is left of the line in hand
pub returns-in-Some-clause-left : goal.returns-in-Some-clause-left
returns-in-Some-clause-left c =
    let s = c.args.self.now in
    let lines = made_lines s.documents in
    let behind = text_of_lines s.seed (drop (s.next + 1) lines) in
    ap (λ (line : List ℕ). line ++ behind) c.ended_line-self.ensures
    ∙ sym (ap (λ (left : List ℕ). left ++ text_of_lines s.seed (drop s.next lines)) (drop-past s.line.bytes s.at (omega (arith, c.requires)))
    ∙ ap (text_of_lines s.seed) (drop-head lines s.next c.in-Some.line (sym c.line_at.ensures.line ∙ c.in-Some.is)))

pub returns-in_default-clause-at_end : goal.returns-in_default-clause-at_end
returns-in_default-clause-at_end c at =
    let s = c.args.self.now in
    let lines = made_lines s.documents in
    ap (λ (left : List ℕ). left ++ text_of_lines s.seed (drop s.next lines)) (drop-past s.line.bytes s.at (omega (arith, c.requires)))
    ∙ ap (text_of_lines s.seed) (drop-none lines s.next (sym c.line_at.ensures.line ∙ c.in_default.is))
