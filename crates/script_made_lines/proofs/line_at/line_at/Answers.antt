use Rattle.std.proofs.Common.{◌≡◌, ℕ, suc, ◌+◌, ◌-◌, List, ◌∷◌, ◌++◌, slice_get, Option, map, refl, ap, ◌∙◌, arith}
use Rattle.std.specs.List.{range_with_len}
use Rattle.script_made_lines.specs.Lines.{lines_behind_setup, made_lines}
use Rattle.script_made_lines.specs.declared.made_line.MadeLine.{MadeLine}
use Rattle.script_made_lines.specs.declared.made_line.MadeLine.TheVariants.{Doc, SetUp}
use Rattle.script_made_lines.proofs.LinesLemmas.{in_run, behind_run}
use Rattle.script_made_lines.proofs.line_at.line_at.Goals as goal

abbrev rest : ℕ → List MadeLine
rest n = SetUp ∷ lines_behind_setup n

-- behind the first line
later : (x : Option MadeLine) (n k j : ℕ) → k ≡ suc j → x ≡ slice_get (map Doc (range_with_len 1 n) ++ rest n) j → x ≡ slice_get (made_lines n) k
later x n k j e is = is ∙ ap (λ (i : ℕ). slice_get (made_lines n) i) (let back : suc j ≡ k = omega (arith, e) in back)

pub returns-then-number-n-clause-line : goal.returns-then-number-n-clause-line
returns-then-number-n-clause-line c =
    let n = c.args.documents in
    let j = c.args.number - 1 in
    later _ n c.args.number j (omega (arith, c.if-number-eq0.false))
    (in_run Doc 1 n (rest n) j c.args.number _ (omega (arith, c.if-number-eq0.false, c.if-number-n.true, c.from-n.ensures)) (omega (arith, c.if-number-eq0.false)) refl)

pub returns-then-number-n-2-clause-line : goal.returns-then-number-n-2-clause-line
returns-then-number-n-2-clause-line c =
    let n = c.args.documents in
    let j = c.args.number - 1 in
    later _ n c.args.number j (omega (arith, c.if-number-eq0.false))
    (behind_run Doc 1 n (rest n) j 0 _ (omega (arith, c.if-number-n-2.true, c.from-n.ensures)) refl)

pub returns-else-number-n-2-clause-line : goal.returns-else-number-n-2-clause-line
returns-else-number-n-2-clause-line c =
    let n = c.args.documents in
    let j = c.args.number - 1 in
    let i = c.args.number - (n + 2) in
    later _ n c.args.number j (omega (arith, c.if-number-eq0.false))
    (behind_run Doc 1 n (rest n) j (suc i) _ (omega (arith, c.if-number-eq0.false, c.if-number-n.false, c.if-number-n-2.false, c.from-n.ensures))
    (c.line_behind_setup.ensures.line ∙ rw c.from-n.ensures refl))
