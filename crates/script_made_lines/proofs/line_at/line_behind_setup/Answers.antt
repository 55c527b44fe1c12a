use Rattle.std.proofs.Common.{ℕ, ◌+◌, ◌-◌, ◌*◌, ◌/◌, ◌++◌, List, map, refl, arith}
use Rattle.std.specs.List.{range_with_len}
use Rattle.script_made_lines.specs.declared.made_line.MadeLine.{MadeLine}
use Rattle.script_made_lines.specs.declared.made_line.MadeLine.TheVariants.{Delete, Add, Find}
use Rattle.script_made_lines.proofs.LinesLemmas.{in_run, behind_run, in_last, behind_last}
use Rattle.script_made_lines.proofs.line_at.line_behind_setup.Goals as goal

-- the runs behind that of the deletions, and so on
abbrev searches : List MadeLine
searches = map Find (range_with_len 0 200)

abbrev new_ones : ℕ → List MadeLine
new_ones n = map Add (range_with_len (n + 1) (n / 20)) ++ searches

abbrev additions : ℕ → List MadeLine
additions n = map (λ t. Add (20 * t)) (range_with_len 1 (n / 20)) ++ new_ones n

pub returns-then-number-tenth-clause-line : goal.returns-then-number-tenth-clause-line
returns-then-number-tenth-clause-line c =
    in_run (λ t. Delete (10 * t)) 1 (c.args.n / 10) (additions c.args.n) c.args.number (c.args.number + 1) _ c.if-number-tenth.true (omega arith) refl

pub returns-then-number-tenth-2-clause-line : goal.returns-then-number-tenth-2-clause-line
returns-then-number-tenth-2-clause-line c =
    let n = c.args.n in
    let k = c.args.number - n / 10 in
    behind_run (λ t. Delete (10 * t)) 1 (n / 10) (additions n) c.args.number k _ (omega (arith, c.if-number-tenth.false))
    (in_run (λ t. Add (20 * t)) 1 (n / 20) (new_ones n) k (k + 1) _ (omega (arith, c.if-number-tenth.false, c.if-number-tenth-2.true)) (omega arith) refl)

pub returns-then-number-tenth-3-clause-line : goal.returns-then-number-tenth-3-clause-line
returns-then-number-tenth-3-clause-line c =
    let n = c.args.n in
    let k = c.args.number - n / 10 in
    let i = k - n / 20 in
    behind_run (λ t. Delete (10 * t)) 1 (n / 10) (additions n) c.args.number k _ (omega (arith, c.if-number-tenth.false))
    (behind_run (λ t. Add (20 * t)) 1 (n / 20) (new_ones n) k i _ (omega (arith, c.if-number-tenth.false, c.if-number-tenth-2.false))
    (in_run Add (n + 1) (n / 20) searches i (n + 1 + i) _ (omega (arith, c.if-number-tenth.false, c.if-number-tenth-2.false, c.if-number-tenth-3.true)) (omega arith) refl))

pub returns-then-number-tenth-4-clause-line : goal.returns-then-number-tenth-4-clause-line
returns-then-number-tenth-4-clause-line c =
    let n = c.args.n in
    let k = c.args.number - n / 10 in
    let i = k - n / 20 in
    let s = c.args.number - n / 10 - 2 * (n / 20) in
    behind_run (λ t. Delete (10 * t)) 1 (n / 10) (additions n) c.args.number k _ (omega (arith, c.if-number-tenth.false))
    (behind_run (λ t. Add (20 * t)) 1 (n / 20) (new_ones n) k i _ (omega (arith, c.if-number-tenth.false, c.if-number-tenth-2.false))
    (behind_run Add (n + 1) (n / 20) searches i s _ (omega (arith, c.if-number-tenth.false, c.if-number-tenth-2.false, c.if-number-tenth-3.false))
    (in_last Find 0 200 s s _ (omega (arith, c.if-number-tenth.false, c.if-number-tenth-2.false, c.if-number-tenth-3.false, c.if-number-tenth-4.true)) (omega arith) refl)))

pub returns-else-number-tenth-4-clause-line : goal.returns-else-number-tenth-4-clause-line
returns-else-number-tenth-4-clause-line c =
    let n = c.args.n in
    let k = c.args.number - n / 10 in
    let i = k - n / 20 in
    let s = c.args.number - n / 10 - 2 * (n / 20) in
    behind_run (λ t. Delete (10 * t)) 1 (n / 10) (additions n) c.args.number k _ (omega (arith, c.if-number-tenth.false))
    (behind_run (λ t. Add (20 * t)) 1 (n / 20) (new_ones n) k i _ (omega (arith, c.if-number-tenth.false, c.if-number-tenth-2.false))
    (behind_run Add (n + 1) (n / 20) searches i s _ (omega (arith, c.if-number-tenth.false, c.if-number-tenth-2.false, c.if-number-tenth-3.false))
    (behind_last Find 0 200 s (omega (arith, c.if-number-tenth.false, c.if-number-tenth-2.false, c.if-number-tenth-3.false, c.if-number-tenth-4.false)))))
