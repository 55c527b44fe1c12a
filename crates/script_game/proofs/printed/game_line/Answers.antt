use Rattle.std.proofs.Common.{◌≡◌, ℕ, List, ◌++◌, append_assoc, ap, ◌∙◌}
use Rattle.std.specs.Prelude.{codes, decimal}
use Rattle.script_game.proofs.printed.game_line.Goals as goal

-- a text and a number after a line, and the rest after them
pushed : (old new text : List ℕ) (n m : ℕ) (rest : List ℕ) → new ≡ old ++ (text ++ decimal n) → n ≡ m → new ++ rest ≡ old ++ (text ++ (decimal m ++ rest))
pushed old new text n m rest e same =
    ap (λ line. line ++ rest) (e ∙ ap (λ n. old ++ (text ++ decimal n)) same)
    ∙ append_assoc old (text ++ decimal m) rest
    ∙ ap (λ more. old ++ more) (append_assoc text (decimal m) rest)

pub returns : goal.returns
returns c =
    let end = codes " bytes\n" in
    let rest = codes " commands, " ++ (decimal c.args.bytes ++ end) in
    c.push_str.ensures.bytes
    ∙ pushed c.push_one.new.line.bytes c.push_one-2.new.line.bytes (codes " commands, ") _ c.args.bytes end c.push_one-2.ensures.text (cc)
    ∙ pushed c.new-line.result.bytes c.push_one.new.line.bytes (codes "duel: ") _ c.args.commands rest c.push_one.ensures.text c.from.ensures
    ∙ ap (λ (line : List ℕ). line ++ (codes "duel: " ++ (decimal c.args.commands ++ rest))) c.new-line.ensures
