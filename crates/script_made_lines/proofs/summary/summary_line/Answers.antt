use Rattle.std.proofs.Common.{◌≡◌, ℕ, List, ◌++◌, append_assoc, ap, ◌∙◌}
use Rattle.std.specs.Prelude.{codes, decimal}
use Rattle.std.specs.Option.{option_map_or}
use Rattle.sse_script.specs.TextLines.{lines_of}
use Rattle.script_made_lines.specs.Summary.{count_with, first_counts, identifiers_shown}
use Rattle.script_made_lines.proofs.summary.summary_line.Goals as goal

-- a text and a number behind a line, and the rest behind them
pushed : (old new text : List ℕ) (n m : ℕ) (rest : List ℕ) → new ≡ old ++ (text ++ decimal n) → n ≡ m → new ++ rest ≡ old ++ (text ++ (decimal m ++ rest))
pushed old new text n m rest e same =
    ap (λ line. line ++ rest) (e ∙ ap (λ n. old ++ (text ++ decimal n)) same)
    ∙ append_assoc old (text ++ decimal m) rest
    ∙ ap (λ more. old ++ more) (append_assoc text (decimal m) rest)

pub returns : goal.returns
returns c =
    let lines = lines_of c.args.printed.now in
    let rest6 = codes " identifiers\n" in
    let shown = identifiers_shown lines in
    let rest5 = codes " added, 200 searches, " ++ (decimal shown ++ rest6) in
    let added = count_with (codes "added ") lines in
    let rest4 = codes " deleted, " ++ (decimal added ++ rest5) in
    let deleted = count_with (codes "deleted ") lines in
    let rest3 = codes " blocks, " ++ (decimal deleted ++ rest4) in
    let blocks = option_map_or (λ counts. counts.blocks) (first_counts lines) 0 in
    let rest2 = codes " words, " ++ (decimal blocks ++ rest3) in
    let words = option_map_or (λ counts. counts.words) (first_counts lines) 0 in
    let rest1 = codes " documents, " ++ (decimal words ++ rest2) in
    c.push_str.ensures.bytes
    ∙ pushed c.push_one-5.new.line.bytes c.push_one-6.new.line.bytes (codes " added, 200 searches, ") _ shown rest6 c.push_one-6.ensures.text c.identifiers_shown.ensures
    ∙ pushed c.push_one-4.new.line.bytes c.push_one-5.new.line.bytes (codes " deleted, ") _ added rest5 c.push_one-5.ensures.text c.count_with-2.ensures
    ∙ pushed c.push_one-3.new.line.bytes c.push_one-4.new.line.bytes (codes " blocks, ") _ deleted rest4 c.push_one-4.ensures.text c.count_with.ensures
    ∙ pushed c.push_one-2.new.line.bytes c.push_one-3.new.line.bytes (codes " words, ") _ blocks rest3 c.push_one-3.ensures.text c.told_counts-counts.ensures.blocks
    ∙ pushed c.push_one.new.line.bytes c.push_one-2.new.line.bytes (codes " documents, ") _ words rest2 c.push_one-2.ensures.text c.told_counts-counts.ensures.words
    ∙ pushed c.new-line.result.bytes c.push_one.new.line.bytes (codes "gen: ") _ c.args.documents rest1 c.push_one.ensures.text c.from.ensures
    ∙ ap (λ (line : List ℕ). line ++ (codes "gen: " ++ (decimal c.args.documents ++ rest1))) c.new-line.ensures
