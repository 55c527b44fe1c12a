use Rattle.std.proofs.Common.{◌++◌, ap, append_assoc, string_bytes, ◌∙◌}
use Rattle.std.specs.Prelude.{codes}
use Rattle.std.proofs.lemmas.Result.{on_ok_weaker}
use Rattle.leakage_texts.specs.LeakTexts.{numbers_text}
use Rattle.leakage_texts.proofs.search.push_some_blocks.Goals as goal

pub returns : goal.returns
returns c =
    let blocks = numbers_text c.args.blocks.now in
    on_ok_weaker c.push_positions.result
    (λ e. e ∙ ap (λ front. front ++ blocks) c.in_ok-push_str.ensures.bytes ∙ append_assoc (string_bytes c.args.line.now) (codes " with blocks") blocks)
    c.push_positions.ensures
