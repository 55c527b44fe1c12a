use Rattle.std.proofs.Common.{ℕ, List, [], ◌∷◌, ◌++◌, sym, ap, ◌∙◌}
use Rattle.std.specs.Prelude.{codes}
use Rattle.std.specs.List.{concat}
use Rattle.std.proofs.lemmas.List.Folds.{concat-append}
use Rattle.sse_script.specs.ShownViews.{cause_view}
use Rattle.sse_script.specs.Texts.{cause_text}
use Rattle.sse_script.proofs.stop_line.stop_line.Goals as goal

pub returns : goal.returns
returns c =
    let text = cause_text (cause_view c.args.cause.now) in
    c.push_str-2.ensures.bytes
    ∙ ap (λ (line : List ℕ). line ++ (10 ∷ []))
    (c.push_cause.ensures.text ∙ ap (λ (line : List ℕ). line ++ concat text) (c.push_str.ensures.bytes ∙ ap (λ (line : List ℕ). line ++ codes "stopped: ") c.new-line.ensures))
    ∙ ap (λ (rest : List ℕ). codes "stopped: " ++ rest) (sym (concat-append text ((10 ∷ []) ∷ [])))
