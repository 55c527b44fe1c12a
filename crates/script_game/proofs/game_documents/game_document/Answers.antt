use Rattle.std.proofs.Common.{length, ap, subst, ◌∙◌, arith, None, Some, ◌≡◌}
use Rattle.script_documents.specs.LineDocument.{document}
use Rattle.script_documents.specs.LineFaults.{SaysRefusal}
use Rattle.script_documents.specs.Refused.{document_refusal}
use Rattle.script_game.proofs.Refusals.{document_refusal-game}
use Rattle.script_game.proofs.game_documents.game_document.Goals as goal

pub document_of-requires : goal.document_of-requires
document_of-requires c = let two = ap length (c.new.ensures ∙ c.words_line.ensures) in omega (arith, two)

pub unreachable-requires : goal.unreachable-requires
unreachable-requires c =
    let none = ap (document_refusal c.args.id) (c.new.ensures ∙ c.words_line.ensures) ∙ document_refusal-game c.args.side c.args.id c.requires in
    let no : Some c.in-Err-Refused.field-0-0 ≡ None = subst (λ fault. SaysRefusal fault (document_refusal c.args.id c.new.result)) c.in-Err-Refused.field-0-is c.in-Err-Refused.ensures.refused ∙ none in
    absurd (cc)

pub returns-in-Ok : goal.returns-in-Ok
returns-in-Ok c = c.in-Ok.ensures.document ∙ ap (document c.args.id) (c.new.ensures ∙ c.words_line.ensures)
