use Rattle.std.proofs.Common.{◌≡◌, ℕ, ◌<◌, ◌^◌, List, length, Option, None, Some, ap, subst, ◌∙◌, arith}
use Rattle.script_documents.specs.LineDocument.{document}
use Rattle.script_documents.specs.LineFaults.{SaysRefusal}
use Rattle.script_documents.specs.Refused.{document_refusal}
use Rattle.script_documents.specs.declared.line_fault.LineFault.{LineFault}
use Rattle.script_documents.specs.declared.line_fault.LineFault.TheVariants.{Refused}
use Rattle.script_made_lines.specs.Lines.{words_text}
use Rattle.script_made_lines.specs.Words.{made_words}
use Rattle.sse_script.specs.Fields.{fields_of}
use Rattle.sse_script.specs.declared.refusal.Refusal.{Refusal}
use Rattle.script_made_documents.proofs.MadeDocuments.{document_refusal-made, fields_of-made}
use Rattle.script_made_documents.proofs.document.gen_doc.Goals as goal

no_refusal : (fault : LineFault) (refusal : Refusal) (first : Option Refusal) → fault ≡ Refused refusal → SaysRefusal fault first → first ≡ None → ⊥
no_refusal fault refusal first is says none =
    let no : Some refusal ≡ None = subst (λ f. SaysRefusal f first) is says ∙ none in absurd (cc)

fields_are : (seed number : ℕ) (fields : List (List ℕ)) (bytes text line : List ℕ) → number < 2 ^ 36 → fields ≡ fields_of bytes → bytes ≡ text → text ≡ line → line ≡ words_text (made_words seed number) → fields ≡ made_words seed number
fields_are seed number fields bytes text line small cut lent shown made = cut ∙ ap fields_of (lent ∙ shown ∙ made) ∙ fields_of-made seed number (omega (arith, small))

pub document_of-requires : goal.document_of-requires
document_of-requires c =
    let fields = fields_are c.args.seed c.args.number c.new.result c.as_bytes.result.now c.as_str.result.now c.words_line-words.result.bytes c.requires.within c.new.ensures c.as_bytes.ensures.value c.as_str.ensures.value c.words_line-words.ensures in
    let count : length c.new.result ≡ 60 = ap length fields in
    omega (arith, count)

pub unreachable-requires : goal.unreachable-requires
unreachable-requires c =
    let fields = fields_are c.args.seed c.args.number c.new.result c.as_bytes.result.now c.as_str.result.now c.words_line-words.result.bytes c.requires.within c.new.ensures c.as_bytes.ensures.value c.as_str.ensures.value c.words_line-words.ensures in
    no_refusal c.in-Err-Refused.field-0 c.in-Err-Refused.field-0-0 (document_refusal c.args.number c.new.result) c.in-Err-Refused.field-0-is c.in-Err-Refused.ensures.refused
    (ap (document_refusal c.args.number) fields ∙ document_refusal-made c.args.seed c.args.number c.requires.some (omega (arith, c.requires.within)))

pub returns-in-Ok : goal.returns-in-Ok
returns-in-Ok c =
    let fields = fields_are c.args.seed c.args.number c.new.result c.as_bytes.result.now c.as_str.result.now c.words_line-words.result.bytes c.requires.within c.new.ensures c.as_bytes.ensures.value c.as_str.ensures.value c.words_line-words.ensures in
    c.in-Ok.ensures.document ∙ ap (document c.args.number) fields
