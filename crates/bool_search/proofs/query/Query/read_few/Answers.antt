use Rattle.std.proofs.Common.{◌∙◌, ap, sym, arith}
use Rattle.std.specs.Prelude.{map, length}
use Rattle.std.proofs.lemmas.List.{length-map}
use Rattle.bool_search.specs.Fields.{sign_in}
use Rattle.bool_search.specs.Places.{first_bad}
use Rattle.bool_search.proofs.FieldLaws.{length-words_of}
use Rattle.bool_search.proofs.ReadResults.{refusal_word, on_err_word}
use Rattle.bool_search.proofs.query.Query.read_few.Goals as goal

pub signs-requires : goal.signs-requires
signs-requires c =
    let fields = map (λ field. field.now) c.args.fields.now in
    omega (
      arith,
      ap length c.deref.ensures.value,
      ap length c.in_ok-different.ensures.words,
      length-map c.in_ok-different.different.items (λ word. word.now),
      length-words_of fields,
      length-map c.args.fields.now (λ field. field.now),
      c.requires,
    )

pub returns-in_err-words-clause-refused : goal.returns-in_err-words-clause-refused
returns-in_err-words-clause-refused c =
    let fields = map (λ field. field.now) c.args.fields.now in
    let signs =
    c.deref-2.ensures.value ∙ c.in_ok-signs.ensures
    ∙ ap (λ words. map (sign_in words) fields) (ap (map (λ word. word.now)) c.deref.ensures.value ∙ c.in_ok-different.ensures.words) in
    on_err_word c.from_residual-in_err-words.result c.in_err-words.field-0.0 _ c.from_residual-in_err-words.ensures.1
    (λ some.
    refusal_word fields (omega (arith, length-map c.args.fields.now (λ field. field.now), c.requires)) (ap first_bad (sym signs) ∙ c.in-Ok.ensures.good)
    ∙ c.in_err-words.ensures.bad some)
