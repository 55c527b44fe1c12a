use Rattle.std.proofs.Common.{◌≡◌, ◌-◌, ◌++◌, map, sym, ap, subst, ◌∙◌, arith}
use Rattle.std.specs.Result.{IsOk}
use Rattle.std.proofs.lemmas.Bool.{true≢false}
use Rattle.client_registry.specs.Acceptance.{size_refusal}
use Rattle.client_registry.specs.Documents.{words_of}
use Rattle.client_registry.specs.Setup.{Setup, setup_with}
use Rattle.def_leakage.specs.DrawnValues.{drawings_of_setup}
use Rattle.leakage_values.proofs.SetupLaws.{setup_joined, same_setup}
use Rattle.leakage_values.specs.Numbered.{numbered_drawing}
use Rattle.leakage_values.specs.SetupDrawings.{blocks_by_number}
use Rattle.leakage_values.proofs.setup.setup_drawings.Goals as goal

pub unreachable-requires : goal.unreachable-requires
unreachable-requires c =
    let same = same_setup c.args.history.now.setup c.docs-docs.result.now.documents c.from.result c.from-2.result c.from-3.result c.docs-docs.ensures (c.from.ensures ∙ c.b-b.ensures) (c.from-2.ensures ∙ c.big-big.ensures) (c.from-3.ensures ∙ c.pad-pad.ensures) in
    true≢false (sym (subst (λ r. IsOk r) c.in_default.is (c.size_of.ensures.accepted (ap size_refusal same ∙ c.requires.accepted))))

pub returns : goal.returns
returns c =
    let words = c.args.words.now in
    let docs = c.docs-docs.result.now.documents in
    let s : Setup = setup_with docs c.from.result c.from-2.result c.from-3.result in
    let same : s ≡ c.args.history.now.setup = same_setup c.args.history.now.setup docs c.from.result c.from-2.result c.from-3.result c.docs-docs.ensures (c.from.ensures ∙ c.b-b.ensures) (c.from-2.ensures ∙ c.big-big.ensures) (c.from-3.ensures ∙ c.pad-pad.ensures) in
    setup_joined c.args.epoch words s c.new-drawings.result c.push_entries.new.drawings c.push_dummy_entries.new.drawings c.push_blocks.new.drawings c.push_dummy_blocks.new.drawings
    (c.in-Ok.size.padded_words - c.in-Ok.size.words) (c.in-Ok.size.padded_blocks - c.in-Ok.size.blocks)
    c.new-drawings.ensures c.in_ok-push_entries.ensures c.in_ok-push_dummy_entries.ensures
    (c.in_ok-push_blocks.ensures c.from-3.result ∙ ap (λ shape. c.push_dummy_entries.new.drawings ++ blocks_by_number c.args.epoch words (setup_with docs shape.b shape.big c.from-3.result) (words_of docs)) c.in-Ok.ensures.shape)
    c.in_ok-push_dummy_blocks.ensures
    (omega (arith, c.in-Ok.ensures.words, c.in-Ok.ensures.padded_words)) (omega (arith, c.in-Ok.ensures.blocks, c.in-Ok.ensures.padded_blocks))
    ∙ ap (λ t. map (numbered_drawing words) (drawings_of_setup c.args.epoch t)) same
