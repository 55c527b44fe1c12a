use Rattle.std.proofs.Common.{sym, ap, subst, ◌∙◌}
use Rattle.std.proofs.lemmas.Bool.{true≢false}
use Rattle.client_registry.specs.Acceptance.{size_refusal}
use Rattle.leakage_plaintexts.proofs.SetupParts.{same_setup}
use Rattle.index_setup.proofs.AcceptedLaws.{IsSizeOf-told, sized_as}
use Rattle.index_setup.specs.SizeOf.{IsSizeOf, setup_sized}
use Rattle.leakage_plaintexts.proofs.size.setup_size.Goals as goal

pub unreachable-requires : goal.unreachable-requires
unreachable-requires c =
    let same = same_setup c.args.history.now.setup c.docs.result.now.documents c.from-b.result c.from-big.result c.from-pad.result c.docs.ensures (c.from-b.ensures ∙ c.b.ensures) (c.from-big.ensures ∙ c.big.ensures) (c.from-pad.ensures ∙ c.pad.ensures) in
    true≢false (sym (c.in-Err.ensures.accepted (ap size_refusal same ∙ c.requires)))

pub returns-clause-size : goal.returns-clause-size
returns-clause-size c =
    let told = c.in-Ok.ensures in
    subst (λ docs. IsSizeOf docs c.in-Ok.size) c.docs.ensures
    (IsSizeOf-told c.docs.result.now.documents c.from-b.result c.from-big.result c.from-pad.result c.in-Ok.size told.shape told.pad told.refused told.words told.blocks told.padded_words told.padded_blocks)

pub returns-clause-setup : goal.returns-clause-setup
returns-clause-setup c =
    let docs = c.docs.result.now.documents in
    ap (λ ds. setup_sized ds c.in-Ok.size) (sym c.docs.ensures)
    ∙ sized_as docs c.from-b.result c.from-big.result c.from-pad.result c.in-Ok.size c.in-Ok.ensures.shape c.in-Ok.ensures.pad
    ∙ same_setup c.args.history.now.setup docs c.from-b.result c.from-big.result c.from-pad.result c.docs.ensures (c.from-b.ensures ∙ c.b.ensures) (c.from-big.ensures ∙ c.big.ensures) (c.from-pad.ensures ∙ c.pad.ensures)
