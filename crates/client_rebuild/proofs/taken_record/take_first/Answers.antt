use Rattle.std.proofs.Common.{◌≡◌, rules, Err, refl, sym, ap, subst, ◌∙◌}
use Rattle.client_registry.specs.Collected.{Collected}
use Rattle.client_registry.specs.Setup.{setup_with}
use Rattle.client_records.specs.Records.{SetsUp}
use Rattle.client_records.specs.RecordView.{HasKeys, record_text}
use Rattle.client_rebuild.proofs.RebuildLaws.{first_faulty}
use Rattle.client_rebuild.specs.Rebuilds.{TakesFirst}
use Rattle.client_rebuild.specs.Recalls.{setup_in}
use Rattle.client_rebuild.proofs.taken_record.take_first.Goals as goal

pub returns-in_err-setup-in-Setup : goal.returns-in_err-setup-in-Setup
returns-in_err-setup-in-Setup c =
    λ keys has.
    let result : c.from_residual.result ≡ Err c.in_err-setup-in-Setup.field-0.0 = search rules in
    let refused = c.in_err-setup-in-Setup.ensures.refused in
    subst (TakesFirst keys (record_text c.args.next)) (sym result)
    (first_faulty keys (record_text c.args.next) c.in-Setup.mark (setup_with c.in-Setup.docs.documents c.in-Setup.b c.in-Setup.big c.in-Setup.pad) c.in_err-setup-in-Setup.field-0.0
    (ap record_text c.in-Setup.is) c.in_err-setup-in-Setup.ensures.collected refused.0 refused.1)

pub returns-in-Setup : goal.returns-in-Setup
returns-in-Setup c =
    λ keys has.
    let setup = c.in_ok-setup-in-Setup.setup in
    let docs = c.in_ok-setup-in-Setup.ensures.docs in
    let sizes = c.in_ok-setup-in-Setup.ensures.sizes in
    let counts = c.in_ok-setup-in-Setup.ensures.counts in (
      setup_in setup,
      record {
        says = ap record_text c.in-Setup.is ∙ (λ i. SetsUp c.in-Setup.mark (setup_with (sym docs i).documents (sym sizes.0 i) (sym sizes.1 i) (sym sizes.2 i)));
        accepted = setup.accepted;
      },
      (refl, sym counts.0),
      counts.1,
      ap (λ (d : Collected). d.keys) docs ∙ subst (HasKeys keys) c.in-Setup.is has,
    )
