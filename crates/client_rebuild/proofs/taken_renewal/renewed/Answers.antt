use Rattle.std.proofs.Common.{◌≡◌, sym, ◌∙◌}
use Rattle.std.specs.Prelude.{Result, Err}
use Rattle.client_registry.specs.HashNumbers.{hash_numbers}
use Rattle.client_rebuild.proofs.RenewalLaws.{refused_docs, refused_size, renewed_if}
use Rattle.client_rebuild.specs.declared.fault.RebuildFault.{RebuildFault}
use Rattle.client_rebuild.specs.declared.fault.RebuildFault.TheVariants.{BadRecord}
use Rattle.client_rebuild.specs.declared.recorded_setup.RecordedSetup.{RecordedSetup}
use Rattle.client_rebuild.proofs.taken_renewal.renewed.Goals as goal

pub returns-in-Ok-clause-renewed : goal.returns-in-Ok-clause-renewed
returns-in-Ok-clause-renewed c =
    let sizes = c.parameters-b.result in
    renewed_if c.args.last.now c.in-Ok.docs sizes.0 sizes.1 sizes.2 c.frames.result c.records-in-Ok.result c.accepted_setup.result c.in-Ok.ensures.live c.parameters-b.ensures.shape c.parameters-b.ensures.pad
    c.frames.ensures c.records-in-Ok.ensures.records (hash_numbers c.args.keys) c.in-Ok.ensures.keys c.accepted_setup.ensures.docs c.accepted_setup.ensures.sizes c.accepted_setup.ensures.counts

pub returns-in-Ok-clause-bad : goal.returns-in-Ok-clause-bad
returns-in-Ok-clause-bad c =
    let sizes = c.parameters-b.result in
    refused_size c.args.last.now c.in-Ok.docs sizes.0 sizes.1 sizes.2 c.frames.result c.records-in-Ok.result c.accepted_setup.result c.in-Ok.ensures.live c.parameters-b.ensures.shape c.parameters-b.ensures.pad
    c.frames.ensures c.records-in-Ok.ensures.records c.args.marks.now c.args.own.now c.accepted_setup.ensures.refused

err_same : (a b : RebuildFault) → ◌≡◌ {A = Result RecordedSetup RebuildFault} (Err a) (Err b) → a ≡ b
err_same a b e = cc

pub returns-in-Err-clause-bad : goal.returns-in-Err-clause-bad
returns-in-Err-clause-bad c =
    λ n is.
    refused_docs c.args.marks.now c.args.last.now c.args.own.now c.in-Err.fault c.in-Err.ensures.accepted c.records-in-Err.result c.records-in-Err.ensures.records n
    (sym c.fault_of.ensures ∙ err_same c.fault_of.result (BadRecord n) is)
