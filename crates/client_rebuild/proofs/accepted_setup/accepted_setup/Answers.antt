use Rattle.std.proofs.Common.{◌+◌, sym, ap, ◌∙◌}
use Rattle.std.proofs.lemmas.Bool.{true≢false}
use Rattle.std.specs.Int.{div_ceil}
use Rattle.client_registry.specs.Acceptance.{size_refusal}
use Rattle.client_registry.specs.Setup.{setup_with}
use Rattle.client_rebuild.proofs.RebuildLaws.{none_if_ok}
use Rattle.client_rebuild.specs.declared.fault.RebuildFault.TheVariants.{BadRecord}
use Rattle.client_rebuild.proofs.accepted_setup.accepted_setup.Goals as goal

pub returns-in_default-clause-refused : goal.returns-in_default-clause-refused
returns-in_default-clause-refused c = (ap (λ n. BadRecord n) c.from.ensures, λ none numbered. true≢false (sym (c.in_default.ensures.accepted none)))

pub invariant_of-result-clause-accepted : goal.invariant_of-result-clause-accepted
invariant_of-result-clause-accepted c = none_if_ok (size_refusal (setup_with c.args.docs.documents c.args.b c.args.big c.args.pad)) c.in-Ok.size c.in-Ok.ensures.refused

pub invariant_of-result-clause-needed : goal.invariant_of-result-clause-needed
invariant_of-result-clause-needed c =
    c.frames_for-frames.ensures ∙ (λ i. 2 + div_ceil (c.in-Ok.ensures.padded_words i) 1024 + div_ceil (c.in-Ok.ensures.padded_blocks i) 256)
