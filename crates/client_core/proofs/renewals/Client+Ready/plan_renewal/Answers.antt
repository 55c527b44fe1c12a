use Rattle.std.proofs.Common.{◌≡◌, List, ℕ, Err, ap, map, refl, sym, subst, ◌∙◌}
use Rattle.std.proofs.lemmas.Result.{IfOk-weaker}
use Rattle.std.specs.Prelude.{IfOk, IfSome, Result}
use Rattle.std.specs.Option.{option_or}
use Rattle.client_registry.specs.Epochs.{behind, setup_renewed}
use Rattle.client_registry.specs.Setup.{setup_with}
use Rattle.client_registry.specs.declared.collected.Docs.{Docs}
use Rattle.client_renewal.specs.Refusals.{key_refusal, live_refusal}
use Rattle.client_renewal.specs.declared.renewal_fault.RenewalFault.{RenewalFault}
use Rattle.client_renewal.specs.declared.renewal_fault.RenewalFault.TheVariants.{NoMemory}
use Rattle.index_setup.specs.Entries.{key_table}
use Rattle.keyed_fn.specs.KeyedFn.{keyed_fn}
use Rattle.keyed_fn.specs.KeyFormulas.{mark_of, plain_key}
use Rattle.sse_frames.specs.Frames.{frame_bytes}
use Rattle.sse_model.specs.Wire.{frames_of_setup}
use Rattle.word_keys.specs.HashNumbers.{numbers_of_key}
use Rattle.client_core.proofs.PlanLaws.{not_wanting}
use Rattle.client_core.proofs.RenewalLaws.{both_ok, memory_passed, planned_for, planned_setup-is, renewed_setup, not_refused_first, refused_first, renewal_frames, renewal_refused, renewal_values, renewed_alone, renewed_live, renewed_number}
use Rattle.client_core.specs.Renewals.{IsOfDocs, IsRenewalPlan, Renews, renewal_fault, values_refusal}
use Rattle.client_core.specs.StandsFor.{StandsFor}
use Rattle.client_core.specs.States.{ReadyState}
use Rattle.client_core.specs.declared.planned_renewal.PlannedRenewal.{PlannedRenewal}
use Rattle.client_core.proofs.renewals.Client+Ready.plan_renewal.Goals as goal

-- documents that aren't given are the plan's refusal
pub returns-in-Err-clause-refused : goal.returns-in-Err-clause-refused
returns-in-Err-clause-refused g c =
    λ keys o run stood.
    let f = keyed_fn g.K.Keyed.prf g.K.Keyed.pad in
    let state : ReadyState = record { registry = c.state.inside.registry; keys = c.state.inside.keys; frames = c.state.inside.frames; past = c.state.inside.past } in
    let same : state ≡ c.args.self.now.state = c.state.view_is ∙ ap (λ client. client.state) c.self.view_is in
    let stands : StandsFor f keys o run state = subst (StandsFor f keys o run) (sym same) stood in
    let again : Result Docs RenewalFault = Err c.in-Err.fault in
    let planned : Result PlannedRenewal RenewalFault = Err c.in-Err.fault in
    subst (λ (x : ReadyState). IfSome (option_or (key_refusal x.past.marks.items (mark_of f c.args.key.now)) (live_refusal (setup_renewed run).documents)) (λ fault. planned ≡ Err fault)) same
    (refused_first f keys o run state stands c.args.key.now state.past.marks.items c.mark-mark.result (c.mark-mark.ensures ∙ ap (mark_of f) c.prepare-master.ensures) again planned c.in-Err.fault refl refl
    (c.in-Err.ensures.refused (setup_renewed run).documents (renewed_live f keys o run state stands)))

pub returns-in-Err-clause-fault : goal.returns-in-Err-clause-fault
returns-in-Err-clause-fault g c =
    λ keys o run stood some.
    let f = keyed_fn g.K.Keyed.prf g.K.Keyed.pad in
    let state : ReadyState = record { registry = c.state.inside.registry; keys = c.state.inside.keys; frames = c.state.inside.frames; past = c.state.inside.past } in
    let same : state ≡ c.args.self.now.state = c.state.view_is ∙ ap (λ client. client.state) c.self.view_is in
    let stands : StandsFor f keys o run state = subst (StandsFor f keys o run) (sym same) stood in
    let again : Result Docs RenewalFault = Err c.in-Err.fault in
    let planned : Result PlannedRenewal RenewalFault = Err c.in-Err.fault in
    renewal_refused f keys o run state stands c.args.key.now state.past.marks.items c.mark-mark.result (c.mark-mark.ensures ∙ ap (mark_of f) c.prepare-master.ensures) c.in-Err.fault
    (c.in-Err.ensures.fault (setup_renewed run).documents (renewed_live f keys o run state stands) (not_wanting again planned c.in-Err.fault refl refl some))
    ∙ ap (λ (x : ReadyState). renewal_fault f c.args.key.now x.past.marks.items o run) same

-- documents that are given aren't refused
pub returns-in_err-marks-clause-refused : goal.returns-in_err-marks-clause-refused
returns-in_err-marks-clause-refused g c =
    λ keys o run stood.
    let f = keyed_fn g.K.Keyed.prf g.K.Keyed.pad in
    let state : ReadyState = record { registry = c.state.inside.registry; keys = c.state.inside.keys; frames = c.state.inside.frames; past = c.state.inside.past } in
    let same : state ≡ c.args.self.now.state = c.state.view_is ∙ ap (λ client. client.state) c.self.view_is in
    let stands : StandsFor f keys o run state = subst (StandsFor f keys o run) (sym same) stood in
    subst (λ (x : ReadyState). IfSome (option_or (key_refusal x.past.marks.items (mark_of f c.args.key.now)) (live_refusal (setup_renewed run).documents)) (λ fault. c.from_residual.result ≡ Err fault)) same
    (not_refused_first f keys o run state stands c.args.key.now state.past.marks.items c.mark-mark.result (c.mark-mark.ensures ∙ ap (mark_of f) c.prepare-master.ensures) c.from_residual.result
    (c.in-Ok.ensures.fault (setup_renewed run).documents (renewed_live f keys o run state stands) (λ e. absurd (cc))))

pub returns-clause-refused : goal.returns-clause-refused
returns-clause-refused g c =
    λ keys o run stood.
    let f = keyed_fn g.K.Keyed.prf g.K.Keyed.pad in
    let state : ReadyState = record { registry = c.state.inside.registry; keys = c.state.inside.keys; frames = c.state.inside.frames; past = c.state.inside.past } in
    let same : state ≡ c.args.self.now.state = c.state.view_is ∙ ap (λ client. client.state) c.self.view_is in
    let stands : StandsFor f keys o run state = subst (StandsFor f keys o run) (sym same) stood in
    subst (λ (x : ReadyState). IfSome (option_or (key_refusal x.past.marks.items (mark_of f c.args.key.now)) (live_refusal (setup_renewed run).documents)) (λ fault. c.plan_of_docs.result ≡ Err fault)) same
    (not_refused_first f keys o run state stands c.args.key.now state.past.marks.items c.mark-mark.result (c.mark-mark.ensures ∙ ap (mark_of f) c.prepare-master.ensures) c.plan_of_docs.result
    (c.in-Ok.ensures.fault (setup_renewed run).documents (renewed_live f keys o run state stands) (λ e. absurd (cc))))

pub returns-in_err-marks-clause-fault : goal.returns-in_err-marks-clause-fault
returns-in_err-marks-clause-fault g c = λ keys o run stands some. absurd (some (memory_passed c.from_residual.result NoMemory c.from_residual.ensures.1))

-- what is refused of the values is the plan's
pub returns-clause-fault : goal.returns-clause-fault
returns-clause-fault g c =
    λ keys o run stood some.
    let f = keyed_fn g.K.Keyed.prf g.K.Keyed.pad in
    let state : ReadyState = record { registry = c.state.inside.registry; keys = c.state.inside.keys; frames = c.state.inside.frames; past = c.state.inside.past } in
    let same : state ≡ c.args.self.now.state = c.state.view_is ∙ ap (λ client. client.state) c.self.view_is in
    let stands : StandsFor f keys o run state = subst (StandsFor f keys o run) (sym same) stood in
    renewal_values f keys o run state stands c.args.key.now state.past.marks.items c.mark-mark.result (c.mark-mark.ensures ∙ ap (mark_of f) c.prepare-master.ensures) c.in-Ok.docs.documents _ c.in-Ok.ensures.live
    (c.in-Ok.ensures.fault (setup_renewed run).documents (renewed_live f keys o run state stands) (λ e. absurd (cc)))
    (c.plan_of_docs.ensures.fault (behind o run).epoch some
    ∙ (λ i. values_refusal f c.args.key.now (behind o run).epoch (setup_with c.in-Ok.docs.documents (c.sizes.ensures.b i) (c.sizes.ensures.big i) (c.sizes.ensures.pad i))))
    ∙ ap (λ (x : ReadyState). renewal_fault f c.args.key.now x.past.marks.items o run) same

pub returns-clause-plan : goal.returns-clause-plan
returns-clause-plan g c =
    let f = keyed_fn g.K.Keyed.prf g.K.Keyed.pad in
    let state : ReadyState = record { registry = c.state.inside.registry; keys = c.state.inside.keys; frames = c.state.inside.frames; past = c.state.inside.past } in
    let docs = c.in-Ok.docs in
    subst (λ x. IfOk c.plan_of_docs.result (IsRenewalPlan f c.args.key.now x)) (c.state.view_is ∙ ap (λ client. client.state) c.self.view_is)
    (IfOk-weaker c.plan_of_docs.result (IsOfDocs c.mark-mark.result c.in_ok-marks.marks.items docs (setup_with docs.documents c.sizes.result.b c.sizes.result.big c.sizes.result.pad) state.frames) (IsRenewalPlan f c.args.key.now state)
    (λ plan is. planned_for state c.mark-mark.result docs c.sizes.result.b c.sizes.result.big c.sizes.result.pad c.sizes.ensures.b c.sizes.ensures.big c.sizes.ensures.pad c.in_ok-marks.marks.items c.in_ok-marks.ensures plan is f c.args.key.now
    (c.mark-mark.ensures ∙ ap (mark_of f) c.prepare-master.ensures) (c.in-Ok.ensures.keys ∙ c.hash_keys-hash_keys.ensures ∙ ap (λ k. numbers_of_key (plain_key f k 13)) c.prepare-master.ensures))
    c.plan_of_docs.ensures.plan)

pub returns-clause-renews : goal.returns-clause-renews
returns-clause-renews g c =
    λ keys o run stood.
    let f = keyed_fn g.K.Keyed.prf g.K.Keyed.pad in
    let state : ReadyState = record { registry = c.state.inside.registry; keys = c.state.inside.keys; frames = c.state.inside.frames; past = c.state.inside.past } in
    let same : state ≡ c.args.self.now.state = c.state.view_is ∙ ap (λ client. client.state) c.self.view_is in
    let stands : StandsFor f keys o run state = subst (StandsFor f keys o run) (sym same) stood in
    let key = c.args.key.now in
    let docs = c.in-Ok.docs in
    let sized : ℕ × ℕ × ℕ → List (List ℕ) = λ p. let s = setup_with docs.documents p.0 p.1 p.2 in map frame_bytes (frames_of_setup (key_table f key s) (behind o run) s) in
    both_ok c.plan_of_docs.result (IsOfDocs c.mark-mark.result c.in_ok-marks.marks.items docs (setup_with docs.documents c.sizes.result.b c.sizes.result.big c.sizes.result.pad) state.frames)
    (λ plan. plan.frames ≡ sized (c.sizes.result.b, c.sizes.result.big, c.sizes.result.pad))
    (Renews f key o run)
    (λ plan is frames. record {
      setup =
          planned_setup-is state c.mark-mark.result docs c.sizes.result.b c.sizes.result.big c.sizes.result.pad c.sizes.ensures.b c.sizes.ensures.big c.sizes.ensures.pad c.in_ok-marks.marks.items c.in_ok-marks.ensures plan is
          ∙ ap (λ ds. setup_with ds state.past.b state.past.big state.past.pad) (renewed_alone f keys o run state stands docs.documents c.in-Ok.ensures.live)
          ∙ renewed_setup f keys o run state stands;
      frames =
          renewal_frames f keys o run state stands key state.past.marks.items c.mark-mark.result (c.mark-mark.ensures ∙ ap (mark_of f) c.prepare-master.ensures) docs.documents plan.frames c.in-Ok.ensures.live
          (frames ∙ (λ i. sized (c.sizes.ensures.b i, c.sizes.ensures.big i, c.sizes.ensures.pad i)));
    })
    c.plan_of_docs.ensures.plan
    (c.plan_of_docs.ensures.frames (behind o run) (renewed_number f keys o run state stands))
