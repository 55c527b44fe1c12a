use Rattle.std.proofs.Common.{refl, sym, ap, subst, ◌∙◌}
use Rattle.std.specs.Prelude.{option_map}
use Rattle.std.specs.Result.{result_err}
use Rattle.client_registry.specs.Registered.{facts, known_words}
use Rattle.keyed_fn.specs.KeyedFn.{keyed_fn}
use Rattle.sse_frames.specs.Frames.{frame_bytes}
use Rattle.client_core.specs.Keys.{Keeps}
use Rattle.client_core.specs.UpdateFaults.{clash_fault}
use Rattle.client_core.specs.UpdateTexts.{add_collision, add_text}
use Rattle.client_core.proofs.PlanLaws.{not_wanting, ok_not_wanting, residual_is}
use Rattle.client_core.proofs.StandsForLaws.{Keeps-more}
use Rattle.client_core.proofs.ready.Ready.addition.Goals as goal

pub returns-clause-keeps : goal.returns-clause-keeps
returns-clause-keeps g c =
    rw (← c.self.view_is) (
    λ kept.
    let old = c.self.inside in
    c.add_update.ensures.keeps
    (Keeps-more (keyed_fn g.K.Keyed.prf g.K.Keyed.pad) c.args.master.now (known_words old.registry) (known_words c.reserve_numbered.new.self) old.keys c.reserve_numbered.ensures.words kept)
    )

pub returns-in_err-frame-clause-keeps : goal.returns-in_err-frame-clause-keeps
returns-in_err-frame-clause-keeps g c =
    rw (← c.self.view_is) (
    λ kept.
    let old = c.self.inside in
    c.add_update.ensures.keeps
    (Keeps-more (keyed_fn g.K.Keyed.prf g.K.Keyed.pad) c.args.master.now (known_words old.registry) (known_words c.reserve_numbered.new.self) old.keys c.reserve_numbered.ensures.words kept)
    )

pub returns-in_err-numbers-clause-keeps : goal.returns-in_err-numbers-clause-keeps
returns-in_err-numbers-clause-keeps g c =
    rw (← c.self.view_is) (
    λ kept.
    let old = c.self.inside in
    Keeps-more (keyed_fn g.K.Keyed.prf g.K.Keyed.pad) c.args.master.now (known_words old.registry) (known_words c.reserve_numbered.new.self) old.keys c.reserve_numbered.ensures.words kept
    )

pub returns-clause-fault : goal.returns-clause-fault
returns-clause-fault g c =
    rw (← c.self.view_is) (
    λ kept some.
    let f = keyed_fn g.K.Keyed.prf g.K.Keyed.pad in
    let old = c.self.inside in
    c.in_ok-frame.ensures.fault (Keeps-more f c.args.master.now (known_words old.registry) (known_words c.reserve_numbered.new.self) old.keys c.reserve_numbered.ensures.words kept)
    (ok_not_wanting _ _ refl)
    ∙ ap (λ x. option_map clash_fault (add_collision f c.args.master.now x c.args.doc.now)) c.reserve_numbered.ensures.facts
    )

pub returns-in_err-frame-clause-fault : goal.returns-in_err-frame-clause-fault
returns-in_err-frame-clause-fault g c =
    rw (← c.self.view_is) (
    λ kept some.
    let f = keyed_fn g.K.Keyed.prf g.K.Keyed.pad in
    let old = c.self.inside in
    let x = c.in_err-frame.field-0.0 in
    let is = residual_is c.from_residual-in_err-frame.result x c.from_residual-in_err-frame.ensures.1 in
    ap result_err is
    ∙ c.in_err-frame.ensures.fault (Keeps-more f c.args.master.now (known_words old.registry) (known_words c.reserve_numbered.new.self) old.keys c.reserve_numbered.ensures.words kept)
    (not_wanting _ c.from_residual-in_err-frame.result x refl is some)
    ∙ ap (λ x. option_map clash_fault (add_collision f c.args.master.now x c.args.doc.now)) c.reserve_numbered.ensures.facts
    )

pub returns-clause-bytes : goal.returns-clause-bytes
returns-clause-bytes g c =
    λ kept.
    let f = keyed_fn g.K.Keyed.prf g.K.Keyed.pad in
    let key = c.args.master.now in
    let old = c.self.inside in
    let is = c.self.view_is in
    let had = subst (λ r. Keeps f key (known_words r.registry) r.keys) (sym is) kept in
    c.in_ok-frame.ensures.bytes (Keeps-more f key (known_words old.registry) (known_words c.reserve_numbered.new.self) old.keys c.reserve_numbered.ensures.words had)
    ∙ ap (λ x. frame_bytes (add_text f key x old.frames c.args.doc.now)) c.reserve_numbered.ensures.facts
    ∙ ap (λ r. frame_bytes (add_text f key (facts r.registry) r.frames c.args.doc.now)) is
