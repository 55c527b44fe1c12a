use Rattle.std.proofs.Common.{◌≡◌, ◌∷◌, [], ℕ, List, ap, map, refl, sym, subst, ◌∙◌, arith}
use Rattle.client_registry.specs.IdNumber.{id_number}
use Rattle.client_registry.specs.Registered.{facts, known_words}
use Rattle.client_rebuild.specs.declared.update.Update.TheVariants as recorded
use Rattle.keyed_fn.specs.KeyedFn.{keyed_fn}
use Rattle.sse_frames.specs.Frames.{frame_bytes}
use Rattle.client_core.proofs.PlanLaws.{ok_not_wanting}
use Rattle.client_core.proofs.ResumeLaws.{differs, has_fault, replans-refused, replans-update, stands_still}
use Rattle.client_core.proofs.StandsForLaws.{collision_is-delete, frames_are-delete, keeps}
use Rattle.client_core.specs.Keys.{Keeps}
use Rattle.client_core.proofs.recorded_plans.replan_deletion.Goals as goal

pub returns-in-Ok-clause-replans : goal.returns-in-Ok-clause-replans
returns-in-Ok-clause-replans g c =
    λ o before stands.
    let f = keyed_fn g.K.Keyed.prf g.K.Keyed.pad in
    let key = c.args.key in
    let master = c.prepare-master.result in
    let old = c.args.ready in
    let new = c.deletion.new.self in
    let id = id_number c.args.id in
    let keys : ℕ → List ℕ = λ epoch. key in
    let under : key ≡ master = sym c.prepare-master.ensures in
    let had = keeps f keys o before master under old stands in
    let still = stands_still f key o before old new stands (ap facts c.deletion.ensures.registry) c.deletion.ensures.frames c.deletion.ensures.past (subst (λ k. Keeps f k (known_words old.registry) old.keys → Keeps f k (known_words new.registry) new.keys) (sym under) c.deletion.ensures.keeps) in
    let frame = ap (λ bytes. bytes ∷ []) (c.in-Ok.ensures.bytes had) ∙ ap (map frame_bytes) (frames_are-delete f keys o before master under old stands id) in
    let none = c.in-Ok.ensures.fault had (ok_not_wanting _ _ refl) ∙ collision_is-delete f keys o before master under old stands id in
    replans-update f key o before (recorded.Delete c.args.id) old.frames c.commit.result c.commit.ensures.key (c.commit.ensures.first ∙ c.number-number.ensures ∙ c.deletion.ensures.frames) (omega (arith, stands.number)) (c.commit.ensures.owes f keys o before still frame) none

pub of_update-requires : goal.of_update-requires
of_update-requires g c =
    let had = subst (λ k. Keeps (keyed_fn g.K.Keyed.prf g.K.Keyed.pad) k (known_words c.args.ready.registry) c.args.ready.keys) (sym c.prepare-master.ensures) c.requires.keeps in
    has_fault _ c.in-Err.fault (λ other. c.in-Err.ensures.fault had (differs _ c.in-Err.fault refl other))

pub returns-in-Err-clause-replans : goal.returns-in-Err-clause-replans
returns-in-Err-clause-replans g c =
    λ o before stands.
    let f = keyed_fn g.K.Keyed.prf g.K.Keyed.pad in
    let key = c.args.key in
    let master = c.prepare-master.result in
    let old = c.args.ready in
    let keys : ℕ → List ℕ = λ epoch. key in
    let under : key ≡ master = sym c.prepare-master.ensures in
    let had = keeps f keys o before master under old stands in
    replans-refused f key o before (recorded.Delete c.args.id) old.frames c.in-Err.fault c.of_update.result
    (λ other. c.in-Err.ensures.fault had (differs _ c.in-Err.fault refl other) ∙ collision_is-delete f keys o before master under old stands (id_number c.args.id))
    c.of_update.ensures
