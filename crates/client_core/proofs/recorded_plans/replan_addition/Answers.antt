use Rattle.std.proofs.Common.{◌≡◌, ◌∷◌, [], ℕ, List, ap, map, refl, sym, subst, ◌∙◌, arith}
use Rattle.client_registry.specs.Facts.{has_counters}
use Rattle.client_registry.specs.Registered.{known_words}
use Rattle.client_rebuild.specs.declared.update.Update.TheVariants as recorded
use Rattle.keyed_fn.specs.KeyedFn.{keyed_fn}
use Rattle.sse_frames.specs.Frames.{frame_bytes}
use Rattle.client_core.proofs.PlanLaws.{ok_not_wanting}
use Rattle.client_core.proofs.ResumeLaws.{differs, has_fault, replans-refused, replans-update, stands_still}
use Rattle.client_core.proofs.StandsForLaws.{collision_is, frames_are, keeps}
use Rattle.client_core.specs.Keys.{Keeps}
use Rattle.client_core.proofs.recorded_plans.replan_addition.Goals as goal

pub commit-requires : goal.commit-requires
commit-requires g c = record {
  next = c.number-number.ensures;
  number = omega (arith, c.requires.number, c.addition.ensures.frames);
  sized = c.in-Ok.ensures.document;
  fits = (
    ap (λ x. x.live c.args.doc.id) c.addition.ensures.facts ∙ c.requires.dead,
    ap (λ x. has_counters x c.args.doc) c.addition.ensures.facts ∙ c.requires.counters,
    c.in-Ok.ensures.room,
    c.in-Ok.ensures.numbers,
  );
}

pub returns-in-Ok-clause-replans : goal.returns-in-Ok-clause-replans
returns-in-Ok-clause-replans g c =
    λ o before stands.
    let f = keyed_fn g.K.Keyed.prf g.K.Keyed.pad in
    let key = c.args.key in
    let master = c.prepare-master.result in
    let old = c.args.ready in
    let new = c.addition.new.self in
    let d = c.args.doc in
    let keys : ℕ → List ℕ = λ epoch. key in
    let under : key ≡ master = sym c.prepare-master.ensures in
    let had = keeps f keys o before master under old stands in
    let still = stands_still f key o before old new stands c.addition.ensures.facts c.addition.ensures.frames c.addition.ensures.past (subst (λ k. Keeps f k (known_words old.registry) old.keys → Keeps f k (known_words new.registry) new.keys) (sym under) c.addition.ensures.keeps) in
    let frame = ap (λ bytes. bytes ∷ []) (c.in-Ok.ensures.bytes had) ∙ ap (map frame_bytes) (frames_are f keys o before master under old stands d) in
    let none = c.in-Ok.ensures.fault had (ok_not_wanting _ _ refl) ∙ collision_is f keys o before master under old stands d in
    replans-update f key o before (recorded.Add d) old.frames c.commit.result c.commit.ensures.key (c.commit.ensures.first ∙ c.number-number.ensures ∙ c.addition.ensures.frames) (omega (arith, stands.number)) (c.commit.ensures.owes f keys o before still frame) none

pub of_update-requires : goal.of_update-requires
of_update-requires g c =
    let had = subst (λ k. Keeps (keyed_fn g.K.Keyed.prf g.K.Keyed.pad) k (known_words c.args.ready.registry) c.args.ready.keys) (sym c.prepare-master.ensures) c.requires.keeps in
    has_fault _ c.in-Err.fault (λ other. c.in-Err.ensures.fault had (differs _ c.in-Err.fault refl other))

pub returns-in-Err-clause-replans : goal.returns-in-Err-clause-replans
returns-in-Err-clause-replans g c =
    λ o before stands.
    let f = keyed_fn g.K.Keyed.prf g.K.Keyed.pad in
    let key = c.args.key in
    let master = c.prepare-master.result in
    let old = c.args.ready in
    let keys : ℕ → List ℕ = λ epoch. key in
    let under : key ≡ master = sym c.prepare-master.ensures in
    let had = keeps f keys o before master under old stands in
    replans-refused f key o before (recorded.Add c.args.doc) old.frames c.in-Err.fault c.of_update.result
    (λ other. c.in-Err.ensures.fault had (differs _ c.in-Err.fault refl other) ∙ collision_is f keys o before master under old stands c.args.doc)
    c.of_update.ensures
