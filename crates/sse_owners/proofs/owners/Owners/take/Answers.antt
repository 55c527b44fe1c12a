use Rattle.std.proofs.Common.{◌≡◌, ℕ, ◌<◌, ◌^◌, List, [], ◌∷◌, ◌++◌, get_or, slice_set, refl, sym, ap, subst, ◌∙◌, rules}
use Rattle.std.specs.Prelude.{map, None}
use Rattle.std.specs.Vec.{with_items}
use Rattle.std.proofs.lemmas.List.{with_items_is, places}
use Rattle.keyed_fn.specs.KeyedFn.{KeyedFn}
use Rattle.sse_frames.specs.FrameViews.{frame_view}
use Rattle.sse_journal.specs.AnyMoment.{LeavesOnly}
use Rattle.sse_journal.specs.Files.{GivesWithOrWithout}
use Rattle.sse_journal.specs.JournalView.{broken_by, IsJournalOf}
use Rattle.sse_journal.proofs.Moments.{each}
use Rattle.server_core.specs.State.{at_first}
use Rattle.server_core.specs.declared.answer.Answer.TheVariants.{Took}
use Rattle.sse_server.specs.Taken.{IsTaken}
use Rattle.sse_server.specs.declared.store_answer.StoreAnswer.TheVariants.{Answered}
use Rattle.sse_server.proofs.TakenFrames.{step_taken}
use Rattle.sse_owners.specs.Handled.{IsAnsweredBy, taken_by}
use Rattle.sse_owners.specs.Owned.{OwnedFrame, owned, record_of, records}
use Rattle.sse_owners.specs.OwnersView.{OwnersView, IsOwnersOf, StaysButChosen, chosen_owner, chosen_state}
use Rattle.sse_owners.proofs.AnswerLaws.{took_some, took_sound}
use Rattle.sse_owners.proofs.LastingOwners.{lasts_handled}
use Rattle.sse_owners.proofs.owners.Owners.take.Goals as goal

-- any keyed function will do, since the answer to an update frame doesn't depend on it
some_fn : KeyedFn
some_fn = record { prf = λ key text. []; pad = λ key n len. [] }

pub returns-clause-answered : goal.returns-clause-answered
returns-clause-answered g c f page =
    let frame = frame_view c.args.frame.now in
    let after = get_or (map (λ server. server.state) c.take_at.new.servers) c.self.inside.chosen at_first in
    let items : (with_items c.self.inside.servers c.take_at.new.servers).items ≡ c.take_at.new.servers = with_items_is c.self.inside.servers c.take_at.new.servers (search (rules, places)) in
    subst (λ servers. IsAnsweredBy f (chosen_state c.args.self.now) frame c.take_at.result page (get_or (map (λ server. server.state) servers) c.self.inside.chosen at_first)) (sym items)
    (subst (λ (v : OwnersView). IsAnsweredBy f (chosen_state v) frame c.take_at.result page after) c.self.view_is
    (subst (λ servers. IsAnsweredBy f (get_or (map (λ server. server.state) servers) c.self.inside.chosen at_first) frame c.take_at.result page after) c.deref_mut.ensures.value (c.take_at.ensures.answered f page)))

pub returns-clause-lasts : goal.returns-clause-lasts
returns-clause-lasts g c =
    let frame = frame_view c.args.frame.now in
    let disk = c.args.disk.now in
    let disk2 = c.take_at.new.disk in
    let said = c.take_at.ensures in
    let old : OwnersView = record { numbers = c.self.inside.numbers.items; states = map (λ server. server.state) c.self.inside.servers.items; chosen = c.self.inside.chosen; journal = c.self.inside.journal } in
    let new : OwnersView = record { numbers = c.self.inside.numbers.items; states = map (λ server. server.state) c.take_at.new.servers; chosen = c.self.inside.chosen; journal = c.take_at.new.journal } in
    let owner_is : c.number_at-owner.result ≡ chosen_owner old = c.number_at-owner.ensures.number ∙ ap (λ l. get_or l c.self.inside.chosen 0) c.deref.ensures.value in
    let short : chosen_owner old < 2 ^ 64 = subst (λ n. n < 2 ^ 64) owner_is c.number_at-owner.ensures.short in
    let others : StaysButChosen old new = record {
      numbers = refl;
      chosen = refl;
      states = said.states ∙ ap (λ servers. slice_set (map (λ server. server.state) servers) c.self.inside.chosen (chosen_state new)) c.deref_mut.ensures.value;
    } in
    let answered : IsAnsweredBy some_fn (chosen_state old) frame c.take_at.result [] (chosen_state new) =
    subst (λ servers. IsAnsweredBy some_fn (get_or (map (λ server. server.state) servers) c.self.inside.chosen at_first) frame c.take_at.result [] (chosen_state new)) c.deref_mut.ensures.value (said.answered some_fn []) in
    let added : (q : ℕ) → c.take_at.result ≡ Answered (Took q) → (payloads : List (List ℕ)) → IsJournalOf payloads old.journal (g.D.Disk.content disk) (g.D.Disk.images disk) → IsJournalOf (payloads ++ record_of (owned (chosen_owner old) frame) ∷ []) new.journal (g.D.Disk.content disk2) (g.D.Disk.images disk2) =
    subst (λ n. (q : ℕ) → c.take_at.result ≡ Answered (Took q) → (payloads : List (List ℕ)) → IsJournalOf payloads old.journal (g.D.Disk.content disk) (g.D.Disk.images disk) → IsJournalOf (payloads ++ record_of (owned n frame) ∷ []) new.journal (g.D.Disk.content disk2) (g.D.Disk.images disk2)) owner_is said.added in
    let any_moment : (payloads : List (List ℕ)) → broken_by old.journal ≡ None → IsJournalOf payloads old.journal (g.D.Disk.content disk) (g.D.Disk.images disk) → LeavesOnly g.D.Disk.moment g.D.Disk.left_since disk disk2 (GivesWithOrWithout payloads (record_of (owned (chosen_owner old) frame))) =
    subst (λ n. (payloads : List (List ℕ)) → broken_by old.journal ≡ None → IsJournalOf payloads old.journal (g.D.Disk.content disk) (g.D.Disk.images disk) → LeavesOnly g.D.Disk.moment g.D.Disk.left_since disk disk2 (GivesWithOrWithout payloads (record_of (owned n frame)))) owner_is said.any_moment in
    let items : (with_items c.self.inside.servers c.take_at.new.servers).items ≡ c.take_at.new.servers = with_items_is c.self.inside.servers c.take_at.new.servers (search (rules, places)) in
    subst (λ servers. (frames : List OwnedFrame) → IsOwnersOf frames c.args.self.now (g.D.Disk.content disk) (g.D.Disk.images disk) → IsOwnersOf (frames ++ taken_by (chosen_owner c.args.self.now) frame c.take_at.result)
    (record { numbers = c.self.inside.numbers.items; states = map (λ server. server.state) servers; chosen = c.self.inside.chosen; journal = c.take_at.new.journal }) (g.D.Disk.content disk2) (g.D.Disk.images disk2)) (sym items)
    (subst (λ (v : OwnersView). (frames : List OwnedFrame) → IsOwnersOf frames v (g.D.Disk.content disk) (g.D.Disk.images disk) → IsOwnersOf (frames ++ taken_by (chosen_owner v) frame c.take_at.result) new (g.D.Disk.content disk2) (g.D.Disk.images disk2)) c.self.view_is
    (lasts_handled old new (g.D.Disk.content disk) (g.D.Disk.content disk2) (g.D.Disk.images disk) (g.D.Disk.images disk2) frame c.self.invariant.0 c.self.invariant.2 short others c.take_at.result
    (λ q e.
    let one : IsTaken (chosen_state old) frame = subst (λ servers. IsTaken (get_or (map (λ server. server.state) servers) c.self.inside.chosen at_first) frame) c.deref_mut.ensures.value (said.took q e) in
    (one, answered.state (took_some c.take_at.result q e) (took_sound c.take_at.result q e) ∙ step_taken some_fn (chosen_state old) frame one, (said.journal.sound q e).0))
    added
    (λ not_took. said.kept not_took ∙ ap (λ servers. map (λ server. server.state) servers) c.deref_mut.ensures.value)
    (λ broken.
    let still = said.journal.broken broken in
    (still.1, λ bytes image. subst (λ d. g.D.Disk.images d bytes) still.0 image))
    said.journal.breaks
    (λ e. (answered.no_memory e).1)
    (λ e. (answered.store_fault e).1)
    (λ payloads whole is bytes image.
    let leaves = any_moment payloads whole is in
    each g.D.Disk.moment g.D.Disk.left_since disk disk2 (GivesWithOrWithout payloads (record_of (owned (chosen_owner old) frame))) leaves bytes (g.met.D.Disk.counts_now disk2 (g.D.Disk.moment disk) bytes leaves.later image))
    said.stays))

pub returns-clause-any_moment : goal.returns-clause-any_moment
returns-clause-any_moment g c =
    let frame = frame_view c.args.frame.now in
    let disk = c.args.disk.now in
    let disk2 = c.take_at.new.disk in
    let owner_is : c.number_at-owner.result ≡ get_or c.self.inside.numbers.items c.self.inside.chosen 0 = c.number_at-owner.ensures.number ∙ ap (λ l. get_or l c.self.inside.chosen 0) c.deref.ensures.value in
    let any_moment : (payloads : List (List ℕ)) → broken_by c.self.inside.journal ≡ None → IsJournalOf payloads c.self.inside.journal (g.D.Disk.content disk) (g.D.Disk.images disk) → LeavesOnly g.D.Disk.moment g.D.Disk.left_since disk disk2 (GivesWithOrWithout payloads (record_of (owned (get_or c.self.inside.numbers.items c.self.inside.chosen 0) frame))) =
    subst (λ n. (payloads : List (List ℕ)) → broken_by c.self.inside.journal ≡ None → IsJournalOf payloads c.self.inside.journal (g.D.Disk.content disk) (g.D.Disk.images disk) → LeavesOnly g.D.Disk.moment g.D.Disk.left_since disk disk2 (GivesWithOrWithout payloads (record_of (owned n frame)))) owner_is c.take_at.ensures.any_moment in
    subst (λ (v : OwnersView). (frames : List OwnedFrame) → broken_by v.journal ≡ None → IsOwnersOf frames v (g.D.Disk.content disk) (g.D.Disk.images disk) → LeavesOnly g.D.Disk.moment g.D.Disk.left_since disk disk2 (GivesWithOrWithout (records frames) (record_of (owned (chosen_owner v) frame)))) c.self.view_is
    (λ frames whole is. any_moment (records frames) whole (is.whole whole))
