use Rattle.std.proofs.Common.{sym, subst, get_or, slice_set}
use Rattle.std.specs.Prelude.{map}
use Rattle.sse_frames.specs.FrameViews.{frame_view}
use Rattle.server_core.specs.State.{ServerState, at_first}
use Rattle.sse_server.specs.Taken.{IsTaken}
use Rattle.sse_owners.specs.Handled.{IsAnsweredBy, KeepsJournal}
use Rattle.sse_owners.proofs.AnswerLaws.{answered_of, untouched_of}
use Rattle.sse_owners.proofs.Placed.{was, now, all, same}
use Rattle.sse_owners.proofs.taking.take_at.Goals as goal

pub returns-clause-states : goal.returns-clause-states
returns-clause-states g c = all (λ server. server.state) c.args.servers.now c.args.place c.index-servers-place.result c.take.new.server at_first c.requires.place

pub returns-clause-answered : goal.returns-clause-answered
returns-clause-answered g c f page =
    let old = c.args.servers.now in
    let place = c.args.place in
    let one = c.index-servers-place.result in
    let said = c.take.ensures in
    subst (λ (s : ServerState). IsAnsweredBy f s (frame_view c.args.frame.now) c.take.result page (get_or (map (λ server. server.state) (slice_set old place c.take.new.server)) place at_first)) (sym (was (λ server. server.state) old place one c.take.new.server at_first c.requires.place))
    (subst (λ (s : ServerState). IsAnsweredBy f (get_or old place one).state (frame_view c.args.frame.now) c.take.result page s) (sym (now (λ server. server.state) old place one c.take.new.server at_first c.requires.place))
    (answered_of f (get_or old place one).state c.take.new.server.state (frame_view c.args.frame.now) c.take.result page _ _ said.refused said.taken said.no_memory said.store_fault said.no_search said.range))

pub returns-clause-took : goal.returns-clause-took
returns-clause-took g c q is =
    subst (λ (s : ServerState). IsTaken s (frame_view c.args.frame.now)) (sym (was (λ server. server.state) c.args.servers.now c.args.place c.index-servers-place.result c.take.new.server at_first c.requires.place)) (c.take.ensures.took q is)

pub returns-clause-kept : goal.returns-clause-kept
returns-clause-kept g c not_took = same (λ server. server.state) c.args.servers.now c.args.place c.index-servers-place.result c.take.new.server at_first c.requires.place (c.take.ensures.kept not_took)

pub returns-clause-journal : goal.returns-clause-journal
returns-clause-journal g c =
    let old = c.args.servers.now in
    let place = c.args.place in
    let one = c.index-servers-place.result in
    let said = c.take.ensures in
    let frame = frame_view c.args.frame.now in
    subst (λ (s : ServerState). KeepsJournal s frame c.take.result c.args.journal.now c.take.new.journal c.args.disk.now c.take.new.disk) (sym (was (λ server. server.state) old place one c.take.new.server at_first c.requires.place))
    (record {
      untouched = λ untaken. untouched_of (get_or old place one).state c.take.new.server.state frame _ _ _ untaken (λ accepted. record { update = c.requires.update; grammar = c.requires.grammar; accepted = accepted }) said.refused;
      counted = said.counted;
      sound = said.whole;
      broken = λ is. let still = said.broken is in (still.0, still.1);
      stays_broken = said.stays_broken;
      breaks = said.breaks;
      failed_breaks = said.failed_breaks;
    })
