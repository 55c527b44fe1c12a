use Rattle.std.proofs.Common.{◌≢◌, sym, subst, get_or, slice_set}
use Rattle.std.specs.Prelude.{map}
use Rattle.sse_frames.specs.Frames.{FrameText, body_of}
use Rattle.server_core.specs.State.{ServerState, at_first}
use Rattle.sse_server.specs.Records.{TakesRecord}
use Rattle.sse_server.specs.Taken.{IsTaken}
use Rattle.sse_owners.proofs.OwnedReplay.{on_ok_to}
use Rattle.sse_owners.proofs.Placed.{was, now, all}
use Rattle.sse_owners.proofs.replay.take_body_at.Goals as goal

pub returns-clause-taken : goal.returns-clause-taken
returns-clause-taken g c =
    let old = c.args.servers.now in
    let place = c.args.place in
    let one = c.index-servers-place.result in
    on_ok_to c.take_body.result
    (λ is. subst (λ (s : ServerState). TakesRecord s c.args.body.now (get_or (map (λ server. server.state) (slice_set old place c.take_body.new.server)) place at_first)) (sym (was (λ server. server.state) old place one c.take_body.new.server at_first c.requires))
    (subst (λ (s : ServerState). TakesRecord (get_or old place one).state c.args.body.now s) (sym (now (λ server. server.state) old place one c.take_body.new.server at_first c.requires)) is))
    c.take_body.ensures.taken

pub returns-clause-states : goal.returns-clause-states
returns-clause-states g c = all (λ server. server.state) c.args.servers.now c.args.place c.index-servers-place.result c.take_body.new.server at_first c.requires

pub returns-clause-bad : goal.returns-clause-bad
returns-clause-bad g c k is =
    let told = c.take_body.ensures.bad k is in
    (told.0, subst (λ (s : ServerState). (frame : FrameText) → IsTaken s frame → c.args.body.now ≢ body_of frame) (sym (was (λ server. server.state) c.args.servers.now c.args.place c.index-servers-place.result c.take_body.new.server at_first c.requires)) told.1)
