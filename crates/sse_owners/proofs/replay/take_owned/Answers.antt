use Rattle.std.proofs.Common.{refl, ◌++◌, get_or}
use Rattle.std.specs.Prelude.{map}
use Rattle.std.specs.Int.{w64, to_be_bytes}
use Rattle.server_core.specs.State.{at_first}
use Rattle.sse_owners.proofs.OwnedReplay.{bad_body, bad_owner, takes_owned, on_ok_to}
use Rattle.sse_owners.proofs.replay.take_owned.Goals as goal

pub returns-in-Some-clause-taken : goal.returns-in-Some-clause-taken
returns-in-Some-clause-taken g c =
    on_ok_to c.take_body_at.result
    (λ one. takes_owned c.args.numbers.now (map (λ server. server.state) c.args.servers.now) (map (λ server. server.state) c.take_body_at.new.servers) (to_be_bytes w64 c.args.owner ++ c.args.body.now) c.args.owner c.args.body.now c.in-Some.place
    (get_or (map (λ server. server.state) c.take_body_at.new.servers) c.in-Some.place at_first) c.requires.short refl c.in-Some.ensures.found.0 c.in-Some.ensures.found.1 one c.take_body_at.ensures.states)
    c.take_body_at.ensures.taken

pub returns-in-Some-clause-bad : goal.returns-in-Some-clause-bad
returns-in-Some-clause-bad g c k is =
    let told = c.take_body_at.ensures.bad k is in (
      told.0,
      bad_body c.args.numbers.now (map (λ server. server.state) c.args.servers.now) (to_be_bytes w64 c.args.owner ++ c.args.body.now) c.args.owner c.args.body.now c.in-Some.place c.requires.rising c.requires.short refl c.in-Some.ensures.found.0 c.in-Some.ensures.found.1 told.1,
    )

pub returns-in-None-clause-bad : goal.returns-in-None-clause-bad
returns-in-None-clause-bad g c k is =
    (cc, bad_owner c.args.numbers.now (map (λ server. server.state) c.args.servers.now) (to_be_bytes w64 c.args.owner ++ c.args.body.now) c.args.owner c.args.body.now c.requires.short refl c.in-None.ensures.none)
