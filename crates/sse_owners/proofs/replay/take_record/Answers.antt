use Rattle.std.proofs.Common.{sym, subst}
use Rattle.std.specs.Prelude.{map}
use Rattle.sse_owners.specs.OwnedRecords.{CanTakeOwned, TakesOwned}
use Rattle.sse_owners.proofs.OwnedReplay.{bad_size, on_ok_to}
use Rattle.sse_owners.proofs.replay.take_record.Goals as goal

pub returns-in-Some-clause-taken : goal.returns-in-Some-clause-taken
returns-in-Some-clause-taken g c =
    on_ok_to c.take_owned.result
    (λ is. subst (λ bytes. TakesOwned c.args.numbers.now (map (λ server. server.state) c.args.servers.now) bytes (map (λ server. server.state) c.take_owned.new.servers)) (sym c.in-Some.ensures.some) is)
    c.take_owned.ensures.taken

pub returns-in-Some-clause-bad : goal.returns-in-Some-clause-bad
returns-in-Some-clause-bad g c k is =
    let told = c.take_owned.ensures.bad k is in
    (told.0, λ can. told.1 (subst (λ bytes. CanTakeOwned c.args.numbers.now (map (λ server. server.state) c.args.servers.now) bytes) c.in-Some.ensures.some can))

pub returns-in-None-clause-bad : goal.returns-in-None-clause-bad
returns-in-None-clause-bad g c k is =
    (cc, bad_size c.args.numbers.now (map (λ server. server.state) c.args.servers.now) c.args.payload.now c.in-None.ensures.none)
