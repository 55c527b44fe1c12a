use Rattle.std.proofs.Common.{◌≡◌, ℕ, sym, subst, ◌∙◌, ap}
use Rattle.std.specs.Prelude.{Option, Some, Err, map}
use Rattle.sse_journal.specs.Reads.{IsRead}
use Rattle.sse_server.specs.declared.open_fault.OpenFault.TheVariants as opens
use Rattle.sse_owners.specs.OwnedRecords.{CanTakeOwned, TakesOwned}
use Rattle.sse_owners.proofs.replay.take_next.Goals as goal

pub returns-in-Ok-clause-taken : goal.returns-in-Ok-clause-taken
returns-in-Ok-clause-taken g c payloads is le at =
    let next : c.in-Ok-Some.field-0 ≡ Some c.in-Ok-Some.next = cc in
    let read = subst (λ (o : Option ℕ). IsRead payloads c.args.number o c.read.new.out.items) next (c.in-Ok-Some.ensures.payload payloads c.args.number is le at) in
    (read.0, subst (λ bytes. TakesOwned c.args.numbers.now (map (λ server. server.state) c.args.servers.now) bytes (map (λ server. server.state) c.take_record.new.servers)) (c.deref.ensures.value ∙ read.1) c.in-Ok.ensures.taken, read.2)

pub returns-in-Err-take_record-clause-bad : goal.returns-in-Err-take_record-clause-bad
returns-in-Err-take_record-clause-bad g c k same =
    let fault : c.in-Err-take_record.fault ≡ opens.BadRecord k = cc in
    let told = c.in-Err-take_record.ensures.bad k (ap Err fault) in
    let next : c.in-Ok-Some.field-0 ≡ Some c.in-Ok-Some.next = cc in (
      told.0,
      λ payloads is le at.
          let read = subst (λ (o : Option ℕ). IsRead payloads c.args.number o c.read.new.out.items) next (c.in-Ok-Some.ensures.payload payloads c.args.number is le at) in
          (read.0, λ can. told.1 (subst (λ bytes. CanTakeOwned c.args.numbers.now (map (λ server. server.state) c.args.servers.now) bytes) (sym (c.deref.ensures.value ∙ read.1)) can)),
    )
