use Rattle.vault_shelf.proofs.RebuildLaws.{so_far, takes_bad}
use Rattle.vault_shelf.proofs.rebuild.ShelfRebuild.take.Goals as goal

pub returns-in-Err-clause-bad : goal.returns-in-Err-clause-bad
returns-in-Err-clause-bad c =
    λ payloads n taken e.
    let was = c.args.self in
    takes_bad was.mark payloads c.args.payload.now c.take_next.new.self.marked c.take_next.new.self.shelf c.take_next.new.self.last.items c.take_next.result c.in-Err.fault n
    (so_far was.mark was.marked payloads was.shelf was.last.items taken) c.in-Err.is (c.take_next.ensures.takes payloads taken) e
