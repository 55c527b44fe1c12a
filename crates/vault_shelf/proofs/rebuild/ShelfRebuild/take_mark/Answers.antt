use Rattle.std.proofs.Common.{sym, ◌∙◌}
use Rattle.vault_shelf.proofs.RebuildLaws.{differs_of, first_bad, first_taken, first_wrong, same_of, taken_unmarked}
use Rattle.vault_shelf.proofs.rebuild.ShelfRebuild.take_mark.Goals as goal

pub returns-in_default-clause-takes : goal.returns-in_default-clause-takes
returns-in_default-clause-takes c =
    λ payloads taken.
    let was = c.args.self.now in
    first_bad payloads c.args.payload.now (taken_unmarked was.mark was.marked payloads was.shelf was.last.items c.requires taken).none (sym c.in_default.ensures.mark)

pub returns-then-ne-clause-takes : goal.returns-then-ne-clause-takes
returns-then-ne-clause-takes c =
    λ payloads taken.
    let was = c.args.self.now in
    first_wrong was.mark c.in-Some.mark payloads c.args.payload.now (taken_unmarked was.mark was.marked payloads was.shelf was.last.items c.requires taken).none (sym c.in-Some.is ∙ c.read_mark_record.ensures.mark)
    (differs_of c.in-Some.mark was.mark c.ne.result c.ne.ensures c.if-ne.true)

pub returns-clause-takes : goal.returns-clause-takes
returns-clause-takes c =
    λ payloads taken.
    let was = c.args.self.now in
    first_taken was.mark c.in-Some.mark payloads c.args.payload.now was.shelf was.last.items (taken_unmarked was.mark was.marked payloads was.shelf was.last.items c.requires taken) (sym c.in-Some.is ∙ c.read_mark_record.ensures.mark)
    (same_of c.in-Some.mark was.mark c.ne.result c.ne.ensures c.if-ne.false)
