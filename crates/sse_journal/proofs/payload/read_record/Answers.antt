use Rattle.std.proofs.Common.{◌≡◌, length, drop, subst, arith}
use Rattle.std.specs.Prelude.{IfSome}
use Rattle.sse_journal.specs.Heads.{IsHead, IsRecord}
use Rattle.sse_journal.specs.declared.head.Head.{Head}
use Rattle.sse_journal.proofs.RecordAt.{record_told}
use Rattle.sse_journal.proofs.payload.read_record.Goals as goal

pub returns-in_ok-fill-in-Record-clause-payload : goal.returns-in_ok-fill-in-Record-clause-payload
returns-in_ok-fill-in-Record-clause-payload g c =
    let head : IfSome (g.D.Disk.content c.args.disk.now) (λ bytes. length (drop c.args.at bytes) ≡ c.args.left → IsHead c.in_ok-n.field-0 (drop c.args.at bytes)) = c.in_ok-n.ensures.head in
    let there : IfSome (g.D.Disk.content c.args.disk.now) (λ bytes. length (drop c.args.at bytes) ≡ c.args.left → IsRecord c.in-Record.n (drop c.args.at bytes)) = subst (λ (h : Head). IfSome (g.D.Disk.content c.args.disk.now) (λ bytes. length (drop c.args.at bytes) ≡ c.args.left → IsHead h (drop c.args.at bytes))) c.in-Record.is head in
    record_told (g.D.Disk.content c.args.disk.now) (g.D.Disk.content c.head_at.new.disk) c.args.at c.args.left c.in-Record.n _ c.fill.new.out.items c.head_at.ensures.kept there c.in_ok-fill-in-Record.ensures.bytes (omega (arith, c.from.ensures))
