use Rattle.std.proofs.Common.{◌≡◌, sym, ◌∙◌, arith}
use Rattle.sse_journal.proofs.FirstBytes.{record_read, bad_read}
use Rattle.sse_journal.proofs.head.look.Goals as goal
use Rattle.sse_journal.proofs.head.look.Goals.{then-n-eq0-via-then-n-eq0, then-n-eq0-via-else-n-eq0+then-n-gt-MAX_PAYLOAD, then-n-eq0-via-else-n-eq0+else-n-gt-MAX_PAYLOAD+then-left-from}

pub returns-then-head-lt5-clause-is : goal.returns-then-head-lt5-clause-is
returns-then-head-lt5-clause-is c rest size reads =
    bad_read c.args.head.now rest reads (omega (arith, size, c.requires.some, c.if-left-eq1.false)) c.if-commit-ne1.false (λ five n number some limit more. absurd (omega (arith, five, c.if-head-lt5.true)))

pub returns-then-n-eq0-clause-is : goal.returns-then-n-eq0-clause-is
returns-then-n-eq0-clause-is c rest size reads =
    bad_read c.args.head.now rest reads (omega (arith, size, c.requires.some, c.if-left-eq1.false)) c.if-commit-ne1.false (λ five n number some limit more.
    let same : n ≡ c.from_be_bytes-n.result = number ∙ sym c.from_be_bytes-n.ensures in
    elim c.then-n-eq0.branch [
      | then-n-eq0-via-then-n-eq0 w ↦ omega (arith, same, some, w.if-n-eq0.true)
      | then-n-eq0-via-else-n-eq0+then-n-gt-MAX_PAYLOAD w ↦ omega (arith, same, limit, w.if-n-gt-MAX_PAYLOAD.true)
      | then-n-eq0-via-else-n-eq0+else-n-gt-MAX_PAYLOAD+then-left-from w ↦ omega (arith, same, more, size, w.if-left-from.true, w.from.ensures)
    ])

pub returns-clause-is : goal.returns-clause-is
returns-clause-is c rest size reads =
    record_read c.args.head.now rest reads c.from_be_bytes-n.result c.if-commit-ne1.false (λ i. omega (arith, c.type_inv.head i)) c.from_be_bytes-n.ensures c.if-n-eq0.false c.if-n-gt-MAX_PAYLOAD.false (omega (arith, size, c.if-left-from.false, c.from.ensures))
