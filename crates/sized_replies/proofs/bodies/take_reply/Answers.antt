use Rattle.std.proofs.Common.{arith}
use Rattle.sized_replies.proofs.Pieces.{both_read, head_and_body, dry-since, dry-err, inside-body, inside-err, inside-head}
use Rattle.sized_replies.proofs.bodies.take_reply.Goals as goal

-- the source ended or failed inside the body
pub returns-in_err-read_full-2-clause-dry : goal.returns-in_err-read_full-2-clause-dry
returns-in_err-read_full-2-clause-dry g c =
    dry-err c.from_residual-in_err-read_full-2.result _ _ _ (dry-since _ _ _ _ c.in_ok-read_full.ensures.steady c.in_err-read_full-2.ensures.dry)

pub returns-clause-taken : goal.returns-clause-taken
returns-clause-taken g c =
    both_read _ _ _ _ _ _ c.in_ok-read_full.ensures.full c.in_ok-read_full-2.ensures.full
    (head_and_body c.body_size-size.result c.copy_from_slice.new.self c.read_full.new.out c.read_full-2.new.out c.split_at_mut-body.result.1.now c.read_full.ensures.long c.copy_from_slice.ensures.after (omega (arith, c.read_full-2.ensures.long, c.split_at_mut-body.ensures.front_len)))

pub returns-in_err-read_full-clause-inside : goal.returns-in_err-read_full-clause-inside
returns-in_err-read_full-clause-inside g c = inside-err c.from_residual.result _ _ _ _ (inside-head _ _ _ _ c.in_err-read_full.ensures.cut)

pub returns-in_err-read_full-2-clause-inside : goal.returns-in_err-read_full-2-clause-inside
returns-in_err-read_full-2-clause-inside g c =
    inside-err c.from_residual-in_err-read_full-2.result _ _ _ _
    (inside-body c.args.most c.body_size-size.result _ _ _ c.read_full.new.out _ _ _ c.in_ok-read_full.ensures.full c.read_full.ensures.long c.body_size-size.ensures.most c.body_size-size.ensures.size c.split_at_mut-body.ensures.front_len
    c.in_ok-read_full.ensures.steady c.in_err-read_full-2.ensures.cut)
