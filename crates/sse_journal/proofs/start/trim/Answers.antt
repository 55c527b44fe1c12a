use Rattle.std.proofs.Common.{◌≡◌, ◌∷◌, ◌++◌, length, subst, ap, arith, ℕ, List}
use Rattle.std.specs.Prelude.{IfSome, Option}
use Rattle.sse_journal.specs.Files.{front}
use Rattle.sse_journal.proofs.Torn.{length-around}
use Rattle.sse_journal.proofs.start.trim.Goals as goal

pub returns-then-size-end-clause-any_moment : goal.returns-then-size-end-clause-any_moment
returns-then-size-end-clause-any_moment g c payloads tail are not_set ends all =
    let size : c.args.size ≡ length (front payloads ++ c.args.commit ∷ tail) = subst (λ (o : Option (List ℕ)). IfSome o (λ bytes. c.args.size ≡ length bytes)) all.reads c.requires.size in
    c.cut_tail.ensures.any_moment payloads c.args.commit tail are (λ is_open. absurd (omega (arith, c.if-size-end.true, size, length-around (front payloads) c.args.commit tail, ap length (not_set is_open), ends))) ends all
