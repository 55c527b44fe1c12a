use Rattle.std.proofs.Common.{◌≡◌, ◌∙◌, ◌-◌, ℕ, List, length, drop, subst, sym, ap, arith, refl}
use Rattle.std.specs.Prelude.{IfSome, Option, Ok}
use Rattle.sse_journal.specs.Heads.{IsHead, IsRecord}
use Rattle.sse_journal.specs.declared.head.Head.{Head}
use Rattle.sse_journal.specs.declared.head.Head.TheVariants.{Record}
use Rattle.sse_journal.proofs.Moments.{started, goes_on}
use Rattle.sse_journal.proofs.WalkSteps.{walk_on_told, walk_begun_told}
use Rattle.sse_journal.proofs.walk.walk.Goals as goal

pub records-init : goal.records-init
records-init g c = record {
  inside = omega (arith, c.requires.least);
  count = omega arith;
  kept = refl;
  images_kept = λ f left. left;
  quiet = started g.D.Disk.moment g.D.Disk.left_since c.args.disk.now (g.D.Disk.images c.args.disk.now) (g.met.D.Disk.only_now c.args.disk.now);
  steady = refl;
  here = walk_begun_told (g.D.Disk.content c.args.disk.now) c.args.size c.requires.least c.requires.size;
}

pub records-preserved : goal.records-preserved
records-preserved g c = record {
  inside = omega (arith, c.in_ok-commit.ensures.within c.in-Record.n (ap Ok c.in-Record.is), c.from.ensures, c.records.invariant.inside);
  count = omega (arith, c.records.invariant.count);
  kept = c.head_at.ensures.kept ∙ c.records.invariant.kept;
  images_kept = λ f left. c.records.invariant.images_kept f (c.head_at.ensures.images_kept f left);
  quiet = goes_on g.D.Disk.moment g.D.Disk.left_since c.args.disk.now c.records.disk c.head_at.new.disk (g.D.Disk.images c.args.disk.now) _ c.records.invariant.quiet c.head_at.ensures.time (λ f left. c.records.invariant.images_kept f (c.head_at.ensures.images_kept f left));
  steady = c.in_ok-commit.ensures.cause.steady ∙ c.records.invariant.steady;
  here =
      let head : IfSome (g.D.Disk.content c.records.disk) (λ bytes. length (drop c.records.at bytes) ≡ c.args.size - c.records.at → IsHead c.in_ok-commit.field-0 (drop c.records.at bytes)) = c.in_ok-commit.ensures.head in
      let there = subst (λ (h : Head). IfSome (g.D.Disk.content c.records.disk) (λ bytes. length (drop c.records.at bytes) ≡ c.args.size - c.records.at → IsHead h (drop c.records.at bytes))) (c.in-Record.is ∙ ap Record (sym c.from.ensures)) head in
      walk_on_told (g.D.Disk.content c.args.disk.now) c.args.size c.records.at c.records.records c.from.result c.records.invariant.here
      (subst (λ (o : Option (List ℕ)). IfSome o (λ bytes. length (drop c.records.at bytes) ≡ c.args.size - c.records.at → IsRecord c.from.result (drop c.records.at bytes))) c.records.invariant.kept there);
}
