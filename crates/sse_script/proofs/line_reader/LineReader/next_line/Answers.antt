use Rattle.std.proofs.Common.{length, sym, ap, ◌∙◌, arith, length-drop}
use Rattle.std.proofs.lemmas.Bool.{eqb-false}
use Rattle.sse_script.proofs.TextLinesLemmas.{SkipsLine-after, TakesLine-ended, TakesLine-last, prepend_known-moved, position_or_len-moved, length-moved, IsAtEnd-prepend_known}
use Rattle.sse_script.proofs.line_reader.LineReader.next_line.Goals as goal

pub returns-then-count-len-clause-taken : goal.returns-then-count-len-clause-taken
returns-then-count-len-clause-taken g c =
    SkipsLine-after _ _ _ _ _ _ _ c.reading.invariant.same c.reading.invariant.unended c.line_front-count.ensures.count
    (omega (arith, c.if-count-len.true, c.len.ensures, c.reading.line.ok.0)) c.consume.ensures c.in_ok-skip_line.ensures.rest

pub returns-then-count-len-clause-less : goal.returns-then-count-len-clause-less
returns-then-count-len-clause-less g c = λ _.
    omega (
      arith,
      c.if-count-len.true,
      c.len.ensures,
      c.reading.line.ok.0,
      c.reading.invariant.come,
      c.in_ok-skip_line.ensures.come,
      ap length c.consume.ensures,
      length-drop c.line_front-count.result c.reading.self,
      c.line_front-count.ensures.within,
    )

pub returns-then-count-len-2-clause-taken : goal.returns-then-count-len-2-clause-taken
returns-then-count-len-2-clause-taken g c =
    TakesLine-ended _ _ _ _ _ _ _ _ c.reading.invariant.same c.reading.invariant.unended c.line_front-count.ensures.count
    (omega (arith, c.len-in-reading.ensures)) c.first.ensures c.in_ok-extend_from_slice.ensures.items c.consume-then-count-len-2.ensures

pub reading-preserved : goal.reading-preserved
reading-preserved g c = record {
  same = prepend_known-moved _ _ _ _ _ _ _ _ _ c.reading.invariant.same (omega (arith, c.len-in-reading.ensures))
      c.first.ensures c.in_ok-extend_from_slice.ensures.items c.in_ok-refill.ensures.same;
  unended = position_or_len-moved _ _ _ _ _ c.reading.invariant.unended c.line_front-count.ensures.count (omega (arith, c.len-in-reading.ensures))
      c.first.ensures c.in_ok-extend_from_slice.ensures.items;
  short = omega (
    arith,
    length-moved _ _ _ _ _ c.line_front-count.ensures.within c.first.ensures c.in_ok-extend_from_slice.ensures.items,
    c.if-count-len.false,
    c.len.ensures,
    c.reading.line.ok.0,
    c.reading.invariant.short,
  );
  come = omega (
    arith,
    length-moved _ _ _ _ _ c.line_front-count.ensures.within c.first.ensures c.in_ok-extend_from_slice.ensures.items,
    c.in_ok-refill.ensures.count,
    c.in_ok-refill.ensures.handed,
    c.in_ok-refill.ensures.within,
    c.reading.invariant.come,
  );
  steady = c.in_ok-refill.ensures.cause.steady ∙ c.reading.invariant.steady;
}

pub returns-in-reading-clause-taken : goal.returns-in-reading-clause-taken
returns-in-reading-clause-taken g c =
    TakesLine-last _ _ _
    (prepend_known-moved _ _ _ _ _ _ _ _ _ c.reading.invariant.same (omega (arith, c.len-in-reading.ensures))
    c.first.ensures c.in_ok-extend_from_slice.ensures.items c.in_ok-refill.ensures.same)
    (position_or_len-moved _ _ _ _ _ c.reading.invariant.unended c.line_front-count.ensures.count (omega (arith, c.len-in-reading.ensures))
    c.first.ensures c.in_ok-extend_from_slice.ensures.items)
    (IsAtEnd-prepend_known _ _ (omega (arith, c.in_ok-refill.ensures.count, c.if-branch-gt0.false)) (c.in_ok-refill.ensures.end (omega (arith, c.if-branch-gt0.false))))
    (omega (arith, eqb-false _ _ (sym c.is_empty.ensures ∙ c.if-is_empty.false), c.extend_from_slice.new.self.ok.0))
