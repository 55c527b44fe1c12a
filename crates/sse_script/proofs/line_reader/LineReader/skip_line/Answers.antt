use Rattle.std.proofs.Common.{◌≡◌, ◌==◌, length, ap, sym, ◌∙◌, arith}
use Rattle.std.specs.Option.{option_map}
use Rattle.std.specs.List.{position_or_len, after_first}
use Rattle.std.specs.Io.KnownBytes.{prepend_known}
use Rattle.sse_script.proofs.TextLinesLemmas.{after_first-ended, after_first-unended}
use Rattle.sse_script.proofs.line_reader.LineReader.skip_line.Goals as goal

pub returns-then-count-len-clause-rest : goal.returns-then-count-len-clause-rest
returns-then-count-len-clause-rest g c =
    ap (λ s. prepend_known s (g.S.Source.remaining c.skipping.source)) c.consume.ensures
    ∙ after_first-ended c.skipping.self _ _ c.line_front-count.ensures.count (omega (arith, c.len.ensures))
    ∙ c.skipping.invariant.rest

pub skipping-preserved : goal.skipping-preserved
skipping-preserved g c =
    let unended : position_or_len (λ b. b == 10) c.skipping.self ≡ length c.skipping.self =
    omega (arith, c.line_front-count.ensures.count, c.line_front-count.ensures.within, c.len.ensures) in
    record {
      rest = ap (option_map (after_first (λ b. b == 10))) c.in_ok-refill.ensures.same
          ∙ sym (after_first-unended c.skipping.self _ unended)
          ∙ c.skipping.invariant.rest;
      come = omega (arith, c.in_ok-refill.ensures.count, c.in_ok-refill.ensures.handed, c.in_ok-refill.ensures.within, c.skipping.invariant.come);
      steady = c.in_ok-refill.ensures.cause.steady ∙ c.skipping.invariant.steady;
    }
