use Rattle.std.proofs.Common.{◌≡◌, ◌+◌, ◌<◌, length, suc, take, subst, ◌∙◌, arith}
use Rattle.std.specs.Prelude.{All}
use Rattle.indexmap.specs.IndexMap.{set_value_at}
use Rattle.client_registry.specs.WordBytes.{word_bytes}
use Rattle.client_registry.proofs.TableLaws.{All-cleared, All-zero-set, length-set_value, words-set_value_at}
use Rattle.client_registry.proofs.word_table.clear_counts.Goals as goal

pub loop-number-preserved : goal.loop-number-preserved
loop-number-preserved c =
    let es = c.loop-number.words.entries in
    let i = c.loop-number.number in
    let had = c.loop-number.invariant in
    let within : i < length es = omega (arith, had.count, c.len-number-end.ensures.len, c.loop-number-test.true) in
    let next : suc i ≡ i + 1 = omega arith in
    record {
      words = words-set_value_at word_bytes es i 0 ∙ had.words;
      count = length-set_value es i 0 ∙ had.count;
      hasher = had.hasher;
      cleared = subst (λ n. All (λ e. e.1 ≡ 0) (take n (set_value_at es i 0))) next (All-zero-set es i within had.cleared);
    }

pub returns-clause-counts : goal.returns-clause-counts
returns-clause-counts c =
    All-cleared c.loop-number.words.entries c.loop-number.number (omega (arith, c.loop-number.invariant.count, c.len-number-end.ensures.len, c.loop-number-test.false)) c.loop-number.invariant.cleared
