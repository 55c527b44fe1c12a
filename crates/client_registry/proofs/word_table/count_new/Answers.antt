use Rattle.std.proofs.Common.{◌≡◌, ◌+◌, ◌-◌, ◌<◌, ◌^◌, ◌&&◌, true, false, not, length, take, get_or, set, nat_eq, sym, ap, ◌∙◌, arith}
use Rattle.std.specs.Prelude.{if◌then◌else◌}
use Rattle.std.specs.List.{list_any}
use Rattle.std.specs.Map.{values_of}
use Rattle.std.proofs.lemmas.List.{get_or-set_same, get_or-set_other, take_more}
use Rattle.std.proofs.lemmas.Option.{get_or_from_slice_get, slice_get_within}
use Rattle.indexmap.specs.IndexMap.{hasher_of}
use Rattle.client_registry.specs.WordBytes.{word_bytes}
use Rattle.client_registry.specs.WordTable.{table_words}
use Rattle.client_registry.proofs.TableLaws.{counted_new, counted_old, length-set_value, not_before, rise, values-set_value_at, words-set_value_at}
use Rattle.client_registry.proofs.word_table.count_new.Goals as goal
use Rattle.client_registry.proofs.word_table.count_new.Goals.{then-not-is_among, else-not-is_among}

pub overflow_add-count : goal.overflow_add-count
overflow_add-count c =
    let numbers = c.args.numbers.now in
    let listed = c.args.listed.now in
    let k = c.loop-number.number-index in
    let n = get_or numbers k 0 in
    let old = values_of c.args.words.now.entries in
    let es = c.loop-number.words.entries in
    let new : list_any (nat_eq n) listed ≡ false = sym c.is_among.ensures ∙ c.if-not-is_among.true in
    let before = not_before numbers k c.requires.differ c.loop-number-test.true in
    let small : get_or old n 0 < 2 ^ 32 - 1 = c.requires.counters k 0 c.loop-number-test.true new in
    let now : get_or (values_of es) n 0 ≡ get_or old n 0 + 0 = c.loop-number.invariant.counts n ∙ ap (λ b. get_or old n 0 + (if b && not (list_any (nat_eq n) listed) then 1 else 0)) before in
    let is = get_or_from_slice_get (values_of es) n c.index_mut-count.result.now 0 c.index_mut-count.ensures.value in
    omega (arith, small, now, is)

pub loop-number-preserved : goal.loop-number-preserved
loop-number-preserved c =
    let numbers = c.args.numbers.now in
    let listed = c.args.listed.now in
    let k = c.loop-number.number-index in
    let n = get_or numbers k 0 in
    let old = values_of c.args.words.now.entries in
    let es = c.loop-number.words.entries in
    let had = c.loop-number.invariant in
    let more = take_more numbers k 0 c.loop-number-test.true in
    let before = not_before numbers k c.requires.differ c.loop-number-test.true in
    elim c.if-not-is_among.branch [
      | then-not-is_among w ↦
          let value = w.index_mut-count.result.now in
          let is = get_or_from_slice_get (values_of es) n value 0 w.index_mut-count.ensures.value in
          let within = slice_get_within (values_of es) n value w.index_mut-count.ensures.value in
          let new : list_any (nat_eq n) listed ≡ false = sym c.is_among.ensures ∙ w.if-not-is_among.true in
          record {
            words = ap (λ m. table_words m.entries) w.words-is ∙ words-set_value_at word_bytes es n (value + 1) ∙ had.words;
            count = ap (λ m. length m.entries) w.words-is ∙ length-set_value es n (value + 1) ∙ had.count;
            hasher = ap hasher_of w.words-is ∙ had.hasher;
            counts = λ m.
                ap (λ t. get_or (values_of t.entries) m 0) w.words-is
                ∙ ap (λ vs. get_or vs m 0) (values-set_value_at es n (value + 1))
                ∙ counted_new listed (take k numbers) n (λ j. get_or old j 0) (λ j. get_or (values_of es) j 0) had.counts
                (λ j. get_or (set (values_of es) n (value + 1)) j 0) new before
                (get_or-set_same (values_of es) n (value + 1) 0 within ∙ ap (λ v. v + 1) (sym is))
                (λ j differ. get_or-set_other (values_of es) n j (value + 1) 0 differ) m
                ∙ ap (λ ns. get_or old m 0 + rise listed ns m) (sym more);
          }
      | else-not-is_among w ↦
          let there : list_any (nat_eq n) listed ≡ true = sym c.is_among.ensures ∙ w.if-not-is_among.false in
          record {
            words = ap (λ m. table_words m.entries) w.words-is ∙ had.words;
            count = ap (λ m. length m.entries) w.words-is ∙ had.count;
            hasher = ap hasher_of w.words-is ∙ had.hasher;
            counts = λ m.
                ap (λ t. get_or (values_of t.entries) m 0) w.words-is
                ∙ counted_old listed (take k numbers) n (λ j. get_or old j 0) (λ j. get_or (values_of es) j 0) had.counts there m
                ∙ ap (λ ns. get_or old m 0 + rise listed ns m) (sym more);
          }
    ]
