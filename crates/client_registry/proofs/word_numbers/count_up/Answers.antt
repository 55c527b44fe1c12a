use Rattle.std.proofs.Common.{◌≡◌, ◌+◌, ◌<◌, ◌^◌, Some, sym, ap, ◌∙◌, arith}
use Rattle.std.specs.Map.{lookup, keys_of}
use Rattle.std.specs.Prelude.{slice_get}
use Rattle.std.specs.Str.{bytes_eq}
use Rattle.indexmap.specs.IndexMap.{insert_entry, set_value_at}
use Rattle.client_registry.specs.Tally.{counted_up, counts_of}
use Rattle.client_registry.specs.WordBytes.{word_bytes}
use Rattle.client_registry.proofs.NumberLaws.{counted_at, keys-counts, place-counts, set_value_at-counts}
use Rattle.client_registry.proofs.TallyLaws.{lookup-counts, insert_entry-counts, lookup-All}
use Rattle.client_registry.proofs.word_numbers.count_up.Goals as goal
use Rattle.client_registry.proofs.word_numbers.count_up.Goals.{in-Some, in_default}

pub overflow_add-count : goal.overflow_add-count
overflow_add-count c =
    let bs = word_bytes c.args.word in
    let es = c.args.words.now.entries in
    let old = rw c.unwrap-place.ensures at c.insert_full.ensures.old in
    let at : lookup (bytes_eq bs) (counts_of es) ≡ Some c.in-Some.count = sym (lookup-counts word_bytes bs es) ∙ sym old ∙ c.in-Some.is in
    omega (arith, lookup-All (bytes_eq bs) (λ n. n + 1 < 2 ^ 32) (counts_of es) c.in-Some.count c.requires.small at)

pub returns-clause-counted : goal.returns-clause-counted
returns-clause-counted c =
    let bs = word_bytes c.args.word in
    let es = c.args.words.now.entries in
    let old = rw c.unwrap-place.ensures at c.insert_full.ensures.old in
    let entries = rw c.unwrap-place.ensures at c.insert_full.ensures.entries in
    let index = rw c.unwrap-place.ensures at c.insert_full.ensures.index in
    elim c.match-counted.branch [
      | in-Some w ↦
          ap (λ m. counts_of m.entries) w.words-is
          ∙ ap (λ fs. counts_of (set_value_at fs c.unwrap-place.result.0 (w.in-Some.count + 1))) entries
          ∙ ap (λ i. counts_of (set_value_at (insert_entry (λ a b. bytes_eq (word_bytes a) (word_bytes b)) es c.args.word 1) i (w.in-Some.count + 1))) index
          ∙ set_value_at-counts word_bytes c.args.word es w.in-Some.count (sym old ∙ w.in-Some.is)
      | in_default w ↦
          let none = w.in_default.is in
          ap (λ m. counts_of m.entries) w.words-is
          ∙ ap counts_of entries
          ∙ insert_entry-counts word_bytes c.args.word es (sym (lookup-counts word_bytes bs es) ∙ sym old ∙ none)
    ]

pub returns-clause-number : goal.returns-clause-number
returns-clause-number c =
    let bs = word_bytes c.args.word in
    let es = c.args.words.now.entries in
    let index = rw c.unwrap-place.ensures at c.insert_full.ensures.index in
    ap (λ ks. slice_get ks c.unwrap-place.result.0) (sym (keys-counts word_bytes c.match-counted.words.entries) ∙ ap keys_of (returns-clause-counted c))
    ∙ ap (slice_get (keys_of (counted_up (counts_of es) bs))) (index ∙ place-counts word_bytes bs es)
    ∙ counted_at (counts_of es) bs
