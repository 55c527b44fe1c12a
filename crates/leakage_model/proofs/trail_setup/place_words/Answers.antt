use Rattle.std.proofs.Common.{◌≡◌, ◌+◌, ◌-◌, ◌<◌, ℕ, List, [], length, get_or, sym, ap, subst, ◌∙◌, arith, Some}
use Rattle.std.specs.Prelude.{slice_get}
use Rattle.std.specs.List.{range_with_len}
use Rattle.std.proofs.lemmas.List.{get_or-map, take_all}
use Rattle.std.proofs.lemmas.List.Sums.{sum_by-take-le, sum_by_more}
use Rattle.std.proofs.lemmas.Option.{get_or_from_slice_get}
use Rattle.two_level.specs.Plan.{block_count, plan}
use Rattle.two_level.specs.Shape.{Shape}
use Rattle.client_registry.specs.Document.{Document}
use Rattle.client_registry.proofs.DistinctLaws.{IsDistinct-first_seen}
use Rattle.client_registry.specs.Documents.{all_words, ids_with, list_lengths, words_of}
use Rattle.client_registry.specs.Setup.{setup_of}
use Rattle.client_registry.specs.WordBytes.{word_bytes}
use Rattle.sse_model.specs.Positions.{word_blocks}
use Rattle.leakage_model.proofs.EntryLaws.{each-next}
use Rattle.leakage_model.proofs.SetupLaws.{home_at, placed-words, sum-word_blocks}
use Rattle.leakage_model.specs.TrailFacts.{ChangesAt, ChangesEach}
use Rattle.leakage_model.specs.WordFacts.{placed_at}
use Rattle.leakage_model.proofs.trail_setup.place_words.Goals as goal

-- the blocks of the word at a number
blocks_at : (docs : List Document) (shape : Shape) (n len count : ℕ) → n < length (words_of docs) → slice_get (list_lengths docs) n ≡ Some len → count ≡ block_count (plan shape len)
    → count ≡ word_blocks (setup_of docs shape.b shape.big) (get_or (words_of docs) n [])
blocks_at docs shape n len count lt at is =
    is ∙ ap (λ k. block_count (plan shape k)) (sym (get_or_from_slice_get (list_lengths docs) n len 0 at) ∙ get_or-map (λ word. length (ids_with docs word)) (words_of docs) n [] 0 lt)

pub overflow_add-end : goal.overflow_add-end
overflow_add-end c =
    let docs = c.args.docs.now.documents in
    let shape = c.args.shape in
    let s = setup_of docs shape.b shape.big in
    let ws = words_of docs in
    let n = c.loop-number.number in
    let lt : n < length ws = omega (arith, c.loop-number-test.true, c.words-number-end.ensures.words) in
    let own = blocks_at docs shape n c.list_len.result c.blocks_of_list.result lt c.list_len.ensures.length c.blocks_of_list.ensures.count in
    omega (arith, own, c.loop-number.invariant.first, sum_by_more (word_blocks s) ws n [] lt, sum_by-take-le (word_blocks s) ws (n + 1), sum-word_blocks s, c.requires.fits)

pub loop-number-preserved : goal.loop-number-preserved
loop-number-preserved c =
    let docs = c.args.docs.now.documents in
    let shape = c.args.shape in
    let s = setup_of docs shape.b shape.big in
    let ws = words_of docs in
    let n = c.loop-number.number in
    let lt : n < length ws = omega (arith, c.loop-number-test.true, c.words-number-end.ensures.words) in
    let own = blocks_at docs shape n c.list_len.result c.blocks_of_list.result lt c.list_len.ensures.length c.blocks_of_list.ensures.count in
    let count : c.loop-number.first + c.blocks_of_list.result - c.loop-number.first ≡ c.blocks_of_list.result = omega arith in
    let bs = word_bytes c.word.result.now in
    record {
      first = (λ i. c.loop-number.invariant.first i + own i) ∙ sym (sum_by_more (word_blocks s) ws n [] lt);
      words =
          each-next ws n bs c.word.ensures (IsDistinct-first_seen (all_words docs)) [] c.loop-number.words.entries c.place_word.new.words.entries (λ place. placed_at (home_at s ws place)) c.loop-number.invariant.words
          (subst (λ h. ChangesAt c.loop-number.words.entries c.place_word.new.words.entries bs (placed_at h))
          (λ i. record { entry = n; blocks = range_with_len (c.loop-number.invariant.first i) ((count ∙ own) i) }) c.in_ok-place_word.ensures.placed);
      hasher = c.in_ok-place_word.ensures.hasher ∙ c.loop-number.invariant.hasher;
    }

pub returns-clause-placed : goal.returns-clause-placed
returns-clause-placed c = λ w.
    let docs = c.args.docs.now.documents in
    let s = setup_of docs c.args.shape.b c.args.shape.big in
    let ws = words_of docs in
    let n = c.loop-number.number in
    let all = take_all n ws (omega (arith, c.loop-number-test.false, c.words-number-end.ensures.words)) in
    subst (λ front. ChangesEach [] c.loop-number.words.entries front (λ place. placed_at (home_at s ws place))) all c.loop-number.invariant.words w
    ∙ placed-words s w
