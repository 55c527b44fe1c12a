use Rattle.std.proofs.Common.{◌≡◌, false, [], length, take, get_or, sym, ap, subst, ◌∙◌, arith}
use Rattle.std.specs.Prelude.{bytes_eq, slice_index_or}
use Rattle.std.specs.List.{list_any}
use Rattle.std.proofs.lemmas.List.{get_or_default}
use Rattle.std.proofs.lemmas.Option.{get_or_from_slice_get}
use Rattle.client_registry.proofs.DistinctLaws.{IsDistinct-words}
use Rattle.client_registry.specs.Documents.{words_of}
use Rattle.client_registry.specs.IdNumber.{id_number}
use Rattle.client_registry.specs.Numbered.{words_by_number}
use Rattle.client_registry.specs.WordBytes.{word_bytes}
use Rattle.leakage_model.proofs.EntryLaws.{each-more, each-other, fresh_word}
use Rattle.leakage_model.specs.TrailFacts.{ChangesAt}
use Rattle.leakage_model.specs.WordFacts.{set_up_with}
use Rattle.leakage_model.proofs.trail_setup.set_up_document.Goals as goal

pub set_up_word-requires : goal.set_up_word-requires
set_up_word-requires c =
    let known = words_of c.args.docs.now.documents in
    let numbers = c.get-doc.result.numbers.now in
    let i = c.loop-number.number-index in
    let number = get_or numbers i 0 in
    let bs = word_bytes c.word.result.now in
    let is : slice_index_or known number [] ≡ bs = get_or_from_slice_get known number bs [] c.word.ensures in
    let differ = IsDistinct-words (words_by_number known numbers) c.get-doc.ensures.valid.accepted in
    let fresh : list_any (bytes_eq bs) (words_by_number known (take i numbers)) ≡ false =
    ap (λ v. list_any (bytes_eq v) (words_by_number known (take i numbers))) (sym is)
    ∙ fresh_word (λ n. slice_index_or known n []) numbers i number c.loop-number-test.true (get_or_default numbers i 0 number c.loop-number-test.true) differ in
    let same = each-other c.args.words.now.entries c.loop-number.words.entries (words_by_number known (take i numbers)) (λ _. set_up_with c.args.command (id_number c.get-doc.result.id)) bs c.loop-number.invariant.held fresh in
    omega (arith, c.requires.few bs, ap (λ f. length f.listed) same)

pub loop-number-preserved : goal.loop-number-preserved
loop-number-preserved c =
    let known = words_of c.args.docs.now.documents in
    let numbers = c.get-doc.result.numbers.now in
    let i = c.loop-number.number-index in
    let number = get_or numbers i 0 in
    let bs = word_bytes c.word.result.now in
    let is : slice_index_or known number [] ≡ bs = get_or_from_slice_get known number bs [] c.word.ensures in
    let differ = IsDistinct-words (words_by_number known numbers) c.get-doc.ensures.valid.accepted in
    let id = id_number c.get-doc.result.id in
    record {
      held =
          each-more (λ n. slice_index_or known n []) numbers i number c.loop-number-test.true (get_or_default numbers i 0 number c.loop-number-test.true) differ
          c.args.words.now.entries c.loop-number.words.entries c.set_up_word.new.words.entries (λ _. set_up_with c.args.command id)
          c.loop-number.invariant.held
          (subst (λ v. ChangesAt c.loop-number.words.entries c.set_up_word.new.words.entries v (set_up_with c.args.command id)) (sym is) c.in_ok-set_up_word.ensures.held);
      hasher = c.in_ok-set_up_word.ensures.hasher ∙ c.loop-number.invariant.hasher;
    }
