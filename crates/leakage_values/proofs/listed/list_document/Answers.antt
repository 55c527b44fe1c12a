use Rattle.std.proofs.Common.{◌++◌, ◌∷◌, [], true, map, take, drop, get_or, ap, subst, ◌+◌, ◌∙◌}
use Rattle.std.specs.Prelude.{bytes_eq, slice_index_or}
use Rattle.std.specs.List.{IsDistinct}
use Rattle.std.proofs.lemmas.List.{get_or_default}
use Rattle.std.proofs.lemmas.Option.{get_or_from_slice_get}
use Rattle.client_registry.specs.Documents.{words_of}
use Rattle.client_registry.specs.IdNumber.{id_number}
use Rattle.client_registry.specs.Numbered.{words_by_number}
use Rattle.client_registry.specs.WordBytes.{word_bytes}
use Rattle.leakage_values.proofs.FrontLaws.{front_rest}
use Rattle.leakage_values.proofs.ListedLaws.{lists-all, lists-more, none_before}
use Rattle.leakage_values.proofs.More.{among-front, front_by_number}
use Rattle.leakage_values.proofs.listed.list_document.Goals as goal

pub loop-number-preserved : goal.loop-number-preserved
loop-number-preserved c =
    let known = words_of c.args.docs.now.documents in
    let numbers = c.args.numbers.now in
    let i = c.loop-number.number-index in
    let number = get_or numbers i 0 in
    let word = word_bytes c.word.result.now in
    let front = words_by_number known (take i numbers) in
    let rest = map (λ n. slice_index_or known n []) (drop (i + 1) numbers) in
    lists-more c.args.table.now.entries c.loop-number.table.entries c.list.new.table.entries (id_number c.args.id) front (words_by_number known (take (i + 1) numbers)) word (λ _. true)
    (λ w. among-front w front _ word (front_by_number known numbers i word c.loop-number-test.true c.word.ensures))
    (none_before front word rest
    (subst (IsDistinct bytes_eq)
    (front_rest (λ n. slice_index_or known n []) numbers i number c.loop-number-test.true (get_or_default numbers i 0 number c.loop-number-test.true)
    ∙ ap (λ w. front ++ (w ∷ rest)) (get_or_from_slice_get known number word [] c.word.ensures))
    c.requires.differ))
    c.loop-number.invariant (lists-all c.loop-number.table.entries c.list.new.table.entries (id_number c.args.id) (λ w. bytes_eq w word) c.in_ok-list.ensures)
