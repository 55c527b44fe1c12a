use Rattle.std.proofs.Common.{[], ◌∷◌, ◌++◌, sym, ap, subst, ◌∙◌}
use Rattle.std.specs.Prelude.{bytes_eq, if◌then◌else◌, OnOk, unwrap_or}
use Rattle.std.specs.List.{list_any, IsDistinct}
use Rattle.std.proofs.lemmas.Result.{on_ok_weaker}
use Rattle.client_registry.proofs.DistinctLaws.{IsDistinct-words}
use Rattle.client_registry.specs.IdNumber.{id_number}
use Rattle.client_registry.specs.Live.{live}
use Rattle.client_registry.specs.WordBytes.{word_bytes}
use Rattle.def_leakage.specs.Firsts.{origin, place_of}
use Rattle.sse_model.proofs.LiveWords.{words_live-apart}
use Rattle.leakage_history.specs.Commands.{command_of}
use Rattle.leakage_model.proofs.StepLaws.{facts-add, facts-delete, facts-search}
use Rattle.leakage_model.specs.TrailFacts.{Tells}
use Rattle.leakage_model.specs.WordFacts.{added_at, deleted_at, searched_by}
use Rattle.leakage_model.proofs.trail_table.take.Goals as goal

pub add_words-requires-clause-differ : goal.add_words-requires-clause-differ
add_words-requires-clause-differ c = subst (IsDistinct bytes_eq) (sym c.words.ensures.words) (IsDistinct-words _ c.words.ensures.valid.accepted)

pub returns-in-Add : goal.returns-in-Add
returns-in-Add c = λ o s past tells stands number apart.
    subst (λ command. OnOk c.add_words.result (Tells c.add_words.new.words.entries o s (past ++ command_of command ∷ []))) (sym c.in-Add.is)
    (on_ok_weaker c.add_words.result
    (λ changes. λ w.
    changes w
    ∙ (λ i. if list_any (bytes_eq w) (c.words.ensures.words i) then added_at (c.id.ensures i) (origin c.args.number (place_of w (c.words.ensures.words i))) (tells w i) else tells w i)
    ∙ sym (facts-add o s w past c.args.number number c.in-Add.doc))
    c.add_words.ensures)

pub returns-in-Delete : goal.returns-in-Delete
returns-in-Delete c = λ o s past tells stands number apart.
    let id = id_number c.in-Delete.id in
    let words = ap (λ f. unwrap_or (f.live id) []) stands ∙ sym (words_live-apart (live s.documents past) id apart) in
    subst (λ command. Tells c.delete_document.new.words.entries o s (past ++ command_of command ∷ [])) (sym c.in-Delete.is)
    (λ w.
    c.delete_document.ensures w
    ∙ (λ i. if list_any (bytes_eq w) (words i) then deleted_at id (origin c.args.number (place_of w (words i))) (tells w i) else tells w i)
    ∙ sym (facts-delete o s w past c.args.number number id))

pub returns-in-Search : goal.returns-in-Search
returns-in-Search c = λ o s past tells stands number apart.
    subst (λ command. OnOk c.search_word.result (Tells c.search_word.new.words.entries o s (past ++ command_of command ∷ []))) (sym c.in-Search.is)
    (on_ok_weaker c.search_word.result
    (λ changes. λ w.
    changes w
    ∙ (λ i. if bytes_eq w (word_bytes c.in-Search.word) then searched_by c.args.number (tells w i) else tells w i)
    ∙ sym (facts-search o s w past c.args.number number (word_bytes c.in-Search.word)))
    c.search_word.ensures)
