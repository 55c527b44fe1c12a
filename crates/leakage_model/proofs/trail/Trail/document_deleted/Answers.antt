use Rattle.std.proofs.Common.{◌≡◌, [], map, sym, ap, ◌∙◌}
use Rattle.std.specs.Prelude.{unwrap_or}
use Rattle.std.proofs.lemmas.Result.{IfOk-weaker}
use Rattle.client_registry.specs.Command.{Delete}
use Rattle.client_registry.specs.IdNumber.{id_number}
use Rattle.client_registry.specs.Live.{live}
use Rattle.client_registry.specs.Numbered.{words_by_number}
use Rattle.client_registry.specs.Registered.{known_words}
use Rattle.leakage_frames.specs.Views.{word_view}
use Rattle.def_leakage.specs.CommandLeaks.{leak_by, word_deleted}
use Rattle.sse_model.proofs.LiveWords.{words_live-apart}
use Rattle.sse_simulator.specs.Leaks.{DeleteLeak}
use Rattle.leakage_model.proofs.trail.Trail.document_deleted.Goals as goal

pub returns-in-Some : goal.returns-in-Some
returns-in-Some c = λ o s past follows.
    let id = id_number c.args.id in
    let own = words_by_number (known_words c.args.self.now.registry) c.in-Some.doc.numbers.now in
    let words = ap (λ o. unwrap_or o []) c.in-Some.ensures.live ∙ ap (λ f. unwrap_or (f.live id) []) follows.registry ∙ sym (words_live-apart (live s.documents past) id follows.apart) in
    IfOk-weaker c.words_deleted.result (λ leaks. map word_view leaks ≡ map (word_deleted o s past id) own) (λ leaks. DeleteLeak (map word_view leaks) ≡ leak_by o s past (Delete id))
    (λ leaks e. ap DeleteLeak (e ∙ ap (map (word_deleted o s past id)) words))
    (c.words_deleted.ensures o s past follows)

pub returns-in-None : goal.returns-in-None
returns-in-None c = λ o s past follows.
    let id = id_number c.args.id in
    let words = ap (λ o. unwrap_or o []) c.in-None.ensures.live ∙ ap (λ f. unwrap_or (f.live id) []) follows.registry ∙ sym (words_live-apart (live s.documents past) id follows.apart) in
    ap (λ leaks. DeleteLeak (map word_view leaks)) c.new.ensures ∙ ap (λ ws. DeleteLeak (map (word_deleted o s past id) ws)) words
