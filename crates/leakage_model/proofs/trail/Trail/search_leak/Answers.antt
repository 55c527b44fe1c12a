use Rattle.std.proofs.Common.{◌≡◌, map, Some, None, ap, ◌∙◌}
use Rattle.std.proofs.lemmas.Result.{IfOk-weaker}
use Rattle.client_registry.specs.Command.{Search}
use Rattle.client_registry.specs.WordBytes.{word_bytes}
use Rattle.leakage_frames.specs.Views.{leak_view, listed_view}
use Rattle.def_leakage.specs.CommandLeaks.{leak_by}
use Rattle.sse_simulator.specs.Leaks.{SearchLeak}
use Rattle.leakage_model.proofs.LeakLaws.{search-word_facts, told}
use Rattle.leakage_model.specs.WordFacts.{search_leak}
use Rattle.leakage_model.proofs.trail.Trail.search_leak.Goals as goal

pub returns-in-None : goal.returns-in-None
returns-in-None c = λ o s past follows.
    let bs = word_bytes c.args.word.now in
    (λ i. SearchLeak None None (map listed_view (c.new.ensures i)) (c.new-in-None.ensures i))
    ∙ ap search_leak (told c.args.self.now.words.entries bs None c.in-None.ensures.value ∙ follows.words bs) ∙ search-word_facts o s past bs

pub returns-in-Some : goal.returns-in-Some
returns-in-Some c = λ o s past follows.
    let bs = word_bytes c.args.word.now in
    let trail = c.in-Some.trail.now in
    IfOk-weaker c.search_leak.result (λ leak. leak_view leak ≡ search_leak trail) (λ leak. leak_view leak ≡ leak_by o s past (Search bs))
    (λ leak e. e ∙ ap search_leak (told c.args.self.now.words.entries bs (Some trail) c.in-Some.ensures.value ∙ follows.words bs) ∙ search-word_facts o s past bs)
    c.search_leak.ensures
