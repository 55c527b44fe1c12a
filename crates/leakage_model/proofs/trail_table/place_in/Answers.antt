use Rattle.std.proofs.Common.{◌≡◌, ◌++◌, ◌∷◌, [], None, sym, ap, ◌∙◌, map, position, Some, false, refl, Option}
use Rattle.std.specs.Prelude.{bytes_eq, is_some}
use Rattle.std.specs.Map.{lookup}
use Rattle.std.proofs.lemmas.Bool.{true≢false}
use Rattle.indexmap.proofs.CallerLemmas.{insert_entry-new}
use Rattle.client_registry.specs.WordBytes.{word_bytes}
use Rattle.leakage_model.proofs.EntryLaws.{facts-new, place-entry, position-new}
use Rattle.leakage_model.specs.TrailFacts.{facts_in}
use Rattle.leakage_model.specs.WordFacts.{WordFacts, unnamed}
use Rattle.leakage_model.proofs.trail_table.place_in.Goals as goal

pub returns-in-Some-clause-place : goal.returns-in-Some-clause-place
returns-in-Some-clause-place c = place-entry c.args.words.now.entries (word_bytes c.args.word.now) c.in-Some.place c.in-Some.ensures.index

absent : (o : Option WordFacts) → false ≡ is_some o → o ≡ None
absent None e = refl
absent (Some f) e = absurd (true≢false (sym e))

none : (c : goal.Joined-branch-2) → lookup (λ k. bytes_eq (word_bytes c.args.word.now) (word_bytes k)) c.args.words.now.entries ≡ None
none c = absent (lookup (λ k. bytes_eq (word_bytes c.args.word.now) (word_bytes k)) c.args.words.now.entries) c.in_default.ensures.found

entries : (c : goal.Joined-branch-2) → c.insert.new.self.entries ≡ c.args.words.now.entries ++ (c.args.word.now, unnamed) ∷ []
entries c =
    c.in_ok-insert.ensures.entries
    ∙ insert_entry-new (λ a b. bytes_eq (word_bytes a) (word_bytes b)) c.args.words.now c.args.word.now c.new-trail.result (none c)
    ∙ ap (λ f. c.args.words.now.entries ++ (c.args.word.now, f) ∷ []) c.new-trail.ensures

pub returns-clause-same : goal.returns-clause-same
returns-clause-same c = λ w. ap (λ es. facts_in es w) (entries c) ∙ facts-new c.args.words.now.entries c.args.word.now w

pub returns-clause-place : goal.returns-clause-place
returns-clause-place c =
    ap (λ es. position (bytes_eq (word_bytes c.args.word.now)) (map (λ e. word_bytes e.0) es)) (entries c)
    ∙ position-new c.args.words.now.entries c.args.word.now unnamed (none c)
    ∙ ap (λ n. Some n) (sym c.len-place.ensures.len)
