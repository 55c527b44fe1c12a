use Rattle.std.proofs.Common.{◌≡◌, [], ◌∷◌, Ok, Err, refl, sym, ap, subst, ◌∙◌}
use Rattle.client_registry.specs.WordBytes.{word_bytes}
use Rattle.keyed_fn.specs.KeyFormulas.{token_of}
use Rattle.keyed_fn.specs.KeyedFn.{keyed_fn}
use Rattle.sse_frames.specs.Frames.{SearchFrame}
use Rattle.script_documents.specs.declared.line_fault.LineFault.TheVariants as faults
use Rattle.sse_client.specs.Stages.{key_of}
use Rattle.script_run_texts.specs.LineResultViews.{line_result_view, refuses}
use Rattle.script_run_texts.specs.Stops.{peer_cause}
use Rattle.sse_client.specs.declared.session.Stage.{Stage}
use Rattle.sse_client.specs.declared.session.Stage.TheVariants.{Collecting, Searching}
use Rattle.def_script_meaning.specs.Lines as requests
use Rattle.def_script_meaning.specs.Outcome.{outcome}
use Rattle.sse_client.specs.Exchanges.{HasSearched, HasCut}
use Rattle.sse_client.specs.Stands.{IsAt, seen, GoesOn, MayStop}
use Rattle.sse_client.proofs.CommandTaken.{takes-find, stops-find, takes-bad_word, takes-not_set_up, stops-bad_word, is_up, key_at, searching_still}
use Rattle.sse_script.specs.Lines as lines
use Rattle.sse_client.proofs.session.find.Goals as goal
use Rattle.sse_client.proofs.session.find.Goals.{in-Ok+in-Ok-search, in-Err+in-Ok-refusal_of}

pub returns-in-Collecting-clause-takes : goal.returns-in-Collecting-clause-takes
returns-in-Collecting-clause-takes g c = λ kept place a.
    let f = keyed_fn g.K.Keyed.prf g.K.Keyed.pad in
    let here : IsAt f (Collecting c.in-Collecting.client c.in-Collecting.docs) place = subst (λ (s : Stage). IsAt f s place) c.in-Collecting.is a in
    takes-not_set_up f _ _ _ place (requests.Find c.args.field.now) refl here.stands.1 refl refl here

pub returns-in-Err-search-clause-stops : goal.returns-in-Err-search-clause-stops
returns-in-Err-search-clause-stops g c =
    let f = keyed_fn g.K.Keyed.prf g.K.Keyed.pad in
    let old = g.L.Link.transcript c.args.link.now in
    let new = g.L.Link.transcript c.search.new.link in
    let stop = c.in-Err-search.stop in
    let key = key_of c.args.stage in
    let keyed : c.in-Searching.client.key ≡ key = ap key_of (sym c.in-Searching.is) in
    let same : token_of f c.in-Searching.client.key (word_bytes c.in-Ok.word) ≡ token_of f key c.args.field.now = λ i. token_of f (keyed i) (c.in-Ok.ensures.word i) in
    λ kept place a written.
    let here : IsAt f (Searching c.in-Searching.client) place = subst (λ (s : Stage). IsAt f s place) c.in-Searching.is a in
    stops-find f place c.args.field.now old new kept (is_up f c.in-Searching.client place here) key (peer_cause stop) (sym keyed ∙ key_at f c.in-Searching.client place here) c.in-Ok.ensures.good
    (subst (λ token. HasCut old new (SearchFrame token ∷ []) (peer_cause stop)) same c.in-Err-search.ensures.stopped) written

pub returns-in-Err-refusal_of-clause-stops : goal.returns-in-Err-refusal_of-clause-stops
returns-in-Err-refusal_of-clause-stops g c =
    let f = keyed_fn g.K.Keyed.prf g.K.Keyed.pad in
    let old = g.L.Link.transcript c.args.link.now in
    let stop = c.in-Err-refusal_of.stop in
    λ kept place a written. stops-bad_word f (seen old kept) place _ written c.in-Err.fault c.refusal_of.result stop
    (record { nothing = c.refusal_of.ensures.nothing; refused = c.refusal_of.ensures.refused; memory = c.refusal_of.ensures.memory }) c.in-Err-refusal_of.is

pub returns-after-word_of-clause-takes : goal.returns-after-word_of-clause-takes
returns-after-word_of-clause-takes g c = λ kept place a.
    let f = keyed_fn g.K.Keyed.prf g.K.Keyed.pad in
    let old = g.L.Link.transcript c.args.link.now in
    let next : Stage = Searching c.in-Searching.client in
    let key = key_of c.args.stage in
    let keyed : key_of next ≡ key = ap key_of (sym c.in-Searching.is) in
    let here : IsAt f next place = subst (λ (s : Stage). IsAt f s place) c.in-Searching.is a in
    elim c.match-word_of.branch [
      | in-Ok+in-Ok-search w ↦
          let new = g.L.Link.transcript c.match-word_of.link in
          let ids = w.in-Ok-search.ids.items in
          let same : token_of f c.in-Searching.client.key (word_bytes w.in-Ok.word) ≡ token_of f key c.args.field.now = λ i. token_of f (keyed i) (w.in-Ok.ensures.word i) in
          let one : HasSearched old (g.L.Link.transcript w.search.new.link) (SearchFrame (token_of f c.in-Searching.client.key (word_bytes w.in-Ok.word))) ids = w.in-Ok-search.ensures.found in
          let there : HasSearched old new (SearchFrame (token_of f c.in-Searching.client.key (word_bytes w.in-Ok.word))) ids =
          subst (λ link. HasSearched old (g.L.Link.transcript link) (SearchFrame (token_of f c.in-Searching.client.key (word_bytes w.in-Ok.word))) ids) (sym w.link-is) one in
          takes-find f place c.args.field.now old new kept (is_up f c.in-Searching.client place here) next c.match-word_of.outcome key ids (sym keyed ∙ key_at f c.in-Searching.client place here) w.in-Ok.ensures.good
          (subst (λ token. HasSearched old new (SearchFrame token) ids) same there) (ap line_result_view w.outcome-is) (ap refuses w.outcome-is)
          (searching_still f c.in-Searching.client place c.args.field.now w.in-Ok.ensures.good here)
      | in-Err+in-Ok-refusal_of w ↦
          subst (λ told. GoesOn f (seen old kept) (seen told kept) next c.match-word_of.outcome place (outcome place (requests.Find c.args.field.now))) (sym (ap g.L.Link.transcript w.link-is))
          (takes-bad_word f place c.args.field.now (seen old kept) next c.match-word_of.outcome w.in-Err.fault w.refusal_of.result (is_up f c.in-Searching.client place here)
          (record { nothing = w.refusal_of.ensures.nothing; refused = w.refusal_of.ensures.refused; memory = w.refusal_of.ensures.memory })
          (w.in-Ok-refusal_of.is ∙ ap (λ came. Ok came) (sym w.outcome-is)) w.in-Err.ensures.refused here)
    ]

pub returns-in-Err-search-clause-may_stop : goal.returns-in-Err-search-clause-may_stop
returns-in-Err-search-clause-may_stop g c =
    subst (λ s. MayStop (keyed_fn g.K.Keyed.prf g.K.Keyed.pad) s (lines.Find c.args.field.now)) (sym c.in-Searching.is) c.in-Ok.ensures.good

pub returns-in-Err-refusal_of-clause-may_stop :
    goal.returns-in-Err-refusal_of-clause-may_stop
returns-in-Err-refusal_of-clause-may_stop g c =
    let is : c.in-Err.fault ≡ faults.NoMemory = cc (c.in-Err-refusal_of.ensures.stops) in
    absurd (c.in-Err.ensures.never_memory (ap (λ e. Err e) is))
