use Rattle.std.proofs.Common.{refl, sym, subst}
use Rattle.keyed_fn.specs.KeyedFn.{keyed_fn}
use Rattle.script_run_texts.specs.Stops.{command_cause}
use Rattle.def_script_meaning.specs.Lines as requests
use Rattle.sse_client.proofs.CommandTaken.{takes-not_set_up, is_up, key_at}
use Rattle.sse_client.proofs.QueryTaken.{takes-query, stops-query, querying_still}
use Rattle.sse_client.specs.Stands.{IsAt, MayStop}
use Rattle.sse_client.specs.declared.session.Stage.{Stage}
use Rattle.sse_client.specs.declared.session.Stage.TheVariants.{Collecting, Searching}
use Rattle.sse_script.specs.Lines as lines
use Rattle.sse_client.proofs.session.query.Goals as goal

pub returns-in-Collecting-clause-takes : goal.returns-in-Collecting-clause-takes
returns-in-Collecting-clause-takes g c = λ kept place a.
    let f = keyed_fn g.K.Keyed.prf g.K.Keyed.pad in
    let here : IsAt f (Collecting c.in-Collecting.client c.in-Collecting.docs) place = subst (λ (s : Stage). IsAt f s place) c.in-Collecting.is a in
    takes-not_set_up f _ _ _ place (requests.Query c.args.fields) refl here.stands.1 refl refl here

pub returns-in-Ok-clause-takes : goal.returns-in-Ok-clause-takes
returns-in-Ok-clause-takes g c = λ kept place a.
    let f = keyed_fn g.K.Keyed.prf g.K.Keyed.pad in
    let client = c.in-Searching.client in
    let here : IsAt f (Searching client) place = subst (λ (s : Stage). IsAt f s place) c.in-Searching.is a in
    takes-query f place c.args.fields (g.L.Link.transcript c.args.link.now) (g.L.Link.transcript c.run_query.new.link) kept (is_up f client place here) client.key (key_at f client place here)
    (Searching client) c.in-Ok.outcome c.in-Ok.ensures.came here (λ good. querying_still f client place c.args.fields good here)

pub returns-in-Err-clause-stops : goal.returns-in-Err-clause-stops
returns-in-Err-clause-stops g c = λ kept place a written.
    let f = keyed_fn g.K.Keyed.prf g.K.Keyed.pad in
    let client = c.in-Searching.client in
    let here : IsAt f (Searching client) place = subst (λ (s : Stage). IsAt f s place) c.in-Searching.is a in
    stops-query f place c.args.fields (g.L.Link.transcript c.args.link.now) (g.L.Link.transcript c.run_query.new.link) kept (is_up f client place here) client.key (key_at f client place here)
    (command_cause c.in-Err.stop) c.in-Err.ensures.stopped written

pub returns-in-Err-clause-may_stop : goal.returns-in-Err-clause-may_stop
returns-in-Err-clause-may_stop g c = subst (λ s. MayStop (keyed_fn g.K.Keyed.prf g.K.Keyed.pad) s (lines.Query c.args.fields)) (sym c.in-Searching.is) tt
