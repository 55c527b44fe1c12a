use Rattle.std.proofs.Common.{◌≡◌, inl, inr, refl, sym, subst, ap, ◌∙◌}
use Rattle.keyed_fn.specs.KeyedFn.{keyed_fn}
use Rattle.sse_script.specs.Views.{line_view}
use Rattle.sse_script.specs.declared.line.Line.{Line}
use Rattle.def_script_meaning.specs.Lines as requests
use Rattle.def_script_meaning.specs.Lines.{line_read}
use Rattle.script_run_texts.specs.Causes.{CommandCause, KeepCommandCause}
use Rattle.script_run_texts.specs.Stops.{command_cause}
use Rattle.sse_client.proofs.TranscriptsJoined.{KeepsLink-none, KeepsRecorder-none}
use Rattle.sse_client.proofs.CommandTaken.{takes_own, stops_own, stops_if_memory}
use Rattle.sse_client.proofs.RecordsLast.{StaysWhole-same}
use Rattle.sse_client.proofs.UpdateCarriedOut.{of_good, of_fault, of_stop}
use Rattle.sse_client.specs.Calls.{shows}
use Rattle.std.specs.Prelude.{OnErr}
use Rattle.sse_client.specs.Stands.{seen, MayStop, StopsWithin}
use Rattle.client_recorder.proofs.GrownRecords.{keeps-same}
use Rattle.sse_client.proofs.session.take_line.Goals as goal

pub returns-in-Empty-clause-takes : goal.returns-in-Empty-clause-takes
returns-in-Empty-clause-takes g c = λ request e. elim c.in-Empty.is [
  | inl is ↦ absurd (let no : requests.Empty ≡ requests.Command request = sym (ap (λ (line : Line). line_read (line_view line)) is) ∙ e in cc)
  | inr is ↦ absurd (let no : requests.Key is.0 ≡ requests.Command request = sym (ap (λ (line : Line). line_read (line_view line)) is.1) ∙ e in cc)
]

pub returns-in-Doc-clause-takes : goal.returns-in-Doc-clause-takes
returns-in-Doc-clause-takes g c =
    let f = keyed_fn g.K.Keyed.prf g.K.Keyed.pad in
    let now = seen (g.L.Link.transcript c.args.link.now) (g.R.Recorder.kept c.args.recorder.now) in
    let own = requests.Doc c.in-Doc.id c.in-Doc.words in
    takes_own f c.args.stage now now (line_read (line_view c.args.line)) own (ap (λ (line : Line). line_read (line_view line)) c.in-Doc.is) c.collect.result
    (of_good c.collect.result _ _ (λ done takes. takes f now) c.collect.ensures.takes)

pub returns-in-Doc-clause-stops : goal.returns-in-Doc-clause-stops
returns-in-Doc-clause-stops g c =
    let f = keyed_fn g.K.Keyed.prf g.K.Keyed.pad in
    let now = seen (g.L.Link.transcript c.args.link.now) (g.R.Recorder.kept c.args.recorder.now) in
    let own = requests.Doc c.in-Doc.id c.in-Doc.words in
    stops_own f c.args.stage now now (line_read (line_view c.args.line)) own (ap (λ (line : Line). line_read (line_view line)) c.in-Doc.is) c.collect.result
    (of_fault c.collect.result _ _ (λ stop is. subst (λ s. StopsWithin f c.args.stage own now now (command_cause s)) (sym is) (stops_if_memory f now c.args.stage own)) c.collect.ensures.memory)

pub returns-in-Setup-clause-takes : goal.returns-in-Setup-clause-takes
returns-in-Setup-clause-takes g c =
    takes_own (keyed_fn g.K.Keyed.prf g.K.Keyed.pad) c.args.stage (seen (g.L.Link.transcript c.args.link.now) (g.R.Recorder.kept c.args.recorder.now)) (seen (g.L.Link.transcript c.set_up.new.link) (g.R.Recorder.kept c.set_up.new.recorder)) (line_read (line_view c.args.line)) (requests.SetupLine c.in-Setup.b c.in-Setup.big c.in-Setup.pad)
    (ap (λ (line : Line). line_read (line_view line)) c.in-Setup.is) c.set_up.result c.set_up.ensures.takes

pub returns-in-Setup-clause-stops : goal.returns-in-Setup-clause-stops
returns-in-Setup-clause-stops g c =
    stops_own (keyed_fn g.K.Keyed.prf g.K.Keyed.pad) c.args.stage (seen (g.L.Link.transcript c.args.link.now) (g.R.Recorder.kept c.args.recorder.now)) (seen (g.L.Link.transcript c.set_up.new.link) (g.R.Recorder.kept c.set_up.new.recorder)) (line_read (line_view c.args.line)) (requests.SetupLine c.in-Setup.b c.in-Setup.big c.in-Setup.pad)
    (ap (λ (line : Line). line_read (line_view line)) c.in-Setup.is) c.set_up.result c.set_up.ensures.stops

pub returns-in-Find-clause-takes : goal.returns-in-Find-clause-takes
returns-in-Find-clause-takes g c =
    takes_own (keyed_fn g.K.Keyed.prf g.K.Keyed.pad) c.args.stage (seen (g.L.Link.transcript c.args.link.now) (g.R.Recorder.kept c.args.recorder.now)) (seen (g.L.Link.transcript c.find.new.link) (g.R.Recorder.kept c.args.recorder.now)) (line_read (line_view c.args.line)) (requests.Find c.in-Find.word.now)
    (ap (λ (line : Line). line_read (line_view line)) c.in-Find.is) c.find.result (of_good c.find.result _ _ (λ done takes. takes (g.R.Recorder.kept c.args.recorder.now)) c.find.ensures.takes)

pub returns-in-Query-clause-takes : goal.returns-in-Query-clause-takes
returns-in-Query-clause-takes g c =
    takes_own (keyed_fn g.K.Keyed.prf g.K.Keyed.pad) c.args.stage (seen (g.L.Link.transcript c.args.link.now) (g.R.Recorder.kept c.args.recorder.now)) (seen (g.L.Link.transcript c.query.new.link) (g.R.Recorder.kept c.args.recorder.now)) (line_read (line_view c.args.line)) (requests.Query c.in-Query.fields)
    (ap (λ (line : Line). line_read (line_view line)) c.in-Query.is) c.query.result (of_good c.query.result _ _ (λ done takes. takes (g.R.Recorder.kept c.args.recorder.now)) c.query.ensures.takes)

pub returns-in-Find-clause-stops : goal.returns-in-Find-clause-stops
returns-in-Find-clause-stops g c =
    stops_own (keyed_fn g.K.Keyed.prf g.K.Keyed.pad) c.args.stage (seen (g.L.Link.transcript c.args.link.now) (g.R.Recorder.kept c.args.recorder.now)) (seen (g.L.Link.transcript c.find.new.link) (g.R.Recorder.kept c.args.recorder.now)) (line_read (line_view c.args.line)) (requests.Find c.in-Find.word.now)
    (ap (λ (line : Line). line_read (line_view line)) c.in-Find.is) c.find.result (of_fault c.find.result _ _ (λ stop stops. stops (g.R.Recorder.kept c.args.recorder.now)) c.find.ensures.stops)

pub returns-in-Query-clause-stops : goal.returns-in-Query-clause-stops
returns-in-Query-clause-stops g c =
    stops_own (keyed_fn g.K.Keyed.prf g.K.Keyed.pad) c.args.stage (seen (g.L.Link.transcript c.args.link.now) (g.R.Recorder.kept c.args.recorder.now)) (seen (g.L.Link.transcript c.query.new.link) (g.R.Recorder.kept c.args.recorder.now)) (line_read (line_view c.args.line)) (requests.Query c.in-Query.fields)
    (ap (λ (line : Line). line_read (line_view line)) c.in-Query.is) c.query.result (of_fault c.query.result _ _ (λ stop stops. stops (g.R.Recorder.kept c.args.recorder.now)) c.query.ensures.stops)

pub returns-in-Add-clause-takes : goal.returns-in-Add-clause-takes
returns-in-Add-clause-takes g c =
    takes_own (keyed_fn g.K.Keyed.prf g.K.Keyed.pad) c.args.stage (seen (g.L.Link.transcript c.args.link.now) (g.R.Recorder.kept c.args.recorder.now)) (seen (g.L.Link.transcript c.add.new.link) (g.R.Recorder.kept c.add.new.recorder)) (line_read (line_view c.args.line)) (requests.AddLine c.in-Add.id c.in-Add.words)
    (ap (λ (line : Line). line_read (line_view line)) c.in-Add.is) c.add.result c.add.ensures.takes

pub returns-in-Add-clause-stops : goal.returns-in-Add-clause-stops
returns-in-Add-clause-stops g c =
    stops_own (keyed_fn g.K.Keyed.prf g.K.Keyed.pad) c.args.stage (seen (g.L.Link.transcript c.args.link.now) (g.R.Recorder.kept c.args.recorder.now)) (seen (g.L.Link.transcript c.add.new.link) (g.R.Recorder.kept c.add.new.recorder)) (line_read (line_view c.args.line)) (requests.AddLine c.in-Add.id c.in-Add.words)
    (ap (λ (line : Line). line_read (line_view line)) c.in-Add.is) c.add.result c.add.ensures.stops

pub returns-in-Del-clause-takes : goal.returns-in-Del-clause-takes
returns-in-Del-clause-takes g c =
    takes_own (keyed_fn g.K.Keyed.prf g.K.Keyed.pad) c.args.stage (seen (g.L.Link.transcript c.args.link.now) (g.R.Recorder.kept c.args.recorder.now)) (seen (g.L.Link.transcript c.delete.new.link) (g.R.Recorder.kept c.delete.new.recorder)) (line_read (line_view c.args.line)) (requests.Del c.in-Del.id)
    (ap (λ (line : Line). line_read (line_view line)) c.in-Del.is) c.delete.result c.delete.ensures.takes

pub returns-in-Del-clause-stops : goal.returns-in-Del-clause-stops
returns-in-Del-clause-stops g c =
    stops_own (keyed_fn g.K.Keyed.prf g.K.Keyed.pad) c.args.stage (seen (g.L.Link.transcript c.args.link.now) (g.R.Recorder.kept c.args.recorder.now)) (seen (g.L.Link.transcript c.delete.new.link) (g.R.Recorder.kept c.delete.new.recorder)) (line_read (line_view c.args.line)) (requests.Del c.in-Del.id)
    (ap (λ (line : Line). line_read (line_view line)) c.in-Del.is) c.delete.result c.delete.ensures.stops

pub returns-in-Doc-clause-may_stop : goal.returns-in-Doc-clause-may_stop
returns-in-Doc-clause-may_stop g c =
    let f = keyed_fn g.K.Keyed.prf g.K.Keyed.pad in
    subst (λ (line : Line). OnErr c.collect.result (MayStop f c.args.stage (line_view line))) (sym c.in-Doc.is) (of_stop c.collect.result _ _ (λ may. may f) c.collect.ensures.may_stop)

pub returns-in-Doc-clause-keeps : goal.returns-in-Doc-clause-keeps
returns-in-Doc-clause-keeps g c =
    let link = c.args.link.now in
    KeepsLink-none CommandCause (shows (g.L.Link.transcript link) (g.L.Link.faults link) (g.L.Link.began link)) c.collect.result
    (of_fault c.collect.result _ _ (λ stop is count. subst (CommandCause count count) (sym is) refl) c.collect.ensures.memory)

pub returns-in-Doc-clause-whole_after : goal.returns-in-Doc-clause-whole_after
returns-in-Doc-clause-whole_after g c = StaysWhole-same (g.R.Recorder.whole c.args.recorder.now) c.requires.whole c.collect.result

pub returns-in-Doc-clause-recorder : goal.returns-in-Doc-clause-recorder
returns-in-Doc-clause-recorder g c =
    KeepsRecorder-none KeepCommandCause (g.R.Recorder.faults c.args.recorder.now) c.collect.result
    (of_fault c.collect.result _ _ (λ stop is count. subst (KeepCommandCause count count) (sym is) refl) c.collect.ensures.memory)

pub returns-in-Setup-clause-may_stop : goal.returns-in-Setup-clause-may_stop
returns-in-Setup-clause-may_stop g c = subst (λ (line : Line). OnErr c.set_up.result (MayStop (keyed_fn g.K.Keyed.prf g.K.Keyed.pad) c.args.stage (line_view line))) (sym c.in-Setup.is) c.set_up.ensures.may_stop

pub returns-in-Add-clause-may_stop : goal.returns-in-Add-clause-may_stop
returns-in-Add-clause-may_stop g c = subst (λ (line : Line). OnErr c.add.result (MayStop (keyed_fn g.K.Keyed.prf g.K.Keyed.pad) c.args.stage (line_view line))) (sym c.in-Add.is) c.add.ensures.may_stop

pub returns-in-Del-clause-may_stop : goal.returns-in-Del-clause-may_stop
returns-in-Del-clause-may_stop g c = subst (λ (line : Line). OnErr c.delete.result (MayStop (keyed_fn g.K.Keyed.prf g.K.Keyed.pad) c.args.stage (line_view line))) (sym c.in-Del.is) c.delete.ensures.may_stop

pub returns-in-Find-clause-may_stop : goal.returns-in-Find-clause-may_stop
returns-in-Find-clause-may_stop g c = subst (λ (line : Line). OnErr c.find.result (MayStop (keyed_fn g.K.Keyed.prf g.K.Keyed.pad) c.args.stage (line_view line))) (sym c.in-Find.is) c.find.ensures.may_stop

pub returns-in-Query-clause-may_stop : goal.returns-in-Query-clause-may_stop
returns-in-Query-clause-may_stop g c = subst (λ (line : Line). OnErr c.query.result (MayStop (keyed_fn g.K.Keyed.prf g.K.Keyed.pad) c.args.stage (line_view line))) (sym c.in-Query.is) c.query.ensures.may_stop

pub returns-in-Find-clause-recorder : goal.returns-in-Find-clause-recorder
returns-in-Find-clause-recorder g c = KeepsRecorder-none KeepCommandCause (g.R.Recorder.faults c.args.recorder.now) c.find.result c.find.ensures.no_record

pub returns-in-Query-clause-recorder : goal.returns-in-Query-clause-recorder
returns-in-Query-clause-recorder g c = KeepsRecorder-none KeepCommandCause (g.R.Recorder.faults c.args.recorder.now) c.query.result c.query.ensures.no_record

pub returns-in-Doc-clause-keeps_on : goal.returns-in-Doc-clause-keeps_on
returns-in-Doc-clause-keeps_on g c = keeps-same g.R.Recorder.kept g.R.Recorder.moment g.R.Recorder.left_since c.args.recorder.now (g.met.R.Recorder.at_rest c.args.recorder.now c.requires.whole)

pub returns-in-Empty-clause-keeps_on : goal.returns-in-Empty-clause-keeps_on
returns-in-Empty-clause-keeps_on g c = keeps-same g.R.Recorder.kept g.R.Recorder.moment g.R.Recorder.left_since c.args.recorder.now (g.met.R.Recorder.at_rest c.args.recorder.now c.requires.whole)

pub returns-in-Find-clause-keeps_on : goal.returns-in-Find-clause-keeps_on
returns-in-Find-clause-keeps_on g c = keeps-same g.R.Recorder.kept g.R.Recorder.moment g.R.Recorder.left_since c.args.recorder.now (g.met.R.Recorder.at_rest c.args.recorder.now c.requires.whole)

pub returns-in-Query-clause-keeps_on : goal.returns-in-Query-clause-keeps_on
returns-in-Query-clause-keeps_on g c = keeps-same g.R.Recorder.kept g.R.Recorder.moment g.R.Recorder.left_since c.args.recorder.now (g.met.R.Recorder.at_rest c.args.recorder.now c.requires.whole)

pub returns-in-Rebuild-clause-takes : goal.returns-in-Rebuild-clause-takes
returns-in-Rebuild-clause-takes g c =
    takes_own (keyed_fn g.K.Keyed.prf g.K.Keyed.pad) c.args.stage (seen (g.L.Link.transcript c.args.link.now) (g.R.Recorder.kept c.args.recorder.now)) (seen (g.L.Link.transcript c.rebuild.new.link) (g.R.Recorder.kept c.rebuild.new.recorder)) (line_read (line_view c.args.line)) (requests.RebuildLine c.in-Rebuild.key)
    (ap (λ (line : Line). line_read (line_view line)) c.in-Rebuild.is) c.rebuild.result c.rebuild.ensures.takes

pub returns-in-Rebuild-clause-stops : goal.returns-in-Rebuild-clause-stops
returns-in-Rebuild-clause-stops g c =
    stops_own (keyed_fn g.K.Keyed.prf g.K.Keyed.pad) c.args.stage (seen (g.L.Link.transcript c.args.link.now) (g.R.Recorder.kept c.args.recorder.now)) (seen (g.L.Link.transcript c.rebuild.new.link) (g.R.Recorder.kept c.rebuild.new.recorder)) (line_read (line_view c.args.line)) (requests.RebuildLine c.in-Rebuild.key)
    (ap (λ (line : Line). line_read (line_view line)) c.in-Rebuild.is) c.rebuild.result c.rebuild.ensures.stops

pub returns-in-Rebuild-clause-may_stop : goal.returns-in-Rebuild-clause-may_stop
returns-in-Rebuild-clause-may_stop g c = subst (λ (line : Line). OnErr c.rebuild.result (MayStop (keyed_fn g.K.Keyed.prf g.K.Keyed.pad) c.args.stage (line_view line))) (sym c.in-Rebuild.is) c.rebuild.ensures.may_stop
