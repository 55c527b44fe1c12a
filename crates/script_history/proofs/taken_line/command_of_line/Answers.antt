use Rattle.std.proofs.Common.{◌≡◌, ◌∷◌, [], Some, refl, ap, sym, subst, ◌∙◌, inl, inr}
use Rattle.std.specs.Prelude.{OnErr, map}
use Rattle.bool_search.specs.Fields.{words_of}
use Rattle.bool_search.specs.LineRefusals.{fields_refusal}
use Rattle.client_registry.specs.Command.{Add, Delete, Search}
use Rattle.client_registry.specs.Live.{matching_in}
use Rattle.leakage_history.specs.HashedEpochs.{epochs_in}
use Rattle.script_documents.specs.LineDocument.{document}
use Rattle.script_documents.specs.Refused.{bad_word}
use Rattle.def_script_meaning.specs.Lines as requests
use Rattle.def_script_meaning.specs.Lines.{line_read}
use Rattle.def_script_meaning.specs.Outcome.{Says, Finds, Matches}
use Rattle.def_script_meaning.specs.Refused.{add_refusal, delete_refusal}
use Rattle.sse_script.specs.Shown.{Added, Deleted}
use Rattle.sse_script.specs.Views.{line_view}
use Rattle.sse_script.specs.declared.line.Line.{Line}
use Rattle.sse_script.specs.declared.refusal.Refusal.TheVariants.{SetUpAlready}
use Rattle.script_history.proofs.LinesTaken.{IfOk-both, command-behind, commands-behind, of_own, refused-behind, stops_any}
use Rattle.script_history.specs.Stages.{KeepsKey, MayStopHere, TakesAfter}
use Rattle.script_history.specs.declared.stage.Stage.TheVariants.{Built}
use Rattle.script_history.proofs.taken_line.command_of_line.Goals as goal

pub returns-in-Empty-clause-takes : goal.returns-in-Empty-clause-takes
returns-in-Empty-clause-takes c = λ request e. elim c.in-Empty.is [
  | inl is ↦ absurd (let no : requests.Empty ≡ requests.Command request = sym (ap (λ (line : Line). line_read (line_view line)) is) ∙ e in cc)
  | inr others ↦ elim others [
    | inl is ↦ absurd (let no : requests.Key is.0 ≡ requests.Command request = sym (ap (λ (line : Line). line_read (line_view line)) is.1) ∙ e in cc)
    | inr is ↦ absurd (subst (λ (line : Line). KeepsKey (line_view line)) is.1 c.requires.keeps)
  ]
]

pub returns-in-Add-clause-takes : goal.returns-in-Add-clause-takes
returns-in-Add-clause-takes c =
    let es = epochs_in c.args.history.now in
    let next = epochs_in c.add.new.history in
    let own = requests.AddLine c.in-Add.id c.in-Add.words in
    let d = document c.in-Add.id c.in-Add.words in
    IfOk-both c.add.result _ _ _ (λ found same went. of_own (λ q. TakesAfter es q next found) (line_read (line_view c.args.line)) own (ap (λ (line : Line). line_read (line_view line)) c.in-Add.is)
    (λ place at. command-behind place es at own (add_refusal (Some es) d) found (Add d) (Says (Added c.in-Add.id)) next refl same went)) c.add.ensures.found c.add.ensures.after

pub returns-in-Add-clause-may_stop : goal.returns-in-Add-clause-may_stop
returns-in-Add-clause-may_stop c = subst (λ (line : Line). OnErr c.add.result (MayStopHere (Built c.args.history.now) (line_view line))) (sym c.in-Add.is) c.add.ensures.may_stop

pub returns-in-Del-clause-takes : goal.returns-in-Del-clause-takes
returns-in-Del-clause-takes c =
    let es = epochs_in c.args.history.now in
    let next = epochs_in c.delete.new.history in
    let own = requests.Del c.in-Del.id in
    IfOk-both c.delete.result _ _ _ (λ found same went. of_own (λ q. TakesAfter es q next found) (line_read (line_view c.args.line)) own (ap (λ (line : Line). line_read (line_view line)) c.in-Del.is)
    (λ place at. command-behind place es at own (delete_refusal (Some es) c.in-Del.id) found (Delete c.in-Del.id) (Says (Deleted c.in-Del.id)) next refl same went)) c.delete.ensures.found c.delete.ensures.after

pub returns-in-Del-clause-may_stop : goal.returns-in-Del-clause-may_stop
returns-in-Del-clause-may_stop c = subst (λ (line : Line). OnErr c.delete.result (MayStopHere (Built c.args.history.now) (line_view line))) (sym c.in-Del.is) c.delete.ensures.may_stop

pub returns-in-Find-clause-takes : goal.returns-in-Find-clause-takes
returns-in-Find-clause-takes c =
    let es = epochs_in c.args.history.now in
    let next = epochs_in c.find.new.history in
    let word = c.in-Find.word.now in
    let own = requests.Find word in
    IfOk-both c.find.result _ _ _ (λ found same went. of_own (λ q. TakesAfter es q next found) (line_read (line_view c.args.line)) own (ap (λ (line : Line). line_read (line_view line)) c.in-Find.is)
    (λ place at. command-behind place es at own (bad_word 0 (word ∷ [])) found (Search word) (Finds (matching_in (Some es) word)) next refl same went)) c.find.ensures.found c.find.ensures.after

pub returns-in-Find-clause-may_stop : goal.returns-in-Find-clause-may_stop
returns-in-Find-clause-may_stop c = subst (λ (line : Line). OnErr c.find.result (MayStopHere (Built c.args.history.now) (line_view line))) (sym c.in-Find.is) c.find.ensures.may_stop

pub returns-in-Query-clause-takes : goal.returns-in-Query-clause-takes
returns-in-Query-clause-takes c =
    let es = epochs_in c.args.history.now in
    let next = epochs_in c.query.new.history in
    let fields = c.in-Query.fields in
    let own = requests.Query fields in
    IfOk-both c.query.result _ _ _ (λ found same went. of_own (λ q. TakesAfter es q next found) (line_read (line_view c.args.line)) own (ap (λ (line : Line). line_read (line_view line)) c.in-Query.is)
    (λ place at. commands-behind place es at own (fields_refusal fields) found (map (λ word. Search word) (words_of fields)) (Matches fields (map (matching_in (Some es)) (words_of fields))) next refl same went)) c.query.ensures.found c.query.ensures.after

pub returns-in-Query-clause-may_stop : goal.returns-in-Query-clause-may_stop
returns-in-Query-clause-may_stop c = subst (λ (line : Line). OnErr c.query.result (MayStopHere (Built c.args.history.now) (line_view line))) (sym c.in-Query.is) (stops_any c.query.result)

pub returns-in-Doc-clause-takes : goal.returns-in-Doc-clause-takes
returns-in-Doc-clause-takes c =
    let es = epochs_in c.args.history.now in
    let read = line_read (line_view c.args.line) in
    λ request e. elim c.in-Doc.is [
      | inl is ↦ of_own (λ q. TakesAfter es q es (Some SetUpAlready)) read (requests.Doc is.0 is.1) (ap (λ (line : Line). line_read (line_view line)) is.2) (λ place at. refused-behind place es at (requests.Doc is.0 is.1) SetUpAlready refl) request e
      | inr is ↦ of_own (λ q. TakesAfter es q es (Some SetUpAlready)) read (requests.SetupLine is.0 is.1 is.2) (ap (λ (line : Line). line_read (line_view line)) is.3) (λ place at. refused-behind place es at (requests.SetupLine is.0 is.1 is.2) SetUpAlready refl) request e
    ]
