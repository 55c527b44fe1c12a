use Rattle.std.proofs.Common.{◌≡◌, Some, refl, ap, sym, subst, ◌∙◌, inl, inr}
use Rattle.std.specs.Prelude.{OnErr}
use Rattle.def_script_meaning.specs.Lines as requests
use Rattle.def_script_meaning.specs.Lines.{line_read}
use Rattle.sse_script.specs.Views.{line_view}
use Rattle.sse_script.specs.declared.line.Line.{Line}
use Rattle.sse_script.specs.declared.refusal.Refusal.TheVariants.{NotSetUp}
use Rattle.script_history.proofs.LinesTaken.{IfOk-both, collected-before, of_own, refused-before, set_up-before}
use Rattle.script_history.specs.Stages.{KeepsKey, MayStopHere, Takes}
use Rattle.script_history.specs.declared.stage.Stage.TheVariants.{Collecting}
use Rattle.script_history.proofs.taken_line.before_setup.Goals as goal

pub returns-in-Empty-clause-takes : goal.returns-in-Empty-clause-takes
returns-in-Empty-clause-takes c = λ request e. elim c.in-Empty.is [
  | inl is ↦ absurd (let no : requests.Empty ≡ requests.Command request = sym (ap (λ (line : Line). line_read (line_view line)) is) ∙ e in cc)
  | inr others ↦ elim others [
    | inl is ↦ absurd (let no : requests.Key is.0 ≡ requests.Command request = sym (ap (λ (line : Line). line_read (line_view line)) is.1) ∙ e in cc)
    | inr is ↦ absurd (subst (λ (line : Line). KeepsKey (line_view line)) is.1 c.requires.keeps)
  ]
]

pub returns-in-Setup-clause-takes : goal.returns-in-Setup-clause-takes
returns-in-Setup-clause-takes c =
    let own = requests.SetupLine c.in-Setup.b c.in-Setup.big c.in-Setup.pad in
    IfOk-both c.set_up.result _ _ _ (λ done same went. of_own (λ q. Takes (Collecting c.args.docs) q done.0 done.1) (line_read (line_view c.args.line)) own (ap (λ (line : Line). line_read (line_view line)) c.in-Setup.is)
    (λ place at. set_up-before place c.args.docs.documents done.0 c.in-Setup.b c.in-Setup.big c.in-Setup.pad done.1 at.0 at.1 same went)) c.set_up.ensures.found c.set_up.ensures.after

pub returns-in-Setup-clause-may_stop : goal.returns-in-Setup-clause-may_stop
returns-in-Setup-clause-may_stop c =
    subst (λ (line : Line). OnErr c.set_up.result (MayStopHere (Collecting c.args.docs) (line_view line))) (sym c.in-Setup.is) c.set_up.ensures.may_stop

pub returns-in_ok-found-in-Doc-clause-takes : goal.returns-in_ok-found-in-Doc-clause-takes
returns-in_ok-found-in-Doc-clause-takes c =
    let own = requests.Doc c.in-Doc.id c.in-Doc.words in
    let docs = c.args.docs in
    let new = c.collect.new.docs in
    let found = c.in_ok-found-in-Doc.found in
    of_own (λ q. Takes (Collecting docs) q (Collecting new) found) (line_read (line_view c.args.line)) own (ap (λ (line : Line). line_read (line_view line)) c.in-Doc.is)
    (λ place at. collected-before place docs.documents new.documents (Collecting new) c.in-Doc.id c.in-Doc.words found at.0 at.1 c.in_ok-found-in-Doc.ensures.found c.in_ok-found-in-Doc.ensures.after (λ p same none. (same, none)))

pub returns-in-Add-clause-takes : goal.returns-in-Add-clause-takes
returns-in-Add-clause-takes c =
    let docs = c.args.docs in
    let read = line_read (line_view c.args.line) in
    let P : requests.Request → Type 0 = λ q. Takes (Collecting docs) q (Collecting docs) (Some NotSetUp) in
    λ request e. elim c.in-Add.is [
      | inl is ↦ of_own P read (requests.AddLine is.0 is.1) (ap (λ (line : Line). line_read (line_view line)) is.2) (λ place at. refused-before place at.1 (requests.AddLine is.0 is.1) NotSetUp (Collecting docs) refl at) request e
      | inr others ↦ elim others [
        | inl is ↦ of_own P read (requests.Del is.0) (ap (λ (line : Line). line_read (line_view line)) is.1) (λ place at. refused-before place at.1 (requests.Del is.0) NotSetUp (Collecting docs) refl at) request e
        | inr last ↦ elim last [
          | inl is ↦ of_own P read (requests.Find is.0.now) (ap (λ (line : Line). line_read (line_view line)) is.1) (λ place at. refused-before place at.1 (requests.Find is.0.now) NotSetUp (Collecting docs) refl at) request e
          | inr is ↦ of_own P read (requests.Query is.0) (ap (λ (line : Line). line_read (line_view line)) is.1) (λ place at. refused-before place at.1 (requests.Query is.0) NotSetUp (Collecting docs) refl at) request e
        ]
      ]
    ]
