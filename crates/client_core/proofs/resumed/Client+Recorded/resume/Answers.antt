use Rattle.std.proofs.Common.{◌≤◌, ap, refl, sym, subst, ◌∙◌, arith}
use Rattle.std.specs.Prelude.{Ok, Err}
use Rattle.client_rebuild.specs.Recalls.{frames_of_last}
use Rattle.keyed_fn.specs.KeyedFn.{keyed_fn}
use Rattle.client_core.proofs.ResumeLaws.{passed, resumes-behind, resumes-elsewhere, resumes-ready, resumes-refused, resumes-wanting}
use Rattle.client_core.specs.Restores.{Remembers}
use Rattle.client_core.specs.Resumes.{Lacks, Replans, Resumes, first_recorded}
use Rattle.client_core.specs.States.{RecordedState}
use Rattle.client_core.specs.declared.resume_fault.ResumeFault.TheVariants.{NoMemory}
use Rattle.client_core.proofs.resumed.Client+Recorded.resume.Goals as goal

pub returns-in_err-left-clause-resumes : goal.returns-in_err-left-clause-resumes
returns-in_err-left-clause-resumes g c =
    λ o run knows.
    let f = keyed_fn g.K.Keyed.prf g.K.Keyed.pad in
    let key = c.args.self.key in
    let x = c.in_err-left.field-0.0 in
    subst (Resumes f key o run c.args.next) (sym (passed c.from_residual.result x c.from_residual.ensures.1))
    (resumes-elsewhere f key o run c.args.self.state knows c.args.next x (c.in_err-left.ensures.lacks f key o run knows))

pub returns-in_err-whole-clause-resumes : goal.returns-in_err-whole-clause-resumes
returns-in_err-whole-clause-resumes g c =
    λ o run knows.
    let f = keyed_fn g.K.Keyed.prf g.K.Keyed.pad in
    let key = c.args.self.key in
    subst (Resumes f key o run c.args.next) (sym (passed c.from_residual-in_err-whole.result NoMemory c.from_residual-in_err-whole.ensures.1))
    (resumes-wanting f key o run c.args.self.state knows c.args.next c.in_ok-left.left NoMemory (c.in_ok-left.ensures.lacks f key o run knows) refl)

pub returns-then-left-eq0-clause-resumes : goal.returns-then-left-eq0-clause-resumes
returns-then-left-eq0-clause-resumes g c =
    λ o run knows.
    let f = keyed_fn g.K.Keyed.prf g.K.Keyed.pad in
    let key = c.args.self.key in
    let same = ap (λ client. client.state) c.self.view_is in
    resumes-ready f key o run c.args.self.state knows c.args.next c.in_ok-whole.field-0
    (subst (λ n. Lacks f key o run c.args.next (Ok n)) c.if-left-eq0.true (c.in_ok-left.ensures.lacks f key o run knows))
    (c.in_ok-whole.ensures.key ∙ ap (λ client. client.key) c.self.view_is)
    (c.in_ok-whole.ensures.stands f (λ epoch. key) o run (subst (Remembers o run) (sym same) knows))

pub replan-requires-clause-low : goal.replan-requires-clause-low
replan-requires-clause-low g c =
    let same = ap (λ client. client.state) c.self.view_is in
    subst (λ (s : RecordedState). first_recorded s.last ≤ c.args.next) (sym same) c.in_ok-left.ensures.within.0

pub replan-requires-clause-high : goal.replan-requires-clause-high
replan-requires-clause-high g c =
    let same = ap (λ client. client.state) c.self.view_is in
    omega (arith, c.in_ok-left.ensures.within.1, ap (λ (s : RecordedState). frames_of_last s.last) same, c.if-left-eq0.false)

pub returns-in_err-replan-clause-resumes : goal.returns-in_err-replan-clause-resumes
returns-in_err-replan-clause-resumes g c =
    λ o run knows.
    let f = keyed_fn g.K.Keyed.prf g.K.Keyed.pad in
    let key = c.args.self.key in
    let same = ap (λ client. client.state) c.self.view_is in
    let x = c.in_err-replan.field-0.0 in
    subst (Resumes f key o run c.args.next) (sym (passed c.from_residual-in_err-replan.result x c.from_residual-in_err-replan.ensures.1))
    (resumes-refused f key o run c.args.self.state knows c.args.next c.in_ok-left.left x (c.in_ok-left.ensures.lacks f key o run knows) (omega (arith, c.if-left-eq0.false))
    (subst (λ k. Replans f k o run c.args.next (Err x)) (ap (λ client. client.key) c.self.view_is) (c.in_err-replan.ensures.replans o run (subst (Remembers o run) (sym same) knows))))

pub returns-clause-resumes : goal.returns-clause-resumes
returns-clause-resumes g c =
    λ o run knows.
    let f = keyed_fn g.K.Keyed.prf g.K.Keyed.pad in
    let key = c.args.self.key in
    let same = ap (λ client. client.state) c.self.view_is in
    let client = c.in_ok-replan.field-0 in
    resumes-behind f key o run c.args.self.state knows c.args.next c.in_ok-left.left client (c.in_ok-left.ensures.lacks f key o run knows) (omega (arith, c.if-left-eq0.false))
    (subst (λ k. Replans f k o run c.args.next (Ok client)) (ap (λ client. client.key) c.self.view_is) (c.in_ok-replan.ensures.replans o run (subst (Remembers o run) (sym same) knows)))
