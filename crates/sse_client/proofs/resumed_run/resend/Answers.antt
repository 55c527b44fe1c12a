use Rattle.std.proofs.Common.{◌≡◌, Err, inr, ◌-◌, Ok, refl, sym, ap, subst, ◌∙◌}
use Rattle.client_core.specs.Owes.{Owes}
use Rattle.client_core.specs.Resumes.{Resumes, first_of_last, resumed_marks}
use Rattle.client_core.specs.declared.ready.Ready.{Ready}
use Rattle.client_core.specs.StandsFor.{StandsFor}
use Rattle.keyed_fn.specs.KeyedFn.{keyed_fn}
use Rattle.script_run_texts.specs.Causes.{CommandCause, KeepCommandCause}
use Rattle.script_run_texts.specs.Stops.{command_cause, peer_cause}
use Rattle.script_run_texts.specs.declared.command_stop.CommandStop.TheVariants.{Exchange}
use Rattle.sse_client.proofs.ResumedRuns.{owed-lacking, resending-cut, resending-lacking, resending-refused, resent-none, resent-some, resume_steady, resume_unkept}
use Rattle.sse_client.proofs.TranscriptsJoined.{IfErr-from, KeepsLink-err}
use Rattle.sse_client.specs.Calls.{shows}
use Rattle.sse_client.specs.ResumedRun.{StopsResending, frames_lacking}
use Rattle.sse_client.specs.Known.{OpensUnder}
use Rattle.keyed_fn.specs.KeyFormulas.{mark_of}
use Rattle.sse_client.proofs.WholeRun.{IfSome-then}
use Rattle.sse_client.specs.RecordKept.{OwesLast}
use Rattle.sse_client.proofs.resumed_run.resend.Goals as goal

pub returns-in-Err-lacking-clause-stopped : goal.returns-in-Err-lacking-clause-stopped
returns-in-Err-lacking-clause-stopped g c = λ known knows.
    let f = keyed_fn g.K.Keyed.prf g.K.Keyed.pad in
    let key = c.args.client.key in
    let old = g.L.Link.transcript c.args.link.now in
    let new = g.L.Link.transcript c.hello.new.link in
    let stop = c.in-Err-lacking.stop in
    let why = c.in-Err-lacking.ensures.stopped f key known knows in
    subst (λ s. StopsResending f key known old new (command_cause s)) (sym why.1) (resending-lacking f key known old new c.in-Ok.next c.in-Ok.ensures.answered c.lacking.ensures.fits why.0 why.2)

pub returns-in-Err-lacking-clause-keeps : goal.returns-in-Err-lacking-clause-keeps
returns-in-Err-lacking-clause-keeps g c =
    let old = c.args.link.now in
    let new = c.hello.new.link in
    let stop = c.in-Err-lacking.stop in
    let meant = c.in-Err-lacking.ensures.meant in
    KeepsLink-err CommandCause (shows (g.L.Link.transcript old) (g.L.Link.faults old) (g.L.Link.began old)) (shows (g.L.Link.transcript new) (g.L.Link.faults new) (g.L.Link.began new)) (Err stop) stop
    refl c.in-Ok.ensures.keeps.began
    (subst (CommandCause (g.L.Link.faults old) (g.L.Link.faults new)) (sym meant.1) (resume_steady (g.L.Link.faults old) (g.L.Link.faults new) meant.0 c.in-Ok.ensures.keeps.steady))

pub returns-in_err-catch_up-in-Ok-Behind-clause-stopped :
    goal.returns-in_err-catch_up-in-Ok-Behind-clause-stopped
returns-in_err-catch_up-in-Ok-Behind-clause-stopped g c = λ known knows.
    let f = keyed_fn g.K.Keyed.prf g.K.Keyed.pad in
    let key = c.args.client.key in
    let next = c.in-Ok.next in
    let old = g.L.Link.transcript c.args.link.now in
    let greeted = g.L.Link.transcript c.hello.new.link in
    let new = g.L.Link.transcript c.catch_up.new.link in
    let stop = c.in_err-catch_up-in-Ok-Behind.field-0.0 in
    let r = subst (λ x. Resumes f key known.begins known.run next (Ok x)) c.in-Ok-Behind.field-0-is (c.in-Ok-Behind.ensures.resumes known.begins known.run knows) in
    IfErr-from c.from_residual.result (Exchange stop) (λ s. StopsResending f key known old new (command_cause s)) c.from_residual.ensures.1
    (resending-cut f key known old greeted next c.in-Ok.ensures.answered new (peer_cause stop) r.0 r.1 r.2.3
    (c.in_err-catch_up-in-Ok-Behind.ensures.sends (frames_lacking f key known next) (owed-lacking f key known next c.in-Ok-Behind.behind r.2) r.2.2.number))

pub returns-in-Ok-Ready-clause-resent : goal.returns-in-Ok-Ready-clause-resent
returns-in-Ok-Ready-clause-resent g c = λ known knows.
    let f = keyed_fn g.K.Keyed.prf g.K.Keyed.pad in
    let key = c.args.client.key in
    let next = c.in-Ok.next in
    let r = subst (λ x. Resumes f key known.begins known.run next (Ok x)) c.in-Ok-Ready.field-0-is (c.in-Ok-Ready.ensures.resumes known.begins known.run knows) in
    resent-none f key known (g.L.Link.transcript c.args.link.now) (g.L.Link.transcript c.hello.new.link) next c.in-Ok.ensures.answered c.args.client.state c.in-Ok-lacking.frames knows (c.in-Ok-lacking.ensures.lacks f key known knows) r.1

pub returns-in-Ok-Ready-clause-stands : goal.returns-in-Ok-Ready-clause-stands
returns-in-Ok-Ready-clause-stands g c = λ known knows.
    (subst (λ x. Resumes (keyed_fn g.K.Keyed.prf g.K.Keyed.pad) c.args.client.key known.begins known.run c.in-Ok.next (Ok x)) c.in-Ok-Ready.field-0-is (c.in-Ok-Ready.ensures.resumes known.begins known.run knows)).2

pub returns-in-Ok-Ready-clause-key : goal.returns-in-Ok-Ready-clause-key
returns-in-Ok-Ready-clause-key g c = λ known knows.
    (subst (λ x. Resumes (keyed_fn g.K.Keyed.prf g.K.Keyed.pad) c.args.client.key known.begins known.run c.in-Ok.next (Ok x)) c.in-Ok-Ready.field-0-is (c.in-Ok-Ready.ensures.resumes known.begins known.run knows)).0

pub returns-in_ok-catch_up-in-Ok-Behind-clause-resent :
    goal.returns-in_ok-catch_up-in-Ok-Behind-clause-resent
returns-in_ok-catch_up-in-Ok-Behind-clause-resent g c = λ known knows.
    let f = keyed_fn g.K.Keyed.prf g.K.Keyed.pad in
    let key = c.args.client.key in
    let next = c.in-Ok.next in
    let r = subst (λ x. Resumes f key known.begins known.run next (Ok x)) c.in-Ok-Behind.field-0-is (c.in-Ok-Behind.ensures.resumes known.begins known.run knows) in
    resent-some f key known (g.L.Link.transcript c.args.link.now) (g.L.Link.transcript c.hello.new.link) next c.in-Ok.ensures.answered c.in-Ok-lacking.frames (g.L.Link.transcript c.catch_up.new.link)
    (c.in-Ok-lacking.ensures.lacks f key known knows) r.2.3
    (c.in_ok-catch_up-in-Ok-Behind.ensures.sends (frames_lacking f key known next) (owed-lacking f key known next c.in-Ok-Behind.behind r.2) r.2.2.number)

pub returns-in_ok-catch_up-in-Ok-Behind-clause-stands :
    goal.returns-in_ok-catch_up-in-Ok-Behind-clause-stands
returns-in_ok-catch_up-in-Ok-Behind-clause-stands g c = λ known knows.
    let f = keyed_fn g.K.Keyed.prf g.K.Keyed.pad in
    let key = c.args.client.key in
    let r = subst (λ x. Resumes f key known.begins known.run c.in-Ok.next (Ok x)) c.in-Ok-Behind.field-0-is (c.in-Ok-Behind.ensures.resumes known.begins known.run knows) in
    subst (StandsFor f (λ epoch. key) known.begins known.run) (sym c.in_ok-catch_up-in-Ok-Behind.ensures.ready) r.2.2.stands

pub returns-in_ok-catch_up-in-Ok-Behind-clause-key :
    goal.returns-in_ok-catch_up-in-Ok-Behind-clause-key
returns-in_ok-catch_up-in-Ok-Behind-clause-key g c = λ known knows.
    let r = subst (λ x. Resumes (keyed_fn g.K.Keyed.prf g.K.Keyed.pad) c.args.client.key known.begins known.run c.in-Ok.next (Ok x)) c.in-Ok-Behind.field-0-is (c.in-Ok-Behind.ensures.resumes known.begins known.run knows) in
    c.in_ok-catch_up-in-Ok-Behind.ensures.key ∙ r.2.0

pub returns-in-Err-resume-clause-stopped : goal.returns-in-Err-resume-clause-stopped
returns-in-Err-resume-clause-stopped g c = λ known knows.
    let f = keyed_fn g.K.Keyed.prf g.K.Keyed.pad in
    let key = c.args.client.key in
    let old = g.L.Link.transcript c.args.link.now in
    let new = g.L.Link.transcript c.hello.new.link in
    subst (λ s. StopsResending f key known old new (command_cause s)) (sym c.stop_of.ensures)
    (resending-refused f key known old new c.in-Ok.next c.in-Ok.ensures.answered c.lacking.ensures.fits c.in-Err-resume.fault (c.in-Err-resume.ensures.resumes known.begins known.run knows))

pub returns-in-Err-lacking-clause-unkept : goal.returns-in-Err-lacking-clause-unkept
returns-in-Err-lacking-clause-unkept g c =
    let meant = c.in-Err-lacking.ensures.meant in
    λ count. subst (KeepCommandCause count count) (sym meant.1) (resume_unkept count meant.0)

pub returns-in-Err-resume-clause-unkept : goal.returns-in-Err-resume-clause-unkept
returns-in-Err-resume-clause-unkept g c = λ count. subst (KeepCommandCause count count) (sym c.stop_of.ensures) (resume_unkept count c.in-Err-resume.fault)

pub catch_up-requires-clause-recorded : goal.catch_up-requires-clause-recorded
catch_up-requires-clause-recorded g c =
    let f = keyed_fn g.K.Keyed.prf g.K.Keyed.pad in
    let key = c.args.client.key in
    let next = c.in-Ok.next in
    let known = c.requires.restores.0 in
    let r = subst (λ x. Resumes f key known.begins known.run next (Ok x)) c.in-Ok-Behind.field-0-is (c.in-Ok-Behind.ensures.resumes known.begins known.run c.requires.restores.2.remembers) in
    IfSome-then (g.R.Recorder.kept c.args.recorder.now).records (λ payloads. OpensUnder (mark_of f key) payloads known) (λ records. OwesLast f records c.in-Ok-Behind.behind)
    (λ records opens. inr (inr (inr (known, next - first_of_last f key known.begins known.run, subst (λ k. OpensUnder (mark_of f k) records known) (sym r.2.0) opens, subst (λ k. Owes f (λ epoch. k) known.begins known.run (next - first_of_last f key known.begins known.run) c.in-Ok-Behind.behind.state) (sym r.2.0) r.2.2)))) c.requires.restores.1.1

pub returns-in-Ok-Ready-clause-marks : goal.returns-in-Ok-Ready-clause-marks
returns-in-Ok-Ready-clause-marks g c = subst (λ x. resumed_marks x ≡ c.args.client.state.past.marks.items) c.in-Ok-Ready.field-0-is c.in-Ok-Ready.ensures.marks

pub returns-in_ok-catch_up-in-Ok-Behind-clause-marks : goal.returns-in_ok-catch_up-in-Ok-Behind-clause-marks
returns-in_ok-catch_up-in-Ok-Behind-clause-marks g c =
    ap (λ (r : Ready). r.past.marks.items) c.in_ok-catch_up-in-Ok-Behind.ensures.ready ∙ subst (λ x. resumed_marks x ≡ c.args.client.state.past.marks.items) c.in-Ok-Behind.field-0-is c.in-Ok-Behind.ensures.marks
