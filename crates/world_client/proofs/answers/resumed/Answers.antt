use Rattle.std.proofs.Common.{◌∙◌, Ok, Err, subst, sym}
use Rattle.client_core.specs.Resumes.{Resumes, resumed_marks}
use Rattle.client_registry.specs.Epochs.{begins, key_now}
use Rattle.client_registry.specs.Run.{last_run}
use Rattle.keyed_fn.specs.KeyedFn.{keyed_fn}
use Rattle.std.proofs.Common.{ap}
use Rattle.world_client.proofs.GoingOn.{resumed_ready, resumed_behind, resumed_without_memory, resumed_elsewhere}
use Rattle.world_client.proofs.answers.resumed.Goals as goal

pub returns-in-Ready : goal.returns-in-Ready
returns-in-Ready g c = record {
  goes_on = λ first es of is.
      let f = keyed_fn g.K.Keyed.prf g.K.Keyed.pad in
      let o = begins es in
      let run = last_run es in
      resumed_ready f first es c.args.next c.in-Ready.client
      (subst (λ r. Resumes f (key_now first es) o run c.args.next (Ok r)) c.in-Ready.is
      (subst (λ k. Resumes f k o run c.args.next (Ok c.in-Ok.resumed)) is.key (subst (Resumes f c.args.client.key o run c.args.next) c.in-Ok.is (c.resume.ensures.resumes o run is.remembers))))
      (ap resumed_marks (sym c.in-Ready.is) ∙ c.in-Ok.ensures.marks ∙ is.marks);
}

pub returns-in-Behind : goal.returns-in-Behind
returns-in-Behind g c = record {
  goes_on = λ first es of is.
      let f = keyed_fn g.K.Keyed.prf g.K.Keyed.pad in
      let o = begins es in
      let run = last_run es in
      resumed_behind f first es c.args.next c.in-Behind.client
      (subst (λ r. Resumes f (key_now first es) o run c.args.next (Ok r)) c.in-Behind.is
      (subst (λ k. Resumes f k o run c.args.next (Ok c.in-Ok.resumed)) is.key (subst (Resumes f c.args.client.key o run c.args.next) c.in-Ok.is (c.resume.ensures.resumes o run is.remembers))))
      (ap resumed_marks (sym c.in-Behind.is) ∙ c.in-Ok.ensures.marks ∙ is.marks);
}

pub returns-in-NoMemory : goal.returns-in-NoMemory
returns-in-NoMemory g c = record {
  goes_on = λ first es of is.
      let f = keyed_fn g.K.Keyed.prf g.K.Keyed.pad in
      let o = begins es in
      let run = last_run es in
      resumed_without_memory f first es c.args.next c.in-Err.fault
      (subst (λ k. Resumes f k o run c.args.next (Err c.in-Err.fault)) is.key (subst (Resumes f c.args.client.key o run c.args.next) c.in-Err.is (c.resume.ensures.resumes o run is.remembers))) c.in-NoMemory.is;
}

pub returns-in_default : goal.returns-in_default
returns-in_default g c = record {
  goes_on = λ first es of is.
      let f = keyed_fn g.K.Keyed.prf g.K.Keyed.pad in
      let o = begins es in
      let run = last_run es in
      resumed_elsewhere f first es c.args.next c.in-Err.fault of.clear
      (subst (λ k. Resumes f k o run c.args.next (Err c.in-Err.fault)) is.key (subst (Resumes f c.args.client.key o run c.args.next) c.in-Err.is (c.resume.ensures.resumes o run is.remembers))) c.in_default.not-NoMemory;
}
