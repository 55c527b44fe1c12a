use Rattle.std.proofs.Common.{sym, subst, ◌∙◌, inl}
use Rattle.keyed_fn.specs.KeyedFn.{keyed_fn}
use Rattle.sse_frames.specs.FrameViews.{frame_view}
use Rattle.sse_journal.specs.Files.{GivesWithOrWithout}
use Rattle.sse_journal.proofs.Moments.{started}
use Rattle.sse_server.specs.declared.store_answer.StoreAnswer.TheVariants.{Answered}
use Rattle.sse_owners.specs.Handled.{KeepsJournal}
use Rattle.sse_owners.specs.Owned.{owned, record_of, records}
use Rattle.sse_owners.specs.OwnersView.{OwnersView, chosen_owner, chosen_state}
use Rattle.sse_server.proofs.AnswerLaws.{not_taken}
use Rattle.sse_owners.proofs.AnswerLaws.{journal_still, never_took, no_fault}
use Rattle.sse_owners.proofs.LastingOwners.{gives_of, lasts_still}
use Rattle.sse_owners.proofs.owners.Owners.handle.Goals as goal

pub returns-in-Some-clause-answered : goal.returns-in-Some-clause-answered
returns-in-Some-clause-answered g c = c.take.ensures.answered (keyed_fn g.K.Keyed.prf g.K.Keyed.pad) c.args.page.now

-- a frame that is no update isn't taken

pub returns-in-None-clause-lasts : goal.returns-in-None-clause-lasts
returns-in-None-clause-lasts g c frames is =
    lasts_still frames (frame_view c.args.frame.now) (Answered c.answer.result) c.args.self.now c.answer.new.self (g.D.Disk.content c.args.disk.now) (g.D.Disk.images c.args.disk.now)
    c.answer.ensures.same (never_took c.answer.result c.answer.ensures.not_taken) is

pub returns-in-None-clause-any_moment : goal.returns-in-None-clause-any_moment
returns-in-None-clause-any_moment g c frames whole is =
    started g.D.Disk.moment g.D.Disk.left_since c.args.disk.now (GivesWithOrWithout (records frames) (record_of (owned (chosen_owner c.args.self.now) (frame_view c.args.frame.now))))
    (λ bytes left. inl (gives_of frames c.args.self.now (g.D.Disk.content c.args.disk.now) (g.D.Disk.images c.args.disk.now) is whole bytes (g.met.D.Disk.only_now c.args.disk.now bytes left)))

pub returns-in-None-clause-journal : goal.returns-in-None-clause-journal
returns-in-None-clause-journal g c =
    subst (λ (v : OwnersView). KeepsJournal (chosen_state c.args.self.now) (frame_view c.args.frame.now) (Answered c.answer.result) c.args.self.now.journal v.journal c.args.disk.now c.args.disk.now) (sym c.answer.ensures.same)
    (journal_still (chosen_state c.args.self.now) (frame_view c.args.frame.now) (Answered c.answer.result) c.args.self.now.journal c.args.disk.now
    (not_taken (chosen_state c.args.self.now) (frame_view c.args.frame.now) (sym c.update_number.ensures ∙ c.in-None.is)) (never_took c.answer.result c.answer.ensures.not_taken) (no_fault c.answer.result))
