use Rattle.std.proofs.Common.{◌++◌, ap, ◌∙◌, subst}
use Rattle.keyed_fn.specs.KeyedFn.{keyed_fn}
use Rattle.sse_frames.specs.FrameViews.{frame_view}
use Rattle.server_core.specs.Refusal.{is_nil}
use Rattle.sse_journal.specs.JournalView.{broken_by}
use Rattle.sse_server.specs.StoreView.{IsStoreOf}
use Rattle.sse_server.specs.Taken.{IsTaken}
use Rattle.def_link_events.specs.Taken.{taken_one}
use Rattle.sse_link.specs.Marks.{mark_of}
use Rattle.sse_link.proofs.StoreSteps.{Answers-stored, stored_step, no_failure, is_nil-store_replies, not_lacking, not_failing}
use Rattle.sse_link.proofs.stored_answers.answer_stored.Goals as goal

-- the frame that was read is the only one with these bytes
pub returns-in-Ok-clause-frame : goal.returns-in-Ok-clause-frame
returns-in-Ok-clause-frame g c sent =
    let f = keyed_fn g.K.Keyed.prf g.K.Keyed.pad in
    Answers-stored f _ _ c.handle.new.page (frame_view c.in-Ok.frame) sent.frame c.handle.result (mark_of c.due_of_stored.result) _
    (c.in-Ok.ensures.only sent) c.handle.ensures.state c.handle.ensures.replies c.handle.ensures.no_memory c.handle.ensures.store_fault (c.due_of_stored.ensures.replies f c.handle.new.self.state c.handle.new.page)
    c.due_of_stored.ensures.stepped c.due_of_stored.ensures.lacked c.due_of_stored.ensures.failed

-- each answer has a reply
pub returns-in-Ok-clause-some : goal.returns-in-Ok-clause-some
returns-in-Ok-clause-some g c =
    let f = keyed_fn g.K.Keyed.prf g.K.Keyed.pad in
    ap is_nil (c.due_of_stored.ensures.replies f c.handle.new.self.state c.handle.new.page) ∙ is_nil-store_replies f c.handle.new.self.state c.handle.result c.handle.new.page

-- what its step takes is in the file
pub returns-in-Ok-clause-stored : goal.returns-in-Ok-clause-stored
returns-in-Ok-clause-stored g c sent stepped frames is =
    let f = keyed_fn g.K.Keyed.prf g.K.Keyed.pad in
    let mark = mark_of c.due_of_stored.result in
    let has = not_lacking c.handle.result mark stepped c.due_of_stored.ensures.lacked in
    let kept = not_failing c.handle.result mark stepped c.due_of_stored.ensures.failed in
    subst (λ frame. IsStoreOf (frames ++ taken_one c.args.store.now.state frame) c.handle.new.self (g.D.Disk.content c.handle.new.disk) (g.D.Disk.images c.handle.new.disk)) (c.in-Ok.ensures.only sent)
    (stored_step g.D.Disk.content g.D.Disk.images c.args.disk.now c.handle.new.disk f (frame_view c.in-Ok.frame) c.args.store.now c.handle.new.self c.handle.result c.handle.new.page has kept
    (c.handle.ensures.state has kept) (c.handle.ensures.replies has kept) c.handle.ensures.added c.handle.ensures.untouched frames is)

pub returns-in-Ok-clause-untouched : goal.returns-in-Ok-clause-untouched
returns-in-Ok-clause-untouched g c sent untaken =
    ap g.D.Disk.content (c.handle.ensures.untouched (λ is. untaken (subst (IsTaken c.args.store.now.state) (c.in-Ok.ensures.only sent) is))).0

pub returns-in-Ok-clause-sound : goal.returns-in-Ok-clause-sound
returns-in-Ok-clause-sound g c never ok =
    (no_failure (broken_by c.args.store.now.journal) (broken_by c.handle.new.self.journal) c.handle.result (IsTaken c.args.store.now.state (frame_view c.in-Ok.frame)) ok
    (λ fault. (c.handle.ensures.store_fault fault).1) c.handle.ensures.stays_broken c.handle.ensures.breaks (λ some. ap broken_by (c.handle.ensures.broken some).1)
    (λ fault whole. never c.args.disk.now c.handle.new.disk (c.handle.ensures.failed fault whole))).0

pub returns-in-Ok-clause-no_fault : goal.returns-in-Ok-clause-no_fault
returns-in-Ok-clause-no_fault g c never ok =
    c.due_of_stored.ensures.no_fault
    (no_failure (broken_by c.args.store.now.journal) (broken_by c.handle.new.self.journal) c.handle.result (IsTaken c.args.store.now.state (frame_view c.in-Ok.frame)) ok
    (λ fault. (c.handle.ensures.store_fault fault).1) c.handle.ensures.stays_broken c.handle.ensures.breaks (λ some. ap broken_by (c.handle.ensures.broken some).1)
    (λ fault whole. never c.args.disk.now c.handle.new.disk (c.handle.ensures.failed fault whole))).1

-- the bytes are a frame

pub returns-in-Err-clause-frame : goal.returns-in-Err-clause-frame
returns-in-Err-clause-frame g c sent = absurd (c.in-Err.ensures.only c.requires.frame)

pub returns-in-Err-clause-stored : goal.returns-in-Err-clause-stored
returns-in-Err-clause-stored g c sent stepped frames is = absurd (c.in-Err.ensures.only c.requires.frame)
