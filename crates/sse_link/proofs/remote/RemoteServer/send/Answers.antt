use Rattle.std.proofs.Common.{◌≡◌, [], ◌∷◌, ◌++◌, subst, sym, ◌∙◌}
use Rattle.keyed_fn.specs.KeyedFn.{keyed_fn}
use Rattle.def_link_events.specs.Events.{Sent}
use Rattle.sse_link.specs.Marks.{mark_of}
use Rattle.sse_link.specs.Recorded.{recorded}
use Rattle.sse_link.specs.Stored.{IsFar, NeverRises}
use Rattle.sse_link.proofs.Kept.{steady_sent}
use Rattle.sse_link.proofs.Stored.{map_some, stored_sent}
use Rattle.sse_link.proofs.remote.RemoteServer.send.Goals as goal

-- the frame was answered as its mark says, and its replies wait
pub invariant_of-self-2 : goal.invariant_of-self-2
invariant_of-self-2 g c =
    let f = keyed_fn g.K.Keyed.prf g.K.Keyed.pad in
    let inside = c.self.inside in
    let answer = c.answer_stored-self-inside in
    let began = inside.began.value.state in
    let first = g.D.Disk.content inside.began_disk.value in
    let content = g.D.Disk.content answer.new.disk in
    let images = g.D.Disk.images answer.new.disk in
    let kept : recorded c.sent.new.self ≡ recorded inside.passed ++ Sent c.args.frame.now (mark_of answer.result) ∷ [] =
    c.sent.ensures ∙ (λ i. c.make_room.ensures.same i ++ Sent (c.in_ok-bytes.ensures.copy i) (c.mark.ensures i) ∷ []) in
    subst (λ events. IsFar f (NeverRises g.D.Disk.faults) events began first answer.new.store content images answer.result answer.new.page) (sym kept)
    (record {
      telling = steady_sent f (recorded inside.passed) began inside.store.state answer.new.store.state inside.due answer.result inside.page answer.new.page
          c.args.frame.now c.self.invariant.telling c.requires.frame answer.ensures.due (answer.ensures.frame c.requires.frame);
      within = answer.ensures.within_after;
      sound = λ never. answer.ensures.sound never (c.self.invariant.sound never);
      no_fault = λ never. answer.ensures.no_fault never (c.self.invariant.sound never);
      stored = map_some first _ _
          (λ bytes has. stored_sent f (recorded inside.passed) began bytes inside.store answer.new.store (g.D.Disk.content inside.disk) content (g.D.Disk.images inside.disk) images c.args.frame.now (mark_of answer.result) c.requires.frame
          (answer.ensures.stored c.requires.frame) has)
          c.self.invariant.stored;
    })
