use Rattle.std.proofs.Common.{inr, sym, subst, refl}
use Rattle.std.specs.Prelude.{Some, None, IfSome, ◌<◌}
use Rattle.keyed_fn.specs.KeyedFn.{keyed_fn}
use Rattle.server_core.specs.State.{at_first}
use Rattle.sse_frames.specs.declared.reply.Reply.TheVariants as reply
use Rattle.sse_server.specs.Taken.{taken_all}
use Rattle.world_server.proofs.Sides.{running, took, replied, stopped, no_memory, broken, taken_or_not, left_same, left_counted}
use Rattle.world_server.specs.Handling.{IsHandled, HasCalled, HasReplied}
use Rattle.world_server.specs.Sides.{ServerPart, IsServer, Delivers}
use Rattle.world_server.specs.declared.replies.Replies.TheVariants.{Single}
use Rattle.world_server.specs.declared.server_side.Delivered.TheVariants.{Replied, Stopped, NoMemory, Broken}
use Rattle.world_server.proofs.server_side.ServerSide.deliver.Goals as goal

pub returns-in-Took-clause-delivers : goal.returns-in-Took-clause-delivers
returns-in-Took-clause-delivers g c = λ part is sent.
    let f = keyed_fn g.K.Keyed.prf g.K.Keyed.pad in
    let h = c.handle-handled in
    let old = c.args.self.now in
    let r = running part c.in-Some.store old.disk old.stop (subst (λ store. IsServer part store old.disk old.stop) (sym c.in-Some.ensures.value) is) in
    let ended = subst (λ x. IsHandled f r.frames sent.frame old.stop x h.result.1 h.new.store h.new.disk) c.in-Took.is (h.ensures.handled r.frames r.serves sent) in
    subst (λ p. (new : ServerPart) × Delivers f p p.taken sent.frame (Replied (Single (reply.Took c.in-Took.q))) new × IsServer new (Some h.new.store) h.new.disk c.later-self.result) (sym r.part_is)
    (took f r.frames sent.frame old.stop c.later-self.result h.result.1 h.new.store h.new.disk c.in-Took.q (Replied (Single (reply.Took c.in-Took.q))) ended (Single (reply.Took c.in-Took.q), c.in-Took.q, refl, ended.2, refl) c.later-self.ensures)

pub returns-in-Replied-clause-delivers : goal.returns-in-Replied-clause-delivers
returns-in-Replied-clause-delivers g c = λ part is sent.
    let f = keyed_fn g.K.Keyed.prf g.K.Keyed.pad in
    let h = c.handle-handled in
    let old = c.args.self.now in
    let r = running part c.in-Some.store old.disk old.stop (subst (λ store. IsServer part store old.disk old.stop) (sym c.in-Some.ensures.value) is) in
    let ended = subst (λ x. IsHandled f r.frames sent.frame old.stop x h.result.1 h.new.store h.new.disk) c.in-Replied.is (h.ensures.handled r.frames r.serves sent) in
    subst (λ p. (new : ServerPart) × Delivers f p p.taken sent.frame (Replied c.in-Replied.replies) new × IsServer new (Some h.new.store) h.new.disk old.stop) (sym r.part_is)
    (replied f r.frames sent.frame old.stop old.stop h.result.1 h.new.store h.new.disk r.to_come (Replied c.in-Replied.replies) ended.0 (inr (c.in-Replied.replies, refl, ended.1)) ended.2 refl)

pub returns-in-Stopped-clause-delivers : goal.returns-in-Stopped-clause-delivers
returns-in-Stopped-clause-delivers g c = λ part is sent.
    let f = keyed_fn g.K.Keyed.prf g.K.Keyed.pad in
    let h = c.handle-handled in
    let old = c.args.self.now in
    let r = running part c.in-Some.store old.disk old.stop (subst (λ store. IsServer part store old.disk old.stop) (sym c.in-Some.ensures.value) is) in
    let ended = subst (λ x. IsHandled f r.frames sent.frame old.stop x h.result.1 h.new.store h.new.disk) c.in-Stopped.is (h.ensures.handled r.frames r.serves sent) in
    subst (λ store. (new : ServerPart) × Delivers f part part.taken sent.frame Stopped new × IsServer new store h.new.disk None) (sym c.take.ensures.after)
    (subst (λ p. (new : ServerPart) × Delivers f p p.taken sent.frame Stopped new × IsServer new None h.new.disk None) (sym r.part_is)
    (stopped f r.frames sent.frame old.stop None h.result.1 h.new.store h.new.disk r.serves.is.are_taken ended refl))

pub returns-in-NoMemory-clause-delivers : goal.returns-in-NoMemory-clause-delivers
returns-in-NoMemory-clause-delivers g c = λ part is sent.
    let f = keyed_fn g.K.Keyed.prf g.K.Keyed.pad in
    let h = c.handle-handled in
    let old = c.args.self.now in
    let r = running part c.in-Some.store old.disk old.stop (subst (λ store. IsServer part store old.disk old.stop) (sym c.in-Some.ensures.value) is) in
    let ended = subst (λ x. IsHandled f r.frames sent.frame old.stop x h.result.1 h.new.store h.new.disk) c.in-NoMemory.is (h.ensures.handled r.frames r.serves sent) in
    subst (λ p. (new : ServerPart) × Delivers f p p.taken sent.frame NoMemory new × IsServer new (Some h.new.store) h.new.disk old.stop) (sym r.part_is)
    (no_memory f r.frames sent.frame old.stop old.stop h.result.1 h.new.store h.new.disk r.to_come (taken_or_not (taken_all at_first r.frames) sent.frame sent.grammar) ended refl)

pub returns-in-Broken-clause-delivers : goal.returns-in-Broken-clause-delivers
returns-in-Broken-clause-delivers g c = λ part is sent.
    let f = keyed_fn g.K.Keyed.prf g.K.Keyed.pad in
    let h = c.handle-handled in
    let old = c.args.self.now in
    let r = running part c.in-Some.store old.disk old.stop (subst (λ store. IsServer part store old.disk old.stop) (sym c.in-Some.ensures.value) is) in
    let ended = subst (λ x. IsHandled f r.frames sent.frame old.stop x h.result.1 h.new.store h.new.disk) c.in-Broken.is (h.ensures.handled r.frames r.serves sent) in
    subst (λ store. (new : ServerPart) × Delivers f part part.taken sent.frame Broken new × IsServer new store h.new.disk c.later-self-in-Broken.result) (sym c.take.ensures.after)
    (subst (λ p. (new : ServerPart) × Delivers f p p.taken sent.frame Broken new × IsServer new None h.new.disk c.later-self-in-Broken.result) (sym r.part_is)
    (broken f r.frames sent.frame old.stop c.later-self-in-Broken.result h.result.1 h.new.store h.new.disk r.serves.is.are_taken ended c.later-self-in-Broken.ensures))

pub returns-in-Took-clause-counted : goal.returns-in-Took-clause-counted
returns-in-Took-clause-counted g c =
    let h = c.handle-handled in
    let old = c.args.self.now in
    left_counted old.disk h.new.disk old.stop c.later-self.result h.result.1 (h.ensures.counted (subst HasCalled (sym c.in-Took.is) tt)) c.later-self.ensures

pub returns-in-Broken-clause-counted : goal.returns-in-Broken-clause-counted
returns-in-Broken-clause-counted g c =
    let h = c.handle-handled in
    let old = c.args.self.now in
    left_counted old.disk h.new.disk old.stop c.later-self-in-Broken.result h.result.1 (h.ensures.counted (subst HasCalled (sym c.in-Broken.is) tt)) c.later-self-in-Broken.ensures

pub returns-in-Replied-clause-counted : goal.returns-in-Replied-clause-counted
returns-in-Replied-clause-counted g c =
    let h = c.handle-handled in
    let old = c.args.self.now in
    let is = c.requires.server.1 in
    left_same old.disk h.new.disk old.stop (h.ensures.quiet (subst HasReplied (sym c.in-Replied.is) tt)) (subst (λ s. IfSome s (λ s. 0 < s.call)) is.stop_is is.to_come)
