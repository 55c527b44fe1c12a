use Rattle.std.proofs.Common.{◌+◌, ◌==◌, length, refl, sym, subst}
use Rattle.keyed_fn.specs.KeyedFn.{keyed_fn}
use Rattle.world_model.specs.Events.{Deliver, Leads}
use Rattle.world_model.specs.Events as model
use Rattle.world_rules.specs.Promises.{StoreWorld}
use Rattle.world_rules.specs.Rules.{store_rules}
use Rattle.world_server.specs.Sides.{IsServer}
use Rattle.world_server.specs.Waiting.{server_part}
use Rattle.world_server.specs.declared.server_side.Delivered.TheVariants.{Nothing, Replied, Stopped, NoMemory, Broken}
use Rattle.sse_world.specs.Stands.{IsLink, IsServersWork}
use Rattle.sse_world.proofs.Counting.{counted_done, counted_gone, counted_stayed, counted_broken}
use Rattle.sse_world.proofs.Delivering.{message_at, frame_sent, after_reply, after_other, same_after}
use Rattle.sse_world.proofs.server_events.deliver.Goals as goal

pub returns-in_default-clause-leads : goal.returns-in_default-clause-leads
returns-in_default-clause-leads g c = λ key w server link waits.
    let old = c.args.server.now in
    same_after (keyed_fn g.K.Keyed.prf g.K.Keyed.pad) key w c.args.place old.store old.disk old.stop c.args.link.now.sent.frames c.args.link.now.waiting server link (c.get.ensures.none c.in_default.is)

pub deliver-requires-clause-frame : goal.deliver-requires-clause-frame
deliver-requires-clause-frame g c =
    let w = c.requires.world.1 in
    let m = message_at w.sent c.args.link.now.sent.frames c.args.place c.in-Some.frame.now c.requires.world.3.messages c.in-Some.ensures.some in
    frame_sent m.0 c.in-Some.frame.now m.2

pub returns-in-Nothing-clause-leads : goal.returns-in-Nothing-clause-leads
returns-in-Nothing-clause-leads g c = λ key w server link waits.
    let f = keyed_fn g.K.Keyed.prf g.K.Keyed.pad in
    let old = c.args.server.now in
    let new = c.deliver.new.self in
    let m = message_at w.sent c.args.link.now.sent.frames c.args.place c.in-Some.frame.now link.messages c.in-Some.ensures.some in
    after_other f key w c.args.place new.store new.disk new.stop c.args.link.now.sent.frames c.args.link.now.waiting link old.store old.disk old.stop server m.0 c.in-Some.frame.now m.1 m.2 Nothing
    (c.in-Nothing.ensures.delivers (server_part w) server (frame_sent m.0 c.in-Some.frame.now m.2)) (λ now is. is)

pub returns-in-Stopped-clause-leads : goal.returns-in-Stopped-clause-leads
returns-in-Stopped-clause-leads g c = λ key w server link waits.
    let f = keyed_fn g.K.Keyed.prf g.K.Keyed.pad in
    let old = c.args.server.now in
    let new = c.deliver.new.self in
    let m = message_at w.sent c.args.link.now.sent.frames c.args.place c.in-Some.frame.now link.messages c.in-Some.ensures.some in
    after_other f key w c.args.place new.store new.disk new.stop c.args.link.now.sent.frames c.args.link.now.waiting link old.store old.disk old.stop server m.0 c.in-Some.frame.now m.1 m.2 Stopped
    (c.in-Stopped.ensures.delivers (server_part w) server (frame_sent m.0 c.in-Some.frame.now m.2)) (λ now is. is)

pub returns-in-NoMemory-clause-leads : goal.returns-in-NoMemory-clause-leads
returns-in-NoMemory-clause-leads g c = λ key w server link waits.
    let f = keyed_fn g.K.Keyed.prf g.K.Keyed.pad in
    let old = c.args.server.now in
    let new = c.deliver.new.self in
    let m = message_at w.sent c.args.link.now.sent.frames c.args.place c.in-Some.frame.now link.messages c.in-Some.ensures.some in
    after_other f key w c.args.place new.store new.disk new.stop c.args.link.now.sent.frames c.args.link.now.waiting link old.store old.disk old.stop server m.0 c.in-Some.frame.now m.1 m.2 NoMemory
    (c.in-NoMemory.ensures.delivers (server_part w) server (frame_sent m.0 c.in-Some.frame.now m.2)) (λ now is. is)

pub returns-in-Broken-clause-leads : goal.returns-in-Broken-clause-leads
returns-in-Broken-clause-leads g c = λ key w server link waits.
    let f = keyed_fn g.K.Keyed.prf g.K.Keyed.pad in
    let old = c.args.server.now in
    let new = c.deliver.new.self in
    let m = message_at w.sent c.args.link.now.sent.frames c.args.place c.in-Some.frame.now link.messages c.in-Some.ensures.some in
    after_other f key w c.args.place new.store new.disk new.stop c.args.link.now.sent.frames c.args.link.now.waiting link old.store old.disk old.stop server m.0 c.in-Some.frame.now m.1 m.2 Broken
    (c.in-Broken.ensures.delivers (server_part w) server (frame_sent m.0 c.in-Some.frame.now m.2)) (λ now is. is)

pub returns-in-Replied-clause-leads : goal.returns-in-Replied-clause-leads
returns-in-Replied-clause-leads g c = λ key w server link waits.
    let f = keyed_fn g.K.Keyed.prf g.K.Keyed.pad in
    let old = c.args.server.now in
    let new = c.deliver.new.self in
    let sent = c.args.link.now.sent.frames in
    let replies = c.in-Replied.replies in
    let m = message_at w.sent sent c.args.place c.in-Some.frame.now link.messages c.in-Some.ensures.some in
    let after = after_reply f key w c.args.place new.store new.disk new.stop sent c.args.link.now.waiting link old.store old.disk old.stop server m.0 c.in-Some.frame.now m.1 m.2 (Replied replies)
    (c.in-Replied.ensures.delivers (server_part w) server (frame_sent m.0 c.in-Some.frame.now m.2)) replies c.args.waits (c.args.place + 1 == length sent) c.in-Replied.ensures.can refl waits refl in
    subst (λ s. (v : StoreWorld) × Leads (store_rules f key) w (Deliver c.args.place) model.Happened v × IsServersWork w v × IsServer (server_part v) new.store new.disk new.stop × IsLink v s c.keep_reply.new.link.waiting) (sym c.keep_reply.ensures.sent)
    (subst (λ x. (v : StoreWorld) × Leads (store_rules f key) w (Deliver c.args.place) model.Happened v × IsServersWork w v × IsServer (server_part v) new.store new.disk new.stop × IsLink v sent x) (sym c.keep_reply.ensures.waiting) after)

pub returns-in-Replied-clause-counted : goal.returns-in-Replied-clause-counted
returns-in-Replied-clause-counted g c =
    let old = c.args.server.now in
    let new = c.deliver.new.self in
    counted_done old.disk new.disk old.stop new.stop new.store c.in-Replied.ensures.counted

pub returns-in-Stopped-clause-counted : goal.returns-in-Stopped-clause-counted
returns-in-Stopped-clause-counted g c =
    let old = c.args.server.now in
    let new = c.deliver.new.self in
    counted_gone old.disk new.disk old.stop new.stop new.store c.in-Stopped.ensures.counted

pub returns-in-NoMemory-clause-counted : goal.returns-in-NoMemory-clause-counted
returns-in-NoMemory-clause-counted g c =
    let old = c.args.server.now in
    let new = c.deliver.new.self in
    counted_stayed old.disk new.disk old.stop new.stop new.store c.in-NoMemory.ensures.counted

pub returns-in-Broken-clause-counted : goal.returns-in-Broken-clause-counted
returns-in-Broken-clause-counted g c =
    let old = c.args.server.now in
    let new = c.deliver.new.self in
    counted_broken old.disk new.disk old.stop new.stop new.store c.in-Broken.ensures.counted
