use Rattle.std.proofs.Common.{Err, subst, arith}
use Rattle.keyed_fn.specs.KeyedFn.{keyed_fn}
use Rattle.sse_frames.specs.Replies as replies
use Rattle.sse_link.specs.BadFrames.{bad_reason}
use Rattle.server_connections.specs.ConnectionSteps.{IsReplied}
use Rattle.tcp_service.proofs.DiskCauses.{disk-more}
use Rattle.server_connections.proofs.DiskCauses.{disk-refused, disk-replied}
use Rattle.server_connections.proofs.ConnectionStepLaws.{Goes-more, Goes-refused, Goes-turn}
use Rattle.server_connections.proofs.Pages.{lent_page}
use Rattle.server_connections.proofs.connection.advance.Goals as goal

-- more was read
pub returns-in-Part-clause-goes : goal.returns-in-Part-clause-goes
returns-in-Part-clause-goes g c =
    let front = c.in-Part.ensures.fronted in
    Goes-more (keyed_fn g.K.Keyed.prf g.K.Keyed.pad) g.S.Keeps.state g.S.Keeps.lasts _ _ _ _ _ _ _ _ _ _ _ front.0 front.1 front.2 front.3 c.more.ensures.came

-- it was no frame
pub returns-in-Bad-clause-goes : goal.returns-in-Bad-clause-goes
returns-in-Bad-clause-goes g c =
    let front = c.in-Bad.ensures.fronted in
    Goes-refused (keyed_fn g.K.Keyed.prf g.K.Keyed.pad) g.S.Keeps.state g.S.Keeps.lasts _ _ _ _ c.take_front.new.incoming _ _ _ _ _ _ front.0 front.2 front.3 c.refuse.ensures.refused

-- a frame was answered, from the page that was lent
pub returns-in-Whole-clause-goes : goal.returns-in-Whole-clause-goes
returns-in-Whole-clause-goes g c =
    let front = c.in-Whole.ensures.fronted in
    let lent = lent_page c.take_front.new.page c.args.outgoing.now.page.items c.args.outgoing.now.page.len (omega (arith, c.args.outgoing.now.page.ok.0, c.take_front.ensures.long)) in
    Goes-turn (keyed_fn g.K.Keyed.prf g.K.Keyed.pad) g.S.Keeps.state g.S.Keeps.lasts _ _ _ _ _ _ _ _ _ front.0 _ c.take_front.new.page _ front.1 front.2 front.3 front.4
    (subst (λ page. IsReplied (keyed_fn g.K.Keyed.prf g.K.Keyed.pad) (g.O.Sink.written c.args.conn.now.sink) (g.O.Sink.written c.reply.new.sink) (g.S.Keeps.state c.take_front.new.store) c.in-Whole.answer page c.reply.result) lent c.reply.ensures.replied)

-- The disk.

pub returns-in-Part-clause-disk_cause : goal.returns-in-Part-clause-disk_cause
returns-in-Part-clause-disk_cause g c = disk-more _ _ _ _ _ _ _ _ c.more.result c.more.ensures.came c.in-Part.ensures.disk

pub returns-in-Bad-clause-disk_cause : goal.returns-in-Bad-clause-disk_cause
returns-in-Bad-clause-disk_cause g c = disk-refused _ _ _ _ _ _ (replies.BadFrame (bad_reason (Err c.in-Bad.fault))) _ c.refuse.ensures.refused c.in-Bad.ensures.disk

pub returns-in-Whole-clause-disk_cause : goal.returns-in-Whole-clause-disk_cause
returns-in-Whole-clause-disk_cause g c = disk-replied _ _ _ _ (keyed_fn g.K.Keyed.prf g.K.Keyed.pad) _ _ (g.S.Keeps.state c.take_front.new.store) _ _ _ c.reply.ensures.replied c.in-Whole.ensures.disk
