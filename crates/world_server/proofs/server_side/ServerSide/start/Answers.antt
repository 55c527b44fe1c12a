use Rattle.std.proofs.Common.{sym, ap, subst}
use Rattle.std.specs.Prelude.{Err}
use Rattle.world_server.proofs.Counting.{left_started, left_unstarted}
use Rattle.world_server.proofs.Sides.{opened_server, unstarted_server}
use Rattle.world_server.specs.Opening.{IsOpened}
use Rattle.world_server.specs.Sides.{ServerPart, IsServer, Starts, halted}
use Rattle.world_server.proofs.server_side.ServerSide.start.Goals as goal

pub returns-in-Ok : goal.returns-in-Ok
returns-in-Ok g c = record {
  starts = λ part is.
      let o = c.open-opened in
      let h = subst (λ store. IsServer (halted part) store c.halt.new.self.disk c.halt.new.self.stop) c.halt.ensures.store (c.halt.ensures.halts part is) in
      let opened = subst (λ r. IsOpened part.disk c.halt.new.self.stop r o.result.1 o.new.disk) c.in-Ok.is (o.ensures.opened part.disk h.are_taken h.disk_is) in
      opened_server part c.halt.new.self.stop c.later-self.result o.result.1 c.halt.new.self.disk o.new.disk h c.in-Ok.store opened c.later-self.ensures;
  gone = tt;
  counted = λ none not.
      let same = c.halt.ensures.same none in
      let o = c.open-opened in
      left_started o.result.0 c.args.self.now.disk c.halt.new.self.disk o.new.disk c.args.self.now.stop c.halt.new.self.stop c.later-self.result o.result.1 same.0 same.1 o.ensures.counted c.in-Ok.store c.in-Ok.is c.later-self.ensures;
}

pub returns-in-Err : goal.returns-in-Err
returns-in-Err g c = record {
  starts = λ part is.
      let o = c.open-opened in
      let after = c.after_failure-self in
      let h = subst (λ store. IsServer (halted part) store c.halt.new.self.disk c.halt.new.self.stop) c.halt.ensures.store (c.halt.ensures.halts part is) in
      let opened = subst (λ r. IsOpened part.disk c.halt.new.self.stop r o.result.1 o.new.disk) c.in-Err.is (o.ensures.opened part.disk h.are_taken h.disk_is) in
      subst (λ store. (new : ServerPart) × Starts part (Err c.in-Err.why) new × IsServer new store o.new.disk after.result) (sym c.halt.ensures.store)
      (unstarted_server part c.halt.new.self.stop after.result o.result.1 c.halt.new.self.disk o.new.disk h c.in-Err.why opened after.ensures.stopped after.ensures.broken);
  gone = c.halt.ensures.store;
  counted = λ none not.
      let same = c.halt.ensures.same none in
      let o = c.open-opened in
      let after = c.after_failure-self in
      left_unstarted o.result.0 c.args.self.now.disk c.halt.new.self.disk o.new.disk c.args.self.now.stop c.halt.new.self.stop after.result o.result.1 same.0 same.1 o.ensures.counted c.in-Err.why c.in-Err.is after.ensures.broken (λ e. not (ap (λ why. Err why) e));
}
