use Rattle.std.proofs.Common.{Some, sym, ap, ◌∙◌, subst, arith}
use Rattle.keyed_fn.specs.KeyedFn.{keyed_fn}
use Rattle.world_client.proofs.Sent.{sent_sending}
use Rattle.world_client.specs.Clients.{IsClientIn}
use Rattle.world_run.proofs.sending.next_bytes.Goals as goal

pub filled-requires-in-Sending : goal.filled-requires-in-Sending
filled-requires-in-Sending g c =
    let f = keyed_fn g.K.Keyed.prf g.K.Keyed.pad in
    let client = c.requires.client in
    let can = client.3 in
    let is = subst (IsClientIn f client.0 client.1 client.2) c.in-Sending.is can.is in
    let short = can.short c.frame.result.now (sym (sent_sending f client.0 client.1 client.2 c.in-Sending.client c.frame.result.now can.history is c.frame.ensures)) in
    record { room = (c.requires.room.0, c.requires.room.1, omega (arith, short, c.requires.room.2)) }

pub returns-in-Sending : goal.returns-in-Sending
returns-in-Sending g c = record {
  frame = λ first h phase can.
      let f = keyed_fn g.K.Keyed.prf g.K.Keyed.pad in
      ap (λ bytes. Some bytes) c.filled-in-Sending.ensures ∙ sent_sending f first h phase c.in-Sending.client c.frame.result.now can.history (subst (IsClientIn f first h phase) c.in-Sending.is can.is) c.frame.ensures;
}
