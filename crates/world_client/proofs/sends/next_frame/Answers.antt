use Rattle.std.proofs.Common.{Some, ap, ◌∙◌, subst}
use Rattle.keyed_fn.specs.KeyedFn.{keyed_fn}
use Rattle.world_client.proofs.Sent.{sent_sending}
use Rattle.world_client.specs.Clients.{IsClientIn}
use Rattle.world_client.proofs.sends.next_frame.Goals as goal

pub returns-in_ok-copied-in-Sending : goal.returns-in_ok-copied-in-Sending
returns-in_ok-copied-in-Sending g c = record {
  frame = λ first h phase of is.
      let f = keyed_fn g.K.Keyed.prf g.K.Keyed.pad in
      ap (λ bytes. Some bytes) c.in_ok-copied-in-Sending.ensures ∙ sent_sending f first h phase c.in-Sending.client c.frame.result.now of (subst (IsClientIn f first h phase) c.in-Sending.is is) c.frame.ensures;
}
