use Rattle.std.proofs.Common.{◌<◌, arith, slice_index, subst}
use Rattle.vault_server.proofs.sealed.body_reply.Goals as goal

pub returns-clause-grammar : goal.returns-clause-grammar
returns-clause-grammar c = record {
  tag_is = record { size_is = c.told-tag; each = λ i. subst (λ bytes. slice_index bytes i < 256) c.as_slice.ensures (c.are_bytes.ensures.tag i) };
  sealed_is = record { size = omega (arith, c.requires); each = c.are_bytes.ensures.sealed };
}
