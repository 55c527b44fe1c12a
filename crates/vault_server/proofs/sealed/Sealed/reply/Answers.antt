use Rattle.std.proofs.Common.{◌≤◌, ap, length, subst, arith}
use Rattle.std.specs.Prelude.{vec_len}
use Rattle.vault_server.specs.VaultState.{Held}
use Rattle.vault_server.proofs.sealed.Sealed.reply.Goals as goal

pub returns-clause-short : goal.returns-clause-short
returns-clause-short c =
    let least : vec_len c.self.inside.text ≤ 65547 = c.self.invariant in
    let few : length c.self.inside.text.items ≤ 65547 = omega (arith, least, c.as_slice.ensures.len, ap length c.as_slice.ensures.value) in
    subst (λ (held : Held). length held.sealed ≤ 65547) c.self.view_is few
