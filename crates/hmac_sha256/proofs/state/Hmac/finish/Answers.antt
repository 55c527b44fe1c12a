use Rattle.std.proofs.Common.{◌++◌, ap, ◌∙◌}
use Rattle.sha2.specs.Sha256.{sha256}
use Rattle.hmac_sha256.specs.Fips198.{hmac_of, key_block_of, masked}
use Rattle.hmac_sha256.proofs.state.Hmac.finish.Goals as goal

pub returns : goal.returns
unfolding hmac_of
returns c = λ key text held.
    c.finalize.ensures _ (c.update.ensures _ held.outer)
    ∙ ap (λ digest. sha256 (masked (key_block_of key) 0x5c ++ digest)) (c.as_slice.ensures ∙ c.finalize-digest.ensures _ held.inner)
