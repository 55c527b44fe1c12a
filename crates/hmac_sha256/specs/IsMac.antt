-- The texts that the states of HMAC have taken in.
use Rattle.std.specs.Prelude.{ℕ, List, ◌++◌}
use Rattle.sha2.specs.Hashers.{Holds256}
use Rattle.hmac_sha256.specs.Fips198.{key_block_of, masked}
use Rattle.hmac_sha256.specs.declared.hmac_key.HmacKey.{HmacKey}
use Rattle.hmac_sha256.specs.declared.state.Hmac.{Hmac}

-- the key is that of these bytes, prepared: the states of both hashes are behind its block
pub record IsHmacKey (prepared : HmacKey) (key : List ℕ) : Type 0 where
  pub inner : Holds256 prepared.inner (masked (key_block_of key) 0x36)
  pub outer : Holds256 prepared.outer (masked (key_block_of key) 0x5c)

-- the state is that of this key after this text
pub record IsMac (state : Hmac) (key text : List ℕ) : Type 0 where
  pub inner : Holds256 state.inner (masked (key_block_of key) 0x36 ++ text)
  pub outer : Holds256 state.outer (masked (key_block_of key) 0x5c)
