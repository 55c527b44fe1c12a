-- What a client makes of an encrypted text that it receives.
use Rattle.std.specs.Prelude.{ℕ, List, length, bytes_eq, nat_le, if◌then◌else◌}
use Rattle.keyed_fn.specs.KeyedFn.{KeyedFn}
use Rattle.keyed_fn.specs.VaultFormulas.{VaultSecrets, vault_pad, vault_tag}
use Rattle.keyed_fn.specs.Xored.{xored}

pub data Fetched : Type 0 where
  -- the tag is right, and this is the text
  Opened : (text : List ℕ) → Fetched
  -- the tag is right, and the text has more than 65,536 bytes
  Oversized : Fetched
  -- the tag is wrong
  Forged : Fetched

-- its tag is tested before its length: the tag is that of put v, the identifier and the encrypted text as it was received
abbrev pub fetched_text : KeyedFn → VaultSecrets → (v id : ℕ) → (tag sealed : List ℕ) → Fetched
fetched_text f keys v id tag sealed =
    if bytes_eq tag (vault_tag f keys.tags v id sealed) then
    (if nat_le (length sealed) 65536 then Opened (xored sealed (vault_pad f keys.pads v (length sealed))) else Oversized)
    else Forged
