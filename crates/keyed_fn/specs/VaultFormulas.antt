-- The slots, pads and tags of a vault, which keeps encrypted texts. They are of no word: slots are made under the key of part
-- 10 for no word, pads under that of part 11, tags under that of part 12. None of these keys leaves the client. Puts are
-- numbered from 0, and each has a slot, a pad and a tag of its own.
use Rattle.std.specs.Prelude.{ℕ, List, ◌++◌, take}
use Rattle.std.specs.Int.{w64, to_be_bytes}
use Rattle.keyed_fn.specs.KeyedFn.{KeyedFn}
use Rattle.keyed_fn.specs.KeyFormulas.{plain_key}

-- the three keys of a vault
pub record VaultSecrets : Type 0 where
  pub slots : List ℕ
  pub pads : List ℕ
  pub tags : List ℕ

-- those of a master key
abbrev pub vault_secrets : KeyedFn → List ℕ → VaultSecrets
vault_secrets f master = record { slots = plain_key f master 10; pads = plain_key f master 11; tags = plain_key f master 12 }

-- the 16-byte slot of put v, under the key of part 10: the function at the number v
abbrev pub vault_slot : KeyedFn → List ℕ → ℕ → List ℕ
vault_slot f key v = take 16 (f.prf key (to_be_bytes w64 v))

-- the pad of put v, of so many bytes, under the key of part 11: pad number v
abbrev pub vault_pad : KeyedFn → List ℕ → ℕ → ℕ → List ℕ
vault_pad f key v len = f.pad key v len

-- the text that a put's tag is made of: the put's number, the identifier, and the encrypted text
abbrev pub tagged_text : ℕ → ℕ → List ℕ → List ℕ
tagged_text v id sealed = to_be_bytes w64 v ++ to_be_bytes w64 id ++ sealed

-- the 32-byte tag of put v, under the key of part 12: the function at that text
abbrev pub vault_tag : KeyedFn → List ℕ → ℕ → ℕ → List ℕ → List ℕ
vault_tag f key v id sealed = f.prf key (tagged_text v id sealed)
