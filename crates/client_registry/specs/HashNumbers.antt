-- The keys of a client's hasher.
use Rattle.std.specs.Prelude.{ℕ}
use Rattle.std.specs.Hash.DefaultHasher.{with_keys}
use Rattle.std.specs.declared.hash.DefaultHasher.{DefaultHasher}
use Rattle.client_registry.specs.declared.hash_keys.HashKeys.{HashKeys}

-- the two numbers of a client's hasher
abbrev pub hash_numbers : HashKeys → ℕ × ℕ
hash_numbers keys = (keys.first, keys.second)

-- the hasher before anything is written: SipHash-1-3 under the two numbers
abbrev pub hasher_under : HashKeys → DefaultHasher
hasher_under keys = with_keys keys.first keys.second
