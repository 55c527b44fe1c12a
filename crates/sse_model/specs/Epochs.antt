-- The keys by which a history's values are made, by epoch.
use Rattle.std.specs.Prelude.{ℕ, List, None, Some}
use Rattle.client_registry.specs.Epochs.{key_now}
use Rattle.client_registry.specs.Run.{History}

-- the key of a history's last epoch, where the first one's is this
abbrev pub key_in : List ℕ → History → List ℕ
key_in key None = key
key_in key (Some es) = key_now key es

-- the same for every epoch: a client knows its last key alone
abbrev pub keys_under : List ℕ → History → ℕ → List ℕ
keys_under key h epoch = key_in key h
