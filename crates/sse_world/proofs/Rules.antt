-- The store's rules say of a server what the store's server does.
use Rattle.std.proofs.Common.{◌≡◌, ℕ, Bool, true, false, List, refl, ap}
use Rattle.std.specs.Option.{option_map_or}
use Rattle.keyed_fn.specs.KeyedFn.{KeyedFn}
use Rattle.world_rules.proofs.Taken.{taken_if, taken_only_if}
use Rattle.world_rules.specs.Rules.{store_rules, takes}
use Rattle.world_server.specs.Waiting.{AreServerRules}

pub server_rules : (f : KeyedFn) (key : List ℕ) → AreServerRules f (store_rules f key)
server_rules f key = record {
  takes = λ taken frame is. taken_only_if f key taken frame is;
  refuses = λ taken frame grammar not. refused (takes f key taken frame) (λ e. not (taken_if f key taken frame grammar e));
  number = λ frame q e. ap (λ o. option_map_or (λ n. n) o 0) e;
  answer = λ taken frame. refl;
}
  where
    refused : (b : Bool) → (b ≡ true → ⊥) → b ≡ false
    refused true not = absurd (not refl)
    refused false not = refl
