-- The keys of a word, by which all of its values are made.
use Rattle.std.specs.Prelude.{ℕ, List}
use Rattle.keyed_fn.specs.KeyedFn.{KeyedFn}
use Rattle.keyed_fn.specs.KeyFormulas.{part_key}
use Rattle.search_token.specs.TokenKeys.{TokenKeys, token_keys}

-- those of its search token, and the one that tags the places of its blocks
pub record OwnKeys : Type 0 where
  pub token : TokenKeys
  pub place : List ℕ

-- those of a word under the master key
abbrev pub own_keys : KeyedFn → List ℕ → List ℕ → OwnKeys
own_keys f master word = record { token = token_keys f master word; place = part_key f master 6 word }
