-- Two keys under which something is labelled and encrypted: each of a word's additions, and each dummy of a setup.
use Rattle.std.specs.Prelude.{ℕ, List}
use Rattle.keyed_fn.specs.KeyedFn.{KeyedFn}
use Rattle.keyed_fn.specs.KeyFormulas.{part_key, plain_key}

-- a key of labels (and of tags) and a key of pads, each of 32 bytes
pub record KeyPair : Type 0 where
  pub label_key : List ℕ
  pub pad_key : List ℕ

-- the keys of a word's additions: its keys of the parts 3 and 4 under the master key
abbrev pub plus_keys : KeyedFn → List ℕ → List ℕ → KeyPair
plus_keys f master word = record { label_key = part_key f master 3 word; pad_key = part_key f master 4 word }

-- the keys of a setup's dummies: those of the parts 8 and 9 for no word under the master key
abbrev pub dummy_keys : KeyedFn → List ℕ → KeyPair
dummy_keys f master = record { label_key = plain_key f master 8; pad_key = plain_key f master 9 }
