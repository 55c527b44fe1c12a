-- A contract's view of a search token: the five keys of a word that a server may know.
use Rattle.std.specs.Prelude.{ℕ, List, [], ◌++◌, take, drop, slice_index_or}
use Rattle.keyed_fn.specs.KeyedFn.{KeyedFn}
use Rattle.keyed_fn.specs.KeyFormulas.{part_key}

-- a word's keys of the parts 1 to 5, each of 32 bytes: for the label of its list, the pads of its list, the
-- labels of its additions, the pads of its additions, and its revocation numbers
pub record TokenKeys : Type 0 where
  pub label_key : List ℕ
  pub pad_key : List ℕ
  pub plus_label_key : List ℕ
  pub plus_pad_key : List ℕ
  pub revocation_key : List ℕ

-- the token of a word under the master key
abbrev pub token_keys : KeyedFn → List ℕ → List ℕ → TokenKeys
token_keys f master word = record {
  label_key = part_key f master 1 word;
  pad_key = part_key f master 2 word;
  plus_label_key = part_key f master 3 word;
  plus_pad_key = part_key f master 4 word;
  revocation_key = part_key f master 5 word;
}

-- five keys, in the order of their parts
abbrev pub keys_in_order : List (List ℕ) → TokenKeys
keys_in_order keys = record {
  label_key = slice_index_or keys 0 [];
  pad_key = slice_index_or keys 1 [];
  plus_label_key = slice_index_or keys 2 [];
  plus_pad_key = slice_index_or keys 3 [];
  revocation_key = slice_index_or keys 4 [];
}

-- the 160 bytes of a token: its keys in the order of their parts
abbrev pub token_bytes : TokenKeys → List ℕ
token_bytes t = t.label_key ++ t.pad_key ++ t.plus_label_key ++ t.plus_pad_key ++ t.revocation_key

-- the token that has these 160 bytes
abbrev pub keys_of_bytes : List ℕ → TokenKeys
keys_of_bytes bytes = record {
  label_key = take 32 bytes;
  pad_key = take 32 (drop 32 bytes);
  plus_label_key = take 32 (drop 64 bytes);
  plus_pad_key = take 32 (drop 96 bytes);
  revocation_key = take 32 (drop 128 bytes);
}
