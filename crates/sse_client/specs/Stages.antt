-- The keys of a session, and the marks of its epochs.
use Rattle.std.specs.Prelude.{ℕ, List, []}
use Rattle.keyed_fn.specs.KeyFormulas.{plain_key}
use Rattle.keyed_fn.specs.KeyedFn.{KeyedFn}
use Rattle.word_keys.specs.HashNumbers.{numbers_of_key}
use Rattle.sse_client.specs.declared.session.Stage.{Stage}
use Rattle.sse_client.specs.declared.session.Stage.TheVariants.{Collecting, Searching}

-- the key of the client that it holds
abbrev pub key_of : Stage → List ℕ
key_of (Collecting client docs) = client.key
key_of (Searching client) = client.key

-- the two numbers under which its tables hash identifiers and words
abbrev pub hash_keys_of : Stage → ℕ × ℕ
hash_keys_of (Collecting client docs) = docs.keys
hash_keys_of (Searching client) = client.state.registry.keys

-- the marks of the keys of its epochs; before the setup it keeps none
abbrev pub marks_of : Stage → List (List ℕ)
marks_of (Collecting client docs) = []
marks_of (Searching client) = client.state.past.marks.items

-- those of a master key, which are its part 13
abbrev pub hash_keys_under : KeyedFn → List ℕ → ℕ × ℕ
hash_keys_under f key = numbers_of_key (plain_key f key 13)
