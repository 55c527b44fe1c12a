-- The entry of an addition, under the two keys of its word.
use Rattle.std.specs.Prelude.{ℕ}
use Rattle.keyed_fn.specs.KeyedFn.{KeyedFn}
use Rattle.keyed_fn.specs.KeyFormulas.{plus_label, plus_pad}
use Rattle.keyed_fn.specs.Xored.{xored}
use Rattle.sse_frames.specs.Frames.{be64, Entry as Text}
use Rattle.word_keys.specs.KeyPair.{KeyPair}
use Rattle.add_counters.specs.declared.entry.Entry.{Entry}

-- the entry of addition c of a word, under the word's keys of additions: its label, and the identifier, 8 bytes, high
-- byte first, under its pad
abbrev pub new_entry : KeyedFn → KeyPair → ℕ → ℕ → Text
new_entry f keys c id = record { label = plus_label f keys.label_key c; text = xored (be64 id) (plus_pad f keys.pad_key c) }

-- what an entry is on the wire
abbrev pub entry_text : Entry → Text
entry_text entry = record { label = entry.label; text = entry.sealed }
