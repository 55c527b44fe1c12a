-- The meaning of the fields of a registry.
use Rattle.std.specs.Prelude.{◌≡◌, ◌<◌, ◌≤◌, ◌-◌, ◌^◌, ℕ, List, [], All, length, map, take, drop, min, unwrap_or, vec_capacity, slice_index, Some, bytes_eq}
use Rattle.std.specs.List.{IsDistinct}
use Rattle.std.specs.List.Sorted.{IsNonDecreasing}
use Rattle.indexmap.specs.IndexMap.{hasher_of}
use Rattle.client_registry.specs.DocumentRule.{IsDocument}
use Rattle.client_registry.specs.HashNumbers.{hash_numbers}
use Rattle.client_registry.specs.IdNumber.{id_number}
use Rattle.client_registry.specs.Numbered.{words_by_number}
use Rattle.client_registry.specs.Registered.{Kept, Registered}
use Rattle.client_registry.specs.Tally.{counts_of}
use Rattle.client_registry.specs.WordTable.{table_words}
use Rattle.client_registry.specs.declared.doc_id.DocId.{DocId}
use Rattle.client_registry.specs.declared.listed.Listed.{Listed}
use Rattle.client_registry.specs.declared.registry.Registry.TheInside.{Inside}

-- what is kept of an identifier
abbrev pub kept_entry : DocId × Listed → Kept
kept_entry e = record { id = id_number e.0; numbers = e.1.numbers.items; live = e.1.live }

-- what contracts see of a registry
abbrev pub registered_of : Inside → Registered
registered_of r = record {
  counts = counts_of r.words.entries;
  kept = map kept_entry r.documents.entries;
  room = min (vec_capacity r.next) (vec_capacity r.again);
  keys = hash_numbers (hasher_of r.words);
}

-- what is so of all that is kept of an identifier, beside so many words
pub record IsKept (words : List (List ℕ)) (k : Kept) : Type 0 where
  -- the numbers lie in the table
  pub numbered : All (λ n. n < length words) k.numbers
  -- those of the live document are some of them
  pub within : unwrap_or k.live 0 ≤ length k.numbers
  -- the others rise
  pub in_order : IsNonDecreasing (drop (unwrap_or k.live 0) k.numbers)
  -- and the live document keeps the limits of a document
  pub valid : (n : ℕ) → k.live ≡ Some n → IsDocument (record { id = k.id; words = words_by_number words (take n k.numbers) })

-- words stand once, what is kept of each identifier is sound, identifiers are hashed as words are, and counters are bounded
pub record IsSound (r : Inside) : Type 0 where
  pub words_differ : IsDistinct bytes_eq (table_words r.words.entries)
  pub kept : All (λ e. IsKept (table_words r.words.entries) (kept_entry e)) r.documents.entries
  pub few : length r.words.entries < 2 ^ 32
  pub next : r.next.items ≡ []
  pub again : r.again.items ≡ []
  pub hashers : hasher_of r.documents ≡ hasher_of r.words
  -- and no counter is more than `most`, unless that is 2 ^ 32 - 1
  pub bound : r.most < 2 ^ 32 - 1 → (n : ℕ) → slice_index (map (λ e. e.1) (counts_of r.words.entries)) n ≤ r.most
