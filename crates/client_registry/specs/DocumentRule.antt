-- The words that make a document, and the first cause why others don't (docs/FORMATS.md).
use Rattle.std.specs.Prelude.{◌≡◌, ℕ, ◌^◌, ◌<◌, ◌≤◌, nat_lt, List, length, All, Option, None, Some, option_map, if◌then◌else◌}
use Rattle.client_registry.specs.Document.{Document}
use Rattle.client_registry.specs.FirstClash.{first_clash}
use Rattle.client_registry.specs.WordRule.{word_refusal}
use Rattle.client_registry.specs.declared.faults.DocFault.{DocFault}
use Rattle.client_registry.specs.declared.faults.DocFault.TheVariants.{TooManyWords, RepeatedWord}

-- the least position whose word stands earlier
abbrev pub first_repeat : List (List ℕ) → Option ℕ
first_repeat words = option_map (λ places. places.1) (first_clash words)

-- why these words are no document's: the first of these causes that stands
abbrev pub doc_refusal : List (List ℕ) → Option DocFault
doc_refusal words =
    if nat_lt 4096 (length words) then Some (TooManyWords (length words))
    else option_map (λ position. RepeatedWord position) (first_repeat words)

-- what is so of each document: an identifier of 1 to 2^64-1, and at most 4,096 words, no two of them equal
pub record IsDocument (d : Document) : Type 0 where
  pub some : 1 ≤ d.id
  pub fits : d.id < 2 ^ 64
  pub accepted : doc_refusal d.words ≡ None
  pub are_words : All (λ word. word_refusal word ≡ None) d.words
