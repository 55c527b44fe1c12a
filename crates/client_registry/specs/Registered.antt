-- The contents of a registry, and the facts that it answers.
use Rattle.std.specs.Prelude.{◌≡◌, ◌+◌, ◌≤◌, ℕ, true, false, ◌==◌, List, All, length, map, take, find, bytes_eq, unwrap_or, option_map, option_and_then, Option, Some}
use Rattle.std.specs.List.{list_any}
use Rattle.std.specs.Map.{lookup}
use Rattle.std.specs.Option.{option_map_or}
use Rattle.client_registry.specs.Command.{Command}
use Rattle.client_registry.specs.Document.{Document}
use Rattle.client_registry.specs.Facts.{Facts, facts_of}
use Rattle.client_registry.specs.Numbered.{words_by_number}
use Rattle.client_registry.specs.Setup.{Setup}

-- what is kept of an identifier: the numbers of the words that were ever listed with it, and how many of them, from the
-- front on, are those of its live document, where there is one
pub record Kept : Type 0 where
  pub id : ℕ
  pub numbers : List ℕ
  pub live : Option ℕ

-- each word at its number, with its counter; what is kept of each identifier; for how many numbers there is memory; and the
-- two numbers under which identifiers and words are hashed
pub record Registered : Type 0 where
  pub counts : List (List ℕ × ℕ)
  pub kept : List Kept
  pub room : ℕ
  pub keys : ℕ × ℕ

-- the words, each at its number
abbrev pub known_words : Registered → List (List ℕ)
known_words r = map (λ e. e.0) r.counts

-- what is kept of this identifier
abbrev pub kept_of : Registered → ℕ → Option Kept
kept_of r id = find (λ k. id == k.id) r.kept

-- the facts that a registry tells
abbrev pub facts : Registered → Facts
facts r = record {
  live = λ id. option_and_then (λ k. option_map (λ n. words_by_number (known_words r) (take n k.numbers)) k.live) (kept_of r id);
  listed = λ word id. option_map_or (λ k. list_any (bytes_eq word) (words_by_number (known_words r) k.numbers)) (kept_of r id) false;
  counter = λ word. unwrap_or (lookup (bytes_eq word) r.counts) 0;
}

-- a registry tells the facts of a setup and the commands after it
abbrev pub Represents : Registered → Setup → List Command → Type 0
Represents r s past = facts r ≡ facts_of s past

-- words keep their numbers
abbrev pub KeepsNumbers : Registered → Registered → Type 0
KeepsNumbers old new = take (length (known_words old)) (known_words new) ≡ known_words old

-- an addition of the document takes no memory: its words are numbered, its identifier has an entry, and there is room for
-- the numbers of its words and of those listed before
pub record HasRoom (r : Registered) (d : Document) : Type 0 where
  pub numbered : All (λ word. list_any (bytes_eq word) (known_words r) ≡ true) d.words
  pub entry : (k : Kept) × (kept_of r d.id ≡ Some k) × (length d.words + length k.numbers ≤ r.room)
