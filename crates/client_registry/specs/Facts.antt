-- The facts of a history that a client needs to plan its next command: the live documents, the listed pairs, and the counter of each word.
use Rattle.std.specs.Prelude.{ℕ, ◌+◌, ◌-◌, ◌^◌, Bool, not, ◌&&◌, ◌||◌, ◌==◌, nat_lt, List, find, Option, None, Some, option_map, if◌then◌else◌}
use Rattle.std.specs.List.{list_all}
use Rattle.client_registry.specs.Command.{Command, Add, Delete, Search}
use Rattle.client_registry.specs.Document.{Document}
use Rattle.client_registry.specs.Documents.{has_word}
use Rattle.client_registry.specs.Live.{live, is_listed, counter}
use Rattle.client_registry.specs.Setup.{Setup}

pub record Facts : Type 0 where
  -- the words of the live document of an identifier, where there is one
  pub live : ℕ → Option (List (List ℕ))
  -- whether the pair of a word and an identifier was ever listed
  pub listed : List ℕ → ℕ → Bool
  -- how many pairs of a word were first listed by an addition
  pub counter : List ℕ → ℕ

-- the words of the document of this identifier, where there is one
abbrev pub words_with_id : List Document → ℕ → Option (List (List ℕ))
words_with_id docs id = option_map (λ d. d.words) (find (λ d. id == d.id) docs)

-- the facts of a setup and the commands after it
abbrev pub facts_of : Setup → List Command → Facts
facts_of s past = record {
  live = words_with_id (live s.documents past);
  listed = is_listed s past;
  counter = counter s past;
}

-- the facts after one more command
abbrev pub facts_after : Facts → Command → Facts
facts_after f (Add d) = record {
  live = λ id. if id == d.id then Some d.words else f.live id;
  listed = λ word id. f.listed word id || d.id == id && has_word word d;
  counter = λ word. f.counter word + (if has_word word d && not (f.listed word d.id) then 1 else 0);
}
facts_after f (Delete id) = record {
  live = λ other. if other == id then None else f.live other;
  listed = f.listed;
  counter = f.counter;
}
facts_after f (Search word) = f

-- whether the pair of a word and an identifier is listed, or the word isn't at its last counter
abbrev pub has_counter : Facts → ℕ → List ℕ → Bool
has_counter f id word = f.listed word id || nat_lt (f.counter word) (2 ^ 32 - 1)

-- the same of each word of a document
abbrev pub has_counters : Facts → Document → Bool
has_counters f d = list_all (has_counter f d.id) d.words
