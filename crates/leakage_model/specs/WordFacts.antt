-- A server's knowledge of a word: the leakage of its search, and the effect of an update or a search on it.
use Rattle.std.specs.Prelude.{ℕ, Bool, true, false, ◌==◌, List, [], ◌∷◌, ◌++◌, length, map, filter, find, not, Option, None, Some, if◌then◌else◌}
use Rattle.std.specs.List.{list_any}
use Rattle.std.specs.Option.{option_or, option_and_then}
use Rattle.client_registry.specs.Command.{Command}
use Rattle.client_registry.specs.Run.{Offsets}
use Rattle.client_registry.specs.Setup.{Setup}
use Rattle.def_leakage.specs.Firsts.{first_search, origin}
use Rattle.def_leakage.specs.CommandLeaks.{home, listed_pairs, pair_leak, sent_at, seen_by}
use Rattle.sse_simulator.specs.Leaks.{Home, Leak, SearchLeak, ListedLeak, NewEntry, Origin, WordLeak}

pub record WordFacts : Type 0 where
  -- the first search of the word
  pub search : Option ℕ
  -- where the setup holds it
  pub home : Option Home
  -- the pairs that are listed with it, in the order in which they were
  pub listed : List ListedLeak

-- of a word that no command named
abbrev pub unnamed : WordFacts
unnamed = record { search = None; home = None; listed = [] }

-- the pairs of a word after a setup and these commands
abbrev pub listed_leaks : Offsets → Setup → List Command → List ℕ → List ListedLeak
listed_leaks o s past word = map (pair_leak o s past word) (listed_pairs o s past word)

-- of a word after a setup and these commands, where their run begins
abbrev pub word_facts : Offsets → Setup → List Command → List ℕ → WordFacts
word_facts o s past word = record {
  search = first_search o past word;
  home = home s word;
  listed = listed_leaks o s past word;
}

-- whether one of these pairs has the identifier
abbrev pub lists : ℕ → List ListedLeak → Bool
lists id pairs = list_any (λ p. id == p.id) pairs

-- where the revocation number of the identifier was first sent
abbrev pub number_among : ℕ → List ListedLeak → Option Origin
number_among id pairs = option_and_then (λ p. p.number) (find (λ p. id == p.id) pairs)

-- a pair whose number is sent there, and that is revoked then or not
abbrev pub sent_pair : Origin → Bool → ListedLeak → ListedLeak
sent_pair there revoked p = record { id = p.id; origin = p.origin; number = option_or p.number (Some there); revoked = revoked }

-- the same of the pair of this identifier among these
abbrev pub sent_among : ℕ → Origin → Bool → List ListedLeak → List ListedLeak
sent_among id there revoked pairs = map (λ p. if id == p.id then sent_pair there revoked p else p) pairs

-- a pair that is listed there
abbrev pub new_pair : ℕ → Origin → ListedLeak
new_pair id there = record { id = id; origin = there; number = None; revoked = false }

-- an addition lists the pair, or sends its number
abbrev pub listed_with : ℕ → Origin → List ListedLeak → List ListedLeak
listed_with id there pairs = if lists id pairs then sent_among id there false pairs else pairs ++ new_pair id there ∷ []

-- after an addition with this identifier, in which the word stands there
abbrev pub added_at : ℕ → Origin → WordFacts → WordFacts
added_at id there f = record { search = f.search; home = f.home; listed = listed_with id there f.listed }

-- after a deletion of this identifier, in which the word stands there
abbrev pub deleted_at : ℕ → Origin → WordFacts → WordFacts
deleted_at id there f = record { search = f.search; home = f.home; listed = sent_among id there true f.listed }

-- after a search of the word by this command
abbrev pub searched_by : ℕ → WordFacts → WordFacts
searched_by command f = record { search = option_or f.search (Some command); home = f.home; listed = f.listed }

-- after a document with this identifier, which holds the word, of a setup that is the command of this number
abbrev pub set_up_with : (first : ℕ) → ℕ → WordFacts → WordFacts
set_up_with first id f = record { search = f.search; home = f.home; listed = listed_with id (origin first (length f.listed)) f.listed }

-- What an addition with this identifier shows of the word, and what a deletion of it.
abbrev pub added_leak : ℕ → WordFacts → WordLeak
added_leak id f = record { sent = if lists id f.listed then sent_at (number_among id f.listed) else NewEntry; seen = seen_by id f.search }

abbrev pub deleted_leak : ℕ → WordFacts → WordLeak
deleted_leak id f = record { sent = sent_at (number_among id f.listed); seen = seen_by id f.search }

-- what a search of the word shows
abbrev pub search_leak : WordFacts → Leak
search_leak f = SearchLeak f.search f.home f.listed (map (λ p. p.id) (filter (λ p. not p.revoked) f.listed))

-- with the place where the setup holds the word
abbrev pub placed_at : Home → WordFacts → WordFacts
placed_at home f = record { search = f.search; home = Some home; listed = f.listed }
