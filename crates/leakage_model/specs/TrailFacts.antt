-- The answers of a trail about each word, and the commands that it followed.
use Rattle.std.specs.Prelude.{◌≡◌, ℕ, ◌+◌, List, [], length, map, bytes_eq, None, unwrap_or, if◌then◌else◌}
use Rattle.std.specs.List.{list_any}
use Rattle.std.specs.Map.{lookup}
use Rattle.indexmap.specs.IndexMap.{hasher_of}
use Rattle.client_registry.specs.Command.{Command}
use Rattle.client_registry.proofs.OrderLaws.{AreApart}
use Rattle.client_registry.specs.Document.{Document}
use Rattle.client_registry.specs.HashNumbers.{hash_numbers}
use Rattle.client_registry.specs.Live.{live}
use Rattle.client_registry.specs.Registered.{Represents}
use Rattle.client_registry.specs.Run.{Offsets}
use Rattle.client_registry.specs.Setup.{Setup, setup_of}
use Rattle.client_registry.specs.WordBytes.{word_bytes}
use Rattle.client_registry.specs.declared.word.Word.{Word}
use Rattle.def_leakage.specs.Firsts.{place_of}
use Rattle.def_leakage.specs.CommandLeaks.{home}
use Rattle.two_level.specs.Shape.{Shape}
use Rattle.leakage_model.specs.WordFacts.{WordFacts, unnamed, word_facts}
use Rattle.leakage_model.specs.declared.trail.Trail.{Trail}

-- what these entries tell of a word
abbrev pub facts_in : List (Word × WordFacts) → List ℕ → WordFacts
facts_in entries word = unwrap_or (lookup (λ w. bytes_eq word (word_bytes w)) entries) unnamed

-- these entries tell of each word what a server can know of it after a setup and these commands, where their run begins
abbrev pub Tells : List (Word × WordFacts) → Offsets → Setup → List Command → Type 0
Tells entries o s past = (word : List ℕ) → facts_in entries word ≡ word_facts o s past word

-- a trail is that of a setup and these commands after it, where their run begins
pub record Follows (t : Trail) (o : Offsets) (s : Setup) (past : List Command) : Type 0 where
  pub words : Tells t.words.entries o s past
  pub registry : Represents t.registry s past
  -- the number of the next command
  pub next : t.next ≡ o.command + 1 + length past
  -- live documents have different identifiers
  pub apart : AreApart (map (λ d. d.id) (live s.documents past))

-- both tables of a trail hash under these two numbers
pub record HashesUnder (t : Trail) (keys : ℕ × ℕ) : Type 0 where
  pub words : hash_numbers (hasher_of t.words) ≡ keys
  pub registry : t.registry.keys ≡ keys

-- these entries tell of each word where the setup of these documents holds it, and nothing else
abbrev pub IsPlaced : List (Word × WordFacts) → List Document → Shape → Type 0
IsPlaced entries docs shape = (word : List ℕ) → facts_in entries word ≡ record { search = None; home = home (setup_of docs shape.b shape.big) word; listed = [] }

-- between these entries and those, the word alone has changed, as f says
abbrev pub ChangesAt : (old new : List (Word × WordFacts)) → List ℕ → (WordFacts → WordFacts) → Type 0
ChangesAt old new word f = (w : List ℕ) → facts_in new w ≡ (if bytes_eq w word then f (facts_in old w) else facts_in old w)

-- between these entries and those, each of these words has changed, as f says of its place among them
abbrev pub ChangesEach : (old new : List (Word × WordFacts)) → List (List ℕ) → (ℕ → WordFacts → WordFacts) → Type 0
ChangesEach old new words f = (w : List ℕ) → facts_in new w ≡ (if list_any (bytes_eq w) words then f (place_of w words) (facts_in old w) else facts_in old w)
