-- The line of a leakage item, in ASCII: numbers in decimal, each further part after a semicolon (docs/FORMATS.md).
use Rattle.std.specs.Prelude.{ℕ, Bool, true, false, List, [], ◌∷◌, ◌++◌, ◌==◌, length, filter, flat_map, codes, decimal, Option, None, Some, if◌then◌else◌}
use Rattle.std.specs.List.{concat, enumerate_from}
use Rattle.two_level.specs.Shape.{Shape}
use Rattle.sse_simulator.specs.Leaks.{Origin, Sent, NewEntry, Fresh, Again, Seen, WordLeak, Home, ListedLeak, Leak, SetupLeak, AddLeak, DeleteLeak, SearchLeak}

-- the word for so many of a kind
abbrev pub plural : ℕ → List ℕ → List ℕ → List ℕ
plural n one many = if n == 1 then one else many

-- each number behind a space
abbrev pub numbers_text : List ℕ → List ℕ
numbers_text numbers = flat_map (λ n. 32 ∷ decimal n) numbers

-- a setup: the counts of its index and the shape
abbrev pub setup_text : Shape → (words blocks : ℕ) → List ℕ
setup_text shape words blocks =
    concat (codes "sets up an index of " ∷ decimal words ∷ codes " " ∷ plural words (codes "entry") (codes "entries") ∷ codes " and " ∷ decimal blocks ∷ codes " " ∷ plural blocks (codes "block") (codes "blocks") ∷ codes ", b " ∷ decimal shape.b ∷ codes ", B " ∷ decimal shape.big ∷ [])

-- whether something is sent for a word for the first time: an entry, or its revocation number
abbrev pub sent_first : Sent → Bool
sent_first NewEntry = true
sent_first Fresh = true
sent_first (Again origin) = false

abbrev pub is_new : WordLeak → Bool
is_new word = sent_first word.sent

-- an update: what it does, the words of the document, and how many of them are new
abbrev pub update_head : (does : List ℕ) (count new : ℕ) → List ℕ
update_head does count new = concat (does ∷ codes " a document of " ∷ decimal count ∷ codes " " ∷ plural count (codes "word") (codes "words") ∷ codes ", " ∷ decimal new ∷ codes " new" ∷ [])

-- a word, by its place in the document, that was searched before, and is new otherwise
abbrev pub seen_text : ℕ → Seen → List ℕ
seen_text place seen =
    concat (codes "; word " ∷ decimal place ∷ codes " was searched by command " ∷ decimal seen.search ∷ codes ", so identifier " ∷ decimal seen.id ∷ codes " shows" ∷ [])

-- a word whose revocation number came first elsewhere, for the same word and document
abbrev pub again_text : ℕ → Origin → Option Seen → List ℕ
again_text place origin None = concat (codes "; word " ∷ decimal place ∷ codes " is word " ∷ decimal origin.place ∷ codes " of command " ∷ decimal origin.command ∷ [])
again_text place origin (Some seen) =
    concat (codes "; word " ∷ decimal place ∷ codes " is word " ∷ decimal origin.place ∷ codes " of command " ∷ decimal origin.command ∷ codes " and was searched by command " ∷ decimal seen.search ∷ codes ", so identifier " ∷ decimal seen.id ∷ codes " shows" ∷ [])

-- nothing is said of a word that is new and wasn't searched
abbrev pub new_text : ℕ → Option Seen → List ℕ
new_text place None = []
new_text place (Some seen) = seen_text place seen

abbrev pub known_text : ℕ → Sent → Option Seen → List ℕ
known_text place NewEntry seen = new_text place seen
known_text place Fresh seen = new_text place seen
known_text place (Again origin) seen = again_text place origin seen

abbrev pub word_text : ℕ → WordLeak → List ℕ
word_text place word = known_text place word.sent word.seen

-- the words of a document, by their places
abbrev pub words_text : List WordLeak → List ℕ
words_text words = flat_map (λ e. word_text e.0 e.1) (enumerate_from 0 words)

abbrev pub update_text : (does : List ℕ) (words : List WordLeak) → List ℕ
update_text does words = update_head does (length words) (length (filter is_new words)) ++ words_text words

-- a search: whether the word was searched before,
abbrev pub earlier_text : Option ℕ → List ℕ
earlier_text None = codes "searches a word for the first time"
earlier_text (Some command) = concat (codes "searches the word of command " ∷ decimal command ∷ codes " again" ∷ [])

-- the positions of its blocks in the setup,
abbrev pub some_blocks_text : List ℕ → List ℕ
some_blocks_text blocks = codes " with blocks" ++ numbers_text blocks

abbrev pub blocks_text : List ℕ → List ℕ
blocks_text blocks = if length blocks == 0 then codes " without blocks" else some_blocks_text blocks

-- and where the setup holds it;
abbrev pub home_text : Option Home → List ℕ
home_text None = codes "; no word of the setup"
home_text (Some home) = concat (codes "; entry " ∷ decimal home.entry ∷ codes " of the setup" ∷ []) ++ blocks_text home.blocks

-- of each pair that is listed with it what listed it, where its revocation number was first sent, and whether it is revoked;
abbrev pub number_text : Option Origin → List ℕ
number_text None = []
number_text (Some origin) = concat (codes ", its number by command " ∷ decimal origin.command ∷ codes " (place " ∷ decimal origin.place ∷ codes ")" ∷ [])

abbrev pub revoked_text : Bool → List ℕ
revoked_text true = codes ", deleted"
revoked_text false = []

abbrev pub origin_text : ℕ → Origin → List ℕ
origin_text id origin = concat (codes "; document " ∷ decimal id ∷ codes ", listed by command " ∷ decimal origin.command ∷ codes " (place " ∷ decimal origin.place ∷ codes ")" ∷ [])

abbrev pub pair_text : ListedLeak → List ℕ
pair_text pair = origin_text pair.id pair.origin ++ number_text pair.number ++ revoked_text pair.revoked

-- and what it finds
abbrev pub found_text : List ℕ → List ℕ
found_text found = concat (codes "; finds " ∷ decimal (length found) ∷ codes ":" ∷ []) ++ numbers_text found

abbrev pub search_text : (earlier : Option ℕ) (home : Option Home) (listed : List ListedLeak) (found : List ℕ) → List ℕ
search_text earlier home listed found = earlier_text earlier ++ home_text home ++ flat_map pair_text listed ++ found_text found

-- what stands behind the number of a command
abbrev pub leak_text : Leak → List ℕ
leak_text (SetupLeak shape words blocks) = setup_text shape words blocks
leak_text (AddLeak words) = update_text (codes "adds") words
leak_text (DeleteLeak words) = update_text (codes "deletes") words
leak_text (SearchLeak earlier home listed found) = search_text earlier home listed found

-- the line of a command, by its number, and its end, byte 0a
abbrev pub text_of_leak : ℕ → Leak → List ℕ
text_of_leak command leak = concat (decimal command ∷ codes ": " ∷ leak_text leak ∷ (10 ∷ []) ∷ [])
