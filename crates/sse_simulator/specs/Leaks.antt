-- The leakage of each command of a history, and the values that it draws (docs/LEAKAGE.md). No word, document or key is among them.
use Rattle.std.specs.Prelude.{ℕ, Bool, List, Option}
use Rattle.two_level.specs.Shape.{Shape}
use Rattle.sse_frames.specs.Frames.{Entry}

-- where something came first: a command, the setup being command 0, and a place in it: that of a word among the document's
-- words, or of an identifier in a list of the setup
pub record Origin : Type 0 where
  pub command : ℕ
  pub place : ℕ

-- what an update sends for a word: a new entry, a revocation number for the first time, or again the one of this origin
pub data Sent : Type 0 where
  NewEntry : Sent
  Fresh : Sent
  Again : Origin → Sent

-- that the word was searched before, first by this command, and the identifier of the update
pub record Seen : Type 0 where
  pub search : ℕ
  pub id : ℕ

-- what an update shows of a word
pub record WordLeak : Type 0 where
  pub sent : Sent
  pub seen : Option Seen

-- where the setup holds a word: the number of its entry, and the positions of its blocks
pub record Home : Type 0 where
  pub entry : ℕ
  pub blocks : List ℕ

-- a pair that is listed with a searched word: its identifier, what listed it, where its revocation number was first sent,
-- and whether it is revoked
pub record ListedLeak : Type 0 where
  pub id : ℕ
  pub origin : Origin
  pub number : Option Origin
  pub revoked : Bool

pub data Leak : Type 0 where
  -- the shape of the index, and how many entries and blocks it has
  SetupLeak : (shape : Shape) (words blocks : ℕ) → Leak
  -- of each word of the document, in its given order
  AddLeak : (words : List WordLeak) → Leak
  DeleteLeak : (words : List WordLeak) → Leak
  -- the first search of the same word, where the setup holds it, what is listed with it, and the identifiers that it finds
  SearchLeak : (earlier : Option ℕ) (home : Option Home) (listed : List ListedLeak) (found : List ℕ) → Leak

-- a value that is drawn: an entry, or a block with its tag, as it is sent; a revocation number; a token
pub data Draw : Type 0 where
  EntryDraw : Entry → Draw
  BlockDraw : Entry → Draw
  NumberDraw : List ℕ → Draw
  TokenDraw : List ℕ → Draw
