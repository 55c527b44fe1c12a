-- The values that a run draws: the purpose of each, and its bytes under a table.
use Rattle.std.specs.Prelude.{ℕ, not, List, [], ◌∷◌, ◌++◌, map, filter, if◌then◌else◌}
use Rattle.std.specs.List.{list_any}
use Rattle.client_registry.specs.Command.{Command, Add, Delete, Search}
use Rattle.client_registry.specs.Live.{live}
use Rattle.client_registry.specs.Over.{over}
use Rattle.client_registry.specs.Run.{Run, Offsets}
use Rattle.client_registry.specs.Setup.{Setup}
use Rattle.sse_model.specs.Drawn.{was_sent, searches_for}
use Rattle.sse_model.specs.Names.{Name, Table, name, Revocation, Token}
use Rattle.sse_model.specs.Positions.{Position, entry_positions, block_positions, addition_positions, sealed, ranks_of}
use Rattle.sse_model.specs.Wire.{labels_in, words_live}
use Rattle.sse_simulator.specs.Leaks.{Draw, EntryDraw, BlockDraw, NumberDraw, TokenDraw}

-- what a value is drawn for: an encrypted text of an entry or a block, a revocation number, or a token
pub data Drawing : Type 0 where
  ForEntry : Position → Drawing
  ForBlock : Position → Drawing
  ForNumber : Name → Drawing
  ForToken : Name → Drawing

-- the names whose values it takes
abbrev pub names_in : Drawing → List Name
names_in (ForEntry p) = p.label ∷ p.pad ∷ []
names_in (ForBlock p) = p.label ∷ p.pad ∷ []
names_in (ForNumber n) = n ∷ []
names_in (ForToken n) = n ∷ []

-- Promise P148, also here
-- what is drawn for it under a table, the setup's blocks having these ranks: a label and a plaintext XORed with its pad, or the
-- value of a name; no plaintext comes in anywhere else
abbrev pub draw : Table → (ranks : List ℕ) → Drawing → Draw
draw t ranks (ForEntry p) = EntryDraw (sealed t ranks p)
draw t ranks (ForBlock p) = BlockDraw (sealed t ranks p)
draw t ranks (ForNumber n) = NumberDraw (t n)
draw t ranks (ForToken n) = TokenDraw (t n)

-- a setup draws for each word by its number, then for each block
abbrev pub drawings_of_setup : ℕ → Setup → List Drawing
drawings_of_setup epoch s = map ForEntry (entry_positions epoch s) ++ map ForBlock (block_positions epoch s)

-- a command after these others draws for each new entry, for each number that was never sent, for a word that wasn't searched
abbrev pub drawings_by : ℕ → Setup → List Command → Command → List Drawing
drawings_by epoch s past (Add d) = map ForEntry (addition_positions epoch s past d)
drawings_by epoch s past (Delete id) =
    map (λ word. ForNumber (name epoch word Revocation id))
    (filter (λ word. not (was_sent s past word id)) (words_live (live s.documents past) id))
drawings_by epoch s past (Search word) = if list_any (searches_for word) past then [] else ForToken (name epoch word Token 0) ∷ []

-- for each command of a run, setup first, what it draws for
abbrev pub drawings : Offsets → Run → List (List Drawing)
drawings o run = drawings_of_setup o.epoch run.setup ∷ over (drawings_by o.epoch run.setup) [] run.later

-- for each command of a run, setup first, what it draws under a table
abbrev pub draws : Table → Offsets → Run → List (List Draw)
draws t o run = map (map (draw t (ranks_of (labels_in t (block_positions o.epoch run.setup))))) (drawings o run)
