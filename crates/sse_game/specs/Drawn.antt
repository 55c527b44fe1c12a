-- What a command after a setup draws under a key, by what is known of the commands before it.
use Rattle.std.specs.Prelude.{ℕ, Bool, List, [], ◌∷◌, if◌then◌else◌}
use Rattle.client_registry.specs.Facts.{Facts}
use Rattle.keyed_fn.specs.KeyFormulas.{part_key, plus_label, plus_pad, revocation, token_of}
use Rattle.keyed_fn.specs.KeyedFn.{KeyedFn}
use Rattle.keyed_fn.specs.Xored.{xored}
use Rattle.sse_frames.specs.Frames.{be64}
use Rattle.sse_simulator.specs.Leaks.{Draw, EntryDraw, NumberDraw, TokenDraw}

-- the new entry of addition c of a word
abbrev pub entry_drawn : KeyedFn → (key : List ℕ) → (c id : ℕ) → List ℕ → Draw
entry_drawn f key c id word = EntryDraw (record { label = plus_label f (part_key f key 3 word) c; text = xored (be64 id) (plus_pad f (part_key f key 4 word) c) })

-- an addition draws for a word whose pair isn't listed
abbrev pub added_piece : KeyedFn → (key : List ℕ) → Facts → (id : ℕ) → List ℕ → List Draw
added_piece f key facts id word = if facts.listed word id then [] else entry_drawn f key (facts.counter word) id word ∷ []

-- a deletion draws for a word whose number wasn't sent
abbrev pub deleted_piece : KeyedFn → (key : List ℕ) → (sent : List ℕ → Bool) → (id : ℕ) → List ℕ → List Draw
deleted_piece f key sent id word = if sent word then [] else NumberDraw (revocation f (part_key f key 5 word) id) ∷ []

-- a search draws for a word that wasn't searched
abbrev pub searched_piece : KeyedFn → (key : List ℕ) → (searched : Bool) → List ℕ → List Draw
searched_piece f key searched word = if searched then [] else TokenDraw (token_of f key word) ∷ []
