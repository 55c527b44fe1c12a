-- The documents and the setups of `duel SEED N`.
use Rattle.std.specs.Prelude.{ℕ, List, [], ◌∷◌, codes}
use Rattle.client_registry.specs.Document.{Document}
use Rattle.client_registry.specs.Setup.{Setup, setup_with}
use Rattle.script_game.specs.declared.game_side.GameSide.{GameSide}
use Rattle.script_game.specs.declared.game_side.GameSide.TheVariants.{Left, Right}

-- the word that only the documents of this side have
abbrev pub own_word : GameSide → List ℕ
own_word Left = codes "l"
own_word Right = codes "r"

-- the words of its documents
abbrev pub game_words : GameSide → List (List ℕ)
game_words side = codes "s" ∷ own_word side ∷ []

-- its document of this identifier
abbrev pub game_document : GameSide → ℕ → Document
game_document side id = record { id = id; words = game_words side }

-- those of the setup, 1 to 4
abbrev pub game_documents : GameSide → List Document
game_documents side = game_document side 1 ∷ game_document side 2 ∷ game_document side 3 ∷ game_document side 4 ∷ []

-- the setup: 4 numbers in a cell and 4 in a block, and no dummies
abbrev pub game_setup : GameSide → Setup
game_setup side = setup_with (game_documents side) 4 4 1
