-- The drawings of an epoch's commands, by the numbers of words.
use Rattle.std.specs.Prelude.{ℕ, List, [], ◌∷◌, if◌then◌else◌}
use Rattle.client_registry.specs.Facts.{Facts}
use Rattle.client_registry.specs.declared.doc_id.DocId.{DocId}
use Rattle.client_registry.specs.declared.word.Word.{Word}
use Rattle.leakage_values.specs.Numbered.{number_of_word}
use Rattle.leakage_values.specs.Replayed.{has_pair, has_search}
use Rattle.leakage_values.specs.SetupDrawings.{code_name}
use Rattle.leakage_values.specs.declared.drawn.Drawing.{Drawing}
use Rattle.leakage_values.specs.declared.drawn.Drawing.TheVariants.{Entry, Number, Token as TokenOf}
use Rattle.leakage_names.specs.declared.name.NameKind.TheVariants.{PlusLabel, PlusPad, Revocation, Token}

-- the new entry of an addition of the word of this number
abbrev pub addition_by_number : (epoch word counter : ℕ) → Drawing
addition_by_number epoch word counter = Entry (code_name epoch word PlusLabel counter) (code_name epoch word PlusPad counter)

abbrev pub number_by_number : (epoch word id : ℕ) → Drawing
number_by_number epoch word id = Number (code_name epoch word Revocation id)

abbrev pub token_by_number : (epoch word : ℕ) → Drawing
token_by_number epoch word = TokenOf (code_name epoch word Token 0)

-- an addition draws for a word whose pair isn't listed
abbrev pub addition_piece : (epoch : ℕ) → List (List ℕ) → Facts → (id : ℕ) → List ℕ → List Drawing
addition_piece epoch words f id word = if f.listed word id then [] else addition_by_number epoch (number_of_word words word) (f.counter word) ∷ []

-- a deletion draws for a word whose pair isn't among those that were sent
abbrev pub deletion_piece : (epoch : ℕ) → List (List ℕ) → List (Word × DocId) → (id : ℕ) → List ℕ → List Drawing
deletion_piece epoch words sent id word = if has_pair word id sent then [] else number_by_number epoch (number_of_word words word) id ∷ []

-- a search draws for a word that isn't among those that were searched
abbrev pub search_piece : (epoch : ℕ) → List (List ℕ) → List Word → List ℕ → List Drawing
search_piece epoch words searched word = if has_search word searched then [] else token_by_number epoch (number_of_word words word) ∷ []
