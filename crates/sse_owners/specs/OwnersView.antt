-- A contract's view of the servers of many owners, and the frames that they have taken.
use Rattle.std.specs.Prelude.{◌≡◌, ◌⊎◌, ℕ, ◌<◌, List, [], ◌∷◌, ◌++◌, length, get_or, slice_set, Option, None, refl}
use Rattle.std.specs.Coded.{Coded, code_by, coded×, coded_list, coded_ℕ}
use Rattle.sse_journal.specs.Files.{Gives}
use Rattle.sse_journal.specs.JournalView.{broken_by, IsJournalOf}
use Rattle.sse_journal.specs.declared.journal.Journal.{Journal}
use Rattle.sse_journal.specs.contracts.journal.Journal as journals
use Rattle.server_core.specs.State.{ServerState, state_code, at_first}
use Rattle.sse_owners.specs.Owned.{OwnedFrame, IsOwnTaken, AreOwnTaken, records, states_of}

pub record OwnersView : Type 0 where
  -- the numbers of the owners, and what the server of each holds, in the same order
  pub numbers : List ℕ
  pub states : List ServerState
  -- the place of the chosen one among them, from 0
  pub chosen : ℕ
  pub journal : Journal

-- the code by which a proof tells these values apart
abbrev pub owners_code : Coded OwnersView
owners_code = code_by (List ℕ × (List ServerState × (ℕ × Journal))) (coded× (coded_list coded_ℕ) (coded× (coded_list state_code) (coded× coded_ℕ journals.the_row.coded)))
    (λ s. (s.numbers, (s.states, (s.chosen, s.journal)))) (λ p. record { numbers = p.0; states = p.1.0; chosen = p.1.1.0; journal = p.1.1.1 }) (λ _. refl)

-- the number of the chosen owner
abbrev pub chosen_owner : OwnersView → ℕ
chosen_owner owners = get_or owners.numbers owners.chosen 0

-- what its server holds
abbrev pub chosen_state : OwnersView → ServerState
chosen_state owners = get_or owners.states owners.chosen at_first

-- only the chosen owner's server may be another
pub record StaysButChosen (old new : OwnersView) : Type 0 where
  pub numbers : new.numbers ≡ old.numbers
  pub chosen : new.chosen ≡ old.chosen
  pub states : new.states ≡ slice_set old.states old.chosen (chosen_state new)

-- a start from this file gives these frames and at most one more, which its owner's server takes after them
abbrev pub GivesAtMostOneMore : (numbers : List ℕ) → List OwnedFrame → (bytes : List ℕ) → Type 0
GivesAtMostOneMore numbers frames bytes =
    Gives (records frames) bytes
    ⊎ ((refused : OwnedFrame) × IsOwnTaken numbers frames refused × Gives (records (frames ++ refused ∷ [])) bytes)

-- one of them is chosen, and they have taken these frames: the server of each owner is what its own frames make of one that has taken nothing; unless
-- the journal is broken its records are these frames and nothing else; and broken or not, the file that a crash leaves gives
-- them, with at most the one more that a fault of the disk kept from being taken
pub record IsOwnersOf (frames : List OwnedFrame) (owners : OwnersView) (content : Option (List ℕ)) (images : List ℕ → Type 0) : Type 0 where
  pub chosen_is_one : owners.chosen < length owners.numbers
  pub are_taken : AreOwnTaken owners.numbers [] frames
  pub states_are : owners.states ≡ states_of owners.numbers frames
  pub whole : broken_by owners.journal ≡ None → IsJournalOf (records frames) owners.journal content images
  pub left : (bytes : List ℕ) → images bytes → GivesAtMostOneMore owners.numbers frames bytes

-- they have taken the frames whose records this file gives
pub record IsOwnersFrom (bytes : List ℕ) (owners : OwnersView) (content : Option (List ℕ)) (images : List ℕ → Type 0) : Type 0 where
  pub frames : List OwnedFrame
  pub gives : Gives (records frames) bytes
  pub owners_are : IsOwnersOf frames owners content images
