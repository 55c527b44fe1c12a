-- A run over the lines after the key line: a list of turns, each of one line.
use Rattle.std.specs.Prelude.{◌≡◌, ℕ, List, [], ◌∷◌, Option, None, Some, map}
use Rattle.std.specs.List.{flat_map}
use Rattle.keyed_fn.specs.KeyedFn.{KeyedFn}
use Rattle.keyed_fn.specs.VaultFormulas.{VaultSecrets}
use Rattle.vault_link.specs.Exchanges.{Exchange}
use Rattle.vault_shelf.specs.ClientRecords.{command_record}
use Rattle.vault_shelf.specs.ShelfFaults.{shelf_fault}
use Rattle.vault_shelf.specs.Shelves.{Shelf, VaultCommand, Put, Drop, Get, shelf_of, without_gets}
use Rattle.vault_shelf.specs.declared.shelf_fault.ShelfFault.{ShelfFault}
use Rattle.vault_script.specs.VaultLines.{VaultLineText, EmptyLine, KeyLine, PutLine, DropLine, GetLine, vault_line_of}
use Rattle.vault_script.specs.VaultShown.{VaultShownText, NoBody, Refused}
use Rattle.vault_script.specs.VaultTexts.{vault_text}
use Rattle.doc_vault.specs.CommandRuns.{IsExchanged}
use Rattle.doc_vault.specs.CommandViews.{refusal_of}

-- a line; the command of it that was carried out; what passed for it; and what was printed
pub record Turn : Type 0 where
  pub line : List ℕ
  pub commands : List VaultCommand
  pub passed : List Exchange
  pub shown : List VaultShownText

-- the same of all turns, in order

abbrev pub lines_in : List Turn → List (List ℕ)
lines_in turns = map (λ turn. turn.line) turns

abbrev pub commands_in : List Turn → List VaultCommand
commands_in turns = flat_map (λ turn. turn.commands) turns

abbrev pub passed_in : List Turn → List Exchange
passed_in turns = flat_map (λ turn. turn.passed) turns

abbrev pub shown_in : List Turn → List VaultShownText
shown_in turns = flat_map (λ turn. turn.shown) turns

-- the bytes of printed lines, and the records of commands
abbrev pub text_of_shown : List VaultShownText → List ℕ
text_of_shown shown = flat_map vault_text shown

abbrev pub records_of_commands : List VaultCommand → List (List ℕ)
records_of_commands cs = map command_record (without_gets cs)

-- a line that does nothing, and one that only prints
abbrev pub silent_turn : List ℕ → Turn
silent_turn line = record { line = line; commands = []; passed = []; shown = [] }

module _ (f : KeyedFn) (keys : VaultSecrets) where
  -- a command that is accepted, with its frame and the reply
  pub record IsCarriedOut (s : Shelf) (c : VaultCommand) (turn : Turn) : Type 0 where
    pub shown : VaultShownText
    pub exchanged : IsExchanged f keys s c turn.passed shown
    pub commands_are : turn.commands ≡ c ∷ []
    pub shown_is : turn.shown ≡ shown ∷ []

  -- nothing is sent for a text that isn't there
  pub record IsAbsent (id : ℕ) (turn : Turn) : Type 0 where
    pub unsent : turn.passed ≡ []
    pub commands_are : turn.commands ≡ Get id ∷ []
    pub shown_is : turn.shown ≡ NoBody id ∷ []

  -- a get, by the number of the put whose text is there
  abbrev pub IsGotten : Option ℕ → Shelf → ℕ → Turn → Type 0
  IsGotten None s id turn = IsAbsent id turn
  IsGotten (Some put) s id turn = IsCarriedOut s (Get id) turn

  abbrev pub IsAccepted : Shelf → VaultCommand → Turn → Type 0
  IsAccepted s (Put id body) turn = IsCarriedOut s (Put id body) turn
  IsAccepted s (Drop id) turn = IsCarriedOut s (Drop id) turn
  IsAccepted s (Get id) turn = IsGotten (s.there id) s id turn

  -- a command that is refused: the cause is printed, and nothing else is done
  pub record IsRefused (fault : ShelfFault) (turn : Turn) : Type 0 where
    pub unsent : turn.passed ≡ []
    pub commands_are : turn.commands ≡ []
    pub shown_is : turn.shown ≡ Refused (refusal_of fault) ∷ []

  abbrev pub IsJudged : Option ShelfFault → Shelf → VaultCommand → Turn → Type 0
  IsJudged None s c turn = IsAccepted s c turn
  IsJudged (Some fault) s c turn = IsRefused fault turn

  abbrev pub TakesCommand : Shelf → VaultCommand → Turn → Type 0
  TakesCommand s c turn = IsJudged (shelf_fault s c) s c turn

  -- a line that reads as this, for a client that knows this of its texts
  abbrev pub TakesSaid : Shelf → Option VaultLineText → Turn → Type 0
  TakesSaid s (Some EmptyLine) turn = turn ≡ silent_turn turn.line
  TakesSaid s (Some (KeyLine key)) turn = ⊥
  TakesSaid s (Some (PutLine id body)) turn = TakesCommand s (Put id body) turn
  TakesSaid s (Some (DropLine id)) turn = TakesCommand s (Drop id) turn
  TakesSaid s (Some (GetLine id)) turn = TakesCommand s (Get id) turn
  TakesSaid s None turn = ⊥

  abbrev pub TakesTurn : Shelf → Turn → Type 0
  TakesTurn s turn = TakesSaid s (vault_line_of turn.line) turn

  -- turns one after another, each for what the client knows after those before it
  abbrev pub AreTurns : Shelf → List Turn → Type 0
  AreTurns s [] = Unit {0}
  AreTurns s (turn ∷ turns) = TakesTurn s turn × AreTurns (shelf_of s turn.commands) turns
