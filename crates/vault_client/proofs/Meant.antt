-- The turns of a run do what their lines mean.
use Rattle.std.proofs.Common.{◌≡◌, ℕ, Bool, ◌||◌, List, [], ◌∷◌, ◌++◌, None, Some, refl, ap, ◌∙◌}
use Rattle.std.specs.Prelude.{Option}
use Rattle.std.specs.Option.{option_and_then}
use Rattle.keyed_fn.specs.KeyedFn.{KeyedFn}
use Rattle.keyed_fn.specs.VaultFormulas.{VaultSecrets}
use Rattle.vault_shelf.specs.ShelfFaults.{shelf_fault}
use Rattle.vault_shelf.specs.Shelves.{Shelf, VaultCommand, Put, Drop, Get, shelf_of}
use Rattle.vault_shelf.specs.declared.shelf_fault.ShelfFault.{ShelfFault}
use Rattle.vault_script.specs.VaultLines.{VaultLineText, EmptyLine, KeyLine, PutLine, DropLine, GetLine, vault_line_of}
use Rattle.vault_script.specs.VaultShown.{VaultShownText}
use Rattle.doc_vault.specs.CommandViews.{command_said}
use Rattle.doc_vault.specs.HonestTexts.{PrintTheirTexts, printed_by}
use Rattle.doc_vault.specs.LineRuns.{is_refusal}
use Rattle.doc_vault.specs.ScriptRuns.{any_refusal}
use Rattle.doc_vault.specs.VaultRuns.{AreTurns, IsAccepted, IsGotten, IsJudged, TakesSaid, Turn, commands_in, lines_in, shown_in}
use Rattle.vault_client.specs.Meanings.{accepted_of, command_of, commands_meant, refuses_meant, shown_meant, unless_refused}

module _ (f : KeyedFn) (keys : VaultSecrets) where
  module _ (s : Shelf) (turn : Turn) where
    gotten_commands : (id : ℕ) (put : Option ℕ) → IsGotten f keys put s id turn → turn.commands ≡ Get id ∷ []
    gotten_commands id None out = out.commands_are
    gotten_commands id (Some put) out = out.commands_are

    accepted_commands : (c : VaultCommand) → IsAccepted f keys s c turn → turn.commands ≡ c ∷ []
    accepted_commands (Put id body) out = out.commands_are
    accepted_commands (Drop id) out = out.commands_are
    accepted_commands (Get id) out = gotten_commands id (s.there id) out

    judged_commands : (c : VaultCommand) (fault : Option ShelfFault) → IsJudged f keys fault s c turn → turn.commands ≡ unless_refused fault c
    judged_commands c None out = accepted_commands c out
    judged_commands c (Some fault) out = out.commands_are

    said_commands : (said : Option VaultLineText) → TakesSaid f keys s said turn → turn.commands ≡ accepted_of s (option_and_then command_said said)
    said_commands None out = absurd out
    said_commands (Some EmptyLine) out = ap (λ (t : Turn). t.commands) out
    said_commands (Some (KeyLine key)) out = absurd out
    said_commands (Some (PutLine id body)) out = judged_commands (Put id body) (shelf_fault s (Put id body)) out
    said_commands (Some (DropLine id)) out = judged_commands (Drop id) (shelf_fault s (Drop id)) out
    said_commands (Some (GetLine id)) out = judged_commands (Get id) (shelf_fault s (Get id)) out

  pub commands-meant : (s : Shelf) (turns : List Turn) → AreTurns f keys s turns → commands_in turns ≡ commands_meant s (lines_in turns)
  commands-meant s [] are = refl
  commands-meant s (turn ∷ turns) are =
      let own = said_commands s turn (vault_line_of turn.line) are.0 in
      ap (λ (cs : List VaultCommand). cs ++ commands_in turns) own
      ∙ ap (λ (cs : List VaultCommand). accepted_of s (command_of turn.line) ++ cs)
      (commands-meant (shelf_of s turn.commands) turns are.1 ∙ ap (λ (cs : List VaultCommand). commands_meant (shelf_of s cs) (lines_in turns)) own)

  pub shown-meant : (s : Shelf) (turns : List Turn) → AreTurns f keys s turns → PrintTheirTexts s turns → shown_in turns ≡ shown_meant s (lines_in turns)
  shown-meant s [] are prints = refl
  shown-meant s (turn ∷ turns) are prints =
      let own = said_commands s turn (vault_line_of turn.line) are.0 in
      ap (λ (shown : List VaultShownText). shown ++ shown_in turns) prints.0
      ∙ ap (λ (shown : List VaultShownText). printed_by s (command_of turn.line) ++ shown)
      (shown-meant (shelf_of s turn.commands) turns are.1 prints.1 ∙ ap (λ (cs : List VaultCommand). shown_meant (shelf_of s cs) (lines_in turns)) own)

  pub refuses-meant : (s : Shelf) (turns : List Turn) → AreTurns f keys s turns → PrintTheirTexts s turns → any_refusal turns ≡ refuses_meant s (lines_in turns)
  refuses-meant s [] are prints = refl
  refuses-meant s (turn ∷ turns) are prints =
      let own = said_commands s turn (vault_line_of turn.line) are.0 in
      ap (λ (shown : List VaultShownText). is_refusal shown || any_refusal turns) prints.0
      ∙ ap (λ (b : Bool). is_refusal (printed_by s (command_of turn.line)) || b)
      (refuses-meant (shelf_of s turn.commands) turns are.1 prints.1 ∙ ap (λ (cs : List VaultCommand). refuses_meant (shelf_of s cs) (lines_in turns)) own)
