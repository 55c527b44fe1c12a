-- A whole run of a script over a link and a recorder, with its last line and its status.
use Rattle.std.specs.Prelude.{◌≡◌, ◌≤◌, ℕ, Bool, List, ◌++◌, Option, Some, Result, IfSome}
use Rattle.std.specs.Io.KnownBytes.{append_known}
use Rattle.keyed_fn.specs.KeyedFn.{KeyedFn}
use Rattle.keyed_fn.specs.VaultFormulas.{vault_secrets}
use Rattle.sse_outside.specs.Kept.{with_records}
use Rattle.client_journal.specs.Shows.{SinkShows}
use Rattle.vault_server.specs.VaultLeaks.{vault_simulate}
use Rattle.vault_server.specs.VaultState.{empty_vault}
use Rattle.vault_link.specs.Exchanges.{Exchange, events_of, events_of_passed}
use Rattle.vault_link.specs.Served.{VaultRemote}
use Rattle.vault_shelf.specs.Shelves.{empty_shelf, shelf_of}
use Rattle.vault_shelf.specs.Standing.{LeftBy}
use Rattle.vault_shelf.specs.VaultLeaking.{vault_leaks}
use Rattle.vault_shelf.specs.VaultSessions.{SlotsDiffer, vault_draws}
use Rattle.vault_script.specs.declared.vault_stop.VaultStop.{VaultStop}
use Rattle.doc_vault.specs.Beginnings.{mark_records}
use Rattle.doc_vault.specs.Openings.{FindsKey}
use Rattle.doc_vault.specs.Scripts.{RunsScript}
use Rattle.doc_vault.specs.Sights.{HasPassed, Sight}
use Rattle.doc_vault.specs.VaultRuns.{records_of_commands, text_of_shown}
use Rattle.vault_client.specs.Endings.{EndsLine, run_line, run_status, status_through}
use Rattle.vault_client.specs.Forgeries.{IsForgedRun}
use Rattle.vault_client.specs.Meanings.{IsBadScript, commands_meant, refuses_meant, shown_meant}

-- P, if the link tells its server, whose vault holds nothing yet
abbrev pub IfEmptyVault : Option VaultRemote → (P : Type 0) → Type 0
IfEmptyVault remote P = IfSome remote (λ before. before.state ≡ empty_vault → P)

-- under the key of the script's key line, puts of different numbers have different slots
abbrev pub SlotsDifferThere : (f : KeyedFn) (left : Option (List (List ℕ))) → Type 0
SlotsDifferThere f left = (key : List ℕ) (number : ℕ) (left_over : Option (List (List ℕ))) → FindsKey 1 left key number left_over → SlotsDiffer f (vault_secrets f key)

-- a run over a vault that held nothing came to the end of its script, which has this key and these lines after its key line: it did what they
-- mean. What passed is what the simulator makes of the leaks and draws of the script's commands
pub record DidAsMeant (f : KeyedFn) (key : List ℕ) (lines : List (List ℕ)) (now last : Sight) (status : ℕ) : Type 0 where
  pub status_is : status ≡ status_through (refuses_meant empty_shelf lines)
  pub printed : last.written ≡ append_known now.written (text_of_shown (shown_meant empty_shelf lines))
  pub kept : last.kept ≡ with_records (mark_records f key ++ records_of_commands (commands_meant empty_shelf lines)) now.kept
  pub passed : List Exchange
  pub seen : HasPassed passed now.link last.link
  pub simulated : events_of passed ≡ events_of_passed (vault_simulate (vault_leaks empty_shelf (commands_meant empty_shelf lines)) (vault_draws f (vault_secrets f key) (commands_meant empty_shelf lines)))
  pub stands : IfSome last.link.remote (λ after. LeftBy f (vault_secrets f key) after.state (shelf_of empty_shelf (commands_meant empty_shelf lines)))

-- its key line, and the lines after that
pub record Headline (f : KeyedFn) (left : List (List ℕ)) (now last : Sight) (status : ℕ) : Type 0 where
  pub key : List ℕ
  pub number : ℕ
  pub lines : List (List ℕ)
  pub finds : FindsKey 1 (Some left) key number (Some lines)
  pub did : DidAsMeant f key lines now last status

-- A run of a script. All is said of one end: what the script came to, and what was seen of all devices then.
pub record IsVaultRun (f : KeyedFn) (left : Option (List (List ℕ))) (now last : Sight) (sink sink' : SinkShows) (status : ℕ) : Type 0 where
  pub ended : Result Bool VaultStop
  pub end : Sight
  -- it did line after line what its script says, up to that end; then only the last line was printed
  pub runs : RunsScript f left now end ended
  pub passed : last.link ≡ end.link
  pub kept : last.kept ≡ end.kept
  pub line : EndsLine (run_line ended) end.written sink sink' status
  pub status_is : status ≡ run_status ended
  -- the status 2 comes only for a script that isn't in the grammar
  pub bad_script : status ≡ 2 → IfSome left IsBadScript
  -- the status 12 comes if and only if a get received a text whose tag is wrong, and it was read
  pub forged_only : status ≡ 12 → IsForgedRun f left now end ended runs
  pub forged : IsForgedRun f left now end ended runs → status ≡ 12
  -- over an honest link to a vault that holds nothing: no reply stops the run, if puts of different numbers have different slots
  pub honest : IfEmptyVault now.link.remote (SlotsDifferThere f left → status ≤ 7)
  -- and if it came to the end of its script, it did what that means
  pub headline : IfEmptyVault now.link.remote (SlotsDifferThere f left → status ≤ 1 → IfSome left (λ lines. Headline f lines now last status))
