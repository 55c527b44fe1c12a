-- How a server catches up, by the number that it said.
use Rattle.std.proofs.Common.{◌≡◌, ◌≢◌, inl, inr, ℕ, ◌+◌, ◌-◌, List, [], ◌∷◌, ◌++◌, Ok, Err, refl, sym, ap, ◌∙◌, subst, arith}
use Rattle.std.specs.Prelude.{IfSome, Result}
use Rattle.std.specs.Result.{IsErrAnd}
use Rattle.keyed_fn.specs.KeyedFn.{KeyedFn}
use Rattle.keyed_fn.specs.VaultFormulas.{VaultSecrets}
use Rattle.vault_shelf.specs.ClientRecords.{IsRecorded, command_record}
use Rattle.vault_shelf.specs.Shelves.{VaultCommand, empty_shelf}
use Rattle.vault_script.specs.declared.vault_stop.VaultStop.{VaultStop}
use Rattle.vault_shelf.proofs.RecordGrammar.{command_back, no_some, one_command}
use Rattle.vault_shelf.specs.RecordReading.{command_in}
use Rattle.vault_shelf.specs.ShelfView.{Keeps, ShelfView}
use Rattle.doc_vault.proofs.CountLaws.{shows-none}
use Rattle.doc_vault.proofs.TurnsTaken.{passed-none}
use Rattle.doc_vault.specs.Counts.{Counts, KeepsCounts, ShowsCause}
use Rattle.doc_vault.specs.Greetings.{HasSaid, SaysHonestly, StopsAsking}
use Rattle.doc_vault.specs.Sights.{LinkSight}
use Rattle.vault_client.specs.CatchingUp.{AfterNumber, CatchesUp, Elsewhere, HasAll, HasAllButLast, IsFirstOf, IsNextOf, KeepsLast, SendsAgain, StopsSendingAgain, SuppliesAll, Unasked, Unsupplied, elsewhere_by, elsewhere_than, left_by}
use Rattle.vault_client.proofs.LastCommands.{sent-last}

-- The last command, by the number that the server said.
module _ (f : KeyedFn) (keys : VaultSecrets) (before : List VaultCommand) (c : VaultCommand) (recorded : IsRecorded c) (view : ShelfView) (keeps : Keeps view (left_by before)) where
  abbrev all : List VaultCommand
  all = before ++ c ∷ []

  count : (left_by all).sent ≡ view.sent + 1
  count = sent-last before c recorded ∙ ap (λ (n : ℕ). n + 1) (sym keeps.sent)

  pub supplied_again : (next : ℕ) → next ≡ view.sent → (old new : LinkSight) → SendsAgain {T = Unit {0}} f keys (left_by before) c old new (Ok tt) → SuppliesAll f keys all next old new (Ok 1)
  supplied_again next is old new sends =
      (sends.0, HasAllButLast (omega (arith, is, count)) (record { before = before; command = c; are = refl; exchanged = sends.1 }) refl, sends.2)

  pub supplied_none : (next : ℕ) → next ≡ view.sent + 1 → (link : LinkSight) → SuppliesAll f keys all next link link (Ok 0)
  supplied_none next is link = ([], HasAll (is ∙ sym count) refl refl, passed-none link)

  pub unsupplied : (next : ℕ) → next ≡ view.sent → (old new : LinkSight) (result : Result ℕ VaultStop) (at : VaultStop) → IsErrAnd result (λ stop. stop ≡ at) → StopsSendingAgain f keys (left_by before) c old new at
      → SuppliesAll f keys all next old new result
  unsupplied next is old new (Ok frames) at stopped stops = absurd stopped
  unsupplied next is old new (Err stop) at stopped stops =
      Unsupplied before c (omega (arith, is, count)) refl (subst (λ (st : VaultStop). StopsSendingAgain f keys (left_by before) c old new st) (sym stopped) stops)

  pub found_elsewhere : (next : ℕ) → next ≢ view.sent → next ≢ view.sent + 1 → (link : LinkSight) (stop : VaultStop) → stop ≡ elsewhere_than view.sent (view.sent + 1) next → SuppliesAll f keys all next link link (Err stop)
  found_elsewhere next not_last not_next link stop is =
      Elsewhere (λ e. not_next (e ∙ count)) (λ e. not_last (omega (arith, e, count)))
      (is ∙ (λ i. elsewhere_than (low i) (sym count i) next)) refl
    where
      low : view.sent ≡ (left_by all).sent - 1
      low = omega (arith, count)

-- A client without a command.
pub supplied_first : (f : KeyedFn) (keys : VaultSecrets) (cs : List VaultCommand) → cs ≡ [] → (next : ℕ) (link : LinkSight) (result : Result ℕ VaultStop) → IsFirstOf next result → SuppliesAll f keys cs next link link result
supplied_first f keys cs none next link (Ok frames) first = ([], HasAll (first.0 ∙ ap (λ (l : List VaultCommand). (left_by l).sent) (sym none)) refl first.1, passed-none link)
supplied_first f keys cs none next link (Err stop) first =
    subst (λ (l : List VaultCommand). SuppliesAll f keys l next link link (Err stop)) (sym none) (Elsewhere first.0 (λ e. omega (arith, let no : next + 1 ≡ 0 = e in no)) first.1 refl)

-- no count rises at the stop for another number
pub counts-first : (next : ℕ) (result : Result ℕ VaultStop) (c : Counts) → IsFirstOf next result → KeepsCounts c c result
counts-first next (Ok frames) c first = refl
counts-first next (Err stop) c first = subst (ShowsCause c c) (sym first.1) (shows-none c (elsewhere_by 0 next) (λ e. cc) (λ e. cc) (λ e. cc) (λ e. cc))

-- The record of the last command.

-- it is one that was read as this command
pub last_apart : (view : ShelfView) (last : List ℕ) (cs : List VaultCommand) (c : VaultCommand) → KeepsLast view last cs → IsRecorded c → last ≡ command_record c → (before : List VaultCommand) × (cs ≡ before ++ c ∷ []) × Keeps view (left_by before)
last_apart view last cs c (inl none) recorded is = absurd (no_some c (ap command_in (sym none.last_is ∙ is) ∙ command_back c recorded))
last_apart view last cs c (inr apart) recorded is =
    let same : apart.command ≡ c = one_command apart.command c apart.recorded recorded (sym apart.last_is ∙ is) in
    (apart.before, apart.are ∙ ap (λ (d : VaultCommand). apart.before ++ d ∷ []) same, apart.keeps)

-- it is none
pub last_none : (view : ShelfView) (last : List ℕ) (cs : List VaultCommand) → KeepsLast view last cs → ((c : VaultCommand) → IsRecorded c → last ≢ command_record c) → (cs ≡ []) × Keeps view empty_shelf
last_none view last cs (inl none) never = (none.none, none.keeps)
last_none view last cs (inr apart) never = absurd (never apart.command apart.recorded apart.last_is)

-- The question and what follows it.
module _ (f : KeyedFn) (keys : VaultSecrets) (cs : List VaultCommand) where
  pub catches_asked : (n : ℕ) (old asked new : LinkSight) (result : Result ℕ VaultStop) → HasSaid n old asked → IsNextOf n old.remote → SuppliesAll f keys cs n asked new result → CatchesUp f keys cs old new result
  catches_asked n old asked new (Ok frames) said own supplies = (supplies.0, record { next = n; asked = asked; question = said; own = own; supplies = supplies.1; passed = supplies.2 })
  catches_asked n old asked new (Err stop) said own stops = AfterNumber n asked said own stops

  pub catches_unasked : (old new : LinkSight) (result : Result ℕ VaultStop) (at : VaultStop) → IsErrAnd result (λ stop. stop ≡ at) → StopsAsking old new at → IfSome old.remote (λ before. SaysHonestly before.state.next (Err at)) → CatchesUp f keys cs old new result
  catches_unasked old new (Ok frames) at is stops fair = absurd is
  catches_unasked old new (Err stop) at is stops fair =
      subst (λ (st : VaultStop). CatchesUp f keys cs old new (Err st)) (sym is) (Unasked stops fair)
