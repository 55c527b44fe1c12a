-- What a run resumes from, by what its records were found to be.
use Rattle.std.proofs.Common.{◌≡◌, inl, ℕ, ◌<◌, Bool, true, false, List, [], length, take, None, Some, Ok, Err, refl, sym, ap, ◌∙◌, subst, arith}
use Rattle.std.specs.Prelude.{Option, IfErr, IfSome, Result}
use Rattle.std.specs.Option.{option_map}
use Rattle.std.specs.Result.{IsErrAnd}
use Rattle.client_journal.specs.Openings.{IsOfRecords}
use Rattle.keyed_fn.specs.KeyFormulas.{mark_of}
use Rattle.keyed_fn.specs.KeyedFn.{KeyedFn}
use Rattle.keyed_fn.specs.VaultFormulas.{VaultSecrets, vault_secrets}
use Rattle.script_run_texts.specs.declared.input_stop.InputStop.{InputStop}
use Rattle.script_run_texts.specs.declared.input_stop.InputStop.TheVariants as inputs
use Rattle.script_run_texts.specs.declared.journal_stop.JournalStop.{JournalStop}
use Rattle.script_run_texts.specs.declared.journal_stop.JournalStop.TheVariants.{NoJournal, HasRecords, BadRecord, WrongKey, Disk, Memory}
use Rattle.script_run_texts.specs.declared.stop_cause.StopCause.TheVariants as runs
use Rattle.sse_journal.proofs.FileRecords.{records_of_journal}
use Rattle.sse_journal.specs.FileRecords.{records_in_file}
use Rattle.sse_journal.specs.JournalView.{IsJournalOf, records_of}
use Rattle.sse_journal.specs.declared.journal.Journal.{Journal}
use Rattle.vault_shelf.specs.ClientRecords.{VaultOpens, VaultOpensElsewhere}
use Rattle.vault_shelf.specs.Shelves.{VaultCommand}
use Rattle.vault_script.specs.declared.vault_stop.VaultStop.{VaultStop}
use Rattle.vault_script.specs.declared.vault_stop.VaultStop.TheVariants as stops
use Rattle.vault_shelf.specs.Rebuilds.{IsTaken}
use Rattle.vault_shelf.specs.ShelfView.{ShelfView}
use Rattle.vault_shelf.specs.declared.rebuild.ShelfRebuild.{ShelfRebuild}
use Rattle.vault_client.specs.Recoveries.{IsBadUnder, IsRebuiltFrom, Recovers}
use Rattle.doc_vault.specs.Openings.{FindsKey, MissesKey}
use Rattle.vault_client.specs.CatchingUp.{KeepsLast}
use Rattle.client_journal.specs.DiskRuns.{kept_on}
use Rattle.vault_client.specs.Restorings.{AreUnread, AtKeyLine, AtRecords, HasRestored, StopsRestoring}
use Rattle.vault_client.specs.Resumptions.{AreKept}

-- The records of a journal.

module _ (f : KeyedFn) (key : List ℕ) (j : Journal) (content : Option (List ℕ)) (images : List ℕ → Type 0) (holds : IfSome content (λ file. IsOfRecords j content images)) where
  abbrev told : List (List ℕ) → Type 0
  told payloads = IsJournalOf payloads j content images

  -- the records of the disk's file are those that the journal is of
  over_records : (P : List (List ℕ) → Type 0) → ((payloads : List (List ℕ)) → told payloads → P payloads) → IfSome (kept_on content).records P
  over_records P all = by content refl holds
    where
      by : (c : Option (List ℕ)) → content ≡ c → IfSome c (λ file. IsOfRecords j content images) → IfSome (kept_on c).records P
      by None e none = tt
      by (Some file) e of =
          let same : records_in_file file ≡ of.0 = (let is : Some (records_in_file file) ≡ Some of.0 = sym (ap (option_map records_in_file) e) ∙ records_of_journal of.0 j content images of.1 in cc) in
          subst P (sym same) (all of.0 of.1)

  -- records that a rebuild took are those of commands, of which the last is kept apart
  kept_by : 0 < records_of j → (mark : List ℕ) → mark ≡ mark_of f key → (marked : Bool) (payloads : List (List ℕ)) (view : ShelfView) (last : List ℕ) → ((all : List (List ℕ)) → told all → payloads ≡ all) → IsTaken mark marked payloads view last
      → (cs : List VaultCommand) × AreKept f key (kept_on content) cs × KeepsLast view last cs
  kept_by some mark is false payloads view last same taken =
      ([], record { recorded = tt; accepted = tt; opens = over_records (λ all. VaultOpens (mark_of f key) all []) (λ all of. absurd (omega (arith, some, of.records_are, ap length (sym (same all of) ∙ taken.none)))) }, inl taken.kept)
  kept_by some mark is true payloads view last same taken = (
    taken.commands,
    record {
      recorded = taken.opens.recorded;
      accepted = taken.opens.accepted;
      opens = over_records (λ all. VaultOpens (mark_of f key) all taken.commands) (λ all of. subst (λ m. VaultOpens m all taken.commands) is (subst (λ ps. VaultOpens mark ps taken.commands) (same all of) taken.opens));
    },
    taken.kept,
  )

  pub has_restored : 0 < records_of j → (r : ShelfRebuild) → IsRebuiltFrom told r → r.mark ≡ mark_of f key → (view : ShelfView) (last : List ℕ) → view ≡ r.shelf → last ≡ r.last.items → (keys : VaultSecrets) → keys ≡ vault_secrets f key
      → (left : Option (List (List ℕ))) (number : ℕ) (left' : Option (List (List ℕ))) → FindsKey 1 left key number left' → HasRestored f left (kept_on content) number left' keys view last
  has_restored some r rebuilt mark view last view_is last_is keys keys_are left number left' finds =
      let kept = kept_by some r.mark mark r.marked rebuilt.payloads r.shelf r.last.items rebuilt.all rebuilt.taken in
      record {
        key = key;
        finds = finds;
        commands = kept.0;
        restored = record {
          keys_are = keys_are;
          commands = kept.1;
          apart = subst (λ (v : ShelfView). KeepsLast v last kept.0) (sym view_is) (subst (λ (l : List ℕ). KeepsLast r.shelf l kept.0) (sym last_is) kept.2);
        };
      }

  -- or why they aren't
  unread : (stop : JournalStop) → Recovers told (mark_of f key) (Err stop) → AreUnread f key (kept_on content) stop
  unread NoJournal recovers = over_records (λ all. ⊥) recovers
  unread HasRecords recovers = absurd recovers
  unread (BadRecord n) recovers = over_records (λ all. IsBadUnder (mark_of f key) all n) recovers
  unread WrongKey recovers = over_records (λ all. VaultOpensElsewhere (mark_of f key) (take 1 all)) recovers
  unread Disk recovers = tt
  unread Memory recovers = tt

  pub stops-unread : {T : Type 0} (left : Option (List (List ℕ))) (number : ℕ) (left' : Option (List (List ℕ))) (result : Result T VaultStop) (why : JournalStop) → IsErrAnd result (λ stop. stop ≡ stops.Unopened why) → FindsKey 1 left key number left'
      → Recovers told (mark_of f key) (Err why) → IfErr result (StopsRestoring f left (kept_on content))
  stops-unread left number left' (Ok done) why is finds recovers = absurd is
  stops-unread left number left' (Err stop) why is finds recovers = AtRecords key number left' why finds is (unread why recovers)

-- the key line isn't there
pub stops-keyless : {T : Type 0} (f : KeyedFn) (left : Option (List (List ℕ))) (content : Option (List ℕ)) (result : Result T VaultStop) (why : InputStop) → IsErrAnd result (λ stop. stop ≡ stops.Run (runs.Input why)) → ((number : ℕ) → why ≡ inputs.Line number → MissesKey 1 left number)
    → IfErr result (StopsRestoring f left (kept_on content))
stops-keyless f left content (Ok done) why is misses = absurd is
stops-keyless f left content (Err stop) why is misses = AtKeyLine why is misses
