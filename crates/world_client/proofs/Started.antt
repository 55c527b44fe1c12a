-- The client of the records of a history.
use Rattle.std.proofs.Common.{◌≡◌, ◌≢◌, IfSome, ℕ, zero, suc, ◌+◌, List, [], length, take, filter, Option, None, Some, IsOk, Result, Err, refl, sym, ◌∙◌, subst}
use Rattle.std.proofs.lemmas.Bool.{true≢false}
use Rattle.client_core.proofs.PayloadLaws.{restored-records}
use Rattle.client_core.specs.Restores.{IsRecordedIn, IsRestored, Remembers, restored_key}
use Rattle.client_core.specs.declared.restored.Restored.{Restored}
use Rattle.client_core.specs.declared.restored.Restored.TheVariants as restored
use Rattle.client_journal.specs.Faults.{EndsFor, GoesOn}
use Rattle.client_journal.specs.Recordings.{IsRebuiltFrom}
use Rattle.client_rebuild.specs.Rebuilds.{IsFinished}
use Rattle.client_rebuild.specs.declared.rebuilt.Rebuilt.{Rebuilt}
use Rattle.client_records.proofs.OpeningLaws.{opens_once}
use Rattle.client_records.proofs.RecordedLaws.{opens-records}
use Rattle.client_records.specs.Openings.{IsBadRecord, Opens, OpensElsewhere}
use Rattle.client_records.specs.Recorded.{as_recorded, records_of_epochs}
use Rattle.client_registry.specs.Command.{is_update}
use Rattle.client_registry.specs.Epochs.{begins, behind, key_now}
use Rattle.client_registry.specs.Run.{Epochs, From, History, Offsets, Renewed, Run, last_run}
use Rattle.keyed_fn.specs.KeyFormulas.{mark_of}
use Rattle.keyed_fn.specs.KeyedFn.{KeyedFn}
use Rattle.script_run_texts.specs.declared.journal_stop.JournalStop.{JournalStop}
use Rattle.script_run_texts.specs.declared.journal_stop.JournalStop.TheVariants.{BadRecord, WrongKey, Disk, Memory}
use Rattle.world_client.specs.Histories.{HasNoSearch, IsOfClient, records_under}
use Rattle.world_client.specs.Starting.{IsMadeUnder, IsUnder}

take_none : (n : ℕ) → take {A = List ℕ} n [] ≡ []
take_none zero = refl
take_none (suc n) = refl

-- Epochs without searches are as their records tell them, but for their keys.
module _ (mark : List ℕ → List ℕ) where
  run_recorded : (run : Run) → filter is_update run.later ≡ run.later → record { setup = run.setup; later = filter is_update run.later } ≡ run
  run_recorded run all = λ i. record { setup = run.setup; later = all i }

  last-recorded : (first : List ℕ) (es : Epochs) → HasNoSearch first (Some es) → last_run (as_recorded mark es) ≡ last_run es
  last-recorded first (From o run) all = run_recorded run all
  last-recorded first (Renewed before own run) all = run_recorded run all.1

  begins-recorded : (first : List ℕ) (es : Epochs) → HasNoSearch first (Some es) → begins (as_recorded mark es) ≡ begins es
  begins-recorded first (From o run) all = refl
  begins-recorded first (Renewed before own run) all = λ i. behind (begins-recorded first before all.0 i) (last-recorded first before all.0 i)

  key-recorded : (first : List ℕ) (es : Epochs) → key_now (mark first) (as_recorded mark es) ≡ mark (key_now first es)
  key-recorded first (From o run) = refl
  key-recorded first (Renewed before own run) = refl

module _ (f : KeyedFn) (size : (key : List ℕ) → length (mark_of f key) ≡ 16) (first : List ℕ) where
  opened : (es : Epochs) → IsOfClient f first (Some es) → Opens (mark_of f first) (records_under f first (Some es)) (as_recorded (mark_of f) es)
  opened es of = opens-records (mark_of f) size first (Some es) of.whole of.kept of.differ

  -- it greets for the history of its records
  module _ (key : List ℕ) where
    greets : (h : History) (client : Restored) → IsOfClient f first h → restored_key client ≡ key → IsRestored (mark_of f key) (records_under f first h) client → IsMadeUnder f first h key client
    greets None (restored.Fresh client) of keyed is = (tt, λ same. keyed ∙ same)
    greets None (restored.Recorded client) of keyed is = absurd is.2.opened.say
    greets (Some es) (restored.Fresh client) of keyed is =
        let none : Opens (mark_of f first) [] (as_recorded (mark_of f) es) = subst (λ payloads. Opens (mark_of f first) payloads (as_recorded (mark_of f) es)) is (opened es of) in
        absurd none.say
    greets (Some es) (restored.Recorded client) of keyed is =
        let told : IsRecordedIn (mark_of f key) (records_of_epochs (mark_of f) first es) (mark_of f first) (as_recorded (mark_of f) es) client.state =
        restored-records (mark_of f) size first (mark_of f key) es client of.whole of.kept of.differ is in (
          sym (key-recorded (mark_of f) first es) ∙ told.under,
          λ same. record {
            key = keyed ∙ same;
            remembers =
                subst (λ (o : Offsets). Remembers o (last_run es) client.state) (begins-recorded (mark_of f) first es of.updates)
                (subst (λ (run : Run). Remembers (begins (as_recorded (mark_of f) es)) run client.state) (last-recorded (mark_of f) first es of.updates) told.remembers);
            marks = told.marks;
          },
        )

    pub made_under : (h : History) (told : List (List ℕ) → Type 0) (r : Rebuilt) (client : Restored) → IsOfClient f first h → told (records_under f first h) → IsRebuiltFrom told (mark_of f key) r → restored_key client ≡ key
        → ((mark : List ℕ) (payloads : List (List ℕ)) → IsFinished mark payloads r → IsRestored mark payloads client) → IsMadeUnder f first h key client
    made_under h told r client of there from keyed restores =
        greets h client of keyed (subst (λ payloads. IsRestored (mark_of f key) payloads client) (from.all (records_under f first h) there) (restores (mark_of f key) from.payloads from.finished))

    -- records under its mark are under no other
    pub never_elsewhere : (h : History) → IsOfClient f first h → IsUnder f first h key → OpensElsewhere (mark_of f key) (records_under f first h) → ⊥
    never_elsewhere None of under elsewhere = elsewhere.opened.say
    never_elsewhere (Some es) of under elsewhere =
        let same = opens_once elsewhere.first (mark_of f first) (records_under f first (Some es)) elsewhere.es (as_recorded (mark_of f) es) elsewhere.opened (opened es of) in
        elsewhere.differs ((λ i. key_now (same.0 i) (same.1 i)) ∙ key-recorded (mark_of f) first es ∙ under)

    -- none of its records is bad
    pub never_bad : {T : Type 0} (h : History) (n : ℕ) (result : Result T JournalStop) → IsOfClient f first h → result ≡ Err (BadRecord n) → IsBadRecord (records_under f first h) n
        → ((es : List ℕ) (epochs : Epochs) → Opens es (records_under f first h) epochs → key_now es epochs ≡ mark_of f key → GoesOn result) → (OpensElsewhere (mark_of f key) (records_under f first h) → EndsFor WrongKey result) → ⊥
    never_bad None n result of is bad accepted wrong = bad.refused [] None (take_none (n + 1))
    never_bad {T} (Some es) n result of is bad accepted wrong =
        let other : result ≢ Err Disk = λ e. cc in
        let another : result ≢ Err Memory = λ e. cc in
        let differs : key_now (mark_of f first) (as_recorded (mark_of f) es) ≡ mark_of f key → ⊥ = λ same. let ok : IsOk result = accepted (mark_of f first) (as_recorded (mark_of f) es) (opened es of) same other another in not_ok ok in
        let ends : result ≡ Err WrongKey = wrong (record { first = mark_of f first; es = as_recorded (mark_of f) es; opened = opened es of; differs = differs }) other another in
        cc
      where
        not_ok : IsOk result → ⊥
        not_ok ok = let said : IsOk {T = T} (Err (BadRecord n)) = subst (λ r. IsOk r) is ok in true≢false (sym said)

pub same_inside : (a b : List ℕ) → Some a ≡ Some b → a ≡ b
same_inside a b e = cc

pub some_of : {A : Type 0} (o : Option A) (x : A) (P : A → Type 0) → o ≡ Some x → IfSome o P → P x
some_of o x P e p = subst (λ o. IfSome o P) e p
