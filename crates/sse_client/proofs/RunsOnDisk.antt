-- A run on a disk: what its journal's records make of it before it comes to its lines, and what it comes to.
use Rattle.std.proofs.Common.{◌≡◌, ◌≢◌, inl, inr, ℕ, ◌+◌, ◌<◌, List, [], ◌∷◌, ◌++◌, length, Option, None, Some, refl, sym, ap, ◌∙◌, subst, arith}
use Rattle.std.specs.Prelude.{IfSome}
use Rattle.client_core.specs.Restores.{IsRestored}
use Rattle.client_core.specs.declared.client.Client.{Client}
use Rattle.client_core.specs.declared.restored.Restored.TheVariants as restored
use Rattle.client_core.specs.declared.fresh.Fresh.{Fresh}
use Rattle.client_core.specs.declared.recorded.Recorded.{Recorded}
use Rattle.client_journal.specs.Openings.{GivesSome, HasNoRecord, IsNoJournal, IsOfRecords}
use Rattle.client_journal.specs.Recordings.{IsRebuiltFrom}
use Rattle.client_rebuild.specs.declared.rebuilt.Rebuilt.{Rebuilt}
use Rattle.client_records.specs.Openings.{IsBadRecord, Opens, OpensElsewhere, marks_of}
use Rattle.client_registry.specs.Epochs.{key_now}
use Rattle.client_registry.specs.Histories.{empty}
use Rattle.client_registry.specs.Run.{Epochs, From, Renewed}
use Rattle.keyed_fn.specs.KeyFormulas.{mark_of}
use Rattle.keyed_fn.specs.KeyedFn.{KeyedFn, IsKeyedFn}
use Rattle.script_run_texts.specs.Stops.{journal_cause, journal_line, journal_status}
use Rattle.script_run_texts.specs.declared.input_stop.InputStop.{InputStop}
use Rattle.script_run_texts.specs.declared.input_stop.InputStop.TheVariants as inputs
use Rattle.script_run_texts.specs.declared.journal_stop.JournalStop.{JournalStop}
use Rattle.script_run_texts.specs.declared.journal_stop.JournalStop.TheVariants as journals
use Rattle.def_script_meaning.specs.Carries.{Outside}
use Rattle.def_script_meaning.specs.Lines.{lines_in}
use Rattle.def_script_meaning.specs.Runs.{ended}
use Rattle.def_script_meaning.specs.Stops as ends
use Rattle.sse_journal.proofs.FileRecords.{records_of_journal}
use Rattle.sse_journal.specs.FileRecords.{records_in_file}
use Rattle.sse_journal.specs.JournalView.{IsJournalOf, records_of}
use Rattle.sse_journal.specs.declared.journal.Journal.{Journal}
use Rattle.sse_script.specs.TextLines.{lines_left}
use Rattle.def_script_meaning.specs.Exchange.{Told}
use Rattle.sse_outside.specs.Fronts.{TookOrRose}
use Rattle.sse_script.specs.Shown.{BadLine, NoJournal, NoMemory, SourceFault}
use Rattle.sse_client.proofs.ResumedRuns.{for_all}
use Rattle.sse_client.proofs.LastLine.{ends_line}
use Rattle.sse_client.proofs.RunRejoins.{has_gone_on_so}
use Rattle.sse_client.proofs.WholeRun.{IfSome-then}
use Rattle.def_script_meaning.specs.Stops.{status_of}
use Rattle.sse_client.specs.Known.{Known, Knows, OpensUnder, known_of, marks_before}
use Rattle.sse_client.specs.ResumedRun.{AtKeyLine, GoesOnFrom, GoesOnOver, GoesOnTo, HasEndedAfter, IsUnrestored, Restores}
use Rattle.sse_client.specs.KeyLines.{FindsKey, Keyed, Missing, key_line}
use Rattle.sse_client.specs.LastLine.{EndsLine}
use Rattle.client_journal.specs.DiskRuns.{IsNotBegun, IsNotReopened, kept_on, records_on}
use Rattle.sse_client.specs.OnDisk.{HasGoneOn, IsUnopened, held_stop}
use Rattle.sse_client.specs.declared.on_disk.HeldUp.TheVariants as held

-- The records of a journal.

-- the marks of epochs are those before the last, and the last one's
last_mark : (first : List ℕ) (es : Epochs) → marks_of first es ≡ marks_before first es ++ key_now first es ∷ []
last_mark first (From o run) = refl
last_mark first (Renewed before own run) = refl

module _ (f : KeyedFn) (key : List ℕ) (j : Journal) (content : Option (List ℕ)) (images : List ℕ → Type 0) (holds : IfSome content (λ file. IsOfRecords j content images)) where
  abbrev told : List (List ℕ) → Type 0
  told payloads = IsJournalOf payloads j content images

  -- the records of the disk's file are those that the journal is of
  over_records : (P : List (List ℕ) → Type 0) → ((payloads : List (List ℕ)) → told payloads → P payloads) → IfSome (records_on content) P
  over_records P all = by content refl holds
    where
      by : (c : Option (List ℕ)) → content ≡ c → IfSome c (λ file. IsOfRecords j content images) → IfSome (records_on c) P
      by None e none = tt
      by (Some file) e of =
          let same : records_in_file file ≡ of.0 = (let is : Some (records_in_file file) ≡ Some of.0 = sym (ap records_on e) ∙ records_of_journal of.0 j content images of.1 in cc) in
          subst P (sym same) (all of.0 of.1)

  -- a client that was restored of them
  pub restores : (r : Rebuilt) (client : Client Recorded) (rebuilt : IsRebuiltFrom told (mark_of f key) r) → IsRestored (mark_of f key) rebuilt.payloads (restored.Recorded client)
      → (known : Known) × Restores f key (kept_on content) known × Knows f key known client.state
  restores r client rebuilt (first, es, is) = (
    known_of first es,
    (
      is.remembers.kept,
      over_records (λ payloads. OpensUnder (mark_of f key) payloads (known_of first es))
          (λ payloads of. record { first = first; es = es; opened = subst (λ ps. Opens first ps es) (rebuilt.all payloads of) is.opened; last = is.under; is = refl }),
    ),
    record { remembers = is.remembers; marks = is.marks ∙ last_mark first es ∙ ap (λ mark. marks_before first es ++ mark ∷ []) is.under },
  )

  -- and why there is none
  pub unrestored : (stop : JournalStop) → ((n : ℕ) → stop ≡ journals.BadRecord n → (payloads : List (List ℕ)) → told payloads → IsBadRecord payloads n)
      → (stop ≡ journals.WrongKey → (payloads : List (List ℕ)) → told payloads → OpensElsewhere (mark_of f key) payloads) → ((payloads : List (List ℕ)) → told payloads → stop ≢ journals.NoJournal)
      → stop ≢ journals.HasRecords → IsUnrestored f key (kept_on content) (journal_cause stop)
  unrestored journals.NoJournal bad wrong readable other = over_records (λ payloads. ⊥) (λ payloads of. readable payloads of refl)
  unrestored journals.HasRecords bad wrong readable other = absurd (other refl)
  unrestored (journals.BadRecord n) bad wrong readable other = over_records _ (λ payloads of. bad n refl payloads of)
  unrestored journals.WrongKey bad wrong readable other = over_records _ (λ payloads of. wrong refl payloads of)
  unrestored journals.Disk bad wrong readable other = tt
  unrestored journals.Memory bad wrong readable other = tt

  -- there is one where there are records
  pub unrestored-fresh : (r : Rebuilt) (client : Client Fresh) (rebuilt : IsRebuiltFrom told (mark_of f key) r) → IsRestored (mark_of f key) rebuilt.payloads (restored.Fresh client) → 0 < records_of j → IsUnrestored f key (kept_on content) NoJournal
  unrestored-fresh r client rebuilt none some = over_records (λ payloads. ⊥) (λ payloads of. omega (arith, some, of.records_are, ap length (sym (rebuilt.all payloads of) ∙ none)))

-- Before the lines.

module _ (f : KeyedFn) (left : Option (List (List ℕ))) (now : Outside) where
  -- the reading stops before the key line, or none stands where it has to
  pub goes_on-unread : (stop : InputStop) → ((number : ℕ) → stop ≡ inputs.Line number → IfSome left (λ texts. key_line 1 (lines_in texts) ≡ Missing number)) → GoesOnTo f left now now (held_stop (held.Input stop))
  goes_on-unread (inputs.Line number) missing = (
    None,
    empty,
    IfSome-then left (λ texts. key_line 1 (lines_in texts) ≡ Missing number) (λ texts. GoesOnOver f (lines_in texts) now (ended now None empty (ends.At (BadLine number))))
        (λ texts is. inr (subst (λ k. AtKeyLine f k now (ended now None empty (ends.At (BadLine number)))) (sym is) refl)) (missing number refl),
  )
  goes_on-unread inputs.Source missing = (None, empty, for_all left (λ texts. GoesOnOver f (lines_in texts) now (ended now None empty (ends.At SourceFault))) (λ texts. inl (inl refl)))
  goes_on-unread inputs.Memory missing = (None, empty, for_all left (λ texts. GoesOnOver f (lines_in texts) now (ended now None empty (ends.At NoMemory))) (λ texts. inl (inr refl)))

  -- or the records stop it behind the key line
  pub goes_on-unrestored : (key : List ℕ) (next : ℕ) (behind : Option (List (List ℕ))) (stop : JournalStop) → FindsKey 1 left key next behind → IsUnrestored f key now.kept (journal_cause stop) → GoesOnTo f left now now (held_stop (held.Records stop))
  goes_on-unrestored key next behind stop finds why = (
    Some key,
    empty,
    IfSome-then left (λ texts. (rest : List (List ℕ)) × (behind ≡ Some rest) × (key_line 1 (lines_in texts) ≡ Keyed key next (lines_in rest))) (λ texts. GoesOnOver f (lines_in texts) now (ended now (Some key) empty (ends.At (journal_cause stop))))
        (λ texts found. inr (subst (λ k. AtKeyLine f k now (ended now (Some key) empty (ends.At (journal_cause stop)))) (sym found.2) (inl (journal_cause stop, why, refl)))) finds,
  )

-- what a run that goes on comes to, from its key line on
pub has_gone_on : (f : KeyedFn) (laws : IsKeyedFn f) (remaining : Option (List ℕ)) (key : List ℕ) (known : Known) (next : ℕ) (behind : Option (List (List ℕ))) (now last : Outside) (status f0 f2 s0 s2 : ℕ) → FindsKey 1 (lines_left [] remaining) key next behind → Restores f key now.kept known
    → HasEndedAfter f key known next behind now last status f0 f2 s0 s2 → IfSome remaining (λ bytes. HasGoneOn f bytes now last status f0 f2 s0 s2)
has_gone_on f laws None key known next behind now last status f0 f2 s0 s2 finds restores after = tt
has_gone_on f laws (Some bytes) key known next behind now last status f0 f2 s0 s2 finds restores after =
    let goes : GoesOnFrom f key known next (lines_in finds.0) now after.end = subst (λ b. IfSome b (λ texts. GoesOnFrom f key known next (lines_in texts) now after.end)) finds.1 after.goes_on in
    has_gone_on_so f laws bytes now last status after.end (inr (subst (λ k. AtKeyLine f k now after.end) (sym finds.2) (inr (known, restores, goes)))) after.status_is f0 f2 s0 s2 after.told after.kept after.line

-- one that stops before its lines comes to its last line
pub has_gone_on-held : (f : KeyedFn) (laws : IsKeyedFn f) (remaining : Option (List ℕ)) (now last : Outside) (stop : ends.Stop) (status f0 f2 s0 s2 : ℕ) → GoesOnTo f (lines_left [] remaining) now now stop → last.told ≡ now.told → last.kept ≡ now.kept
    → EndsLine stop now.written last.written status f0 f2 s0 s2 → status ≡ status_of stop → IfSome remaining (λ bytes. HasGoneOn f bytes now last status f0 f2 s0 s2)
has_gone_on-held f laws None now last stop status f0 f2 s0 s2 goes told kept line is = tt
has_gone_on-held f laws (Some bytes) now last stop status f0 f2 s0 s2 goes told kept line is = has_gone_on_so f laws bytes now last status (ended now goes.0 goes.1 stop) goes.2 is f0 f2 s0 s2 told kept line

-- A journal that isn't opened.

pub not_begun : (stop : JournalStop) (content : Option (List ℕ)) → (stop ≡ journals.HasRecords → IfSome content GivesSome) → (stop ≡ journals.NoJournal → IfSome content IsNoJournal) → ((number : ℕ) → stop ≢ journals.BadRecord number)
    → stop ≢ journals.WrongKey → IfSome content (IsNotBegun stop)
not_begun journals.NoJournal content records journal bad key = journal refl
not_begun journals.HasRecords content records journal bad key = records refl
not_begun (journals.BadRecord number) content records journal bad key = absurd (bad number refl)
not_begun journals.WrongKey content records journal bad key = absurd (key refl)
not_begun journals.Disk content records journal bad key = for_all content (λ file. Unit {0}) (λ file. tt)
not_begun journals.Memory content records journal bad key = for_all content (λ file. Unit {0}) (λ file. tt)

pub not_reopened : (stop : JournalStop) (content : Option (List ℕ)) → (stop ≡ journals.NoJournal → IfSome content HasNoRecord) → stop ≢ journals.HasRecords → ((number : ℕ) → stop ≢ journals.BadRecord number)
    → stop ≢ journals.WrongKey → IfSome content (IsNotReopened stop)
not_reopened journals.NoJournal content journal records bad key = journal refl
not_reopened journals.HasRecords content journal records bad key = absurd (records refl)
not_reopened (journals.BadRecord number) content journal records bad key = absurd (bad number refl)
not_reopened journals.WrongKey content journal records bad key = absurd (key refl)
not_reopened journals.Disk content journal records bad key = for_all content (λ file. Unit {0}) (λ file. tt)
not_reopened journals.Memory content journal records bad key = for_all content (λ file. Unit {0}) (λ file. tt)

pub unopened : (Why : JournalStop → List ℕ → Type 0) (stop : JournalStop) (told : Told) (content content' written written' : Option (List ℕ)) (status f0 f2 s0 s2 : ℕ) → IfSome content (Why stop)
    → (stop ≢ journals.Disk → stop ≢ journals.Memory → records_on content' ≡ records_on content) → TookOrRose written written' (journal_line stop) f0 f2 s0 s2 → status ≡ journal_status stop
    → IsUnopened Why told told content content' written written' status f0 f2 s0 s2
unopened Why stop told content content' written written' status f0 f2 s0 s2 why unkept line is = record {
  stop = stop;
  why = why;
  unsent = refl;
  unkept = unkept;
  line = ends_line (ends.At (journal_cause stop)) written written' status f0 f0 f2 s0 s0 s2 is line (λ other. refl) (omega arith);
  status_is = is;
}

-- A script is read from its start.

module _ (n : ℕ) (pending : List ℕ) (remaining : Option (List ℕ)) (none : n ≡ 0) (fresh : pending ≡ []) where
  pub missing_from_start : (m : ℕ) → IfSome (lines_left pending remaining) (λ texts. key_line (n + 1) (lines_in texts) ≡ Missing m) → IfSome (lines_left [] remaining) (λ texts. key_line 1 (lines_in texts) ≡ Missing m)
  missing_from_start m missing =
      subst (λ p. IfSome (lines_left p remaining) (λ texts. key_line 1 (lines_in texts) ≡ Missing m)) fresh
      (subst (λ k. IfSome (lines_left pending remaining) (λ texts. key_line (k + 1) (lines_in texts) ≡ Missing m)) none missing)

  pub found_from_start : (key : List ℕ) (next : ℕ) (behind : Option (List (List ℕ))) → FindsKey (n + 1) (lines_left pending remaining) key next behind → FindsKey 1 (lines_left [] remaining) key next behind
  found_from_start key next behind found =
      subst (λ p. FindsKey 1 (lines_left p remaining) key next behind) fresh (subst (λ k. FindsKey (k + 1) (lines_left pending remaining) key next behind) none found)

-- A disk that is read goes on holding the journal's records.
pub holds_on : (j : Journal) (old new : Option (List ℕ)) (images images' : List ℕ → Type 0) → new ≡ old → ((payloads : List (List ℕ)) → IsJournalOf payloads j old images → IsJournalOf payloads j new images')
    → IfSome old (λ file. IsOfRecords j old images) → IfSome new (λ file. IsOfRecords j new images')
holds_on j None new images images' same keeps of = subst (λ c. IfSome c (λ file. IsOfRecords j new images')) (sym same) tt
holds_on j (Some file) new images images' same keeps of = subst (λ c. IfSome c (λ file. IsOfRecords j new images')) (sym same) (of.0, keeps of.0 of.1)
