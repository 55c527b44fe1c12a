-- The runs that the client makes come in a row: each that resumes begins with the records that the one before it left.
use Rattle.std.proofs.Common.{◌≡◌, ℕ, inl, inr, List, Some, sym, ap, ◌∙◌, subst}
use Rattle.std.specs.Prelude.{◌⊎◌, IfSome}
use Rattle.client_records.specs.Openings.{MarksDiffer}
use Rattle.client_registry.proofs.HistoryLaws.{IsFirstOf-same, IsFirstOf-trans}
use Rattle.client_registry.specs.Epochs.{key_now}
use Rattle.client_registry.specs.Histories.{IsFirstOf, IsKept, IsWhole}
use Rattle.client_registry.specs.Run.{Epochs}
use Rattle.keyed_fn.specs.KeyFormulas.{mark_of}
use Rattle.keyed_fn.specs.KeyedFn.{KeyedFn, IsKeyedFn}
use Rattle.def_script_meaning.proofs.RunGoes.{goes}
use Rattle.def_script_meaning.proofs.SessionsInARow.{row_goes_on}
use Rattle.def_script_meaning.proofs.Whole.{IsWhole-first, meaning_is_whole}
use Rattle.def_script_meaning.specs.Carries.{Outside}
use Rattle.def_script_meaning.specs.Joined.{updates_of}
use Rattle.def_script_meaning.specs.Meaning.{meaning}
use Rattle.def_script_meaning.specs.Recorded.{IsRecorded, records_in}
use Rattle.def_script_meaning.specs.Rejoins.{IsRecordedBehind}
use Rattle.def_script_meaning.specs.SessionsInARow.{Begins, ResumesAfter, Session, with_session}
use Rattle.def_script_meaning.specs.Since.{last_epoch}
use Rattle.sse_client.specs.CanGoOn.{IsRecordedAfter}
use Rattle.sse_client.specs.Known.{epochs_known}
use Rattle.sse_client.specs.OnDisk.{HasGoneOn}
use Rattle.sse_client.proofs.RunRejoins.{known_once, known_whole, opens_whole, recorded_as}
use Rattle.client_journal.specs.Shows.{SinkShows}
use Rattle.sse_client.specs.WholeRuns.{IsRun}
use Rattle.sse_outside.specs.Kept.{Kept}

-- a whole run begins a row with the history whose records it left
pub run_begins : (f : KeyedFn) (bytes key : List ℕ) (first : Epochs) (now last : Outside) (sink sink' : SinkShows) (status : ℕ) (has : IsRun f bytes now last sink sink' status)
    → has.end.key ≡ Some key → has.recorded.held ≡ Some first → Begins f key first now last
run_begins f bytes key first now last sink sink' status has key_is held = record {
  history = has.end.history;
  status = status;
  recorded = recorded.0;
  whole = whole;
  least = subst (IsFirstOf recorded.0.held) recorded.1 (IsFirstOf-same recorded.0.held);
  most = subst (λ h. IsFirstOf h has.end.history) recorded.1 recorded.0.first;
}
  where
    recorded : (r : IsRecorded f (Some key) has.end.history status now last) × (r.held ≡ Some first)
    recorded = subst (λ k. (r : IsRecorded f k has.end.history status now last) × (r.held ≡ Some first)) key_is (has.recorded, held)

    -- it is a first part of what its script means, which is whole
    whole : IsWhole (Some first)
    whole =
        let m = meaning (Some (mark_of f)) bytes in
        let part : IsFirstOf (Some first) has.end.history = subst (λ h. IsFirstOf h has.end.history) recorded.1 recorded.0.first in
        IsWhole-first (Some first) m.history (IsFirstOf-trans (Some first) has.end.history m.history part (goes f bytes now has.end has.opens).history) (meaning_is_whole (Some (mark_of f)) bytes)

-- Promise P182, also here
-- a run that went on with the records of earlier epochs sent nothing and took no record; or it is the next session of the row, and left the
-- records with which one more can go on
pub goes_on_in_a_row : (f : KeyedFn) → IsKeyedFn f → (bytes key : List ℕ) (earlier : Epochs) (now last : Outside) (status f0 f2 s0 s2 : ℕ) (has : HasGoneOn f bytes now last status f0 f2 s0 s2)
    → IsWhole (Some earlier) → IsKept (Some earlier) → MarksDiffer (mark_of f) key (Some earlier) → now.kept.records ≡ Some (records_in f key (Some earlier)) → has.end.key ≡ Some (key_now key earlier)
    → ((last.told ≡ now.told) × (last.kept ≡ now.kept))
    ⊎ ((s : Session) × ResumesAfter f (key_now key earlier) (last_epoch (updates_of earlier)) s × (s.now ≡ now) × (s.end ≡ has.end) × (last.kept.records ≡ Some (records_in f key (Some (with_session earlier s)))))
goes_on_in_a_row f laws bytes key earlier now last status f0 f2 s0 s2 has whole kept differ told key_is = by recorded
  where
    own : List ℕ
    own = key_now key earlier

    recorded : IsRecordedAfter f (records_in f key (Some earlier)) now has.end
    recorded = subst (λ records. IfSome records (λ payloads. IsRecordedAfter f payloads now has.end)) told has.recorded

    by : IsRecordedAfter f (records_in f key (Some earlier)) now has.end → ((last.told ≡ now.told) × (last.kept ≡ now.kept))
        ⊎ ((s : Session) × ResumesAfter f own (last_epoch (updates_of earlier)) s × (s.now ≡ now) × (s.end ≡ has.end) × (last.kept.records ≡ Some (records_in f key (Some (with_session earlier s)))))
    by (inl nothing) = inl (has.told ∙ nothing.0, has.kept ∙ nothing.1)
    by (inr (other, known, opens, r)) =
        let same_key : other ≡ own = let both : Some other ≡ Some own = sym r.same_key ∙ key_is in cc in
        let same : epochs_known known ≡ last_epoch (updates_of earlier) =
        ap epochs_known (known_once (mark_of f other) (mark_of f own) (records_in f key (Some earlier)) known (recorded_as f key earlier) opens (opens_whole f laws key earlier whole kept differ))
        ∙ known_whole f key earlier in
        let row = row_goes_on f key earlier now has.end told (subst (λ (p : List ℕ × Epochs). IsRecordedBehind f p.0 p.1 now has.end) (λ i. (same_key i, same i)) r) in
        inr (row.0, row.1, row.2, row.3, ap (λ (k : Kept). k.records) has.kept ∙ row.4)
