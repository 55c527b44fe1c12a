-- What the records of a history are rebuilt to.
use Rattle.std.proofs.Common.{◌≡◌, ℕ, List, length, subst}
use Rattle.client_registry.specs.Histories.{IsKept, IsWhole}
use Rattle.client_registry.specs.Run.{History}
use Rattle.client_records.proofs.RecordedLaws.{opens_only}
use Rattle.client_records.specs.Openings.{MarksDiffer}
use Rattle.client_records.specs.Recorded.{records_of_history, without_searches}
use Rattle.client_rebuild.specs.Rebuilds.{Rebuilds}
use Rattle.client_rebuild.specs.Recalls.{RecallsIn}
use Rattle.client_rebuild.specs.declared.rebuild.Rebuild.{Rebuild}

-- Promise P68, also here
-- a rebuild that took the records of a history keeps its last command, without its searches, where its keys have different marks
pub rebuilds-records : (mark : List ℕ → List ℕ) → ((key : List ℕ) → length (mark key) ≡ 16) → (key : List ℕ) (h : History) (r : Rebuild) → IsWhole h → IsKept h → MarksDiffer mark key h
    → Rebuilds (records_of_history mark key h) r → RecallsIn (without_searches mark h) r.last
rebuilds-records mark size key h r whole kept differ took =
    subst (λ (other : History). RecallsIn other r.last) (opens_only mark size key took.first h took.history whole kept differ took.opened) took.recalls
