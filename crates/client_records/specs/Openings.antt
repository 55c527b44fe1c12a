-- The history to which records open: that of a setup, then those of updates and renewals, each accepted after those before it. The
-- history's keys are the marks that the records tell.
use Rattle.std.specs.Prelude.{◌≡◌, ℕ, ◌+◌, ◌^◌, ◌<◌, true, false, List, [], ◌∷◌, fold, take, bytes_eq, None, Some}
use Rattle.std.specs.List.{list_any}
use Rattle.client_registry.specs.Acceptance.{frames_needed, size_refusal}
use Rattle.client_registry.specs.Command.{Add, Delete, Search}
use Rattle.client_registry.specs.Documents.{IsCollected}
use Rattle.client_registry.specs.Epochs.{joined, key_now, setup_renewed, Step, Does, Renews, step_after}
use Rattle.client_registry.specs.Histories.{IsKept, accepts, frames_in}
use Rattle.client_registry.specs.Run.{History, Epochs, From, Renewed, at_first, last_run}
use Rattle.client_registry.specs.Setup.{Setup}
use Rattle.client_records.specs.Recorded.{as_recorded}
use Rattle.client_records.specs.Records.{SetsUp, Adds, Deletes, Rekeys, IsRecordOf}

-- the record of a step: of an update, or of a renewal under the key of this mark; a search has none
abbrev pub IsStepRecord : List ℕ → Step → Type 0
IsStepRecord payload (Does (Add d)) = IsRecordOf payload (Adds d)
IsStepRecord payload (Does (Delete id)) = IsRecordOf payload (Deletes id)
IsStepRecord payload (Does (Search word)) = ⊥
IsStepRecord payload (Renews mark) = IsRecordOf payload (Rekeys mark)

-- the records of these steps, one for each, in their order
abbrev pub AreStepRecords : List (List ℕ) → List Step → Type 0
AreStepRecords [] [] = Unit {0}
AreStepRecords [] (step ∷ steps) = ⊥
AreStepRecords (payload ∷ payloads) [] = ⊥
AreStepRecords (payload ∷ payloads) (step ∷ steps) = IsStepRecord payload step × AreStepRecords payloads steps

-- a setup and the steps after it
abbrev pub epochs_by : Setup → List Step → Epochs
epochs_by s steps = fold step_after (From at_first (record { setup = s; later = [] })) steps

-- the first record says the setup, under the key of this mark, and the others say the steps that make the epochs of it
pub record SayTogether (mark first : List ℕ) (others : List (List ℕ)) (es : Epochs) : Type 0 where
  pub setup : Setup
  pub steps : List Step
  pub are : es ≡ epochs_by setup steps
  pub of_setup : IsRecordOf first (SetsUp mark setup)
  pub of_steps : AreStepRecords others steps

abbrev pub AreRecordsOf : List ℕ → List (List ℕ) → Epochs → Type 0
AreRecordsOf mark [] es = ⊥
AreRecordsOf mark (first ∷ others) es = SayTogether mark first others es

-- the marks of the epochs, of which the first has this one
abbrev pub marks_of : List ℕ → Epochs → List (List ℕ)
marks_of mark es = joined (λ own o run. own ∷ []) mark es

-- each is none of those before it
abbrev pub AreApart : List ℕ → Epochs → Type 0
AreApart mark (From o run) = Unit {0}
AreApart mark (Renewed before own run) = AreApart mark before × (list_any (bytes_eq own) (marks_of mark before) ≡ false)

-- and the epochs keep the rules of every history: the setup is accepted, and so is each step after those before it
pub record Opens (mark : List ℕ) (payloads : List (List ℕ)) (es : Epochs) : Type 0 where
  pub say : AreRecordsOf mark payloads es
  pub kept : IsKept (Some es)
  pub apart : AreApart mark es

-- a step is accepted after these epochs: a command where it's accepted and its frame can be numbered; a renewal where it makes an
-- accepted setup, whose frames can be numbered, and its mark is none of theirs
abbrev pub AcceptsStep : (mark : List ℕ) → Epochs → Step → Type 0
AcceptsStep mark es (Does c) = (accepts (Some es) c ≡ true) × (frames_in (Some es) + 1 < 2 ^ 32)
AcceptsStep mark es (Renews own) =
    IsCollected (setup_renewed (last_run es)).documents
    × (size_refusal (setup_renewed (last_run es)) ≡ None)
    × (list_any (bytes_eq own) (marks_of mark es) ≡ false)
    × (frames_in (Some es) + frames_needed (setup_renewed (last_run es)) < 2 ^ 32)

-- the same of a whole history; before a setup there is no record
abbrev pub OpensTo : List ℕ → List (List ℕ) → History → Type 0
OpensTo mark payloads None = payloads ≡ []
OpensTo mark payloads (Some es) = Opens mark payloads es

-- they open to no history, under no mark
abbrev pub OpensNowhere : List (List ℕ) → Type 0
OpensNowhere payloads = (mark : List ℕ) (h : History) → OpensTo mark payloads h → ⊥

-- the record at place n, from 0, is the first that isn't one, or isn't accepted after those before it
pub record IsBadRecord (payloads : List (List ℕ)) (n : ℕ) : Type 0 where
  pub mark : List ℕ
  pub before : History
  pub opened : OpensTo mark (take n payloads) before
  pub refused : OpensNowhere (take (n + 1) payloads)

-- they open to epochs the last of which has another mark than this
pub record OpensElsewhere (mark : List ℕ) (payloads : List (List ℕ)) : Type 0 where
  pub first : List ℕ
  pub es : Epochs
  pub opened : Opens first payloads es
  pub differs : key_now first es ≡ mark → ⊥

-- a history's keys have different marks, where the first of them is this one
abbrev pub MarksDiffer : (mark : List ℕ → List ℕ) (key : List ℕ) → History → Type 0
MarksDiffer mark key None = Unit {0}
MarksDiffer mark key (Some es) = AreApart (mark key) (as_recorded mark es)
