-- A run's records as the client keeps them: those of a history whose first frames were sent.
use Rattle.std.specs.Prelude.{◌≡◌, ◌≢◌, ◌⊎◌, ◌≤◌, ℕ, ◌+◌, List, [], ◌++◌, length, map, take, Option, None, Some}
use Rattle.client_records.specs.Recorded.{records_of_history}
use Rattle.client_registry.specs.Histories.{IsFirstOf}
use Rattle.client_registry.specs.Run.{History}
use Rattle.keyed_fn.specs.KeyFormulas.{mark_of}
use Rattle.keyed_fn.specs.KeyedFn.{KeyedFn}
use Rattle.def_link_events.specs.Events.{Event}
use Rattle.sse_frames.specs.Exchange.{sent_among}
use Rattle.sse_frames.specs.Frames.{frame_bytes}
use Rattle.sse_outside.specs.Kept.{Kept, with_records, with_refused}
use Rattle.def_script_meaning.specs.Carries.{Keeps, Outside}
use Rattle.def_script_meaning.specs.Exchange.{Adds, sent_in}
use Rattle.def_script_meaning.specs.Session.{session_with}

-- the records of a history under this key; before a setup there is none
abbrev pub records_in : KeyedFn → (key : List ℕ) → History → List (List ℕ)
records_in f key h = records_of_history (mark_of f) key h

-- the same where there may be no key
abbrev pub records_with : KeyedFn → Option (List ℕ) → History → List (List ℕ)
records_with f None h = []
records_with f (Some key) h = records_in f key h

-- of these records the first were taken behind those of before and one more, the last of all, was refused, as the disk failed or memory
-- was wanting
pub record HasRefused (all taken : List (List ℕ)) (status : ℕ) (old new : Kept) : Type 0 where
  pub refused : List (List ℕ)
  pub kept : new ≡ with_refused refused (with_records taken old)
  pub last : all ≡ taken ++ refused
  pub status_is : (status ≡ 6) ⊎ (status ≡ 7)

-- of these records the first were taken behind those of before; and one more may have been refused
abbrev pub KeepsFirst : (all taken : List (List ℕ)) (status : ℕ) → (old new : Kept) → Type 0
KeepsFirst all taken status old new = Keeps old new taken ⊎ HasRefused all taken status old new

-- between these two moments of a run, which ended with this key, history and status, the records of a history were taken: of that
-- one, or of the one before the command in hand, which has at most one record less, and that one may have been refused; and the frames
-- that were sent are the first of the history whose records were taken, so that none was sent of a command whose record wasn't
pub record IsRecorded (f : KeyedFn) (key : Option (List ℕ)) (h : History) (status : ℕ) (now end : Outside) : Type 0 where
  pub held : History
  pub first : IsFirstOf held h
  pub most : length (records_with f key h) ≤ length (records_with f key held) + 1
  pub kept : KeepsFirst (records_with f key h) (records_with f key held) status now.kept end.kept
  pub events : List Event
  pub adds : Adds now.told end.told events
  pub count : ℕ
  pub sent : sent_in events ≡ take count (map frame_bytes (sent_among (session_with f key held)))
  -- it lacks the command in hand only where values collided, the disk failed or memory was wanting
  pub whole : status ≢ 6 → status ≢ 7 → status ≢ 8 → held ≡ h
