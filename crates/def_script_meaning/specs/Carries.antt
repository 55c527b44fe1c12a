-- The effect of one line of a script: its traffic, its printed lines, and how a run stops within it.
use Rattle.std.specs.Prelude.{◌≡◌, ◌≢◌, ◌⊎◌, ℕ, List, [], ◌∷◌, drop, take, length, filter, flat_map, map, Option, Some, None, option_map}
use Rattle.std.specs.Io.KnownBytes.{append_known}
use Rattle.client_records.specs.Records.{setup_record, renewal_record, update_record}
use Rattle.client_registry.specs.Command.{is_update}
use Rattle.client_registry.specs.Live.{in_order}
use Rattle.keyed_fn.specs.KeyFormulas.{mark_of}
use Rattle.keyed_fn.specs.KeyedFn.{KeyedFn}
use Rattle.sse_frames.specs.Exchange.{first_answer}
use Rattle.sse_frames.specs.Frames.{FrameText}
use Rattle.def_link_events.specs.Events.{Event}
use Rattle.sse_model.specs.Compared.{Collision, Labels, Places, Numbers}
use Rattle.sse_model.specs.Epochs.{keys_under}
use Rattle.sse_model.specs.Histories.{frames_of_first, frames_of_renewal, frames_of_next, collision_of_first, collision_of_renewal, collision_of_next}
use Rattle.sse_script.specs.Shown.{Cause, DiskFault, LabelClash, PlaceClash, NumberClash, NoMemory}
use Rattle.sse_script.specs.Shown.{Shown, Found, Matched}
use Rattle.sse_outside.specs.Fronts.{TookFront}
use Rattle.sse_outside.specs.Kept.{Kept, with_records, with_refused}
use Rattle.sse_script.specs.Texts.{text_of}
use Rattle.def_script_meaning.specs.Exchange.{Told, Adds, AreExchanged, AreCut}
use Rattle.def_script_meaning.specs.Outcome.{Place, Printed, Says, Finds, Matches, Outcome, Collects, Refuses, SetsUp, Does, Renews, shown_by}
use Rattle.bool_search.specs.Chosen.{chosen_by}
use Rattle.def_script_meaning.specs.Stops.{Stop, SinkFault, At}

-- these records were taken behind those that were kept before
abbrev pub Keeps : (old new : Kept) → (more : List (List ℕ)) → Type 0
Keeps old new more = new ≡ with_records more old

-- what is seen of a run at one moment: what the link told, the records that are kept of it, and what the sink took
pub record Outside : Type 0 where
  pub told : Told
  pub kept : Kept
  pub written : Option (List ℕ)

-- the keys of a place, by epoch
abbrev pub keys_at : Place → ℕ → List ℕ
keys_at place = keys_under place.key place.history

-- the frames that a line sends at a place, where it comes to this
abbrev pub frames_by : KeyedFn → Place → Outcome → List FrameText
frames_by f place (Collects d) = []
frames_by f place (Refuses refusal) = []
frames_by f place (SetsUp s) = frames_of_first f place.key s
frames_by f place (Does commands shown) = frames_of_next f place.key place.history commands
frames_by f place (Renews key s) = frames_of_renewal f key place.history

-- the records that it adds to those that the client keeps: of a setup one, under the mark of the key, and of each update one
abbrev pub records_by : KeyedFn → Place → Outcome → List (List ℕ)
records_by f place (Collects d) = []
records_by f place (Refuses refusal) = []
records_by f place (SetsUp s) = setup_record (mark_of f place.key) s ∷ []
records_by f place (Does commands shown) = map update_record (filter is_update commands)
records_by f place (Renews key s) = renewal_record (mark_of f key) ∷ []

-- two equal values of what it sends, which a client that looks finds
abbrev pub collision_by : KeyedFn → Place → Outcome → Option Collision
collision_by f place (Collects d) = None
collision_by f place (Refuses refusal) = None
collision_by f place (SetsUp s) = collision_of_first f place.key s
collision_by f place (Does commands shown) = collision_of_next f place.key place.history commands
collision_by f place (Renews key s) = collision_of_renewal f key place.history

abbrev pub collision_cause : Collision → Cause
collision_cause (Labels first second) = LabelClash first second
collision_cause (Places first second) = PlaceClash first second
collision_cause (Numbers first second) = NumberClash first second

-- why a run stops before a line sends anything, where two values of what it is to send are equal
abbrev pub clash_in_hand : KeyedFn → Place → Outcome → Option Cause
clash_in_hand f place result = option_map collision_cause (collision_by f place result)

-- the printed lines where the searches have these answers
abbrev pub with_answers : List (List ℕ) → List Printed → List Shown
with_answers answers [] = []
with_answers answers (Says line ∷ shown) = line ∷ with_answers answers shown
with_answers answers (Finds ids ∷ shown) = Found (first_answer answers) ∷ with_answers (drop 1 answers) shown
with_answers answers (Matches fields lists ∷ shown) = Matched (chosen_by fields (take (length lists) answers)) ∷ with_answers (drop (length lists) answers) shown

-- their text, the identifiers of each answer rising
abbrev pub text_with : List (List ℕ) → List Printed → List ℕ
text_with answers shown = flat_map text_of (with_answers (map in_order answers) shown)

-- all frames of a line were exchanged, with these answers to its searches; none of the values compared in them are equal
pub record IsSent (f : KeyedFn) (place : Place) (result : Outcome) (old new : Told) (answers : List (List ℕ)) : Type 0 where
  pub events : List Event
  pub adds : Adds old new events
  pub exchanged : AreExchanged answers (frames_by f place result) events
  pub no_clash : clash_in_hand f place result ≡ None

-- a line that comes to this at a place is carried out: its records are kept, all its frames were exchanged, and all its lines
-- printed
pub record Carries (f : KeyedFn) (place : Place) (result : Outcome) (now next : Outside) : Type 0 where
  pub answers : List (List ℕ)
  pub kept : Keeps now.kept next.kept (records_by f place result)
  pub sent : IsSent f place result now.told next.told answers
  pub printed : next.written ≡ append_known now.written (text_with answers (shown_by result))

-- it stops a run for a collision that the client found: nothing was sent of it, and nothing is printed
pub record FindsClash (f : KeyedFn) (place : Place) (result : Outcome) (now end : Outside) (stop : Stop) : Type 0 where
  pub cause : Cause
  pub found : clash_in_hand f place result ≡ Some cause
  pub stops : stop ≡ At cause
  pub nothing : end ≡ now

-- it stops a run for want of memory before its records are kept: nothing was sent of it, and nothing is printed
pub record LacksMemory (now end : Outside) (stop : Stop) : Type 0 where
  pub stops : stop ≡ At NoMemory
  pub nothing : end ≡ now

-- it stops a run before its records are taken: they are refused, or there was no memory to hand them over; nothing was sent of it, and
-- nothing is printed
pub record IsUnkept (f : KeyedFn) (place : Place) (result : Outcome) (now end : Outside) (stop : Stop) : Type 0 where
  pub stops : (stop ≡ At DiskFault) ⊎ (stop ≡ At NoMemory)
  pub some : records_by f place result ≢ []
  pub no_clash : clash_in_hand f place result ≡ None
  pub unsent : end.told ≡ now.told
  pub kept : (end.kept ≡ now.kept) ⊎ (end.kept ≡ with_refused (records_by f place result) now.kept)
  pub unprinted : end.written ≡ now.written

-- it stops a run within its frames, with its records kept: a front of the frames was exchanged, of the next one at most a part,
-- and nothing is printed
pub record IsCutShort (f : KeyedFn) (place : Place) (result : Outcome) (now end : Outside) (stop : Stop) : Type 0 where
  pub cause : Cause
  pub stops : stop ≡ At cause
  pub kept : Keeps now.kept end.kept (records_by f place result)
  pub events : List Event
  pub adds : Adds now.told end.told events
  pub cut : AreCut (frames_by f place result) events cause
  pub no_clash : events ≢ [] → clash_in_hand f place result ≡ None
  pub unprinted : end.written ≡ now.written

-- it stops a run after its frames: its records are kept, all its frames were exchanged, and a proper front of its lines is
-- printed
pub record IsUnprinted (f : KeyedFn) (place : Place) (result : Outcome) (now end : Outside) (stop : Stop) : Type 0 where
  pub stops : (stop ≡ SinkFault) ⊎ (stop ≡ At NoMemory)
  pub kept : Keeps now.kept end.kept (records_by f place result)
  pub answers : List (List ℕ)
  pub sent : IsSent f place result now.told end.told answers
  pub printed : TookFront now.written end.written (text_with answers (shown_by result))

-- it stops a run before its printing: so not all its frames were exchanged, if they are an update's
abbrev pub StopsIn : KeyedFn → Place → Outcome → Outside → Outside → Stop → Type 0
StopsIn f place result now end stop = FindsClash f place result now end stop ⊎ LacksMemory now end stop ⊎ IsUnkept f place result now end stop ⊎ IsCutShort f place result now end stop
