-- A run in one process, of client and server, each with a file of its own in memory: both are made for the run, empty, and dropped after it.
use Rattle.std.specs.Prelude.{◌≡◌, ◌≢◌, ◌⊎◌, ℕ, List, [], ◌++◌, flat_map, map, take, Option, Some}
use Rattle.std.specs.Io.KnownBytes.{append_known}
use Rattle.def_link_events.specs.Served.{IsHonest}
use Rattle.def_link_events.specs.Taken.{updates_among}
use Rattle.def_script_meaning.specs.Carries.{Outside}
use Rattle.def_script_meaning.specs.Headline.{Headline}
use Rattle.def_script_meaning.specs.Meaning.{Meaning, meaning}
use Rattle.def_script_meaning.specs.Outcome.{said}
use Rattle.def_script_meaning.specs.Recorded.{records_with}
use Rattle.def_script_meaning.specs.Session.{IsFree, frames_of}
use Rattle.def_script_meaning.specs.Stops as ends
use Rattle.def_script_meaning.specs.Stops.{status_of, stop_text}
use Rattle.keyed_fn.specs.KeyFormulas.{mark_of}
use Rattle.keyed_fn.specs.KeyedFn.{KeyedFn}
use Rattle.script_run_texts.specs.Stops.{journal_cause, journal_status}
use Rattle.script_run_texts.specs.declared.journal_stop.JournalStop.{JournalStop}
use Rattle.script_run_texts.specs.declared.journal_stop.JournalStop.TheVariants.{NoJournal, Memory}
use Rattle.server_core.specs.State.{at_first}
use Rattle.sse_client.specs.LastLine.{EndsLine}
use Rattle.sse_client.specs.OverServer.{IsRunOverServer}
use Rattle.sse_client.specs.OverStore.{seen_over}
use Rattle.client_journal.specs.Shows.{SinkShows}
use Rattle.sse_client.specs.WholeRuns.{outside}
use Rattle.sse_journal.specs.Files.{file}
use Rattle.sse_link.specs.LinkStates.{LinkState, link_state_on}
use Rattle.sse_outside.specs.Kept.{Kept}
use Rattle.sse_script.specs.Texts.{text_of}
use Rattle.sse_server.specs.Taken.{bodies}

-- a link to a store before anything passed: its server has taken nothing, and its file is the journal of no record
abbrev pub unused : LinkState
unused = link_state_on at_first (Some (file []))

-- a script of this meaning was carried out, and both files say so: the client's is the journal of the records of its history, and the server's
-- that of the updates among its frames
pub record FillsBothFiles (f : KeyedFn) (m : Meaning) (link : LinkState) (own : List ℕ) (now last : Outside) (status : ℕ) : Type 0 where
  pub headline : Headline f at_first m now last status link.state
  pub own_file : own ≡ file (records_with f m.key m.history)
  pub stored : link.file ≡ Some (file (bodies (updates_among (frames_of f m))))

-- a whole run over such a link and an empty file of the client: what passed, the records that were kept, and the client's file at the end
pub record RunsInProcess (f : KeyedFn) (bytes : List ℕ) (sink sink' : SinkShows) (status : ℕ) : Type 0 where
  pub link : LinkState
  pub kept : Kept
  pub own : List ℕ
  -- all that passed is honest
  pub honest : IsHonest f at_first link.events link.state
  pub run : IsRunOverServer f bytes (seen_over unused [] sink.written) (outside (Some link.events) kept sink'.written) sink sink' link.state status
  -- and where source and sink didn't fail, memory wasn't out and the history has no collision, both files are filled
  pub both : status ≢ 3 → status ≢ 4 → status ≢ 7 → IsFree f (meaning (Some (mark_of f)) bytes).key (meaning (Some (mark_of f)) bytes).history
      → FillsBothFiles f (meaning (Some (mark_of f)) bytes) link own (seen_over unused [] sink.written) (seen_over link own sink'.written) status

-- a run that is to go on has no journal to go on from: nothing is read, and the last line says so, or that memory was out
pub record HasNoJournal {S : Type 0} (source source' : S) (sink sink' : SinkShows) (status : ℕ) : Type 0 where
  pub unread : source' ≡ source
  pub stop : JournalStop
  pub why : (stop ≡ NoJournal) ⊎ (stop ≡ Memory)
  pub status_is : status ≡ journal_status stop
  pub line : EndsLine (ends.At (journal_cause stop)) sink.written sink'.written status sink.faults sink'.faults sink.shortages sink'.shortages

-- What is printed, by the script's meaning.

-- a script of this meaning has this status and printed its lines, and a front of the line that says why it stopped
pub record PrintsMeaning (m : Meaning) (old new : Option (List ℕ)) (status : ℕ) : Type 0 where
  pub status_is : status ≡ status_of m.end
  pub q : ℕ
  pub printed : new ≡ append_known old (flat_map text_of (map said m.shown) ++ take q (stop_text m.end))

-- where its history has no collision, the script has the lines and the status of its meaning
abbrev pub PrintsAsMeant : KeyedFn → List ℕ → Option (List ℕ) → Option (List ℕ) → ℕ → Type 0
PrintsAsMeant f bytes old new status = IsFree f (meaning (Some (mark_of f)) bytes).key (meaning (Some (mark_of f)) bytes).history → PrintsMeaning (meaning (Some (mark_of f)) bytes) old new status
