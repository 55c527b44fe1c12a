-- The events that the lines of a world ask for, the documents that they collect, and which lines are bad.
use Rattle.std.specs.Prelude.{◌≡◌, ◌⊎◌, ◌≤◌, ◌^◌, ◌==◌, ℕ, List, [], ◌∷◌, ◌++◌, Option, None, Some, IsSome, if◌then◌else◌}
use Rattle.client_registry.specs.Document.{Document}
use Rattle.client_registry.specs.IdNumber.{id_number}
use Rattle.client_registry.specs.WordBytes.{word_bytes}
use Rattle.script_documents.specs.LineDocument.{document}
use Rattle.script_documents.specs.Refused.{bad_word, collect_refusal, document_refusal}
use Rattle.script_run_texts.specs.LineWords.{words_in}
use Rattle.script_world.specs.WorldLines.{WorldLineText, ScriptLine, NextWorld, SendLine, DeliverLine, LoseLine, StopLine, StartLine, world_line_of}
use Rattle.script_world.specs.declared.world_line.Side.{Side}
use Rattle.sse_script.specs.Lines.{Line, Empty, Key, Doc, SetupLine, AddLine, Del, Find, Query, Rebuild}
use Rattle.sse_script.specs.declared.refusal.Refusal.{Refusal}
use Rattle.sse_script.specs.declared.refusal.Refusal.TheVariants as refusals
use Rattle.script_events.specs.declared.event.WorldEvent.{WorldEvent}
use Rattle.script_events.specs.declared.event.WorldEvent.TheVariants as events

-- what an event asks for
pub data EventText : Type 0 where
  Ends : EventText
  Begins : (key : List ℕ) → EventText
  SetsUp : (b big pad : ℕ) → EventText
  Adds : Document → EventText
  Deletes : (id : ℕ) → EventText
  Renews : (key : List ℕ) → EventText
  Finds : (word : List ℕ) → EventText
  Sends : EventText
  Delivers : (place : ℕ) → EventText
  Loses : EventText
  Stops : (side : Side) (call pick : ℕ) → EventText
  Starts : (side : Side) → EventText

abbrev pub event_view : WorldEvent → EventText
event_view events.World = Ends
event_view (events.Key key) = Begins key
event_view (events.SetUp sizes) = SetsUp sizes.b sizes.big sizes.pad
event_view (events.Add doc) = Adds doc
event_view (events.Delete id) = Deletes (id_number id)
event_view (events.Renew key) = Renews key
event_view (events.Find word) = Finds (word_bytes word)
event_view events.Send = Sends
event_view (events.Deliver place) = Delivers place
event_view events.Lose = Loses
event_view (events.Stop side call pick) = Stops side call pick
event_view (events.Start side) = Starts side

-- of a script's line; a document is no event, and a query is no line of a world
abbrev pub script_event_in : Line → Option EventText
script_event_in Empty = None
script_event_in (Key key) = Some (Begins key)
script_event_in (Doc id words) = None
script_event_in (SetupLine b big pad) = Some (SetsUp b big pad)
script_event_in (AddLine id words) = Some (Adds (document id words))
script_event_in (Del id) = Some (Deletes id)
script_event_in (Find word) = Some (Finds word)
script_event_in (Query fields) = None
script_event_in (Rebuild key) = Some (Renews key)

-- of a line of a world
abbrev pub event_in : WorldLineText → Option EventText
event_in (ScriptLine line) = script_event_in line
event_in NextWorld = Some Ends
event_in SendLine = Some Sends
event_in (DeliverLine place) = Some (Delivers place)
event_in LoseLine = Some Loses
event_in (StopLine side call pick) = Some (Stops side call pick)
event_in (StartLine side) = Some (Starts side)

-- the documents collected after a line
abbrev pub docs_after : List Document → WorldLineText → List Document
docs_after docs (ScriptLine (Doc id words)) = docs ++ document id words ∷ []
docs_after docs line = docs

-- why a line's identifier, document or word can't be, of a script's line and of any
abbrev pub script_refusal_in : List Document → Line → Option Refusal
script_refusal_in docs (Doc id words) = collect_refusal docs (document id words)
script_refusal_in docs (AddLine id words) = document_refusal id words
script_refusal_in docs (Del id) = if id == 0 then Some refusals.Zero else None
script_refusal_in docs (Find word) = bad_word 0 (word ∷ [])
script_refusal_in docs line = None

abbrev pub refusal_in : List Document → WorldLineText → Option Refusal
refusal_in docs (ScriptLine line) = script_refusal_in docs line
refusal_in docs line = None

-- it has at most 2^19 words
abbrev pub few_words : WorldLineText → Type 0
few_words (ScriptLine line) = words_in line ≤ 2 ^ 19
few_words line = Unit {0}

-- these bytes are a line that asks for this, if for anything, and after which these documents are collected
pub record IsEventOf (bytes : List ℕ) (before after : List Document) (event : Option EventText) : Type 0 where
  pub line : WorldLineText
  pub is : world_line_of bytes ≡ Some line
  pub asks : event ≡ event_in line
  pub collects : after ≡ docs_after before line
  pub good : refusal_in before line ≡ None

-- these bytes are no line of a world, or one of what can't be
abbrev pub IsBadLine : (bytes : List ℕ) → List Document → Type 0
IsBadLine bytes docs = (world_line_of bytes ≡ None) ⊎ ((line : WorldLineText) × (world_line_of bytes ≡ Some line) × IsSome (refusal_in docs line))
