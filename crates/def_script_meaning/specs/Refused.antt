-- Why a command of the script is refused: the first cause that applies (docs/FORMATS.md).
use Rattle.std.specs.Prelude.{ℕ, ◌+◌, ◌-◌, ◌^◌, not, ◌&&◌, ◌==◌, nat_lt, List, length, position, bytes_eq, Option, None, Some, option_map, if◌then◌else◌}
use Rattle.std.specs.List.{position_from}
use Rattle.std.specs.Option.{option_or}
use Rattle.client_registry.specs.declared.faults.SizeFault.{SizeFault}
use Rattle.client_registry.specs.declared.faults.SizeFault.TheVariants as sizes
use Rattle.client_registry.specs.Document.{Document}
use Rattle.client_registry.specs.Acceptance.{frames_needed, size_refusal}
use Rattle.client_registry.specs.Run.{History}
use Rattle.client_registry.specs.Setup.{Setup, setup_with}
use Rattle.client_registry.specs.Documents.{pairs_of}
use Rattle.client_registry.specs.Histories.{is_live_in, is_listed_in, counter_in, frames_in}
use Rattle.script_documents.specs.Refused.{document_refusal}
use Rattle.sse_script.specs.declared.refusal.Refusal.{Refusal}
use Rattle.sse_script.specs.declared.refusal.Refusal.TheVariants.{Zero, AlreadyLive, UnknownDocument, TooManyDocuments, TooManyPairs, TooManyBytes, BadParameter, ListTooLong, CounterFull, HistoryFull, KeyUsed}

-- the fault of a setup's size as a refusal
abbrev pub size_refused : SizeFault → Refusal
size_refused (sizes.BadParameter which value) = BadParameter which value
size_refused (sizes.ListTooLong word n) = ListTooLong word n
size_refused (sizes.TooManyBytes n) = TooManyBytes n

-- there is no index of the documents with these numbers b, B and Q
abbrev pub index_refusal : List Document → (b big pad : ℕ) → Option Refusal
index_refusal docs b big pad = option_map size_refused (size_refusal (setup_with docs b big pad))

-- one update frame more would pass the last number, 2^32 - 2
abbrev pub frame_refusal : History → Option Refusal
frame_refusal h = if nat_lt (2 ^ 32 - 1) (frames_in h + 1) then Some HistoryFull else None

-- the first word whose pair is new and whose counter is at its last value
abbrev pub counter_refusal : History → Document → Option Refusal
counter_refusal h d =
    option_map CounterFull (position_from (λ word. not (is_listed_in h word d.id) && (counter_in h word == 2 ^ 32 - 1)) 0 d.words)

-- the live documents are more than a setup may have, or their pairs are
abbrev pub live_refusal : List Document → Option Refusal
live_refusal docs =
    if nat_lt (2 ^ 18) (length docs) then Some (TooManyDocuments (length docs))
    else if nat_lt (2 ^ 20) (pairs_of docs) then Some (TooManyPairs (pairs_of docs)) else None

-- the update frames of this setup would pass the last number
abbrev pub frames_refusal : History → Setup → Option Refusal
frames_refusal h s = if nat_lt (2 ^ 32 - 1) (frames_in h + frames_needed s) then Some HistoryFull else None

-- the new key is the one of an epoch, the first whose mark is this one
abbrev pub key_refusal : (marks : List (List ℕ)) → (mark : List ℕ) → Option Refusal
key_refusal marks mark = option_map KeyUsed (position (bytes_eq mark) marks)

-- the key isn't renewed with this setup
abbrev pub renewal_refusal : History → Setup → Option Refusal
renewal_refusal h s = option_or (live_refusal s.documents) (option_or (option_map size_refused (size_refusal s)) (frames_refusal h s))

-- a document isn't added
abbrev pub add_refusal : History → Document → Option Refusal
add_refusal h d =
    option_or (document_refusal d.id d.words) (
    if is_live_in h d.id then Some (AlreadyLive d.id)
    else option_or (counter_refusal h d) (frame_refusal h)
    )

-- a document isn't deleted
abbrev pub delete_refusal : History → ℕ → Option Refusal
delete_refusal h id =
    if id == 0 then Some Zero
    else if not (is_live_in h id) then Some (UnknownDocument id)
    else frame_refusal h
