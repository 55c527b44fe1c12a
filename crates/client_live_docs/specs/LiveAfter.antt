-- What is live after an update that a registry hasn't carried out, and when that is too much for a setup.
use Rattle.std.specs.Prelude.{ℕ, ◌^◌, Bool, false, ◌==◌, nat_lt, List, [], ◌∷◌, ◌++◌, length, map, filter, Option, None, Some, is_some, option_map, if◌then◌else◌}
use Rattle.std.specs.Borrow.{Bor}
use Rattle.client_registry.proofs.LiveListed.{documents_live}
use Rattle.client_registry.specs.Command.{Command, Add, Delete, Search}
use Rattle.client_registry.specs.Document.{Document}
use Rattle.client_registry.specs.Documents.{pairs_of}
use Rattle.client_registry.specs.Facts.{Facts, facts_after}
use Rattle.client_registry.specs.IdNumber.{id_number}
use Rattle.client_registry.specs.Live.{in_order}
use Rattle.client_registry.specs.Registered.{Registered, facts}
use Rattle.client_registry.specs.declared.faults.DocsFault.{DocsFault}
use Rattle.client_registry.specs.declared.faults.DocsFault.TheVariants.{TooManyDocuments, TooManyPairs}
use Rattle.client_live_docs.specs.AreLive.{AreLive}
use Rattle.client_live_docs.specs.declared.pending_update.PendingUpdate.{PendingUpdate}
use Rattle.client_live_docs.specs.declared.pending_update.PendingUpdate.TheVariants as updates

-- the command of a history that an update is
abbrev pub command_of : PendingUpdate → Command
command_of (updates.Add doc) = Add doc.now
command_of (updates.Delete id) = Delete (id_number id)

-- the same of an update, if there is one
abbrev pub command_in : Option (Bor PendingUpdate) → Option Command
command_in pending = option_map (λ update. command_of update.now) pending

-- the words of the live document of each identifier after a command, or before any
abbrev pub live_after : Facts → Option Command → ℕ → Option (List (List ℕ))
live_after f None = f.live
live_after f (Some command) = (facts_after f command).live

-- these documents are the live ones of a registry after the update, if there is one
abbrev pub AreLiveAfter : Registered → Option (Bor PendingUpdate) → List Document → Type 0
AreLiveAfter r pending docs = AreLive (live_after (facts r) (command_in pending)) docs

-- why these documents make no setup: the first of these causes that applies
abbrev pub live_refusal : List Document → Option DocsFault
live_refusal docs =
    if nat_lt (2 ^ 18) (length docs) then Some (TooManyDocuments (length docs))
    else if nat_lt (2 ^ 20) (pairs_of docs) then Some (TooManyPairs (pairs_of docs))
    else None

-- The same by a registry's entries. No public clause cites what follows.

-- the document that a command adds
abbrev pub added_by : Option Command → Option Document
added_by None = None
added_by (Some (Add d)) = Some d
added_by (Some (Delete id)) = None
added_by (Some (Search word)) = None

-- whether it is an update of this identifier
abbrev pub is_touched : Option Command → ℕ → Bool
is_touched None id = false
is_touched (Some (Add d)) id = id == d.id
is_touched (Some (Delete other)) id = id == other
is_touched (Some (Search word)) id = false

-- the words that were live before, unless it is
abbrev pub other_live : Facts → Option Command → ℕ → Option (List (List ℕ))
other_live f c id = if is_touched c id then None else f.live id

abbrev pub added_id : Option Document → List ℕ
added_id None = []
added_id (Some d) = d.id ∷ []

-- the identifiers that are live after it, of those and the one that it adds
abbrev pub ids_among : Facts → Option Command → List ℕ → List ℕ
ids_among f c ids = added_id (added_by c) ++ filter (λ id. is_some (other_live f c id)) ids

-- of all entries
abbrev pub live_ids : Registered → Option Command → List ℕ
live_ids r c = ids_among (facts r) c (map (λ k. k.id) r.kept)

-- the documents that are live after it, by rising identifier
abbrev pub documents_after : Registered → Option Command → List Document
documents_after r c = documents_live (live_after (facts r) c) (in_order (live_ids r c))
