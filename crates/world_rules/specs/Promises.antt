-- What is promised of the store after any events.
use Rattle.std.specs.Prelude.{◌≡◌, ℕ, ◌<◌, ◌≤◌, ◌^◌, Bool, List, [], ◌∷◌, flat_map, length, take, slice_get, Some}
use Rattle.std.specs.List.{AllByRecursion}
use Rattle.keyed_fn.specs.KeyedFn.{KeyedFn, IsKeyedFn}
use Rattle.keyed_fn.specs.KeyFormulas.{mark_of}
use Rattle.client_records.specs.Openings.{MarksDiffer}
use Rattle.client_registry.specs.Command.{Search as Searches}
use Rattle.client_registry.specs.DocumentRule.{IsDocument}
use Rattle.client_registry.specs.Documents.{IsCollected}
use Rattle.client_registry.specs.Histories.{IsKept, IsWhole, longer}
use Rattle.client_registry.specs.Live.{in_order, matching_in}
use Rattle.client_registry.specs.Run.{History}
use Rattle.sse_frames.specs.Frames.{FrameText, SearchFrame}
use Rattle.sse_frames.specs.Replies.{ReplyText, OutOfPlace}
use Rattle.sse_frames.specs.SentParts.{page_ids}
use Rattle.sse_model.specs.Histories.{frames_sent, HasNoCollision}
use Rattle.sse_server.specs.Taken.{bodies}
use Rattle.world_model.specs.Rules.{IsFront}
use Rattle.world_model.specs.World.{World, Asked, Done, Updated, Found, at_first}
use Rattle.world_model.specs.Events.{Event, Outcome, Led, left, but_last}
use Rattle.world_model.specs.Promises.{Keeps, IsOfCommand}
use Rattle.world_rules.specs.Changes.{Change, SetsUp, Adds, Deletes, Renews, history_of}
use Rattle.world_rules.specs.Covered.{covers_in, IsCoveredMessage, HaveOwnPads}
use Rattle.world_rules.specs.Rules.{store_rules, replies_to}

abbrev pub StoreWorld : Type 0
StoreWorld = World Change FrameText (List ℕ) (List ReplyText)

-- what a change holds keeps the limits of words, documents and identifiers
abbrev pub IsSizedChange : Change → Type 0
IsSizedChange (SetsUp s) = IsCollected s.documents
IsSizedChange (Adds d) = IsDocument d
IsSizedChange (Deletes id) = (1 ≤ id) × (id < 2 ^ 64)
IsSizedChange (Renews key) = Unit {0}

-- the identifiers on the pages of an answer, rising
abbrev pub ids_shown : List ReplyText → List ℕ
ids_shown replies = in_order (flat_map page_ids replies)

module _ (f : KeyedFn) (key : List ℕ) where
  -- the answer to a search after a history is the live documents with the word, if no values that are compared in that history, the search
  -- included, are equal
  abbrev pub IsRight : History → (word : List ℕ) → List ReplyText → Type 0
  IsRight h word replies = HasNoCollision f key (longer (Searches word ∷ []) h) → ids_shown replies ≡ matching_in h word

  -- each answer that was reported is that to its search
  abbrev pub IsRightDone : List Change → List (Asked (List ℕ)) → Done (List ReplyText) → Type 0
  IsRightDone commands searches (Updated i) = Unit {0}
  IsRightDone commands searches (Found i replies) =
      (asked : Asked (List ℕ)) × (slice_get searches i ≡ Some asked) × IsRight (history_of (take asked.before commands)) asked.word replies

  -- of what a crash may leave, or starting give, of both disks: what holds in every world; and in the store's words
  pub record KeepsStore (commands : List Change) (taken : List FrameText) (w : StoreWorld) : Type 0 where
    pub keeps : Keeps (store_rules f key) commands taken w
    -- the commands make a whole history that keeps all limits, and its keys have different marks
    pub history : IsKept (history_of commands) × IsWhole (history_of commands) × MarksDiffer (mark_of f) key (history_of commands)
    -- the server's records are the first of the bodies of its frames
    pub bodies_are : IsFront (bodies taken) (bodies (frames_sent f key (history_of commands)))
    -- a server that has a part of a setup's or rebuild's frames answers no search
    pub partly : length (frames_sent f key (history_of (but_last commands))) < length taken → length taken < length (frames_sent f key (history_of commands)) →
        (token : List ℕ) → replies_to f key taken (SearchFrame token) ≡ OutOfPlace ∷ []
    -- each answer is right
    pub right : IsKeyedFn f → AllByRecursion (IsRightDone commands w.searches) w.done
    -- each encrypted text that was ever sent is one of the history's under its pad, and no two have one pad
    pub covered : AllByRecursion (IsCoveredMessage f (covers_in f key (history_of commands))) w.sent
    pub own_pads : HaveOwnPads (covers_in f key (history_of commands))

  -- so it is after every list of events whose commands keep those limits
  abbrev pub IsStorePromised : Type 0
  IsStorePromised =
      (events : List (Event Change (List ℕ) × Outcome)) (w : StoreWorld) → AllByRecursion (λ e. IsOfCommand IsSizedChange e.0) events → Led (store_rules f key) at_first events w →
      (there there' : Bool) → KeepsStore (left there w.client_disk).records (left there' w.server_disk).records w
