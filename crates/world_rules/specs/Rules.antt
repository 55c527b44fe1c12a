-- The rules of the store: what its client sends, and what its server takes and answers.
use Rattle.std.specs.Prelude.{ℕ, ◌+◌, ◌^◌, ◌&&◌, not, nat_lt, Bool, true, false, List, [], ◌∷◌, is_none, is_some, None, Some}
use Rattle.std.specs.Option.{option_map_or}
use Rattle.keyed_fn.specs.KeyedFn.{KeyedFn}
use Rattle.keyed_fn.specs.KeyFormulas.{mark_of, token_of}
use Rattle.client_records.specs.Openings.{marks_of}
use Rattle.client_records.specs.Recorded.{as_recorded}
use Rattle.client_registry.specs.Acceptance.{size_refusal}
use Rattle.client_registry.specs.Command.{Command, Add, Delete}
use Rattle.client_registry.specs.Epochs.{next_begins, setup_renewed}
use Rattle.client_registry.specs.Histories as histories
use Rattle.client_registry.specs.Histories.{is_set_up, frames_in}
use Rattle.client_registry.specs.Run.{History, last_run}
use Rattle.client_registry.specs.Setup.{Setup}
use Rattle.client_renewal.specs.Refusals.{renewal_refusal}
use Rattle.sse_frames.specs.Frames.{FrameText, SearchFrame, update_number}
use Rattle.sse_frames.specs.Replies.{ReplyText, Page}
use Rattle.sse_model.specs.Epochs.{key_in}
use Rattle.sse_model.specs.Histories.{frames_sent, collision_of_first, collision_of_renewal, collision_of_next}
use Rattle.server_core.specs.Refusal.{refusal}
use Rattle.server_core.specs.State.{at_first}
use Rattle.server_core.specs.Step.{step}
use Rattle.sse_server.specs.Taken.{taken_all}
use Rattle.world_model.specs.Rules.{Rules}
use Rattle.world_rules.specs.Changes.{Change, SetsUp, Adds, Deletes, Renews, history_of}

-- whether replies are the pages of an answer: the last one is marked, and no other
abbrev pub are_pages : List ReplyText → Bool
are_pages [] = false
are_pages (Page true ids ∷ []) = true
are_pages (Page false ids ∷ replies) = are_pages replies
are_pages _ = false

-- the number in an update frame
abbrev pub number_in : FrameText → ℕ
number_in frame = option_map_or (λ q. q) (update_number frame) 0

module _ (f : KeyedFn) (key : List ℕ) where
  -- a client that isn't set up takes a setup of accepted size, unless two of its values that have to differ are equal
  abbrev pub accepts_setup : History → Setup → Bool
  accepts_setup h s = not (is_set_up h) && is_none (size_refusal s) && is_none (collision_of_first f key s)

  -- one that is set up takes an update that is accepted after the history, if there is a number for its frame, with the same exception
  abbrev pub accepts_update : History → Command → Bool
  accepts_update h c = histories.accepts h c && nat_lt (frames_in h + 1) (2 ^ 32) && is_none (collision_of_next f key h (c ∷ []))

  -- and a renewal under a key of another mark than those of all epochs, if what is live makes an accepted setup, and its frames have numbers
  abbrev pub accepts_renewal : History → (own : List ℕ) → Bool
  accepts_renewal None own = false
  accepts_renewal (Some es) own =
      is_none (renewal_refusal (marks_of (mark_of f key) (as_recorded (mark_of f) es)) (mark_of f own) (next_begins es).frame (setup_renewed (last_run es)))
      && is_none (collision_of_renewal f own (Some es))

  abbrev pub accepts : History → Change → Bool
  accepts h (SetsUp s) = accepts_setup h s
  accepts h (Adds d) = accepts_update h (Add d)
  accepts h (Deletes id) = accepts_update h (Delete id)
  accepts h (Renews own) = accepts_renewal h own

  -- a search asks by the word's token under the key of the last epoch
  abbrev pub asks : History → (word : List ℕ) → FrameText
  asks h word = SearchFrame (token_of f (key_in key h) word)

  -- a server takes an update frame unless it refuses it
  abbrev pub takes : List FrameText → FrameText → Bool
  takes taken frame = is_some (update_number frame) && is_none (refusal (taken_all at_first taken) frame)

  abbrev pub replies_to : List FrameText → FrameText → List ReplyText
  replies_to taken frame = (step f (taken_all at_first taken) frame).1

  abbrev pub store_rules : Rules Change FrameText (List ℕ) (List ReplyText)
  store_rules = record {
    frames = λ changes. frames_sent f key (history_of changes);
    number = number_in;
    accepts = λ past c. accepts (history_of past) c;
    may_search = λ past word. is_set_up (history_of past);
    asks = λ past word. asks (history_of past) word;
    takes = takes;
    answer = replies_to;
    shows = are_pages;
  }
