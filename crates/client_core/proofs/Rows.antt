-- Rows that the definitions compute at their bounds: the last counter of a word, the last number of a frame, no words.
use Rattle.std.proofs.Common.{◌≡◌, ◌-◌, ◌^◌, ℕ, List, [], ◌∷◌, Some, None, refl}
use Rattle.std.specs.Prelude.{◌==◌, bytes_eq, if◌then◌else◌}
use Rattle.client_registry.specs.Command.{Add}
use Rattle.client_registry.specs.Document.{Document}
use Rattle.client_registry.specs.Facts.{Facts, facts_after}
use Rattle.keyed_fn.specs.KeyedFn.{KeyedFn}
use Rattle.sse_frames.specs.Frames.{AddFrame, DeleteFrame}
use Rattle.client_core.specs.StandsFor.{full_refusal, refusal_to_add, refusal_to_delete}
use Rattle.client_core.specs.UpdateTexts.{add_text, delete_text}
use Rattle.client_core.specs.declared.command_fault.CommandFault.TheVariants.{AlreadyLive, CounterFull, HistoryFull, UnknownDocument}

abbrev a : List ℕ
a = 97 ∷ []

abbrev b : List ℕ
b = 98 ∷ []

abbrev doc : ℕ → Document
doc id = record { id = id; words = b ∷ a ∷ [] }

-- document 1 is live, no pair but those of identifier 3 is listed, and the word a is at this counter
abbrev at_counter : ℕ → Facts
at_counter n = record {
  live = λ id. if id == 1 then Some (a ∷ []) else None;
  listed = λ word id. id == 3;
  counter = λ word. if bytes_eq word a then n else 0;
}

-- a word's last addition, and the counter after it
last_counter : refusal_to_add (at_counter 4294967294) 7 (doc 5) ≡ None
last_counter = refl

behind_last : (facts_after (at_counter 4294967294) (Add (doc 5))).counter a ≡ 4294967295
behind_last = refl

-- one more is refused at the word's position, unless its pair is listed
counter_full : refusal_to_add (at_counter 4294967295) 7 (doc 5) ≡ Some (CounterFull 1)
counter_full = refl

listed_again : refusal_to_add (at_counter 4294967295) 7 (doc 3) ≡ None
listed_again = refl

-- the causes in their order: a live identifier, a full counter, no number for a frame
live_first : refusal_to_add (at_counter 4294967295) 4294967295 (doc 1) ≡ Some (AlreadyLive 1)
live_first = refl

counter_second : refusal_to_add (at_counter 4294967295) 4294967295 (doc 5) ≡ Some (CounterFull 1)
counter_second = refl

number_last : refusal_to_add (at_counter 4294967294) 4294967295 (doc 5) ≡ Some HistoryFull
number_last = refl

unknown_first : refusal_to_delete (at_counter 0) 4294967295 5 ≡ Some (UnknownDocument 5)
unknown_first = refl

number_behind : refusal_to_delete (at_counter 0) 4294967295 1 ≡ Some HistoryFull
number_behind = refl

-- the last number of a frame
last_number : full_refusal (2 ^ 32 - 2) ≡ None
last_number = refl

no_number : full_refusal (2 ^ 32 - 1) ≡ Some HistoryFull
no_number = refl

-- a document without words sends no entry and no number
no_words : (f : KeyedFn) (key : List ℕ) (x : Facts) (q id : ℕ) → add_text f key x q (record { id = id; words = [] }) ≡ AddFrame q [] []
no_words f key x q id = refl

no_words_deleted : (f : KeyedFn) (key : List ℕ) (q id : ℕ) → delete_text f key q id [] ≡ DeleteFrame q []
no_words_deleted f key q id = refl
