-- What may be chosen in a duel: a pair of commands, one for each of two histories. A pair is taken if both histories take theirs, and else
-- skipped.
use Rattle.std.specs.Prelude.{ℕ, ◌+◌, ◌^◌, Bool, true, false, not, ◌&&◌, nat_lt, List, [], ◌∷◌, length, bytes_eq, None, Some, is_none}
use Rattle.std.specs.List.{list_any}
use Rattle.client_registry.specs.Acceptance.{size_refusal}
use Rattle.client_registry.specs.Documents.{pairs_of}
use Rattle.client_registry.specs.Epochs.{Step, Does, Renews, joined, next_begins, setup_renewed, step_after}
use Rattle.client_registry.specs.Histories.{accepts, begun_by}
use Rattle.client_registry.specs.Run.{History, last_run}
use Rattle.client_registry.specs.Setup.{Setup}
use Rattle.keyed_fn.specs.KeyFormulas.{mark_of}
use Rattle.keyed_fn.specs.KeyedFn.{KeyedFn}

-- a command of a history, the setup and renewals of the key among them
pub data Choice : Type 0 where
  SetsUp : Setup → Choice
  Goes : Step → Choice

pub record Pair : Type 0 where
  pub left : Choice
  pub right : Choice

-- the two histories, and how many pairs were skipped
pub record Sides : Type 0 where
  pub left : History
  pub right : History
  pub skipped : ℕ

-- before the first pair
abbrev pub at_start : Sides
at_start = record { left = None; right = None; skipped = 0 }

-- a history with a command more; before the setup there is none but the setup
abbrev pub grown : History → Choice → History
grown h (SetsUp s) = begun_by s
grown None (Goes step) = None
grown (Some es) (Goes step) = Some (step_after es step)

-- whether documents can be set up: neither they nor their pairs are too many, and their index has a size
abbrev pub can_set_up : Setup → Bool
can_set_up s = not (nat_lt (2 ^ 18) (length s.documents)) && not (nat_lt (2 ^ 20) (pairs_of s.documents)) && is_none (size_refusal s)

-- whether a history accepts a command: a setup if there is none yet, after it a renewal if what is live can be set up
abbrev pub accepts_choice : History → Choice → Bool
accepts_choice None (SetsUp s) = can_set_up s
accepts_choice None (Goes step) = false
accepts_choice (Some es) (SetsUp s) = false
accepts_choice (Some es) (Goes (Does c)) = accepts (Some es) c
accepts_choice (Some es) (Goes (Renews key)) = can_set_up (setup_renewed (last_run es))

-- whether its commands and its update frames can each be numbered in 32 bits
abbrev pub is_numbered : History → Bool
is_numbered None = true
is_numbered (Some es) = nat_lt (next_begins es).command (2 ^ 32) && nat_lt (next_begins es).frame (2 ^ 32)

-- whether a history takes a command: it accepts it, and all can be numbered with it
abbrev pub can_take : History → Choice → Bool
can_take h c = accepts_choice h c && is_numbered (grown h c)

-- whether the key of a renewal has a mark that no epoch's key has, the first epoch's key being this; other commands have no key
abbrev pub has_new_mark : KeyedFn → (key : List ℕ) → History → Choice → Bool
has_new_mark f key (Some es) (Goes (Renews own)) = not (list_any (bytes_eq (mark_of f own)) (joined (λ k o run. mark_of f k ∷ []) key es))
has_new_mark f key _ _ = true

-- the sides after a pair: both have their command more, or the pair is counted as skipped
abbrev pub taken_if : Bool → Sides → Pair → Sides
taken_if true s p = record { left = grown s.left p.left; right = grown s.right p.right; skipped = s.skipped }
taken_if false s p = record { left = s.left; right = s.right; skipped = s.skipped + 1 }

-- only the left history is sent, so only its keys must have new marks
abbrev pub is_taken : KeyedFn → (key : List ℕ) → Sides → Pair → Bool
is_taken f key s p = can_take s.left p.left && can_take s.right p.right && has_new_mark f key s.left p.left

abbrev pub played : KeyedFn → (key : List ℕ) → Sides → Pair → Sides
played f key s p = taken_if (is_taken f key s p) s p

abbrev pub played_all : KeyedFn → (key : List ℕ) → Sides → List Pair → Sides
played_all f key s [] = s
played_all f key s (p ∷ ps) = played_all f key (played f key s p) ps
