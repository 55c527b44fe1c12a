-- Two histories of equal leakage have equally many epochs, and the leakage of each epoch is equal: the item of a setup is the first of each
-- epoch, and no other is one. So their epochs begin at the same numbers.
use Rattle.std.proofs.Common.{◌≡◌, ℕ, ◌+◌, Bool, true, false, ◌||◌, List, [], ◌∷◌, ◌++◌, length, filter, refl, sym, ap, ◌∙◌, arith, length-append, Some}
use Rattle.std.specs.Int.{div_ceil}
use Rattle.std.specs.List.{list_any}
use Rattle.std.specs.Prelude.{if◌then◌else◌}
use Rattle.std.proofs.lemmas.Bool.{or_right}
use Rattle.std.proofs.lemmas.List.Folds.{list_any-append}
use Rattle.client_registry.proofs.OverLaws.{length-over}
use Rattle.client_registry.specs.Command.{Command, Add, Delete, Search, is_update}
use Rattle.client_registry.specs.Epochs.{behind, first_begins, next_begins}
use Rattle.client_registry.specs.Over.{over}
use Rattle.client_registry.specs.Run.{Run, Offsets, Epochs, From, Renewed}
use Rattle.client_registry.specs.Setup.{Setup}
use Rattle.client_registry.specs.Sized.{update_frames}
use Rattle.def_leakage.specs.CommandLeaks.{leak_of_setup, leak_by, leak}
use Rattle.def_leakage.specs.Histories.{leak_in}
use Rattle.sse_model.proofs.Counts.{length-entry_positions, length-block_positions}
use Rattle.sse_simulator.specs.Leaks.{Leak, SetupLeak, AddLeak, DeleteLeak, SearchLeak}

abbrev is_setup : Leak → Bool
is_setup (SetupLeak shape words blocks) = true
is_setup (AddLeak words) = false
is_setup (DeleteLeak words) = false
is_setup (SearchLeak earlier home listed found) = false

-- items from the last setup on, and those before
abbrev from_setup : List Leak → List Leak
from_setup [] = []
from_setup (x ∷ xs) = if list_any is_setup xs then from_setup xs else x ∷ xs

abbrev before_setup : List Leak → List Leak
before_setup [] = []
before_setup (x ∷ xs) = if list_any is_setup xs then x ∷ before_setup xs else []

module _ (a : Leak) (later : List Leak) (one : is_setup a ≡ true) (none : list_any is_setup later ≡ false) where
  has_setup : (xs : List Leak) → list_any is_setup (xs ++ a ∷ later) ≡ true
  has_setup xs = list_any-append is_setup xs (a ∷ later) ∙ or_right (list_any is_setup xs) (list_any is_setup (a ∷ later)) (ap (λ b. b || list_any is_setup later) one)

  from_parts : (xs : List Leak) → from_setup (xs ++ a ∷ later) ≡ a ∷ later
  from_parts [] = ap (λ b. if b then from_setup later else a ∷ later) none
  from_parts (x ∷ xs) = ap (λ b. if b then from_setup (xs ++ a ∷ later) else x ∷ xs ++ a ∷ later) (has_setup xs) ∙ from_parts xs

  before_parts : (xs : List Leak) → before_setup (xs ++ a ∷ later) ≡ xs
  before_parts [] = ap (λ b. if b then a ∷ before_setup later else []) none
  before_parts (x ∷ xs) = ap (λ b. if b then x ∷ before_setup (xs ++ a ∷ later) else []) (has_setup xs) ∙ ap (λ rest. x ∷ rest) (before_parts xs)

-- no command leaks a setup
no_setup : (o : Offsets) (s : Setup) (past later : List Command) → list_any is_setup (over (leak_by o s) past later) ≡ false
no_setup o s past [] = refl
no_setup o s past (Add d ∷ later) = no_setup o s (past ++ Add d ∷ []) later
no_setup o s past (Delete id ∷ later) = no_setup o s (past ++ Delete id ∷ []) later
no_setup o s past (Search word ∷ later) = no_setup o s (past ++ Search word ∷ []) later

of_run : (o : Offsets) (run : Run) (xs : List Leak) → (from_setup (xs ++ leak o run) ≡ leak o run) × (before_setup (xs ++ leak o run) ≡ xs)
of_run o run xs =
    let none = no_setup o run.setup [] run.later in
    (from_parts (leak_of_setup o.epoch run.setup) (over (leak_by o run.setup) [] run.later) refl none xs, before_parts (leak_of_setup o.epoch run.setup) (over (leak_by o run.setup) [] run.later) refl none xs)

-- the update frames of a run follow from its leakage
abbrev frames_by_leak : Leak → ℕ
frames_by_leak (SetupLeak shape words blocks) = 2 + div_ceil words 1024 + div_ceil blocks 256
frames_by_leak (AddLeak words) = 1
frames_by_leak (DeleteLeak words) = 1
frames_by_leak (SearchLeak earlier home listed found) = 0

abbrev frames_by_leaks : List Leak → ℕ
frames_by_leaks [] = 0
frames_by_leaks (x ∷ xs) = frames_by_leak x + frames_by_leaks xs

frames_by_leaks-leak : (o : Offsets) (run : Run) → frames_by_leaks (leak o run) ≡ update_frames run
frames_by_leaks-leak o run =
    let words = length-entry_positions o.epoch run.setup in
    let blocks = length-block_positions o.epoch run.setup in
    (λ i. 2 + div_ceil (words i) 1024 + div_ceil (blocks i) 256 + by [] run.later i)
  where
    by : (past later : List Command) → frames_by_leaks (over (leak_by o run.setup) past later) ≡ length (filter is_update later)
    by past [] = refl
    by past (Add d ∷ later) = omega (arith, by (past ++ Add d ∷ []) later)
    by past (Delete id ∷ later) = omega (arith, by (past ++ Delete id ∷ []) later)
    by past (Search word ∷ later) = omega (arith, by (past ++ Search word ∷ []) later)

-- so runs of one leakage are followed from the same offsets
pub behind-same : (o o2 : Offsets) (run run2 : Run) → o ≡ o2 → leak o run ≡ leak o2 run2 → behind o run ≡ behind o2 run2
behind-same o o2 run run2 same leaks =
    let long : length run.later ≡ length run2.later = omega (arith, ap length leaks, length-over (leak_by o run.setup) [] run.later, length-over (leak_by o2 run2.setup) [] run2.later) in
    let frames : update_frames run ≡ update_frames run2 = sym (frames_by_leaks-leak o run) ∙ ap frames_by_leaks leaks ∙ frames_by_leaks-leak o2 run2 in
    λ i. record { epoch = (same i).epoch + 1; command = (same i).command + 1 + long i; frame = (same i).frame + frames i }

-- epoch by epoch: the same offsets, the same leakage
abbrev pub LeakAlike : Epochs → Epochs → Type 0
LeakAlike (From o run) (From o2 run2) = (o ≡ o2) × (leak o run ≡ leak o2 run2)
LeakAlike (Renewed before key run) (Renewed before2 key2 run2) = LeakAlike before before2 × (leak (next_begins before) run ≡ leak (next_begins before2) run2)
LeakAlike _ _ = ⊥

-- these are followed from the same offsets
pub next-same : (es other : Epochs) → LeakAlike es other → next_begins es ≡ next_begins other
next-same (From o run) (From o2 run2) alike = behind-same o o2 run run2 alike.0 alike.1
next-same (From o run) (Renewed before2 key2 run2) alike = absurd alike
next-same (Renewed before key run) (From o2 run2) alike = absurd alike
next-same (Renewed before key run) (Renewed before2 key2 run2) alike = behind-same _ _ run run2 (next-same before before2 alike.0) alike.1

-- a history leaks something
pub leaks_some : (es : Epochs) {A : Type 0} → leak_in (Some es) ≡ [] → A
leaks_some (From o run) none = absurd (omega (arith, ap length none))
leaks_some (Renewed before key run) none = absurd (omega (arith, ap length none, length-append (leak_in (Some before)) (leak (next_begins before) run)))

-- histories of equal leakage that begin at the same offsets are alike
pub alike : (es other : Epochs) → first_begins es ≡ first_begins other → leak_in (Some es) ≡ leak_in (Some other) → LeakAlike es other
alike (From o run) (From o2 run2) same leaks = (same, leaks)
alike (From o run) (Renewed before2 key2 run2) same leaks =
    let o3 = next_begins before2 in
    leaks_some before2 (sym ((of_run o3 run2 (leak_in (Some before2))).1) ∙ ap before_setup (sym leaks) ∙ (of_run o run []).1)
alike (Renewed before key run) (From o2 run2) same leaks =
    let o3 = next_begins before in
    leaks_some before (sym ((of_run o3 run (leak_in (Some before))).1) ∙ ap before_setup leaks ∙ (of_run o2 run2 []).1)
alike (Renewed before key run) (Renewed before2 key2 run2) same leaks =
    let o = next_begins before in
    let o2 = next_begins before2 in (
      alike before before2 same (sym ((of_run o run (leak_in (Some before))).1) ∙ ap before_setup leaks ∙ (of_run o2 run2 (leak_in (Some before2))).1),
      sym ((of_run o run (leak_in (Some before))).0) ∙ ap from_setup leaks ∙ (of_run o2 run2 (leak_in (Some before2))).0,
    )
