-- A server that was sent the first frames of a history's updates, and expects one of the last epoch's or the first after them, was sent
-- the first of that epoch's, from a state on in which it expected the first of them. So a session that resumes needs no earlier epoch.
use Rattle.std.proofs.Common.{◌≡◌, ℕ, suc, ◌+◌, ◌-◌, ◌≤◌, List, [], ◌∷◌, ◌++◌, length, take, drop, filter, Some, refl, ap, ◌∙◌, arith, length-append}
use Rattle.std.specs.Prelude.{flat_map}
use Rattle.client_registry.specs.Command.{Command, Add, Delete, Search, is_update}
use Rattle.client_registry.specs.Epochs.{begins, next_begins, first_begins, key_now}
use Rattle.client_registry.specs.Histories.{IsKept, frames_in}
use Rattle.client_registry.specs.Over.{over}
use Rattle.client_registry.specs.Run.{Run, Offsets, Epochs, From, Renewed, last_run}
use Rattle.client_registry.specs.Sized.{update_frames}
use Rattle.keyed_fn.specs.KeyedFn.{KeyedFn, IsKeyedFn}
use Rattle.server_core.proofs.Laws.{steps-append}
use Rattle.server_core.specs.State.{ServerState}
use Rattle.server_core.specs.Step.{steps}
use Rattle.def_agreement.proofs.Histories.{history_held, Expects-next}
use Rattle.def_agreement.specs.Agreement.{frames_fed}
use Rattle.def_agreement.specs.TakenFrames.{Expects}
use Rattle.sse_model.proofs.Counts.{length-frames_of_setup}
use Rattle.sse_model.proofs.Prefixes.{frames_by}
use Rattle.sse_model.specs.Histories.{table_at, HasNoCollision}
use Rattle.sse_model.specs.Names.{Table}
use Rattle.sse_model.specs.Wire.{frames_of_setup}
use Rattle.def_script_meaning.specs.Rejoins.{frames_under, HasTaken}
use Rattle.def_script_meaning.specs.Since.{last_epoch}

-- none of these epochs has a search
abbrev pub HasNoSearch : Epochs → Type 0
HasNoSearch (From o run) = filter is_update run.later ≡ run.later
HasNoSearch (Renewed before own run) = HasNoSearch before × (filter is_update run.later ≡ run.later)

each_one : (t : Table) (o : Offsets) (run : Run) (past later : List Command) → length (flat_map (λ frames. frames) (over (frames_by t o run.setup) past later)) ≡ length later
each_one t o run past [] = refl
each_one t o run past (Add d ∷ later) = omega (arith, each_one t o run (past ++ Add d ∷ []) later)
each_one t o run past (Delete id ∷ later) = omega (arith, each_one t o run (past ++ Delete id ∷ []) later)
each_one t o run past (Search word ∷ later) = omega (arith, each_one t o run (past ++ Search word ∷ []) later)

-- the frames of an epoch are as many as its update frames
length-run : (t : Table) (o : Offsets) (run : Run) → filter is_update run.later ≡ run.later → length (frames_fed t o run) ≡ update_frames run
length-run t o run updates =
    omega (
      arith,
      length-append (frames_of_setup t o run.setup) (flat_map (λ frames. frames) (over (frames_by t o run.setup) [] run.later)),
      length-frames_of_setup t o run.setup,
      each_one t o run [] run.later,
      ap length updates,
    )

module _ (f : KeyedFn) (key : List ℕ) where
  -- and so are those of several
  pub length-frames : (es : Epochs) → HasNoSearch es → length (frames_under f key (Some es)) + (first_begins es).frame ≡ frames_in (Some es)
  length-frames (From o run) none = omega (arith, length-run (table_at f key run) o run none)
  length-frames (Renewed before own run) none =
      omega (
        arith,
        length-frames before none.0,
        length-run (table_at f own run) (next_begins before) run none.1,
        length-append (frames_under f key (Some before)) (frames_fed (table_at f own run) (next_begins before) run),
      )

-- the first elements of two lists, all of the one and some of the other
take_behind : {A : Type 0} (xs ys : List A) (n m : ℕ) → m ≡ length xs + n → take m (xs ++ ys) ≡ xs ++ take n ys
take_behind [] ys n m is = let same : m ≡ n = omega (arith, is) in ap (λ k. take k ys) same
take_behind (x ∷ xs) ys n m is =
    let same : m ≡ suc (length xs + n) = omega (arith, is) in
    ap (λ k. take k (x ∷ xs ++ ys)) same ∙ ap (λ l. x ∷ l) (take_behind xs ys n (length xs + n) refl)

-- those behind them
pub drop_behind : {A : Type 0} (xs ys : List A) (n m : ℕ) → m ≡ length xs + n → drop m (xs ++ ys) ≡ drop n ys
drop_behind [] ys n m is = let same : m ≡ n = omega (arith, is) in ap (λ k. drop k ys) same
drop_behind (x ∷ xs) ys n m is =
    let same : m ≡ suc (length xs + n) = omega (arith, is) in
    ap (λ k. drop k (x ∷ xs ++ ys)) same ∙ drop_behind xs ys n (length xs + n) refl

-- the server before the frames of the last epoch, from a state on before all of them
abbrev pub last_start : KeyedFn → (start : ServerState) → (key : List ℕ) → Epochs → ServerState
last_start f start key (From o run) = start
last_start f start key (Renewed before own run) = (steps f start (frames_under f key (Some before))).0

-- it expects the first of them, since a server that holds what the epochs before it leave does
pub expects_last : (f : KeyedFn) → IsKeyedFn f → (key : List ℕ) (es : Epochs) (start : ServerState) → IsKept (Some es) → HasNoCollision f key (Some es) → Expects (first_begins es).frame start
    → Expects (begins es).frame (last_start f start key es)
expects_last f laws key (From o run) start kept free expects = expects
expects_last f laws key (Renewed before own run) start kept free expects =
    let held = history_held f key before start laws (kept.0.0, omega (arith, kept.1)) free.0 expects in
    Expects-next (table_at f (key_now key before) (last_run before)) (begins before) (last_run before) (last_start f start key (Renewed before own run)) held

pub taken_last : (f : KeyedFn) (key : List ℕ) (es : Epochs) (next : ℕ) (state : ServerState) → HasNoSearch es → (had : HasTaken f key es next state) → (begins es).frame ≤ next
    → Expects (begins es).frame (last_start f had.start key es) → HasTaken f (key_now key es) (last_epoch es) next state
taken_last f key (From o run) next state none had from expects = had
taken_last f key (Renewed before own run) next state none had from expects =
    let front = frames_under f key (Some before) in
    let mine = frames_fed (table_at f own run) (next_begins before) run in
    let count : next - (first_begins before).frame ≡ length front + (next - (next_begins before).frame) = omega (arith, length-frames f key before none.0, from, had.from) in
    record {
      start = (steps f had.start front).0;
      expects = expects;
      from = from;
      within = had.within;
      sent = had.sent
          ∙ ap (λ fs. (steps f had.start fs).0) (take_behind front mine (next - (next_begins before).frame) (next - (first_begins before).frame) count)
          ∙ ap (λ r. r.0) (steps-append f had.start front (take (next - (next_begins before).frame) mine));
      number = had.number;
    }
