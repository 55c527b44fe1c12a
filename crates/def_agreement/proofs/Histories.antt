-- What a server that is sent a history's frames replies, and what the history's searches show.
use Rattle.std.proofs.Common.{◌≡◌, ℕ, ◌+◌, ◌<◌, ◌≤◌, ◌^◌, not, List, [], ◌∷◌, ◌++◌, length, map, Some, None, refl, sym, ap, ◌∙◌, subst, arith, append_assoc}
use Rattle.std.specs.Prelude.{flat_map, filter}
use Rattle.std.specs.List.{AllByRecursion}
use Rattle.std.proofs.lemmas.List.{length-append, length-map, map-append}
use Rattle.std.proofs.lemmas.List.Filters.{length-filter_both}
use Rattle.std.proofs.lemmas.List.Elements.{recursion_from_All, All-filter, All-from_recursion, filter-append}
use Rattle.keyed_fn.specs.KeyedFn.{KeyedFn, IsKeyedFn}
use Rattle.client_registry.proofs.SizedLaws.{IsHistory-front}
use Rattle.client_registry.specs.Acceptance.{frames_needed}
use Rattle.client_registry.specs.Command.{Command, Add, Delete, Search, is_update}
use Rattle.client_registry.specs.Documents.{has_word}
use Rattle.client_registry.specs.Histories.{IsKept, longer, shown_by, found_by, shown_in_turn, found_in_turn}
use Rattle.client_registry.specs.Live.{is_live_with, added_list, shown, in_order}
use Rattle.client_registry.specs.Over.{over}
use Rattle.client_registry.specs.Epochs.{behind, begins, first_begins, next_begins, key_now, AreEpochs}
use Rattle.client_registry.specs.Run.{Run, Offsets, Epochs, From, Renewed, last_run, History}
use Rattle.client_registry.specs.Setup.{Setup, setup_list}
use Rattle.client_registry.specs.Sized.{IsHistory}
use Rattle.sse_frames.specs.Exchange.{Asked, ForNext, ForTook, ForAnswer, asked, expected, first_answer, answers_behind, replied, answers_to, searches}
use Rattle.sse_frames.specs.Frames.{FrameText}
use Rattle.sse_frames.specs.Replies.{IsIdentifier}
use Rattle.sse_model.proofs.ExchangeLaws.{length-answers_behind, replied-setup, replied-commands, searches-sent}
use Rattle.sse_model.proofs.Prefixes.{frames_by}
use Rattle.sse_model.specs.Histories.{table_at, frames_sent, frames_behind, frames_of_next, HasNoCollision}
use Rattle.sse_model.specs.Drawn.{IsCollisionFree}
use Rattle.sse_model.specs.Names.{Table}
use Rattle.sse_model.specs.Wire.{acknowledgements}
use Rattle.server_core.proofs.Laws.{steps-append}
use Rattle.server_core.specs.State.{ServerState, is_filling}
use Rattle.server_core.specs.Step.{steps}
use Rattle.def_agreement.proofs.Agreement.{commands_taken, server_agrees}
use Rattle.def_agreement.proofs.Found.{shown_are_found}
use Rattle.client_registry.proofs.LiveLaws.{counter-below}
use Rattle.sse_model.proofs.Counts.{AllByRecursion-append}
use Rattle.def_agreement.proofs.SearchAnswers.{added_are_identifiers}
use Rattle.def_agreement.proofs.SetupShown.{ids_with-above, ids_with-fit}
use Rattle.def_agreement.proofs.TakenFrames.{steps-taken}
use Rattle.def_agreement.specs.Agreement.{ShownAreFew, frames_fed, replies_by_frame, shown_behind}
use Rattle.def_agreement.specs.Held.{Holds}
use Rattle.def_agreement.specs.TakenFrames.{Expects}

-- what the searches of a run show
abbrev pub shown_of : Run → List (List ℕ)
shown_of run = flat_map (λ r. r) (over (shown_by run.setup) [] run.later)

-- a server expects the first frame of a history
abbrev pub ExpectsFirst : History → ServerState → Type 0
ExpectsFirst None start = Unit {0}
ExpectsFirst (Some es) start = Expects (first_begins es).frame start

first_answer-more : (asks : Asked) (xs ys : List (List ℕ)) → answers_to asks ≤ length xs → expected (first_answer (xs ++ ys)) asks ≡ expected (first_answer xs) asks
first_answer-more ForNext xs ys enough = refl
first_answer-more (ForTook q) xs ys enough = refl
first_answer-more ForAnswer [] ys enough = absurd (omega (arith, enough))
first_answer-more ForAnswer (ids ∷ xs) ys enough = refl

behind-more : (asks : Asked) (xs ys : List (List ℕ)) → answers_to asks ≤ length xs → answers_behind asks (xs ++ ys) ≡ answers_behind asks xs ++ ys
behind-more ForNext xs ys enough = refl
behind-more (ForTook q) xs ys enough = refl
behind-more ForAnswer [] ys enough = absurd (omega (arith, enough))
behind-more ForAnswer (ids ∷ xs) ys enough = refl

-- the first frames take the first answers
pub replied-append : (xs ys : List (List ℕ)) (frames more : List FrameText) → length xs ≡ searches frames → replied (xs ++ ys) (frames ++ more) ≡ replied xs frames ++ replied ys more
replied-append [] ys [] more count = refl
replied-append (ids ∷ xs) ys [] more count = absurd (omega (arith, count))
replied-append xs ys (frame ∷ frames) more count =
    let asks = asked frame in
    let here : answers_to asks ≤ length xs = omega (arith, count) in
    let left : length (answers_behind asks xs) ≡ searches frames = omega (arith, count, length-answers_behind asks xs here) in
    (λ i. first_answer-more asks xs ys here i ∷ replied (behind-more asks xs ys here i) (frames ++ more))
    ∙ ap (λ rest. expected (first_answer xs) asks ∷ rest) (replied-append (answers_behind asks xs) ys frames more left)

-- more commands behind a run
pub run_behind : (f : KeyedFn) → IsKeyedFn f → (key : List ℕ) (o : Offsets) (run : Run) (more : List Command) (start : ServerState) → IsHistory (record { setup = run.setup; later = run.later ++ more })
    → IsCollisionFree (table_at f key run) o (record { setup = run.setup; later = run.later ++ more }) → Holds (table_at f key run) o run.setup run.later start
    → (steps f start (frames_behind (table_at f key run) o run more)).1 ≡ replied (shown_behind run more) (frames_behind (table_at f key run) o run more)
run_behind f laws key o run more start history free held =
    let all = commands_taken f (λ epoch. key) o run more start laws history free held in
    ap (λ r. r.1) (steps-taken f start (frames_behind (table_at f key run) o run more) all.1.each ∙ all.1.leaves)
    ∙ sym (replied-commands (table_at f key run) o run.setup run.later more)

-- What it replies.

-- as a run says
pub replied-run : (t : Table) (o : Offsets) (run : Run) → replied (shown_of run) (frames_fed t o run) ≡ replies_by_frame o run
replied-run t o run =
    replied-setup t o run.setup (shown_of run) (flat_map (λ frames. frames) (over (frames_by t o run.setup) [] run.later))
    ∙ ap (λ rest. map (λ reply. reply ∷ []) (acknowledgements o.frame (frames_needed run.setup)) ++ rest) (replied-commands t o run.setup [] run.later)

-- what a server that expects the first frame of a history replies to its frames, and that it then holds what the last epoch leaves
pub record HasHeld (f : KeyedFn) (key : List ℕ) (es : Epochs) (start : ServerState) : Type 0 where
  pub replies : (steps f start (frames_sent f key (Some es))).1 ≡ replied (shown_in_turn (Some es)) (frames_sent f key (Some es))
  pub holds : Holds (table_at f (key_now key es) (last_run es)) (begins es) (last_run es).setup (last_run es).later (steps f start (frames_sent f key (Some es))).0

-- one that holds what an epoch leaves expects the first frame of the next
pub Expects-next : (t : Table) (o : Offsets) (run : Run) (state : ServerState) → Holds t o run.setup run.later state → Expects (behind o run).frame state
Expects-next t o run state held = record { next = omega (arith, held.next); stage = ap (λ stage. not (is_filling stage)) held.ready }

-- epoch by epoch
held_epochs : (f : KeyedFn) (key : List ℕ) (es : Epochs) (start : ServerState) → IsKeyedFn f → AreEpochs es → HasNoCollision f key (Some es) → Expects (first_begins es).frame start → HasHeld f key es start
held_epochs f key (From o run) start laws are free expects =
    let agrees = server_agrees f (λ epoch. key) o run start laws are free expects in record {
      replies = agrees.replies ∙ sym (replied-run (table_at f key run) o run);
      holds = agrees.holds;
    }
held_epochs f key (Renewed before own run) start laws are free expects =
    let had = held_epochs f key before start laws are.0 free.0 expects in
    let o = next_begins before in
    let t = table_at f own run in
    let first = frames_sent f key (Some before) in
    let agrees = server_agrees f (λ epoch. own) o run (steps f start first).0 laws are.2 free.1 (Expects-next (table_at f (key_now key before) (last_run before)) (begins before) (last_run before) (steps f start first).0 had.holds) in
    let all = steps-append f start first (frames_fed t o run) in record {
      replies =
          ap (λ r. r.1) all
          ∙ (λ i. had.replies i ++ (agrees.replies ∙ sym (replied-run t o run)) i)
          ∙ sym (replied-append (shown_in_turn (Some before)) (shown_of run) first (frames_fed t o run) (sym (searches-sent f key (Some before))));
      holds = subst (Holds t o run.setup run.later) (sym (ap (λ r. r.0) all)) agrees.holds;
    }

-- Promise P149, also here
-- a server that expects the first frame of a history without collisions, whatever else it holds, and is sent its frames, replies
-- to them with what the history's searches show
pub replies_agree : (f : KeyedFn) (key : List ℕ) (h : History) (start : ServerState) → IsKeyedFn f → IsKept h → HasNoCollision f key h → ExpectsFirst h start
    → (steps f start (frames_sent f key h)).1 ≡ replied (shown_in_turn h) (frames_sent f key h)
replies_agree f key None start laws kept free expects = refl
replies_agree f key (Some es) start laws kept free expects = (held_epochs f key es start laws kept.0 free expects).replies

-- Promise P149, also here
-- and then holds what the last epoch leaves
pub history_held : (f : KeyedFn) (key : List ℕ) (es : Epochs) (start : ServerState) → IsKeyedFn f → IsKept (Some es) → HasNoCollision f key (Some es) → Expects (first_begins es).frame start
    → Holds (table_at f (key_now key es) (last_run es)) (begins es) (last_run es).setup (last_run es).later (steps f start (frames_sent f key (Some es))).0
history_held f key es start laws kept free expects = (held_epochs f key es start laws kept.0 free expects).holds

-- Promise P149, also here
-- one that holds what a run leaves replies to the frames of more commands with what the searches among them show
pub replies_behind : (f : KeyedFn) (key : List ℕ) (es : Epochs) (more : List Command) (start : ServerState) → IsKeyedFn f → IsKept (longer more (Some es)) → HasNoCollision f key (longer more (Some es))
    → Holds (table_at f (key_now key es) (last_run es)) (begins es) (last_run es).setup (last_run es).later start
    → (steps f start (frames_of_next f key (Some es) more)).1 ≡ replied (shown_behind (last_run es) more) (frames_of_next f key (Some es) more)
replies_behind f key (From o run) more start laws kept free held = run_behind f laws key o run more start kept.0 free held
replies_behind f key (Renewed before own run) more start laws kept free held = run_behind f laws own (next_begins before) run more start kept.0.2 free.1 held

-- What is shown.

-- an answer that a server can give: identifiers of documents, fewer than 2^33
pub record IsAnswer (ids : List ℕ) : Type 0 where
  pub each : AllByRecursion IsIdentifier ids
  pub few : length ids < 2 ^ 33

module _ (s : Setup) where
  abbrev run_with : List Command → Run
  run_with later = record { setup = s; later = later }

  IsAnswer-shown : (past : List Command) (word : List ℕ) → IsHistory (run_with past) → length (filter is_update past) < 2 ^ 32 → IsAnswer (shown s past word)
  IsAnswer-shown past word history numbered =
      let listed = setup_list s word ++ added_list s past word in
      record {
        each = recursion_from_All IsIdentifier (shown s past word)
            (All-filter (is_live_with s past word) IsIdentifier listed
            (All-from_recursion IsIdentifier listed
            (AllByRecursion-append IsIdentifier (setup_list s word) (added_list s past word)
            (recursion_from_All IsIdentifier (setup_list s word)
            (λ k d below. (ids_with-above s.documents word history.collected.are_documents k d below, ids_with-fit s.documents word history.collected.are_documents k d below)))
            (added_are_identifiers s word past history.each))));
        few = omega (
          arith,
          length-filter_both (is_live_with s past word) (λ id. not (is_live_with s past word id)) (λ id. refl) listed,
          length-append (setup_list s word) (added_list s past word),
          length-map (filter (has_word word) s.documents) (λ d. d.id),
          length-filter_both (has_word word) (λ d. not (has_word word d)) (λ d. refl) s.documents,
          history.collected.documents,
          counter-below s word past,
          numbered,
        );
      }

  answers_of : (past later : List Command) → IsHistory (run_with (past ++ later)) → length (filter is_update (past ++ later)) < 2 ^ 32
      → AllByRecursion IsAnswer (flat_map (λ r. r) (over (shown_by s) past later))
  answers_of past [] history numbered = tt
  answers_of past (c ∷ later) history numbered =
      let joined = append_assoc past (c ∷ []) later in
      let rest = answers_of (past ++ c ∷ []) later (subst (λ all. IsHistory (run_with all)) (sym joined) history) (subst (λ all. length (filter is_update all) < 2 ^ 32) (sym joined) numbered) in
      by c (IsHistory-front s past (c ∷ later) history) (omega (arith, numbered, ap length (filter-append is_update past (c ∷ later)), length-append (filter is_update past) (filter is_update (c ∷ later)))) rest
    where
      by : (c : Command) → IsHistory (run_with past) → length (filter is_update past) < 2 ^ 32 → AllByRecursion IsAnswer (flat_map (λ r. r) (over (shown_by s) (past ++ c ∷ []) later))
          → AllByRecursion IsAnswer (flat_map (λ r. r) (over (shown_by s) past (c ∷ later)))
      by (Add d) history few rest = rest
      by (Delete id) history few rest = rest
      by (Search word) history few rest = (IsAnswer-shown past word history few, rest)

  shown_found : (past : List Command) (c : Command) → IsHistory (run_with past) → map in_order (shown_by s past c) ≡ found_by s past c
  shown_found past (Add d) history = refl
  shown_found past (Delete id) history = refl
  shown_found past (Search word) history = ap (λ ids. ids ∷ []) (shown_are_found (run_with past) word history)

  all_found : (past later : List Command) → IsHistory (run_with (past ++ later))
      → map in_order (flat_map (λ r. r) (over (shown_by s) past later)) ≡ flat_map (λ r. r) (over (found_by s) past later)
  all_found past [] history = refl
  all_found past (c ∷ later) history =
      map-append in_order (shown_by s past c) (flat_map (λ r. r) (over (shown_by s) (past ++ c ∷ []) later))
      ∙ (λ i. shown_found past c (IsHistory-front s past (c ∷ later) history) i
      ++ all_found (past ++ c ∷ []) later (subst (λ all. IsHistory (run_with all)) (sym (append_assoc past (c ∷ []) later)) history) i)

-- Promise P149, also here
-- what a run shows is few
pub shown_are_few : ShownAreFew
shown_are_few run word history numbered = (IsAnswer-shown run.setup run.later word history (omega (arith, numbered))).few

-- what the searches of a history show can be answered
pub shown_are_answers : (h : History) → IsKept h → AllByRecursion IsAnswer (shown_in_turn h)
shown_are_answers None kept = tt
shown_are_answers (Some es) kept = by es kept.0 kept.1
  where
    by : (es : Epochs) → AreEpochs es → (next_begins es).frame < 2 ^ 32 → AllByRecursion IsAnswer (shown_in_turn (Some es))
    by (From o run) are below = answers_of run.setup [] run.later are (omega (arith, below))
    by (Renewed before key run) are below =
        AllByRecursion-append IsAnswer (shown_in_turn (Some before)) (shown_of run) (by before are.0 (omega (arith, below))) (answers_of run.setup [] run.later are.2 (omega (arith, below)))

-- and is, each in order, what they find
pub in_order-shown_in_turn : (h : History) → IsKept h → map in_order (shown_in_turn h) ≡ found_in_turn h
in_order-shown_in_turn None kept = refl
in_order-shown_in_turn (Some es) kept = by es kept.0
  where
    by : (es : Epochs) → AreEpochs es → map in_order (shown_in_turn (Some es)) ≡ found_in_turn (Some es)
    by (From o run) are = all_found run.setup [] run.later are
    by (Renewed before key run) are =
        map-append in_order (shown_in_turn (Some before)) (shown_of run) ∙ (λ i. by before are.0 i ++ all_found run.setup [] run.later are.2 i)
