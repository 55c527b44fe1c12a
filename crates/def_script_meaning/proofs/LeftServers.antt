-- What a run leaves at the other end of an honest link, wherever it stopped and for whatever: a server that a run can go on with. So does one
-- that went on itself.
use Rattle.std.proofs.Common.{◌≡◌, ◌≤◌, ◌<◌, ◌^◌, ℕ, zero, suc, ◌+◌, ◌-◌, Bool, true, false, List, [], ◌∷◌, length, take, drop, filter, Option, None, Some, refl, sym, ap, ◌∙◌, subst, arith, length-append}
use Rattle.std.specs.Prelude.{if◌then◌else◌}
use Rattle.std.specs.List.{AllByRecursion}
use Rattle.std.proofs.lemmas.List.{take-append-drop}
use Rattle.std.proofs.lemmas.List.Elements.{filter-append}
use Rattle.client_registry.proofs.HistoryLaws.{IsKept-first}
use Rattle.client_registry.specs.Acceptance.{frames_needed}
use Rattle.client_registry.specs.Command.{Command, is_update}
use Rattle.client_registry.specs.Epochs.{begins, first_begins, key_now}
use Rattle.client_registry.specs.Histories.{IsKept, frames_in, shown_in_turn}
use Rattle.client_registry.specs.Run.{History, Offsets, Epochs, From, Renewed}
use Rattle.client_registry.specs.Setup.{Setup}
use Rattle.keyed_fn.specs.KeyFormulas.{mark_of}
use Rattle.keyed_fn.specs.KeyedFn.{KeyedFn, IsKeyedFn}
use Rattle.def_link_events.specs.Taken.{NoneRefused}
use Rattle.server_core.specs.State.{ServerState}
use Rattle.server_core.specs.Step.{steps, taken}
use Rattle.def_agreement.proofs.Histories.{ExpectsFirst, replies_agree}
use Rattle.def_agreement.specs.TakenFrames.{Expects}
use Rattle.sse_frames.specs.Exchange.{asked}
use Rattle.sse_frames.specs.Frames.{FrameText, Hello, SetupBegin, SetupDict, SetupArray, SetupEnd, AddFrame, DeleteFrame, SearchFrame}
use Rattle.sse_model.proofs.Updates.{is_no_search}
use Rattle.def_script_meaning.proofs.UpdatesLeft.{updates_parts}
use Rattle.def_script_meaning.proofs.Headline.{frames_left}
use Rattle.def_script_meaning.proofs.Honest.{IsBehindGreeting}
use Rattle.def_script_meaning.proofs.JoinedSessions.{expects_updates, steps-updates}
use Rattle.def_script_meaning.proofs.Kept.{IsKeptAt, IsWithinItem, kept_follow}
use Rattle.def_script_meaning.proofs.RejoinedSessions.{GoesRejoining, frames_left_after, goes_rejoining}
use Rattle.def_script_meaning.proofs.RunGoes.{goes}
use Rattle.def_script_meaning.proofs.Stepped.{AreBehindGreeting, none_greets, none_refused, step_taken}
use Rattle.def_script_meaning.proofs.SinceLaws.{begins-since}
use Rattle.def_script_meaning.proofs.TakenLast.{HasNoSearch, length-frames, taken_last}
use Rattle.def_script_meaning.proofs.UpdatesAlone.{first-alone, frames_alone, key-alone, no_search-alone, updates_again}
use Rattle.def_script_meaning.proofs.Whole.{IsWhole-first, expects_first, meaning_is_whole}
use Rattle.def_script_meaning.proofs.Within.{meaning_is_kept}
use Rattle.def_script_meaning.specs.Carries.{Outside}
use Rattle.def_script_meaning.specs.Continues.{at_epochs}
use Rattle.def_script_meaning.specs.Goes.{frames_in_hand, frames_of_last, updates_count}
use Rattle.def_script_meaning.specs.Headline.{IsOverHonest}
use Rattle.def_script_meaning.specs.Joined.{updates_of, LeavesServer, LeavesTaken}
use Rattle.def_script_meaning.specs.Lines.{Line, script_lines}
use Rattle.def_script_meaning.specs.Meaning.{follow, meaning}
use Rattle.def_script_meaning.specs.Rejoins.{frames_under, HasTaken, Rejoins}
use Rattle.def_script_meaning.specs.Runs.{Ended, Opens}
use Rattle.def_script_meaning.specs.Session.{IsFree, frames_with}
use Rattle.def_script_meaning.specs.Since.{last_epoch}

-- Fronts of a list, with some of its elements left out.

module _ {A : Type 0} (p : A → Bool) where
  -- what is left of a front is a front of what is left
  pub filter-front : (n : ℕ) (xs : List A) → filter p (take n xs) ≡ take (length (filter p (take n xs))) (filter p xs)
  filter-front zero xs = refl
  filter-front (suc n) [] = refl
  filter-front (suc n) (x ∷ xs) = by (p x) (filter-front n xs)
    where
      by : (b : Bool) → filter p (take n xs) ≡ take (length (filter p (take n xs))) (filter p xs) → (if b then x ∷ filter p (take n xs) else filter p (take n xs)) ≡ take (length (if b then x ∷ filter p (take n xs) else filter p (take n xs))) (if b then x ∷ filter p xs else filter p xs)
      by true rest = ap (λ ys. x ∷ ys) rest
      by false rest = rest

  fewer : (xs : List A) → length (filter p xs) ≤ length xs
  fewer [] = omega arith
  fewer (x ∷ xs) = by (p x) (fewer xs)
    where
      by : (b : Bool) → length (filter p xs) ≤ length xs → length (if b then x ∷ filter p xs else filter p xs) ≤ suc (length xs)
      by true rest = omega (arith, rest)
      by false rest = omega (arith, rest)

  -- what is left of all is what is left of a front, and at most what stands behind it
  filter-behind : (n : ℕ) (xs : List A) → length (filter p xs) ≤ length (filter p (take n xs)) + length (drop n xs)
  filter-behind n xs =
      omega (
        arith,
        ap (λ ys. length (filter p ys)) (take-append-drop n xs),
        ap length (filter-append p (take n xs) (drop n xs)),
        length-append (filter p (take n xs)) (filter p (drop n xs)),
        fewer (drop n xs),
      )

  pub filter-within : (n : ℕ) (xs : List A) → length (filter p (take n xs)) ≤ length (filter p xs)
  filter-within n xs =
      omega (
        arith,
        ap (λ ys. length (filter p ys)) (take-append-drop n xs),
        ap length (filter-append p (take n xs) (drop n xs)),
        length-append (filter p (take n xs)) (filter p (drop n xs)),
      )

-- Frames that are all taken.

module _ (f : KeyedFn) where
  pub refused_none : (s : ServerState) (frames : List FrameText) (n : ℕ) → NoneRefused s frames → NoneRefused s (take n frames)
  refused_none s frames zero none = tt
  refused_none s [] (suc n) none = tt
  refused_none s (frame ∷ frames) (suc n) none = (none.0, refused_none (taken s frame) frames n none.1)

  pub greets_none : (frames : List FrameText) (n : ℕ) → AreBehindGreeting f frames → AreBehindGreeting f (take n frames)
  greets_none frames zero all = tt
  greets_none [] (suc n) all = tt
  greets_none (frame ∷ frames) (suc n) all = (all.0, greets_none frames n all.1)

  one_counted : (s : ServerState) (frame : FrameText) (frames : List FrameText) → IsBehindGreeting (asked frame) → (taken s frame).next + length (filter is_no_search frames) ≡ s.next + length (filter is_no_search (frame ∷ frames))
  one_counted s Hello frames behind = absurd behind
  one_counted s (SetupBegin q b big m a) frames behind = omega arith
  one_counted s (SetupDict q width entries) frames behind = omega arith
  one_counted s (SetupArray q width blocks) frames behind = omega arith
  one_counted s (SetupEnd q) frames behind = omega arith
  one_counted s (AddFrame q entries numbers) frames behind = omega arith
  one_counted s (DeleteFrame q numbers) frames behind = omega arith
  one_counted s (SearchFrame token) frames behind = omega arith

  -- the server counts the updates among them
  pub counted : (s : ServerState) (frames : List FrameText) → NoneRefused s frames → AreBehindGreeting f frames → (steps f s frames).0.next ≡ s.next + length (filter is_no_search frames)
  counted s [] none behind = omega arith
  counted s (frame ∷ frames) none behind =
      ap (λ state. (steps f state frames).0.next) (step_taken f s frame none.0)
      ∙ counted (taken s frame) frames none.1 behind.1
      ∙ one_counted s frame frames behind.0

-- of the updates alone the last command is an update too, or the setup
pub in_hand-alone : (s : Setup) (later : List Command) → 1 ≤ frames_needed s → frames_of_last s later ≤ frames_of_last s (filter is_update later)
in_hand-alone s [] some = omega arith
in_hand-alone s (c ∷ later) some = by (filter is_update (c ∷ later))
  where
    by : (cs : List Command) → 1 ≤ frames_of_last s cs
    by [] = some
    by (d ∷ cs) = omega arith

in_hand-epochs : (es : Epochs) → frames_in_hand (Some es) ≤ frames_in_hand (Some (updates_of es))
in_hand-epochs (From o run) = in_hand-alone run.setup run.later (omega arith)
in_hand-epochs (Renewed before own run) = in_hand-alone run.setup run.later (omega arith)

-- the last command's frames are of the last epoch
in_hand-within : (s : Setup) (later : List Command) → frames_of_last s (filter is_update later) ≤ frames_needed s + length (filter is_update later)
in_hand-within s later = by (filter is_update later)
  where
    by : (cs : List Command) → frames_of_last s cs ≤ frames_needed s + length cs
    by [] = omega arith
    by (c ∷ cs) = omega arith

in_hand-last : (es : Epochs) → (begins (updates_of es)).frame + frames_in_hand (Some (updates_of es)) ≤ frames_in (Some (updates_of es))
in_hand-last (From o run) =
    let few : frames_in_hand (Some (updates_of (From o run))) ≤ frames_needed run.setup + length (filter is_update run.later) = in_hand-within run.setup run.later in
    omega (arith, few, ap length (updates_again run.later))
in_hand-last (Renewed before own run) =
    let few : frames_in_hand (Some (updates_of (Renewed before own run))) ≤ frames_needed run.setup + length (filter is_update run.later) = in_hand-within run.setup run.later in
    omega (arith, few, ap length (updates_again run.later))

module _ (f : KeyedFn) (laws : IsKeyedFn f) (key : List ℕ) (es : Epochs) (kept : IsKept (Some es)) (free : IsFree f (Some key) (Some es)) where
  abbrev all : List FrameText
  all = frames_under f key (Some es)

  abbrev alone : List FrameText
  alone = frames_under f key (Some (updates_of es))

  -- a server that was sent the first of its frames, all but some of the last command's, was sent the first of its updates' so
  pub leaves_taken : (start : ServerState) → Expects (first_begins es).frame start → (n : ℕ) (state : ServerState) → updates_count (drop n all) ≤ frames_in_hand (Some es) → state ≡ (steps f start (take n all)).0
      → (left : LeavesTaken f key es state) × (left.taken.start ≡ start)
  leaves_taken start expects n state most stored =
      let replies = replies_agree f key (Some es) start laws kept free expects in
      let first : ℕ = (first_begins es).frame in
      let few = length (filter is_no_search (take n all)) in
      let none = refused_none f start all n (none_refused f start all (shown_in_turn (Some es)) replies) in
      let behind = greets_none f all n (none_greets f start all (shown_in_turn (Some es)) replies) in
      let count = length-frames f key (updates_of es) (no_search-alone es) in
      let left : length (filter is_no_search all) ≡ length alone = ap length (sym (frames_alone f key es)) in
      let begins_there : (first_begins (updates_of es)).frame ≡ first = ap (λ (o : Offsets). o.frame) (first-alone es) in
      let back : first + few - (first_begins (updates_of es)).frame ≡ few = omega (arith, begins_there) in (
        record {
          next = first + few;
          taken = record {
            start = start;
            expects = subst (λ (q : ℕ). Expects q start) (sym begins_there) expects;
            from = omega (arith, begins_there);
            within = omega (arith, count, left, begins_there, filter-within is_no_search n all);
            sent =
                stored
                ∙ sym (steps-updates f start (take n all))
                ∙ ap (λ fs. (steps f start fs).0) (filter-front is_no_search n all ∙ ap (take few) (sym (frames_alone f key es)) ∙ ap (λ m. take m alone) (sym back));
            number = omega (arith, ap (λ (s : ServerState). s.next) stored, counted f start (take n all) none behind, expects.next);
          };
          most = omega (arith, count, left, begins_there, updates_parts n all, most, in_hand-epochs es);
        },
        refl,
      )

  -- Promise P167, also here
  -- and of its last epoch's alone, so that a session can resume that knows no more of the history
  pub leaves_last : (state : ServerState) (left : LeavesTaken f key es state) → HasTaken f (key_now key es) (last_epoch (updates_of es)) left.next state
  leaves_last state left =
      let most = left.most in
      let expects : Expects (first_begins es).frame left.taken.start = subst (λ (o : Offsets). Expects o.frame left.taken.start) (first-alone es) left.taken.expects in
      subst (λ k. HasTaken f k (last_epoch (updates_of es)) left.next state) (key-alone key es)
      (taken_last f key (updates_of es) left.next state (no_search-alone es) left.taken (omega (arith, most, in_hand-last es))
      (expects_updates f laws key es left.taken.start kept free expects))

-- Whole runs.

-- a server that was sent the first frames of a history, all but some of the last command's
abbrev HasMost : KeyedFn → (key : List ℕ) → History → (start state : ServerState) → Type 0
HasMost f key h start state = (n : ℕ) × (updates_count (drop n (frames_under f key h)) ≤ frames_in_hand h) × (state ≡ (steps f start (take n (frames_under f key h))).0)

-- a history so far sent leaves its server
leaves_server : (f : KeyedFn) → IsKeyedFn f → (key : Option (List ℕ)) (h : History) (start state : ServerState) → IsKept h → IsFree f key h → ExpectsFirst h start
    → ((k : List ℕ) → key ≡ Some k → HasMost f k h start state) → LeavesServer f key h state
leaves_server f laws None h start state kept free expects left = tt
leaves_server f laws (Some key) None start state kept free expects left = tt
leaves_server f laws (Some key) (Some es) start state kept free expects left =
    let most = left key refl in
    (leaves_taken f laws key es kept free start expects most.0 state most.1 most.2).0

-- Promise P167 (inside): A run over an honest link leaves a server with which the next session can resume, whatever stopped it.
--   assumes: keyed function, honest link, no collision, resumable state
-- whatever stopped a run over an honest link from a server that expects a setup's first frame, whose history up to its stop has no collision
pub run_leaves : (f : KeyedFn) → IsKeyedFn f → (bytes : List ℕ) (now : Outside) (end : Ended) → Opens f 1 (script_lines bytes) now end → (before state : ServerState) → Expects 0 before → IsOverHonest f before now.told end.outside.told state
    → IsFree f end.key end.history → LeavesServer f end.key end.history state
run_leaves f laws bytes now end opens before state expects honest free =
    let first = (goes f bytes now end opens).history in
    leaves_server f laws end.key end.history before state
    (IsKept-first end.history (meaning (Some (mark_of f)) bytes).history first (meaning_is_kept (Some (mark_of f)) bytes).0) free
    (expects_first end.history before (IsWhole-first end.history (meaning (Some (mark_of f)) bytes).history first (meaning_is_whole (Some (mark_of f)) bytes)) expects)
    (λ key same.
    let left = frames_left f laws bytes now end opens before state expects honest key same free in
    let frames : frames_with f end.key end.history ≡ frames_under f key end.history = ap (λ k. frames_with f k end.history) same in
    (left.0, omega (arith, left.1, ap (λ fs. updates_count (drop left.0 fs)) frames), left.2 ∙ ap (λ fs. (steps f before (take left.0 fs)).0) frames))

-- whatever stopped one that goes on after a history with a server that was sent the first of its frames
module _ (f : KeyedFn) (laws : IsKeyedFn f) (key : List ℕ) (es : Epochs) (updates : HasNoSearch es) (next : ℕ) (before : ServerState) (had : HasTaken f key es next before)
    (mark : List ℕ → List ℕ) (used : List (List ℕ)) (n number : ℕ) (lines : List (Option Line)) (within : AllByRecursion IsWithinItem lines) (kept_at : IsKeptAt n (at_epochs mark used key [] es))
    (low high : ℕ) (fits : high < 2 ^ 32) (from : (first_begins es).frame ≤ low) (least : low ≤ next) (most : next ≤ high) (near : frames_in (Some es) ≤ low + frames_in_hand (Some es))
    (now : Outside) (end : Ended) (goes : Rejoins f low high mark used key es number lines now end) (state : ServerState) (honest : IsOverHonest f before now.told end.outside.told state) where
  abbrev g : GoesRejoining f laws key es updates next before had mark used n number lines within kept_at low high fits from least most near now end goes
  g = goes_rejoining f laws key es updates next before had mark used n number lines within kept_at low high fits from least most near now end goes

  -- Promise P167, also here
  pub rejoined_leaves : IsFree f end.key end.history → LeavesServer f end.key end.history state
  rejoined_leaves free =
      leaves_server f laws end.key end.history had.start state
      (IsKept-first end.history (follow (at_epochs mark used key [] es) number lines false).history g.history (kept_follow n (at_epochs mark used key [] es) number lines false within kept_at).0) free
      (subst (λ h. ExpectsFirst h had.start) (sym g.are) (subst (λ (o : Offsets). Expects o.frame had.start) (sym (begins-since es g.more)) had.expects))
      (λ other same.
      let key_is : key ≡ other = inside key other (sym g.same_key ∙ same) in
      subst (λ k. (q : ℕ) × (updates_count (drop q (frames_under f k end.history)) ≤ frames_in_hand end.history) × (state ≡ (steps f had.start (take q (frames_under f k end.history))).0)) key_is
      (frames_left_after f laws key es updates next before had mark used n number lines within kept_at low high fits from least most near now end goes state honest free))
    where
      inside : (a b : List ℕ) → Some a ≡ Some b → a ≡ b
      inside a b e = cc
