-- What commands and renewals after a history are, send and show depends on the updates of its last epoch and on none of its searches.
use Rattle.std.proofs.Common.{◌≡◌, ℕ, ◌+◌, ◌*◌, ◌-◌, ◌^◌, true, not, ◌&&◌, ◌||◌, nat_lt, List, [], ◌∷◌, ◌++◌, length, filter, map, None, Some, refl, sym, ap, ◌∙◌, subst, arith, append_assoc, length-append}
use Rattle.std.specs.Prelude.{All, flat_map, fold}
use Rattle.std.specs.List.{list_all}
use Rattle.std.proofs.Math.Seq.{drop-append_seam}
use Rattle.std.proofs.lemmas.List.Elements.{All-drop, All-head, filter-append}
use Rattle.client_records.proofs.OpeningLaws.{accepted_push}
use Rattle.client_records.specs.Recorded.{as_recorded}
use Rattle.client_registry.proofs.HistoryLaws.{IsHistory-last, IsKept-first, IsKept-longer, begins-with_commands, last_run-with_commands}
use Rattle.client_registry.proofs.LiveLaws.{counter-updates, is_listed-updates, live-updates, shown-updates}
use Rattle.client_registry.specs.Acceptance.{frames_needed}
use Rattle.client_registry.specs.Command.{Command, Add, Delete, Search, is_update}
use Rattle.client_registry.specs.Documents.{is_live}
use Rattle.client_registry.specs.Epochs.{behind, by_id, begins, first_begins, key_now, next_begins, setup_renewed, with_commands, Step, Does, Renews, step_after}
use Rattle.client_registry.specs.Histories.{IsKept, IsWhole, frames_in}
use Rattle.client_registry.specs.Live.{counter, is_listed, live, shown}
use Rattle.client_registry.specs.Over.{over}
use Rattle.client_registry.specs.Run.{Run, Offsets, Epochs, From, Renewed, last_run}
use Rattle.client_registry.specs.Setup.{Setup}
use Rattle.client_registry.specs.Sized.{IsHistory, IsSizedCommand, is_accepted, update_frames}
use Rattle.keyed_fn.specs.KeyedFn.{KeyedFn}
use Rattle.list_packing.specs.Parts.{parts}
use Rattle.def_agreement.specs.Agreement.{frames_fed}
use Rattle.def_link_events.specs.Taken.{update_taken, updates_among}
use Rattle.sse_frames.specs.Frames.{Entry, FrameText, SetupBegin, SetupDict, SetupArray, SetupEnd, update_number}
use Rattle.sse_frames.specs.Order.{by_bytes}
use Rattle.sse_frames.specs.SentParts.{array_frames, dict_frames, numbered, setup_frames}
use Rattle.two_level.specs.Shape.{Shape}
use Rattle.sse_model.proofs.Prefixes.{frames_by}
use Rattle.sse_model.proofs.Updates.{frames-updates, frames_of-updates, is_no_search, next_number-updates, setup_frames-no_search}
use Rattle.sse_model.specs.Histories.{table_at}
use Rattle.sse_model.specs.Names.{Table, table}
use Rattle.sse_model.specs.Positions.{block_positions, entry_positions, ranks_of, sealed}
use Rattle.sse_model.specs.Wire.{frames_of, frames_of_setup, labels_in, next_number}
use Rattle.def_script_meaning.specs.Joined.{updates_of}
use Rattle.def_script_meaning.specs.Rejoins.{frames_under}
use Rattle.def_script_meaning.specs.Since.{frames_of_step, frames_since, last_epoch, shown_of_step, shown_since}
use Rattle.def_script_meaning.specs.SimulatedAfter.{HasUpdates}
use Rattle.def_script_meaning.proofs.TakenLast.{HasNoSearch, length-frames}

pub updates_again : (cs : List Command) → filter is_update (filter is_update cs) ≡ filter is_update cs
updates_again [] = refl
updates_again (Add d ∷ cs) = ap (λ (rest : List Command). Add d ∷ rest) (updates_again cs)
updates_again (Delete id ∷ cs) = ap (λ (rest : List Command). Delete id ∷ rest) (updates_again cs)
updates_again (Search word ∷ cs) = updates_again cs

-- whether a command is accepted
accepted-alike : (s : Setup) (past alone : List Command) (c : Command) → filter is_update past ≡ filter is_update alone → is_accepted s past c ≡ is_accepted s alone c
accepted-alike s past alone c same = by c
  where
    documents : live s.documents past ≡ live s.documents alone
    documents = sym (live-updates s.documents past) ∙ ap (live s.documents) same ∙ live-updates s.documents alone

    listed : (word : List ℕ) (id : ℕ) → is_listed s past word id ≡ is_listed s alone word id
    listed word id = sym (is_listed-updates s past word id) ∙ ap (λ cs. is_listed s cs word id) same ∙ is_listed-updates s alone word id

    count : (word : List ℕ) → counter s past word ≡ counter s alone word
    count word = sym (counter-updates s past word) ∙ ap (λ cs. counter s cs word) same ∙ counter-updates s alone word

    by : (c : Command) → is_accepted s past c ≡ is_accepted s alone c
    by (Add d) = λ i. not (is_live (documents i) d.id) && list_all (λ word. listed word d.id i || nat_lt (count word i) (2 ^ 32 - 1)) d.words
    by (Delete id) = ap (λ docs. is_live docs id) documents
    by (Search word) = refl

-- The updates of a history.

pub no_search-alone : (es : Epochs) → HasNoSearch (updates_of es)
no_search-alone (From o run) = updates_again run.later
no_search-alone (Renewed before own run) = (no_search-alone before, updates_again run.later)

pub no_search-last : (es : Epochs) → HasNoSearch (last_epoch (updates_of es))
no_search-last (From o run) = updates_again run.later
no_search-last (Renewed before own run) = updates_again run.later

pub first-alone : (es : Epochs) → first_begins (updates_of es) ≡ first_begins es
first-alone (From o run) = refl
first-alone (Renewed before own run) = first-alone before

pub key-alone : (key : List ℕ) (es : Epochs) → key_now key (updates_of es) ≡ key_now key es
key-alone key (From o run) = refl
key-alone key (Renewed before own run) = refl

-- records tell marks in the place of keys, and of the last epoch the same
run-recorded : (mark : List ℕ → List ℕ) (es : Epochs) → last_run (as_recorded mark es) ≡ last_run (updates_of es)
run-recorded mark (From o run) = refl
run-recorded mark (Renewed before own run) = refl

begins-recorded : (mark : List ℕ → List ℕ) (es : Epochs) → begins (as_recorded mark es) ≡ begins (updates_of es)
begins-recorded mark (From o run) = refl
begins-recorded mark (Renewed before own run) = λ i. behind (begins-recorded mark before i) (run-recorded mark before i)

pub last-recorded : (mark : List ℕ → List ℕ) (es : Epochs) → last_epoch (as_recorded mark es) ≡ last_epoch (updates_of es)
last-recorded mark es = λ i. From (begins-recorded mark es i) (run-recorded mark es i)

pub key-recorded : (mark : List ℕ → List ℕ) (key : List ℕ) (es : Epochs) → key_now (mark key) (as_recorded mark es) ≡ mark (key_now key es)
key-recorded mark key (From o run) = refl
key-recorded mark key (Renewed before own run) = refl

epoch-alone : (es : Epochs) → (begins (updates_of es)).epoch ≡ (begins es).epoch
epoch-alone (From o run) = refl
epoch-alone (Renewed before own run) = ap (λ e. e + 1) (epoch-alone before)

-- they take as many update frames
pub frame-alone : (es : Epochs) → (next_begins (updates_of es)).frame ≡ (next_begins es).frame
frame-alone (From o run) = omega (arith, ap length (updates_again run.later))
frame-alone (Renewed before own run) = omega (arith, frame-alone before, ap length (updates_again run.later))

module _ (f : KeyedFn) (key : List ℕ) where
  -- their frames are those of the history that are no search's
  pub frames_alone : (es : Epochs) → frames_under f key (Some (updates_of es)) ≡ filter is_no_search (frames_under f key (Some es))
  frames_alone (From o run) = frames-updates (table_at f key run) o run.setup run.later
  frames_alone (Renewed before own run) =
      let o = next_begins before in
      let now = next_begins (updates_of before) in
      let alone : Run = record { setup = run.setup; later = filter is_update run.later } in
      let placed : frames_fed (table_at f own run) now alone ≡ frames_fed (table_at f own run) o alone =
      λ i. frames_fed (table_at f own run) (record { epoch = ap (λ e. e + 1) (epoch-alone before) i; command = now.command; frame = frame-alone before i }) alone in
      (λ i. frames_alone before i ++ (placed ∙ frames-updates (table_at f own run) o run.setup run.later) i)
      ∙ sym (filter-append is_no_search (frames_under f key (Some before)) (frames_fed (table_at f own run) o run))

  -- they are frames of epochs before the last one, as many as its first one's number says in a whole history, and then those of the last one alone
  pub last_frames : (es : Epochs) → IsWhole (Some es)
      → (front : List FrameText) × (frames_under f key (Some (updates_of es)) ≡ front ++ frames_under f (key_now key es) (Some (last_epoch (updates_of es)))) × (length front ≡ (begins (updates_of es)).frame)
  last_frames (From o run) whole = ([], refl, omega (arith, ap (λ (o : Offsets). o.frame) whole))
  last_frames (Renewed before own run) whole = (
    frames_under f key (Some (updates_of before)),
    refl,
    omega (arith, length-frames f key (updates_of before) (no_search-alone before), ap (λ (o : Offsets). o.frame) (first-alone before ∙ whole)),
  )

-- Two histories with the same updates since the last renewal.

-- their last epochs have the same key, epoch, first frame and setup, and the same updates
pub record SameUpdates (k m : List ℕ) (es fs : Epochs) : Type 0 where
  pub keys : key_now k es ≡ key_now m fs
  pub epochs : (begins es).epoch ≡ (begins fs).epoch
  pub frames : (begins es).frame ≡ (begins fs).frame
  pub setups : (last_run es).setup ≡ (last_run fs).setup
  pub laters : filter is_update (last_run es).later ≡ filter is_update (last_run fs).later

-- so it is of a history and of what records tell of its last epoch
pub same-known : (k : List ℕ) (es : Epochs) → SameUpdates k (key_now k es) es (last_epoch (updates_of es))
same-known k (From o run) = record { keys = refl; epochs = refl; frames = refl; setups = refl; laters = sym (updates_again run.later) }
same-known k (Renewed before own run) = record {
  keys = refl;
  epochs = ap (λ e. e + 1) (sym (epoch-alone before));
  frames = sym (frame-alone before);
  setups = refl;
  laters = sym (updates_again run.later);
}

pub same_updates : (first key : List ℕ) (earlier es : Epochs) → HasUpdates key es first earlier → SameUpdates first key earlier es
same_updates first key earlier es has = subst (λ (p : List ℕ × Epochs). SameUpdates first p.0 earlier p.1) (λ i. (has.same_key i, has.same i)) (same-known first earlier)

-- and so the frames of such a history's updates end with those that records tell
pub frames_before : (f : KeyedFn) (first key : List ℕ) (earlier es : Epochs) → HasUpdates key es first earlier
    → (front : List FrameText) × (frames_under f first (Some (updates_of earlier)) ≡ front ++ frames_under f key (Some es)) × (length front ≡ (first_begins es).frame)
frames_before f first key earlier es has =
    subst (λ (p : List ℕ × Epochs). (front : List FrameText) × (frames_under f first (Some (updates_of earlier)) ≡ front ++ frames_under f p.0 (Some p.1)) × (length front ≡ (first_begins p.1).frame))
    (λ i. (has.same_key i, has.same i)) (last_frames f first earlier has.whole)

renewed-alike : (s t : Setup) (past alone : List Command) → s ≡ t → filter is_update past ≡ filter is_update alone → setup_renewed (record { setup = s; later = past }) ≡ setup_renewed (record { setup = t; later = alone })
renewed-alike s t past alone same later =
    let docs : live s.documents past ≡ live t.documents alone =
    sym (live-updates s.documents past) ∙ (λ i. live (same i).documents (later i)) ∙ live-updates t.documents alone in
    λ i. record { documents = by_id (docs i); shape = (same i).shape; pad = (same i).pad }

after_commands : (es fs : Epochs) (c : Command) → filter is_update (last_run es).later ≡ filter is_update (last_run fs).later
    → filter is_update (last_run (with_commands (c ∷ []) es)).later ≡ filter is_update (last_run (with_commands (c ∷ []) fs)).later
after_commands es fs c same =
    ap (λ (r : Run). filter is_update r.later) (last_run-with_commands (c ∷ []) es)
    ∙ filter-append is_update (last_run es).later (c ∷ [])
    ∙ ap (λ cs. cs ++ filter is_update (c ∷ [])) same
    ∙ sym (filter-append is_update (last_run fs).later (c ∷ []))
    ∙ sym (ap (λ (r : Run). filter is_update r.later) (last_run-with_commands (c ∷ []) fs))

key-commands : (k : List ℕ) (es : Epochs) (cs : List Command) → key_now k (with_commands cs es) ≡ key_now k es
key-commands k (From o run) cs = refl
key-commands k (Renewed before own run) cs = refl

-- they have the same after a step
same-step : (k m : List ℕ) (es fs : Epochs) (step : Step) → SameUpdates k m es fs → SameUpdates k m (step_after es step) (step_after fs step)
same-step k m es fs (Does c) a = record {
  keys = key-commands k es (c ∷ []) ∙ a.keys ∙ sym (key-commands m fs (c ∷ []));
  epochs = ap (λ (o : Offsets). o.epoch) (begins-with_commands (c ∷ []) es) ∙ a.epochs ∙ sym (ap (λ (o : Offsets). o.epoch) (begins-with_commands (c ∷ []) fs));
  frames = ap (λ (o : Offsets). o.frame) (begins-with_commands (c ∷ []) es) ∙ a.frames ∙ sym (ap (λ (o : Offsets). o.frame) (begins-with_commands (c ∷ []) fs));
  setups = ap (λ (r : Run). r.setup) (last_run-with_commands (c ∷ []) es) ∙ a.setups ∙ sym (ap (λ (r : Run). r.setup) (last_run-with_commands (c ∷ []) fs));
  laters = after_commands es fs c a.laters;
}
same-step k m es fs (Renews own) a = record {
  keys = refl;
  epochs = ap (λ e. e + 1) a.epochs;
  frames = λ i. a.frames i + (frames_needed (a.setups i) + length (a.laters i));
  setups = renewed-alike (last_run es).setup (last_run fs).setup (last_run es).later (last_run fs).later a.setups a.laters;
  laters = refl;
}

-- Steps after the one have the frames that they have after the other.

module _ (f : KeyedFn) where
  by_run : (key : List ℕ) (e q : ℕ) (s : Setup) (past : List Command) → Command → List FrameText
  by_run key e q s past c = flat_map (λ fs. fs) (frames_of (table f s.shape (λ epoch. key)) e s (next_number (record { epoch = e; command = 0; frame = q }) s past) past c ∷ [])

  by_updates : (key : List ℕ) (e q : ℕ) (s : Setup) (past : List Command) (c : Command) → by_run key e q s (filter is_update past) c ≡ by_run key e q s past c
  unfolding by_run
  by_updates key e q s past c =
      let t = table f s.shape (λ epoch. key) in
      let o : Offsets = record { epoch = e; command = 0; frame = q } in
      ap (λ fs. flat_map (λ xs. xs) (fs ∷ []))
      (ap (λ n. frames_of t e s n (filter is_update past) c) (next_number-updates o s past) ∙ frames_of-updates t e s (next_number o s past) past c)

  step-frames : (k m : List ℕ) (es fs : Epochs) (step : Step) → SameUpdates k m es fs → frames_of_step f k es step ≡ frames_of_step f m fs step
  unfolding by_run
  step-frames k m es fs (Does c) a =
      sym (by_updates (key_now k es) (begins es).epoch (begins es).frame (last_run es).setup (last_run es).later c)
      ∙ (λ i. by_run (a.keys i) (a.epochs i) (a.frames i) (a.setups i) (a.laters i) c)
      ∙ by_updates (key_now m fs) (begins fs).epoch (begins fs).frame (last_run fs).setup (last_run fs).later c
  step-frames k m es fs (Renews own) a =
      let next = same-step k m es fs (Renews own) a in
      λ i. frames_of_setup (table f (next.setups i).shape (λ epoch. own)) (record { epoch = next.epochs i; command = 0; frame = next.frames i }) (next.setups i)

  pub since-frames : (k m : List ℕ) (es fs : Epochs) (more : List Step) → SameUpdates k m es fs → frames_since f k es more ≡ frames_since f m fs more
  since-frames k m es fs [] a = refl
  since-frames k m es fs (step ∷ more) a = λ i. step-frames k m es fs step a i ++ since-frames k m (step_after es step) (step_after fs step) more (same-step k m es fs step a) i

-- And show the same.

step-shown : (k m : List ℕ) (es fs : Epochs) (step : Step) → SameUpdates k m es fs → shown_of_step es step ≡ shown_of_step fs step
step-shown k m es fs (Does (Add d)) a = refl
step-shown k m es fs (Does (Delete id)) a = refl
step-shown k m es fs (Does (Search word)) a =
    ap (λ ids. ids ∷ []) (sym (shown-updates (last_run es).setup (last_run es).later word) ∙ (λ i. shown (a.setups i) (a.laters i) word) ∙ shown-updates (last_run fs).setup (last_run fs).later word)
step-shown k m es fs (Renews own) a = refl

pub since-shown : (k m : List ℕ) (es fs : Epochs) (more : List Step) → SameUpdates k m es fs → shown_since es more ≡ shown_since fs more
since-shown k m es fs [] a = refl
since-shown k m es fs (step ∷ more) a = λ i. step-shown k m es fs step a i ++ since-shown k m (step_after es step) (step_after fs step) more (same-step k m es fs step a) i

-- If they keep all limits after the one, they keep them after the other.

-- a command has a frame, or none
frames_in-commands : (es : Epochs) (cs : List Command) → frames_in (Some (with_commands cs es)) ≡ frames_in (Some es) + length (filter is_update cs)
frames_in-commands (From o run) cs = omega (arith, ap length (filter-append is_update run.later cs), length-append (filter is_update run.later) (filter is_update cs))
frames_in-commands (Renewed before own run) cs = omega (arith, ap length (filter-append is_update run.later cs), length-append (filter is_update run.later) (filter is_update cs))

-- the last command of a history keeps the limits of words, documents and identifiers
last_sized : (s : Setup) (past : List Command) (c : Command) → IsHistory (record { setup = s; later = past ++ c ∷ [] }) → IsSizedCommand c
last_sized s past c are = All-head IsSizedCommand c [] (subst (All IsSizedCommand) (drop-append_seam past (c ∷ [])) (All-drop IsSizedCommand (length past) (past ++ c ∷ []) are.each))

kept-step : (k m : List ℕ) (es fs : Epochs) (step : Step) → SameUpdates k m es fs → IsKept (Some es) → IsKept (Some (step_after fs step)) → IsKept (Some (step_after es step))
kept-step k m es fs (Does c) a kept after =
    let last : IsHistory (record { setup = (last_run fs).setup; later = (last_run fs).later ++ c ∷ [] }) = subst IsHistory (last_run-with_commands (c ∷ []) fs) (IsHistory-last (with_commands (c ∷ []) fs) after.0) in
    let accepted : is_accepted (last_run es).setup (last_run es).later c ≡ true =
    ap (λ s. is_accepted s (last_run es).later c) a.setups ∙ accepted-alike (last_run fs).setup (last_run es).later (last_run fs).later c a.laters ∙ accepted_push (last_run fs) c last in
    let needed : frames_needed (last_run es).setup ≡ frames_needed (last_run fs).setup = ap frames_needed a.setups in
    IsKept-longer (Some es) c kept (last_sized (last_run fs).setup (last_run fs).later c last) accepted (omega (arith, after.1, frames_in-commands fs (c ∷ []), a.frames, needed, ap length a.laters))
kept-step k m es fs (Renews own) a kept after =
    let next = same-step k m es fs (Renews own) a in
    let runs : record { setup = setup_renewed (last_run fs); later = [] } ≡ record { setup = setup_renewed (last_run es); later = [] } = λ i. record { setup = sym next.setups i; later = [] } in
    let frames : frames_in (Some (step_after es (Renews own))) ≡ frames_in (Some (step_after fs (Renews own))) = λ i. next.frames i + update_frames (record { setup = next.setups i; later = [] }) in
    ((kept.0, refl, subst IsHistory runs after.0.2), omega (arith, after.1, frames))

pub IsKept-after : (k m : List ℕ) (es fs : Epochs) (more : List Step) → SameUpdates k m es fs → IsKept (Some es) → IsKept (Some (fold step_after fs more)) → IsKept (Some (fold step_after es more))
IsKept-after k m es fs [] a kept after = kept
IsKept-after k m es fs (step ∷ more) a kept after =
    IsKept-after k m (step_after es step) (step_after fs step) more (same-step k m es fs step a)
    (kept-step k m es fs step a kept (IsKept-first (Some (step_after fs step)) (Some (fold step_after (step_after fs step) more)) (more, refl) after)) after

-- The updates among the frames of a history are those that are no search's: no frame is Hello.

updates_among-append : (xs ys : List FrameText) → updates_among (xs ++ ys) ≡ updates_among xs ++ updates_among ys
updates_among-append [] ys = refl
updates_among-append (frame ∷ xs) ys =
    ap (λ rest. update_taken (update_number frame) None frame ++ rest) (updates_among-append xs ys)
    ∙ sym (append_assoc (update_taken (update_number frame) None frame) (updates_among xs) (updates_among ys))

-- frames that are all numbered
all_updates : {X : Type 0} (g : X → ℕ → FrameText) → ((x : X) (q : ℕ) → update_number (g x q) ≡ Some q)
    → (xs : List X) (rest : List (ℕ → FrameText)) → ((q : ℕ) → updates_among (numbered q rest) ≡ numbered q rest)
    → (q : ℕ) → updates_among (numbered q (map g xs ++ rest)) ≡ numbered q (map g xs ++ rest)
all_updates g numbers [] rest h q = h q
all_updates g numbers (x ∷ xs) rest h q = λ i. update_taken (numbers x q i) None (g x q) ++ all_updates g numbers xs rest h (q + 1) i

-- those of a setup are
setup_updates : (q : ℕ) (shape : Shape) (entries blocks : List Entry) → updates_among (setup_frames q shape entries blocks) ≡ setup_frames q shape entries blocks
setup_updates q shape entries blocks =
    let ending : List (ℕ → FrameText) = (λ q. SetupEnd q) ∷ [] in
    let cells = parts 1024 (by_bytes (λ (entry : Entry). entry.label) entries) in
    let array = parts 256 (by_bytes (λ (block : Entry). block.label) blocks) in
    ap (λ frames. SetupBegin q shape.b shape.big (length entries) (length blocks) ∷ frames)
    (subst (λ rest. updates_among (numbered (q + 1) rest) ≡ numbered (q + 1) rest) (sym (append_assoc (dict_frames shape entries) (array_frames shape blocks) ending))
    (all_updates (λ part q. SetupDict q (1 + 8 * shape.b) part) (λ part q. refl) cells (array_frames shape blocks ++ ending)
    (all_updates (λ part q. SetupArray q (8 * shape.big) (map (λ block. block.text) part)) (λ part q. refl) array ending (λ q. refl)) (q + 1)))

-- and those of the commands but a search's
command_updates : (t : Table) (o : Offsets) (s : Setup) (past later : List Command)
    → updates_among (flat_map (λ frames. frames) (over (frames_by t o s) past later)) ≡ filter is_no_search (flat_map (λ frames. frames) (over (frames_by t o s) past later))
command_updates t o s past [] = refl
command_updates t o s past (Add d ∷ later) = ap (λ rest. frames_by t o s past (Add d) ++ rest) (command_updates t o s (past ++ Add d ∷ []) later)
command_updates t o s past (Delete id ∷ later) = ap (λ rest. frames_by t o s past (Delete id) ++ rest) (command_updates t o s (past ++ Delete id ∷ []) later)
command_updates t o s past (Search word ∷ later) = command_updates t o s (past ++ Search word ∷ []) later

run_updates : (t : Table) (o : Offsets) (run : Run) → updates_among (frames_fed t o run) ≡ filter is_no_search (frames_fed t o run)
run_updates t o run =
    let s = run.setup in
    let ranks = ranks_of (labels_in t (block_positions o.epoch s)) in
    let entries = map (sealed t ranks) (entry_positions o.epoch s) in
    let blocks = map (sealed t ranks) (block_positions o.epoch s) in
    let first = frames_of_setup t o s in
    let later = flat_map (λ frames. frames) (over (frames_by t o s) [] run.later) in
    updates_among-append first later
    ∙ (λ i. (setup_updates o.frame s.shape entries blocks ∙ sym (setup_frames-no_search o.frame s.shape entries blocks)) i ++ command_updates t o s [] run.later i)
    ∙ sym (filter-append is_no_search first later)

history_updates : (f : KeyedFn) (key : List ℕ) (es : Epochs) → updates_among (frames_under f key (Some es)) ≡ filter is_no_search (frames_under f key (Some es))
history_updates f key (From o run) = run_updates (table_at f key run) o run
history_updates f key (Renewed before own run) =
    let front = frames_under f key (Some before) in
    let mine = frames_fed (table_at f own run) (next_begins before) run in
    updates_among-append front mine
    ∙ (λ i. history_updates f key before i ++ run_updates (table_at f own run) (next_begins before) run i)
    ∙ sym (filter-append is_no_search front mine)

-- so the updates that a history sends are the frames of its updates
pub updates_sent : (f : KeyedFn) (key : List ℕ) (es : Epochs) → updates_among (frames_under f key (Some es)) ≡ frames_under f key (Some (updates_of es))
updates_sent f key es = history_updates f key es ∙ sym (frames_alone f key es)
