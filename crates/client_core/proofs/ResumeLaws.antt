-- A client goes on with the last command of a history that was rebuilt: how many frames it has, what its plan finds, and what
-- is owed once some of them are passed over.
use Rattle.std.proofs.Common.{◌≡◌, ◌≢◌, ◌⊎◌, inl, inr, ◌≤◌, ◌<◌, ◌+◌, ◌-◌, ℕ, suc, zero, List, [], ◌∷◌, ◌++◌, drop, length, map, Option, None, Some, is_some, not, true, refl, sym, ap, ◌∙◌, subst, arith}
use Rattle.std.proofs.lemmas.Bool.{true≢false}
use Rattle.std.specs.Prelude.{IsErrAnd, IsSome, Ok, Err, Result, option_map, slice_index_or}
use Rattle.std.proofs.Math.ListN.{drop_of_length-le}
use Rattle.std.proofs.Math.Seq.{get_or-append_seam}
use Rattle.std.proofs.lemmas.List.{drop-drop, length-append, length-drop, length-map}
use Rattle.client_registry.proofs.OverLaws.{length-over, over-append}
use Rattle.client_registry.proofs.HistoryLaws.{IsKept-first}
use Rattle.client_registry.specs.Command.{Command, Add, Delete}
use Rattle.client_registry.specs.Document.{Document}
use Rattle.client_registry.specs.Epochs.{Does, begins}
use Rattle.client_registry.specs.Facts.{has_counters}
use Rattle.client_registry.specs.Histories.{IsKept}
use Rattle.client_registry.specs.Registered.{Registered, Represents, facts, known_words}
use Rattle.client_registry.specs.Over.{over}
use Rattle.client_registry.specs.Run.{Epochs, From, History, Offsets, Renewed, Run, last_run}
use Rattle.client_registry.specs.Setup.{Setup}
use Rattle.client_registry.specs.Sized.{update_frames}
use Rattle.client_records.specs.Openings.{OpensTo}
use Rattle.client_rebuild.proofs.LastLaws.{facts-recalled, frames-recalled, has_counters-counted, one_more, pad-recalled, shape-recalled}
use Rattle.client_rebuild.specs.Rebuilds.{EndsUnder, marks_in}
use Rattle.client_rebuild.specs.Recalls.{Recalls, RecallsIn, facts_of_last, frames_of_last, pad_of_last, setup_in, shape_of_last}
use Rattle.client_rebuild.specs.Updates.{command_of, fits}
use Rattle.client_rebuild.specs.declared.last.Last.{Last}
use Rattle.client_rebuild.specs.declared.last.Last.TheVariants as last
use Rattle.client_rebuild.specs.declared.recorded_update.RecordedUpdate.{RecordedUpdate}
use Rattle.client_rebuild.specs.declared.update.Update.{Update as Recorded}
use Rattle.client_rebuild.specs.declared.update.Update.TheVariants as recorded
use Rattle.client_renewal.specs.declared.past.Past.{Past}
use Rattle.keyed_fn.specs.KeyedFn.{KeyedFn}
use Rattle.sse_frames.specs.Frames.{FrameText, frame_bytes}
use Rattle.sse_model.proofs.Counts.{length-frames_of_setup}
use Rattle.sse_model.specs.Compared.{Collision, Labels, Numbers, Places, collision_of, collision_of_setup}
use Rattle.sse_model.specs.Names.{table}
use Rattle.client_core.proofs.OwesLaws.{last_frames-with_command}
use Rattle.client_core.proofs.StandsForLaws.{same_past}
use Rattle.client_core.specs.Keys.{Keeps}
use Rattle.client_core.specs.Owes.{AreNumbered, Owes, last_frames}
use Rattle.client_core.specs.ResumeFaults.{collision_fault, update_fault}
use Rattle.client_core.specs.Renewals.{alone}
use Rattle.client_core.specs.Restores.{IsRecordedIn, Remembers}
use Rattle.client_core.specs.Resumes.{Lacks, Replans, Resumes, first_of_last, first_recorded, last_collision}
use Rattle.client_core.specs.TakenViews.{first_number, to_send}
use Rattle.client_core.specs.StandsFor.{IsPastOf, StandsFor, collision_next, frames_next, with_command}
use Rattle.client_core.specs.States.{BehindState, ClientOf, ReadyState, RecordedState}
use Rattle.client_core.specs.UpdateFaults.{clash_fault}
use Rattle.client_core.specs.declared.command_fault.CommandFault.{CommandFault}
use Rattle.client_core.specs.declared.command_fault.CommandFault.TheVariants as commands
use Rattle.client_core.specs.declared.resume_fault.ResumeFault.{ResumeFault}
use Rattle.client_core.specs.declared.resume_fault.ResumeFault.TheVariants as faults
use Rattle.client_core.specs.declared.resumed.Resumed.TheVariants as resumed

-- Passing over frames.

numbered_after : (n q : ℕ) (frames : List FrameText) → AreNumbered q frames → AreNumbered (q + n) (drop n frames)
numbered_after zero q frames all = let same : q ≡ q + 0 = omega arith in subst (λ m. AreNumbered m frames) same all
numbered_after (suc n) q [] all = tt
numbered_after (suc n) q (frame ∷ frames) all = let same : q + 1 + n ≡ q + suc n = omega arith in subst (λ m. AreNumbered m (drop n frames)) same (numbered_after n (q + 1) frames all.1)

module _ (f : KeyedFn) (keys : ℕ → List ℕ) (o : Offsets) (run : Run) (k : ℕ) (old : BehindState) (had : Owes f keys o run k old) where
  -- some frames more are passed over, and one at least is left
  pub Owes-fewer : (n : ℕ) (new : BehindState) → n < length (to_send old) → new.ready ≡ old.ready → to_send new ≡ drop n (to_send old) → first_number new ≡ first_number old + n → Owes f keys o run (k + n) new
  Owes-fewer n new some ready sent first =
      let frames = last_frames f keys o run in
      let owed : to_send new ≡ drop (k + n) (map frame_bytes frames) = sent ∙ ap (drop n) had.owed ∙ drop-drop n k (map frame_bytes frames) in
      record {
        stands = subst (StandsFor f keys o run) (sym ready) had.stands;
        some = omega (arith, some, ap length had.owed, length-drop k (map frame_bytes frames), length-map frames frame_bytes);
        owed = owed;
        number =
            subst (λ m. AreNumbered m (drop (k + n) frames)) (sym first)
            (subst (AreNumbered (first_number old + n)) (drop-drop n k frames) (numbered_after n (first_number old) (drop k frames) had.number));
      }

-- The last command.

module _ (f : KeyedFn) (keys : ℕ → List ℕ) (o : Offsets) (run : Run) (c : Command) where
  abbrev finds : List Command → Command → Option Collision
  finds = collision_of (table f run.setup.shape keys) o.epoch run.setup

  -- the equal values of a last command are those that it has after the others
  pub last_collision-with_command : last_collision f keys o (with_command run c) ≡ collision_next f keys o run c
  last_collision-with_command =
      let first = collision_of_setup (table f run.setup.shape keys) o.epoch run.setup in
      let one_more : length (run.later ++ c ∷ []) ≡ suc (length run.later) = omega (arith, length-append run.later (c ∷ [])) in
      ap (λ n. slice_index_or (first ∷ over finds [] (run.later ++ c ∷ [])) n None) one_more
      ∙ ap (λ rest. slice_index_or rest (length run.later) None) (over-append finds [] run.later (c ∷ []))
      ∙ ap (λ n. slice_index_or (over finds [] run.later ++ finds run.later c ∷ []) n None) (sym (length-over finds [] run.later))
      ∙ get_or-append_seam (over finds [] run.later) (finds run.later c) [] None

one_frame : (f : KeyedFn) (keys : ℕ → List ℕ) (o : Offsets) (run : Run) (u : Recorded) → length (frames_next f keys o run (command_of u)) ≡ 1
one_frame f keys o run (recorded.Add d) = refl
one_frame f keys o run (recorded.Delete id) = refl

-- the first frame of a setup has the number of those before it
pub first-setup : (f : KeyedFn) (key : List ℕ) (o : Offsets) (s : Setup) → first_of_last f key o (alone s) ≡ o.frame
first-setup f key o s = omega (arith, length-frames_of_setup (table f s.shape (λ epoch. key)) o s)

-- and so has that of an update
pub first-update : (f : KeyedFn) (key : List ℕ) (o : Offsets) (before : Run) (u : Recorded) → first_of_last f key o (with_command before (command_of u)) ≡ o.frame + update_frames before
first-update f key o before u =
    omega (arith, one_more before u, ap length (last_frames-with_command f (λ epoch. key) o before (command_of u)), one_frame f (λ epoch. key) o before u)

pub first-recorded : (f : KeyedFn) (key : List ℕ) (o : Offsets) (run : Run) (l : Last) → Recalls o run l → first_recorded l ≡ first_of_last f key o run
first-recorded f key o run (last.Setup s) is = sym (ap (first_of_last f key o) is.0 ∙ first-setup f key o (setup_in s) ∙ is.1)
first-recorded f key o run (last.Update u) is = is.3 ∙ sym (ap (first_of_last f key o) is.1 ∙ first-update f key o is.0 u.update)

-- a server that lacks none of a history's frames lacks none of its last command's
pub none_lacking : (f : KeyedFn) (key : List ℕ) (o : Offsets) (run : Run) (l : Last) → Recalls o run l
    → drop (o.frame + update_frames run - first_of_last f key o run) (last_frames f (λ epoch. key) o run) ≡ []
none_lacking f key o run l recalls = drop_of_length-le (last_frames f (λ epoch. key) o run) (omega (arith, within l recalls))
  where
    within : (l : Last) → Recalls o run l → length (last_frames f (λ epoch. key) o run) ≤ update_frames run
    within (last.Setup s) is =
        subst (λ r. length (last_frames f (λ epoch. key) o r) ≤ update_frames r) (sym is.0) (omega (arith, length-frames_of_setup (table f (setup_in s).shape (λ epoch. key)) o (setup_in s)))
    within (last.Update u) is =
        subst (λ r. length (last_frames f (λ epoch. key) o r) ≤ update_frames r) (sym is.1)
        (omega (arith, one_more is.0 u.update, ap length (last_frames-with_command f (λ epoch. key) o is.0 (command_of u.update)), one_frame f (λ epoch. key) o is.0 u.update))

-- An update that is planned again.

unnamed : (c : Option Collision) → None ≡ option_map clash_fault c → c ≡ None
unnamed None e = refl
unnamed (Some c) e = absurd (cc)

label_named : (c : Option Collision) (i j : ℕ) → Some (commands.LabelClash i j) ≡ option_map clash_fault c → option_map collision_fault c ≡ Some (faults.LabelClash i j)
label_named None i j e = absurd (cc)
label_named (Some (Labels a b)) i j e = cc
label_named (Some (Places a b)) i j e = absurd (cc)
label_named (Some (Numbers a b)) i j e = absurd (cc)

number_named : (c : Option Collision) (i j : ℕ) → Some (commands.NumberClash i j) ≡ option_map clash_fault c → option_map collision_fault c ≡ Some (faults.NumberClash i j)
number_named None i j e = absurd (cc)
number_named (Some (Labels a b)) i j e = absurd (cc)
number_named (Some (Places a b)) i j e = absurd (cc)
number_named (Some (Numbers a b)) i j e = cc

-- what a plan answers where it isn't one: want of memory, or two equal values
pub is_named : (c : Option Collision) (cause : CommandFault) (fault : ResumeFault) → (cause ≢ commands.NoMemory → Some cause ≡ option_map clash_fault c) → update_fault cause ≡ Some fault
    → (option_map collision_fault c ≡ Some fault) ⊎ (fault ≡ faults.NoMemory)
is_named c (commands.LabelClash i j) fault named is = inl (label_named c i j (named (λ e. absurd (cc))) ∙ is)
is_named c (commands.NumberClash i j) fault named is = inl (number_named c i j (named (λ e. absurd (cc))) ∙ is)
is_named c commands.NoMemory fault named is = inr (cc)
is_named c (commands.AlreadyLive id) fault named is = absurd (cc)
is_named c (commands.UnknownDocument id) fault named is = absurd (cc)
is_named c (commands.CounterFull place) fault named is = absurd (cc)
is_named c commands.HistoryFull fault named is = absurd (cc)

no_other : (c : Option Collision) (cause : CommandFault) → update_fault cause ≡ None → Some cause ≡ option_map clash_fault c → ⊥
no_other None cause none e = absurd (cc)
no_other (Some (Labels a b)) cause none e = let same : cause ≡ commands.LabelClash a b = cc in let bad : update_fault (commands.LabelClash a b) ≡ None = subst (λ x. update_fault x ≡ None) same none in absurd (cc)
no_other (Some (Places a b)) cause none e = let same : cause ≡ commands.NoMemory = cc in let bad : update_fault commands.NoMemory ≡ None = subst (λ x. update_fault x ≡ None) same none in absurd (cc)
no_other (Some (Numbers a b)) cause none e = let same : cause ≡ commands.NumberClash a b = cc in let bad : update_fault (commands.NumberClash a b) ≡ None = subst (λ x. update_fault x ≡ None) same none in absurd (cc)

-- so it has a fault that it means
pub has_fault : (c : Option Collision) (cause : CommandFault) → (cause ≢ commands.NoMemory → Some cause ≡ option_map clash_fault c) → IsSome (update_fault cause)
has_fault c (commands.LabelClash i j) named = refl
has_fault c (commands.NumberClash i j) named = refl
has_fault c commands.NoMemory named = refl
has_fault c (commands.AlreadyLive id) named = absurd (no_other c (commands.AlreadyLive id) refl (named (λ e. absurd (cc))))
has_fault c (commands.UnknownDocument id) named = absurd (no_other c (commands.UnknownDocument id) refl (named (λ e. absurd (cc))))
has_fault c (commands.CounterFull place) named = absurd (no_other c (commands.CounterFull place) refl (named (λ e. absurd (cc))))
has_fault c commands.HistoryFull named = absurd (no_other c commands.HistoryFull refl (named (λ e. absurd (cc))))

module _ (f : KeyedFn) (key : List ℕ) (o : Offsets) (before : Run) (u : Recorded) (next : ℕ) where
  abbrev run : Run
  run = with_command before (command_of u)

  -- the client owes the update's frame
  pub replans-update : (client : ClientOf BehindState) → client.key ≡ key → first_number client.state ≡ next → next ≡ o.frame + update_frames before → Owes f (λ epoch. key) o run 0 client.state
      → None ≡ option_map clash_fault (collision_next f (λ epoch. key) o before (command_of u)) → Replans f key o run next (Ok client)
  replans-update client same first is owes none =
      let at : next - first_of_last f key o run ≡ 0 = omega (arith, is, first-update f key o before u) in (
        same,
        first,
        subst (λ k. Owes f (λ epoch. key) o run k client.state) (sym at) owes,
        last_collision-with_command f (λ epoch. key) o before (command_of u) ∙ unnamed _ none,
      )

  pub replans-refused : (cause : CommandFault) (fault : ResumeFault) → (cause ≢ commands.NoMemory → Some cause ≡ option_map clash_fault (collision_next f (λ epoch. key) o before (command_of u)))
      → update_fault cause ≡ Some fault → Replans f key o run next (Err fault)
  replans-refused cause fault named is =
      subst (λ c. (option_map collision_fault c ≡ Some fault) ⊎ (fault ≡ faults.NoMemory)) (sym (last_collision-with_command f (λ epoch. key) o before (command_of u)))
      (is_named (collision_next f (λ epoch. key) o before (command_of u)) cause fault named is)

-- A client of records.

pub restored-none : (mark first : List ℕ) (payloads : List (List ℕ)) (h : History) → OpensTo first payloads h → RecallsIn h None → payloads ≡ []
restored-none mark first payloads None opened recalls = opened
restored-none mark first payloads (Some es) opened recalls = absurd recalls

-- the last epoch keeps the rules of every history
pub kept_last : (es : Epochs) → IsKept (Some es) → IsKept (Some (From (begins es) (last_run es)))
kept_last (From o whole) kept = kept
kept_last (Renewed before key whole) kept = (kept.0.2, kept.1)

-- what is taken over is that of its setup
pub past_of_last : (past : Past) (o : Offsets) (run : Run) (l : Last) → Recalls o run l → shape_of_last l ≡ record { b = past.b; big = past.big } → pad_of_last l ≡ past.pad → IsPastOf past run
past_of_last past o run l is shape pad = record { shape = sym (shape-recalled l o run is) ∙ shape; pad = sym (pad-recalled l o run is) ∙ pad }

pub restored-some : (mark : List ℕ) (payloads marks : List (List ℕ)) (l : Last) (state : RecordedState) (first : List ℕ) (h : History) → OpensTo first payloads h → marks ≡ marks_in first h → RecallsIn h (Some l)
    → EndsUnder mark first h → state.last ≡ l → state.past.marks.items ≡ marks → shape_of_last l ≡ record { b = state.past.b; big = state.past.big } → pad_of_last l ≡ state.past.pad
    → (key : List ℕ) × (es : Epochs) × IsRecordedIn mark payloads key es state
restored-some mark payloads marks l state first None opened are recalls ends same marked shape pad = absurd recalls
restored-some mark payloads marks l state first (Some es) opened are recalls ends same marked shape pad = (
  first,
  es,
  record {
    opened = opened;
    under = ends;
    marks = marked ∙ are;
    remembers = record {
      kept = kept_last es opened.kept;
      recalls = subst (Recalls (begins es) (last_run es)) (sym same) recalls;
      past = past_of_last state.past (begins es) (last_run es) l recalls shape pad;
    };
  },
)

-- which numbers a client expects of a server, by its last record and by its history
module _ (f : KeyedFn) (key : List ℕ) (o : Offsets) (run : Run) (l : RecordedState) (knows : Remembers o run l) where
  pub low_is : first_recorded l.last ≡ first_of_last f key o run
  low_is = first-recorded f key o run l.last knows.recalls

  pub high_is : frames_of_last l.last ≡ o.frame + update_frames run
  high_is = frames-recalled l.last o run knows.recalls

  module _ (low high next : ℕ) (first : low ≡ first_recorded l.last) (total : high ≡ frames_of_last l.last) where
    pub elsewhere : (next < low) ⊎ (high < next) → Lacks f key o run next (Err (faults.PeerElsewhere low high next))
    elsewhere out = (
      (λ i. faults.PeerElsewhere ((first ∙ low_is) i) ((total ∙ high_is) i) next),
      λ within. elim out [
        | inl below ↦ absurd (omega (arith, below, within.0, first, low_is))
        | inr above ↦ absurd (omega (arith, above, within.1, total, high_is))
      ],
    )

    pub lacking : low ≤ next → next ≤ high → Lacks f key o run next (Ok (high - next))
    lacking from until = ((omega (arith, from, first, low_is), omega (arith, until, total, high_is)), omega (arith, until, total, high_is))

  -- a client that has nothing to send, and one that has
  pub resumes-ready : (next : ℕ) (client : ClientOf ReadyState) → Lacks f key o run next (Ok 0) → client.key ≡ key → StandsFor f (λ epoch. key) o run client.state → Resumes f key o run next (Ok (resumed.Ready client))
  resumes-ready next client lacks same stands = (same, omega (arith, lacks.1), stands)

  pub resumes-behind : (next left : ℕ) (client : ClientOf BehindState) → Lacks f key o run next (Ok left) → 0 < left → Replans f key o run next (Ok client) → Resumes f key o run next (Ok (resumed.Behind client))
  resumes-behind next left client lacks some replans = (lacks.0, omega (arith, lacks.1, some), replans)

  pub resumes-elsewhere : (next : ℕ) (fault : ResumeFault) → Lacks f key o run next (Err fault) → Resumes f key o run next (Err fault)
  resumes-elsewhere next fault lacks = inl lacks

  pub resumes-refused : (next left : ℕ) (fault : ResumeFault) → Lacks f key o run next (Ok left) → 0 < left → Replans f key o run next (Err fault) → Resumes f key o run next (Err fault)
  resumes-refused next left fault lacks some replans = elim replans [
    | inl clash ↦ inr (inl (lacks.0, omega (arith, lacks.1, some), clash))
    | inr memory ↦ inr (inr (lacks.0, memory))
  ]

  pub resumes-wanting : (next left : ℕ) (fault : ResumeFault) → Lacks f key o run next (Ok left) → fault ≡ faults.NoMemory → Resumes f key o run next (Err fault)
  resumes-wanting next left fault lacks memory = inr (inr (lacks.0, memory))

-- What is so of an update that a record says, in the registry of the history before it.

not_live : (o : Option (List (List ℕ))) → not (is_some o) ≡ true → o ≡ None
not_live None e = refl
not_live (Some words) e = absurd (true≢false (sym e))

module _ (u : RecordedUpdate) (r : Registered) (same : r ≡ u.registry) where
  fits_it : fits (facts r) (command_of u.update) ≡ true
  fits_it = subst (λ x. fits (facts x) (command_of u.update) ≡ true) (sym same) u.accepted

  pub dead : (d : Document) → command_of u.update ≡ Add d → (facts r).live d.id ≡ None
  dead d is = not_live ((facts r).live d.id) (subst (λ c. fits (facts r) c ≡ true) is fits_it)

  pub counted : (d : Document) → has_counters (facts r) d ≡ true
  counted d =
      subst (λ x. has_counters (facts x) d ≡ true) (sym same)
      (has_counters-counted (facts u.registry) d (λ word. omega (arith, u.counted word, u.number)))

  pub live : (id : ℕ) → command_of u.update ≡ Delete id → IsSome ((facts r).live id)
  live id is = subst (λ c. fits (facts r) c ≡ true) is fits_it

-- a client of that registry, with as many frames, stands for the history before the last command
pub stands_before : (f : KeyedFn) (key : List ℕ) (o : Offsets) (before : Run) (c : Command) (state : ReadyState) → IsKept (Some (From o (with_command before c))) → Represents state.registry before.setup before.later
    → state.frames ≡ o.frame + update_frames before → Keeps f key (known_words state.registry) state.keys → IsPastOf state.past before → StandsFor f (λ epoch. key) o before state
stands_before f key o before c state kept represents frames keeps past = record {
  kept = IsKept-first (Some (From o before)) (Some (From o (with_command before c))) (Does c ∷ [], refl) kept;
  registry = represents;
  number = omega (arith, frames);
  word_keys = keeps;
  past = past;
}

-- and so does one whose registry tells the same, and that keeps more keys
pub stands_still : (f : KeyedFn) (key : List ℕ) (o : Offsets) (before : Run) (old new : ReadyState) → StandsFor f (λ epoch. key) o before old → facts new.registry ≡ facts old.registry → new.frames ≡ old.frames → new.past ≡ old.past
    → (Keeps f key (known_words old.registry) old.keys → Keeps f key (known_words new.registry) new.keys) → StandsFor f (λ epoch. key) o before new
stands_still f key o before old new s told frames taken keeps = record {
  kept = s.kept;
  registry = told ∙ s.registry;
  number = frames ∙ s.number;
  word_keys = keeps s.word_keys;
  past = same_past old.past new.past before before taken refl s.past;
}

-- the client of a whole history
pub stands_whole : (f : KeyedFn) (keys : ℕ → List ℕ) (o : Offsets) (run : Run) (l : RecordedState) (state : ReadyState) → Remembers o run l → facts state.registry ≡ facts_of_last l.last → state.frames ≡ frames_of_last l.last
    → state.past ≡ l.past → Keeps f (keys o.epoch) (known_words state.registry) state.keys → StandsFor f keys o run state
stands_whole f keys o run l state knows told frames taken keeps = record {
  kept = knows.kept;
  registry = told ∙ facts-recalled l.last o run knows.recalls;
  number = omega (arith, frames, frames-recalled l.last o run knows.recalls);
  word_keys = keeps;
  past = same_past l.past state.past run run taken refl knows.past;
}

-- a plan that failed for another cause than memory
pub differs : {T : Type 0} (r : Result T CommandFault) (cause : CommandFault) → r ≡ Err cause → cause ≢ commands.NoMemory → r ≢ Err commands.NoMemory
differs r cause is other wants =
    let same : cause ≡ commands.NoMemory = cc in
    other same

-- what is passed on
pub passed : {X : Type 0} (r : Result X ResumeFault) (x : ResumeFault) → IsErrAnd r (λ e. e ≡ x) → r ≡ Err x
passed (Ok v) x is = absurd is
passed (Err e) x is = ap (λ y. Err y) is
