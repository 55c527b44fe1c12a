-- Laws of a history, whatever it is made of: its first part, what one command more keeps, and what is accepted.
use Rattle.std.proofs.Common.{◌≡◌, ℕ, ◌+◌, ◌-◌, ◌<◌, ◌≤◌, ◌^◌, true, false, not, ◌||◌, List, [], ◌∷◌, ◌++◌, length, map, filter, nat_lt, None, Some, refl, sym, ap, subst, append_assoc, ◌∙◌, arith, length-append}
use Rattle.std.specs.List.{list_all}
use Rattle.std.specs.Prelude.{flat_map, fold}
use Rattle.std.proofs.lemmas.Bool.{true≢false, and_from}
use Rattle.std.proofs.lemmas.List.{append-nil}
use Rattle.std.proofs.lemmas.List.Concat.{flat_map-append}
use Rattle.std.proofs.lemmas.List.Elements.{filter-append}
use Rattle.client_registry.proofs.LiveLaws.{counter-below}
use Rattle.client_registry.proofs.OverLaws.{over-append}
use Rattle.client_registry.proofs.SizedLaws.{IsHistory-push, IsHistory-front, IsSized-setup, update_frames-push}
use Rattle.client_registry.specs.Acceptance.{frames_needed, size_refusal}
use Rattle.client_registry.specs.Command.{Command, Add, Delete, Search, is_update}
use Rattle.client_registry.specs.Document.{Document}
use Rattle.client_registry.specs.Documents.{IsCollected}
use Rattle.client_registry.specs.Histories.{is_set_up, begun_by, longer, renewed, commands_in, is_live_in, is_listed_in, counter_in, frames_in, accepts, IsWhole, IsKept, IsFirstOf, found_by, found_in_turn}
use Rattle.client_registry.specs.Live.{matching_in}
use Rattle.client_registry.specs.Over.{over}
use Rattle.client_registry.specs.Epochs.{begins, next_begins, key_now, joined, AreEpochs, setup_renewed, with_commands, with_renewal, Step, Does, Renews, step_after}
use Rattle.client_registry.specs.Run.{Run, Offsets, Epochs, From, Renewed, last_run, History}
use Rattle.client_registry.specs.Setup.{Setup}
use Rattle.client_registry.specs.Sized.{IsSizedCommand, IsHistory, update_frames}

-- Epochs with more.

-- more commands leave where the last epoch begins, and its setup
pub begins-with_commands : (cs : List Command) (es : Epochs) → begins (with_commands cs es) ≡ begins es
begins-with_commands cs (From o run) = refl
begins-with_commands cs (Renewed before key run) = refl

pub last_run-with_commands : (cs : List Command) (es : Epochs) → last_run (with_commands cs es) ≡ record { setup = (last_run es).setup; later = (last_run es).later ++ cs }
last_run-with_commands cs (From o run) = refl
last_run-with_commands cs (Renewed before key run) = refl

pub with_commands-none : (es : Epochs) → with_commands [] es ≡ es
with_commands-none (From o run) = λ i. From o (record { setup = run.setup; later = append-nil run.later i })
with_commands-none (Renewed before key run) = λ i. Renewed before key (record { setup = run.setup; later = append-nil run.later i })

with_commands-join : (cs ds : List Command) (es : Epochs) → with_commands ds (with_commands cs es) ≡ with_commands (cs ++ ds) es
with_commands-join cs ds (From o run) = λ i. From o (record { setup = run.setup; later = append_assoc run.later cs ds i })
with_commands-join cs ds (Renewed before key run) = λ i. Renewed before key (record { setup = run.setup; later = append_assoc run.later cs ds i })

-- commands are so many steps
steps_of : (cs : List Command) (es : Epochs) → with_commands cs es ≡ fold step_after es (map Does cs)
steps_of [] es = with_commands-none es
steps_of (c ∷ cs) es = sym (with_commands-join (c ∷ []) cs es) ∙ steps_of cs (with_commands (c ∷ []) es)

-- what holds before a step wherever it holds after it holds before several
pub before_steps : (P : Epochs → Type 0) → ((es : Epochs) (step : Step) → P (step_after es step) → P es) → (es : Epochs) (steps : List Step) → P (fold step_after es steps) → P es
before_steps P back es [] holds = holds
before_steps P back es (step ∷ steps) holds = back es step (before_steps P back (step_after es step) steps holds)

-- what g makes of more commands stands behind what it makes of the epochs
module _ {A : Type 0} (g : List ℕ → Offsets → Run → List A) (more : List ℕ → Offsets → Run → List Command → List A)
    (grows : (k : List ℕ) (o : Offsets) (run : Run) (cs : List Command) → g k o (record { setup = run.setup; later = run.later ++ cs }) ≡ g k o run ++ more k o run cs) (key : List ℕ) where
  pub joined-longer : (es : Epochs) (cs : List Command) → joined g key (with_commands cs es) ≡ joined g key es ++ more (key_now key es) (begins es) (last_run es) cs
  joined-longer (From o run) cs = grows key o run cs
  joined-longer (Renewed before own run) cs =
      ap (λ rest. joined g key before ++ rest) (grows own (next_begins before) run cs)
      ∙ sym (append_assoc (joined g key before) (g own (next_begins before) run) (more own (next_begins before) run cs))

  -- so what is made of a front is the first of what is made of the whole
  pub joined-first : (es : Epochs) (steps : List Step) → (rest : List A) × (joined g key (fold step_after es steps) ≡ joined g key es ++ rest)
  joined-first es [] = ([], sym (append-nil (joined g key es)))
  joined-first es (Does c ∷ steps) =
      let later = joined-first (with_commands (c ∷ []) es) steps in
      let here = more (key_now key es) (begins es) (last_run es) (c ∷ []) in
      (here ++ later.0, later.1 ∙ ap (λ front. front ++ later.0) (joined-longer es (c ∷ [])) ∙ append_assoc (joined g key es) here later.0)
  joined-first es (Renews own ∷ steps) =
      let later = joined-first (with_renewal own es) steps in
      let here = g own (next_begins es) (record { setup = setup_renewed (last_run es); later = [] }) in
      (here ++ later.0, later.1 ∙ append_assoc (joined g key es) here later.0)

-- The first part of a history.

pub IsFirstOf-same : (h : History) → IsFirstOf h h
IsFirstOf-same None = tt
IsFirstOf-same (Some es) = ([], refl)

pub IsFirstOf-trans : (a b c : History) → IsFirstOf a b → IsFirstOf b c → IsFirstOf a c
IsFirstOf-trans None b c p q = tt
IsFirstOf-trans (Some a) None c p q = absurd p
IsFirstOf-trans (Some a) (Some b) None p q = absurd q
IsFirstOf-trans (Some a) (Some b) (Some c) p q =
    (p.0 ++ q.0, q.1 ∙ ap (λ es. fold step_after es q.0) p.1 ∙ sym (fold_both a p.0 q.0))
  where
    fold_both : (es : Epochs) (xs ys : List Step) → fold step_after es (xs ++ ys) ≡ fold step_after (fold step_after es xs) ys
    fold_both es [] ys = refl
    fold_both es (x ∷ xs) ys = fold_both (step_after es x) xs ys

-- any history begins with one that isn't set up
pub IsFirstOf-before : (h other : History) → is_set_up h ≡ false → IsFirstOf h other
IsFirstOf-before None other e = tt
IsFirstOf-before (Some es) other e = absurd (true≢false e)

-- commands stand after it
pub IsFirstOf-longer : (h : History) (commands : List Command) → IsFirstOf h (longer commands h)
IsFirstOf-longer None commands = tt
IsFirstOf-longer (Some es) commands = (map Does commands, steps_of commands es)

-- and so does a renewal
pub IsFirstOf-renewed : (h : History) (key : List ℕ) → IsFirstOf h (renewed key h)
IsFirstOf-renewed None key = tt
IsFirstOf-renewed (Some es) key = (Renews key ∷ [], refl)

-- What is kept.

fewer_frames : (run : Run) (more : List Command) → update_frames run ≤ update_frames (record { setup = run.setup; later = run.later ++ more })
fewer_frames run more = omega (arith, ap length (filter-append is_update run.later more), length-append (filter is_update run.later) (filter is_update more))

-- before a step fewer frames are numbered, and the rules are kept
IsKept-back : (es : Epochs) (step : Step) → IsKept (Some (step_after es step)) → IsKept (Some es)
IsKept-back (From o run) (Does c) kept = (IsHistory-front run.setup run.later (c ∷ []) kept.0, omega (arith, kept.1, fewer_frames run (c ∷ [])))
IsKept-back (Renewed before key run) (Does c) kept = ((kept.0.0, kept.0.1, IsHistory-front run.setup run.later (c ∷ []) kept.0.2), omega (arith, kept.1, fewer_frames run (c ∷ [])))
IsKept-back es (Renews key) kept = (kept.0.0, omega (arith, kept.1))

-- Promise P159, also here
-- the first part of a history that keeps its rules keeps them
pub IsKept-first : (part whole : History) → IsFirstOf part whole → IsKept whole → IsKept part
IsKept-first None whole p kept = tt
IsKept-first (Some es) None p kept = absurd p
IsKept-first (Some es) (Some whole) p kept = before_steps (λ xs. IsKept (Some xs)) IsKept-back es p.0 (subst (λ xs. IsKept (Some xs)) p.1 kept)

-- its update frames can be numbered
pub frames_in-below : (h : History) → IsKept h → frames_in h < 2 ^ 32
frames_in-below None kept = omega arith
frames_in-below (Some es) kept = kept.1

-- the last epoch is a history
pub IsHistory-last : (es : Epochs) → AreEpochs es → IsHistory (last_run es)
IsHistory-last (From o run) are = are
IsHistory-last (Renewed before key run) are = are.2

-- Promise P159, also here
-- an accepted setup begins one
pub IsKept-begun : (s : Setup) → IsCollected s.documents → size_refusal s ≡ None → IsKept (begun_by s)
IsKept-begun s collected accepted = let alone = IsSized-setup s collected accepted in (alone.history, omega (arith, alone.frames))

-- and so does a renewal whose setup is accepted and whose frames can be numbered
pub IsKept-renewed : (es : Epochs) (key : List ℕ) → IsKept (Some es) → IsCollected (setup_renewed (last_run es)).documents → size_refusal (setup_renewed (last_run es)) ≡ None
    → frames_in (Some es) + frames_needed (setup_renewed (last_run es)) < 2 ^ 32 → IsKept (renewed key (Some es))
IsKept-renewed es key kept collected accepted frames =
    let alone = IsSized-setup (setup_renewed (last_run es)) collected accepted in ((kept.0, refl, alone.history), omega (arith, frames))

-- Promise P159, also here
-- and an accepted command whose frame can be numbered keeps it
pub IsKept-longer : (h : History) (c : Command) → IsKept h → IsSizedCommand c → accepts h c ≡ true → frames_in h + length (filter is_update (c ∷ [])) < 2 ^ 32 → IsKept (longer (c ∷ []) h)
IsKept-longer None c kept sized ok frames = tt
IsKept-longer (Some (From o run)) c kept sized ok frames = (IsHistory-push run c kept.0 sized ok, omega (arith, frames, update_frames-push run c))
IsKept-longer (Some (Renewed before key run)) c kept sized ok frames = ((kept.0.0, kept.0.1, IsHistory-push run c kept.0.2 sized ok), omega (arith, frames, update_frames-push run c))

-- there is one command more for each
pub commands_in-longer : (h : History) (commands : List Command) → commands_in (longer commands h) ≤ commands_in h + length commands
commands_in-longer None commands = omega arith
commands_in-longer (Some (From o run)) commands = omega (arith, length-append run.later commands)
commands_in-longer (Some (Renewed before key run)) commands = omega (arith, length-append run.later commands)

-- What is accepted.

-- a counter counts additions, which are update frames
pub counter_in-below : (h : History) (word : List ℕ) → IsKept h → counter_in h word < 2 ^ 32
counter_in-below None word kept = omega arith
counter_in-below (Some es) word kept = omega (arith, counter-below (last_run es).setup word (last_run es).later, kept.1)

pub accepts-add : (h : History) (d : Document) → is_set_up h ≡ true → is_live_in h d.id ≡ false
    → list_all (λ word. is_listed_in h word d.id || nat_lt (counter_in h word) (2 ^ 32 - 1)) d.words ≡ true → accepts h (Add d) ≡ true
accepts-add None d up new room = absurd (true≢false (sym up))
accepts-add (Some es) d up new room = and_from (not (is_live_in (Some es) d.id)) _ (ap not new) room

pub accepts-delete : (h : History) (id : ℕ) → is_set_up h ≡ true → is_live_in h id ≡ true → accepts h (Delete id) ≡ true
accepts-delete None id up live = absurd (true≢false (sym up))
accepts-delete (Some es) id up live = live

pub accepts-search : (h : History) (word : List ℕ) → is_set_up h ≡ true → accepts h (Search word) ≡ true
accepts-search None word up = absurd (true≢false (sym up))
accepts-search (Some es) word up = refl

-- What is found.

pub found_in_turn-before : (h : History) → is_set_up h ≡ false → found_in_turn h ≡ []
found_in_turn-before None e = refl
found_in_turn-before (Some es) e = absurd (true≢false e)

found_over : (run : Run) (cs : List Command) → flat_map (λ r. r) (over (found_by run.setup) [] (run.later ++ cs)) ≡ flat_map (λ r. r) (over (found_by run.setup) [] run.later) ++ flat_map (λ r. r) (over (found_by run.setup) run.later cs)
found_over run cs = ap (flat_map (λ r. r)) (over-append (found_by run.setup) [] run.later cs) ∙ flat_map-append (λ r. r) (over (found_by run.setup) [] run.later) (over (found_by run.setup) run.later cs)

found_in_turn-push : (es : Epochs) (c : Command) → found_in_turn (longer (c ∷ []) (Some es)) ≡ found_in_turn (Some es) ++ found_by (last_run es).setup (last_run es).later c
found_in_turn-push es c =
    joined-longer (λ key o run. flat_map (λ r. r) (over (found_by run.setup) [] run.later)) (λ key o run cs. flat_map (λ r. r) (over (found_by run.setup) run.later cs)) (λ key o run cs. found_over run cs) [] es (c ∷ [])
    ∙ ap (λ last. found_in_turn (Some es) ++ last) (append-nil (found_by (last_run es).setup (last_run es).later c))

-- an update finds nothing
pub found_in_turn-update : (h : History) (c : Command) → is_update c ≡ true → found_in_turn (longer (c ∷ []) h) ≡ found_in_turn h
found_in_turn-update None c e = refl
found_in_turn-update (Some es) (Add d) e = found_in_turn-push es (Add d) ∙ append-nil (found_in_turn (Some es))
found_in_turn-update (Some es) (Delete id) e = found_in_turn-push es (Delete id) ∙ append-nil (found_in_turn (Some es))
found_in_turn-update (Some es) (Search word) e = absurd (true≢false (sym e))

-- a search finds one answer more
pub found_in_turn-search : (h : History) (word : List ℕ) → is_set_up h ≡ true → found_in_turn (longer (Search word ∷ []) h) ≡ found_in_turn h ++ matching_in h word ∷ []
found_in_turn-search None word up = absurd (true≢false (sym up))
found_in_turn-search (Some es) word up = found_in_turn-push es (Search word)

-- and a renewal finds nothing
pub found_in_turn-renewed : (h : History) (key : List ℕ) → found_in_turn (renewed key h) ≡ found_in_turn h
found_in_turn-renewed None key = refl
found_in_turn-renewed (Some es) key = append-nil (found_in_turn (Some es))
