-- Laws of what passes for a history, whatever it is made of: its frames, command by command, and those of its first part;
-- what a search sends; and that a history without collisions has none in its setup.
use Rattle.std.proofs.Common.{◌≡◌, ℕ, ◌+◌, ◌^◌, ◌<◌, true, false, List, [], ◌∷◌, ◌++◌, length, map, Some, None, refl, sym, ap, subst, ◌∙◌, arith}
use Rattle.std.specs.Prelude.{flat_map}
use Rattle.std.specs.List.{AllByRecursion}
use Rattle.std.proofs.Math.Seq.{take-append_seam}
use Rattle.std.proofs.lemmas.Bool.{true≢false}
use Rattle.std.proofs.lemmas.List.{append-nil}
use Rattle.std.proofs.lemmas.List.Concat.{flat_map-append}
use Rattle.std.proofs.lemmas.List.Elements.{recursion_from_All}
use Rattle.keyed_fn.specs.KeyFormulas.{token_of}
use Rattle.keyed_fn.specs.KeyedFn.{KeyedFn, IsKeyedFn}
use Rattle.client_registry.proofs.HistoryLaws.{before_steps, joined-longer, joined-first}
use Rattle.client_registry.specs.Epochs.{behind, next_begins, joined, AreEpochs, Step, Does, Renews, step_after}
use Rattle.client_registry.specs.Acceptance.{frames_needed}
use Rattle.client_registry.specs.Command.{Command, Search}
use Rattle.client_registry.specs.Histories.{empty, is_set_up, begun_by, longer, renewed, IsFirstOf, IsKept}
use Rattle.client_registry.specs.Over.{over}
use Rattle.client_registry.specs.Run.{Run, Offsets, Epochs, From, Renewed, History}
use Rattle.client_registry.specs.Sized.{IsHistory}
use Rattle.sse_model.specs.Epochs.{key_in}
use Rattle.sse_model.proofs.Counts.{AllByRecursion-append}
use Rattle.client_registry.specs.Setup.{Setup}
use Rattle.sse_frames.specs.Exchange.{Passed, Sent, Received, exchanged, sent_among}
use Rattle.sse_frames.specs.Frames.{FrameText, Hello, SearchFrame, InGrammar}
use Rattle.sse_frames.specs.Replies.{ReplyText}
use Rattle.sse_model.proofs.Collisions.{IsCollisionFree-first}
use Rattle.sse_model.proofs.Grammar.{wire_of_keys_in_grammar}
use Rattle.sse_model.proofs.Prefixes.{run_of, first, frames_by, exchanged_by, exchanged_setup, wire-append}
use Rattle.sse_model.specs.Drawn.{IsCollisionFree}
use Rattle.sse_model.specs.Histories.{table_at, frames_sent, frames_of_first, frames_of_renewal, frames_behind, frames_of_next, collision_of_next, HasNoCollision}
use Rattle.sse_model.specs.Names.{Table}
use Rattle.sse_model.specs.Transcript.{transcript, session}
use Rattle.sse_model.specs.Wire.{frames_of_setup, wire, acknowledgements, replies_of}

-- The frames of a transcript.

-- the frames of two parts
pub sent_among-append : (xs ys : List Passed) → sent_among (xs ++ ys) ≡ sent_among xs ++ sent_among ys
sent_among-append [] ys = refl
sent_among-append (Sent frame ∷ xs) ys = ap (λ frames. frame ∷ frames) (sent_among-append xs ys)
sent_among-append (Received reply ∷ xs) ys = sent_among-append xs ys

sent_among-received : (rs : List ReplyText) → sent_among (map Received rs) ≡ []
sent_among-received [] = refl
sent_among-received (r ∷ rs) = sent_among-received rs

-- the frames of an exchange are those that were exchanged
sent_among-exchanged : (frames : List FrameText) (rs : List ReplyText) → sent_among (exchanged frames rs) ≡ frames
sent_among-exchanged [] rs = sent_among-received rs
sent_among-exchanged (frame ∷ []) rs = ap (λ frames. frame ∷ frames) (sent_among-received rs)
sent_among-exchanged (frame ∷ next ∷ frames) [] = ap (λ frames. frame ∷ frames) (sent_among-exchanged (next ∷ frames) [])
sent_among-exchanged (frame ∷ next ∷ frames) (r ∷ rs) = ap (λ frames. frame ∷ frames) (sent_among-exchanged (next ∷ frames) rs)

module _ (t : Table) (o : Offsets) (s : Setup) where
  sent_among-over : (past later : List Command) → sent_among (flat_map (λ passed. passed) (over (exchanged_by t o s) past later)) ≡ flat_map (λ frames. frames) (over (frames_by t o s) past later)
  sent_among-over past [] = refl
  sent_among-over past (c ∷ later) =
      let behind = flat_map (λ passed. passed) (over (exchanged_by t o s) (past ++ c ∷ []) later) in
      sent_among-append (exchanged_by t o s past c) behind
      ∙ (λ i. sent_among-exchanged (frames_by t o s past c) (replies_of o s past c) i ++ sent_among-over (past ++ c ∷ []) later i)

-- the frames of a run's transcript are its wire
sent_among-transcript : (t : Table) (o : Offsets) (run : Run) → sent_among (flat_map (λ passed. passed) (transcript t o run)) ≡ flat_map (λ frames. frames) (wire t o run)
sent_among-transcript t o run =
    sent_among-append (exchanged_setup t o run.setup) (flat_map (λ passed. passed) (over (exchanged_by t o run.setup) [] run.later))
    ∙ (λ i. sent_among-exchanged (frames_of_setup t o run.setup) (acknowledgements o.frame (frames_needed run.setup)) i ++ sent_among-over t o run.setup [] run.later i)

-- the frames of a run and of more commands
frames-more : (t : Table) (o : Offsets) (run : Run) (cs : List Command)
    → flat_map (λ frames. frames) (wire t o (record { setup = run.setup; later = run.later ++ cs })) ≡ flat_map (λ frames. frames) (wire t o run) ++ frames_behind t o run cs
frames-more t o run cs =
    ap (flat_map (λ frames. frames)) (wire-append t o run.setup run.later cs) ∙ flat_map-append (λ frames. frames) (wire t o run) (over (frames_by t o run.setup) run.later cs)

-- a run without collisions has none in front of more commands
free-front : (t : Table) (o : Offsets) (s : Setup) (xs ys : List Command) → IsCollisionFree t o (run_of s (xs ++ ys)) → IsCollisionFree t o (run_of s xs)
free-front t o s xs ys free = subst (λ later. IsCollisionFree t o (run_of s later)) (take-append_seam xs ys) (IsCollisionFree-first t o (length xs) (run_of s (xs ++ ys)) free)

module _ (f : KeyedFn) (key : List ℕ) where
  -- the frames of a session are Hello, and then those of its history
  pub sent_among-session : (h : History) → sent_among (session f key h) ≡ Hello ∷ frames_sent f key h
  sent_among-session None = refl
  sent_among-session (Some es) = ap (λ frames. Hello ∷ frames) (by es)
    where
      by : (es : Epochs) → sent_among (joined (λ own o run. flat_map (λ passed. passed) (transcript (table_at f own run) o run)) key es) ≡ frames_sent f key (Some es)
      by (From o run) = sent_among-transcript (table_at f key run) o run
      by (Renewed before own run) =
          sent_among-append (joined (λ own o run. flat_map (λ passed. passed) (transcript (table_at f own run) o run)) key before) _
          ∙ (λ i. by before i ++ sent_among-transcript (table_at f own run) (next_begins before) run i)

  -- Command by command.

  -- a history that is set up alone sends the setup's frames
  pub frames_sent-begun : (s : Setup) → frames_sent f key (begun_by s) ≡ frames_sent f key empty ++ frames_of_first f key s
  frames_sent-begun s = append-nil (frames_of_first f key s)

  -- commands send theirs after those of the history
  pub frames_sent-longer : (h : History) (commands : List Command) → frames_sent f key (longer commands h) ≡ frames_sent f key h ++ frames_of_next f key h commands
  frames_sent-longer None commands = refl
  frames_sent-longer (Some es) commands =
      joined-longer (λ own o run. flat_map (λ frames. frames) (wire (table_at f own run) o run)) (λ own o run cs. frames_behind (table_at f own run) o run cs) (λ own o run cs. frames-more (table_at f own run) o run cs) key es commands

  -- and so does a renewal
  pub frames_sent-renewed : (h : History) (own : List ℕ) → frames_sent f key (renewed own h) ≡ frames_sent f key h ++ frames_of_renewal f own h
  frames_sent-renewed None own = refl
  frames_sent-renewed (Some es) own = ap (λ frames. frames_sent f key (Some es) ++ frames) (append-nil (frames_of_renewal f own (Some es)))

  -- a history that isn't set up sends nothing
  pub frames_sent-before : (h : History) → is_set_up h ≡ false → frames_sent f key h ≡ frames_sent f key empty
  frames_sent-before None e = refl
  frames_sent-before (Some es) e = absurd (true≢false e)

  -- the frames of the first part of a history are the first
  pub frames_sent-first : (part whole : History) → IsFirstOf part whole → (more : List FrameText) × (frames_sent f key whole ≡ frames_sent f key part ++ more)
  frames_sent-first None whole p = (frames_sent f key whole, refl)
  frames_sent-first (Some es) None p = absurd p
  frames_sent-first (Some es) (Some whole) p =
      let all = joined-first (λ own o run. flat_map (λ frames. frames) (wire (table_at f own run) o run)) (λ own o run cs. frames_behind (table_at f own run) o run cs) (λ own o run cs. frames-more (table_at f own run) o run cs) key es p.0 in
      (all.0, ap (λ xs. frames_sent f key (Some xs)) p.1 ∙ all.1)

  -- a search sends one frame, with the word's token
  pub frames_of_next-search : (h : History) (word : List ℕ) → is_set_up h ≡ true → frames_of_next f key h (Search word ∷ []) ≡ SearchFrame (token_of f (key_in key h) word) ∷ []
  frames_of_next-search None word up = absurd (true≢false (sym up))
  frames_of_next-search (Some es) word up = refl

  -- Collisions.

  -- no values of a search are compared
  pub collision_of_next-search : (h : History) (word : List ℕ) → collision_of_next f key h (Search word ∷ []) ≡ None
  collision_of_next-search None word = refl
  collision_of_next-search (Some es) word = refl

  pub free-back : (es : Epochs) (step : Step) → HasNoCollision f key (Some (step_after es step)) → HasNoCollision f key (Some es)
  free-back (From o run) (Does c) free = free-front (table_at f key run) o run.setup run.later (c ∷ []) free
  free-back (Renewed before own run) (Does c) free = (free.0, free-front (table_at f own run) (next_begins before) run.setup run.later (c ∷ []) free.1)
  free-back es (Renews own) free = free.0

  -- the first part of a history without collisions has none
  pub HasNoCollision-first : (part whole : History) → IsFirstOf part whole → HasNoCollision f key whole → HasNoCollision f key part
  HasNoCollision-first None whole p free = tt
  HasNoCollision-first (Some es) None p free = absurd p
  HasNoCollision-first (Some es) (Some whole) p free = before_steps (λ xs. HasNoCollision f key (Some xs)) free-back es p.0 (subst (λ xs. HasNoCollision f key (Some xs)) p.1 free)

  -- the frames of a history without collisions that keeps its rules are in the grammar
  pub frames_sent-in_grammar : (h : History) → IsKeyedFn f → IsKept h → HasNoCollision f key h → AllByRecursion InGrammar (frames_sent f key h)
  frames_sent-in_grammar None laws kept free = tt
  frames_sent-in_grammar (Some es) laws kept free = by es kept.0 kept.1 free
    where
      of_run : (own : List ℕ) (o : Offsets) (run : Run) → IsHistory run → (behind o run).frame < 2 ^ 32 → IsCollisionFree (table_at f own run) o run → AllByRecursion InGrammar (flat_map (λ fs. fs) (wire (table_at f own run) o run))
      of_run own o run history below free =
          recursion_from_All InGrammar (flat_map (λ fs. fs) (wire (table_at f own run) o run)) (wire_of_keys_in_grammar f laws (λ epoch. own) o run history below free)

      by : (es : Epochs) → AreEpochs es → (next_begins es).frame < 2 ^ 32 → HasNoCollision f key (Some es) → AllByRecursion InGrammar (frames_sent f key (Some es))
      by (From o run) are below free = of_run key o run are below free
      by (Renewed before own run) are below free =
          AllByRecursion-append InGrammar (frames_sent f key (Some before)) (flat_map (λ fs. fs) (wire (table_at f own run) (next_begins before) run))
          (by before are.0 (omega (arith, below)) free.0) (of_run own (next_begins before) run are.2 below free.1)
