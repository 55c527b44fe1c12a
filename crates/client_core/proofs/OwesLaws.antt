-- A client owes the frames of its history's last command: after a commit all of them, and after each acknowledgement one less.
use Rattle.std.proofs.Common.{◌≡◌, ◌≤◌, ◌+◌, ◌-◌, ℕ, suc, List, [], ◌∷◌, ◌++◌, drop, length, map, refl, sym, ap, ◌∙◌, subst, arith}
use Rattle.std.specs.Prelude.{slice_index_or}
use Rattle.std.proofs.Math.Seq.{get_or-append_seam}
use Rattle.std.proofs.lemmas.List.{drop-drop, length-append, length-drop, length-map}
use Rattle.client_registry.proofs.OverLaws.{length-over, over-append}
use Rattle.client_registry.proofs.SizedLaws.{update_frames-push}
use Rattle.client_registry.specs.Command.{Command}
use Rattle.client_registry.specs.Over.{over}
use Rattle.client_registry.specs.Run.{Offsets, Run}
use Rattle.client_registry.specs.Setup.{Setup}
use Rattle.keyed_fn.specs.KeyedFn.{KeyedFn}
use Rattle.sse_frames.specs.Frames.{FrameText, frame_bytes}
use Rattle.sse_frames.specs.SentParts.{numbered}
use Rattle.sse_model.proofs.Counts.{length-frames_of_setup}
use Rattle.sse_model.specs.Names.{table}
use Rattle.sse_model.specs.Wire.{frames_of, frames_of_setup, next_number, wire}
use Rattle.client_core.proofs.FramesAt.{length-numbered}
use Rattle.client_core.proofs.SetupOf.{frames_of_setup-numbered}
use Rattle.client_core.proofs.StandsForLaws.{one_update}
use Rattle.client_core.specs.Plans.{UpdatePlan}
use Rattle.client_core.specs.Owes.{AreNumbered, Owes, last_frames}
use Rattle.client_core.specs.Owed.{setup_left}
use Rattle.client_core.specs.TakenViews.{first_number, to_send}
use Rattle.client_core.specs.States.{BehindState, ReadyState}
use Rattle.client_core.specs.declared.owed_setup.OwedSetup.{OwedSetup}
use Rattle.client_core.specs.Setup.{frames_in, index_frames}
use Rattle.client_core.specs.StandsFor.{CanCommit, StandsFor, frames_next, with_command}
use Rattle.client_core.specs.Updates.{command_of_update}
use Rattle.client_core.specs.declared.update.Update.{Update}
use Rattle.client_core.specs.declared.update.Update.TheVariants as updates

-- After a commit.

module _ (f : KeyedFn) (keys : ℕ → List ℕ) (o : Offsets) (run : Run) (c : Command) where
  abbrev sends : List Command → Command → List FrameText
  sends past d = frames_of (table f run.setup.shape keys) o.epoch run.setup (next_number o run.setup past) past d

  -- the frames of a last command are those that it has after the others
  pub last_frames-with_command : last_frames f keys o (with_command run c) ≡ frames_next f keys o run c
  last_frames-with_command =
      let one_more : length (run.later ++ c ∷ []) ≡ suc (length run.later) = omega (arith, length-append run.later (c ∷ [])) in
      ap (λ n. slice_index_or (wire (table f run.setup.shape keys) o (with_command run c)) n []) one_more
      ∙ ap (λ rest. slice_index_or rest (length run.later) []) (over-append sends [] run.later (c ∷ []))
      ∙ ap (λ n. slice_index_or (over sends [] run.later ++ sends run.later c ∷ []) n []) (sym (length-over sends [] run.later))
      ∙ get_or-append_seam (over sends [] run.later) (sends run.later c) [] []

one_frame : (f : KeyedFn) (keys : ℕ → List ℕ) (o : Offsets) (run : Run) (u : Update) → length (frames_next f keys o run (command_of_update u)) ≡ 1
one_frame f keys o run (updates.Add d) = refl
one_frame f keys o run (updates.Delete id) = refl

numbered_next : (f : KeyedFn) (keys : ℕ → List ℕ) (o : Offsets) (run : Run) (u : Update) → AreNumbered (next_number o run.setup run.later) (frames_next f keys o run (command_of_update u))
numbered_next f keys o run (updates.Add d) = (refl, tt)
numbered_next f keys o run (updates.Delete id) = (refl, tt)

pub Owes-update : (f : KeyedFn) (keys : ℕ → List ℕ) (o : Offsets) (run : Run) (u : Update) (behind : BehindState) → StandsFor f keys o (with_command run (command_of_update u)) behind.ready
    → to_send behind ≡ map frame_bytes (frames_next f keys o run (command_of_update u)) → first_number behind ≡ next_number o run.setup run.later
    → Owes f keys o (with_command run (command_of_update u)) 0 behind
Owes-update f keys o run u behind stands sent first =
    let last = last_frames-with_command f keys o run (command_of_update u) in
    record {
      stands = stands;
      some = omega (arith, ap length last, one_frame f keys o run u);
      owed = sent ∙ ap (map frame_bytes) (sym last);
      number = subst (AreNumbered (first_number behind)) (sym last) (subst (λ n. AreNumbered n (frames_next f keys o run (command_of_update u))) (sym first) (numbered_next f keys o run u));
    }

pub Owes-setup : (f : KeyedFn) (keys : ℕ → List ℕ) (o : Offsets) (s : Setup) (behind : BehindState) → StandsFor f keys o (record { setup = s; later = [] }) behind.ready
    → to_send behind ≡ map frame_bytes (frames_of_setup (table f s.shape keys) o s) → first_number behind ≡ o.frame
    → Owes f keys o (record { setup = s; later = [] }) 0 behind
Owes-setup f keys o s behind stands sent first = record {
  stands = stands;
  some = omega (arith, length-frames_of_setup (table f s.shape keys) o s);
  owed = sent;
  number =
      subst (λ n. AreNumbered n (frames_of_setup (table f s.shape keys) o s)) (sym first)
      (frames_of_setup-numbered AreNumbered (λ q. tt) (λ q frame frames e rest. (e, rest)) (table f s.shape keys) o s);
}

-- After a reply.

-- as many frames are sent as are left
pub length-setup_left : (setup : OwedSetup) → length (setup_left setup) ≡ frames_in setup.index - setup.place
length-setup_left setup =
    let left = drop setup.place (index_frames setup.index) in
    length-map (numbered setup.next left) frame_bytes
    ∙ length-numbered setup.next left
    ∙ length-drop setup.place (index_frames setup.index)
    ∙ ap (λ n. n - setup.place) setup.counted

-- at least one
pub some_left : (setup : OwedSetup) → 1 ≤ length (setup_left setup)
some_left setup = omega (arith, setup.left, length-setup_left setup)

numbered_behind : (q : ℕ) (frames : List FrameText) → AreNumbered q frames → AreNumbered (q + 1) (drop 1 frames)
numbered_behind q [] all = tt
numbered_behind q (frame ∷ frames) all = all.1

module _ (f : KeyedFn) (keys : ℕ → List ℕ) (o : Offsets) (run : Run) (k : ℕ) (old : BehindState) (had : Owes f keys o run k old) where
  abbrev frames : List FrameText
  frames = last_frames f keys o run

  -- one frame was acknowledged, and more are left
  pub Owes-one_less : (new : BehindState) → 1 ≤ length (to_send new) → new.ready ≡ old.ready → to_send new ≡ drop 1 (to_send old) → first_number new ≡ first_number old + 1 → Owes f keys o run (k + 1) new
  Owes-one_less new some ready sent first =
      let owed : to_send new ≡ drop (k + 1) (map frame_bytes frames) = sent ∙ ap (drop 1) had.owed ∙ drop-drop 1 k (map frame_bytes frames) in
      record {
        stands = subst (StandsFor f keys o run) (sym ready) had.stands;
        some = omega (arith, some, ap length owed, length-drop (k + 1) (map frame_bytes frames), length-map frames frame_bytes);
        owed = owed;
        number =
            subst (λ n. AreNumbered n (drop (k + 1) frames)) (sym first)
            (subst (AreNumbered (first_number old + 1)) (drop-drop 1 k frames) (numbered_behind (first_number old) (drop k frames) had.number));
      }

  -- the last one was
  pub Owes-last : drop 1 (to_send old) ≡ [] → k + 1 ≡ length frames
  Owes-last none =
      omega (arith, had.some, ap length none, length-drop 1 (to_send old), ap length had.owed, length-drop k (map frame_bytes frames), length-map frames frame_bytes)

-- A stale plan.

-- Promise P69, also here
-- a plan that the client could commit can't be committed once it has taken an update as done: the number is another's
pub stale_plan : (f : KeyedFn) (keys : ℕ → List ℕ) (o : Offsets) (run : Run) (u : Update) (old new : ReadyState) (planned : UpdatePlan)
    → StandsFor f keys o run old → StandsFor f keys o (with_command run (command_of_update u)) new → CanCommit old planned → CanCommit new planned → ⊥
stale_plan f keys o run u old new planned before behind can still =
    absurd (omega (arith, can.next, still.next, before.number, behind.number, update_frames-push run (command_of_update u), one_update u))
