-- The last command of a history: its frames, and what is owed of them.
use Rattle.std.proofs.Common.{◌≡◌, ℕ, ◌+◌, ◌-◌, ◌≤◌, true, cond, List, [], ◌∷◌, ◌++◌, length, filter, Some, refl, ap, ◌∙◌, subst, arith}
use Rattle.client_core.proofs.OwesLaws.{last_frames-with_command}
use Rattle.client_core.proofs.ResumeLaws.{first-setup}
use Rattle.client_core.specs.Owes.{Owes, last_frames}
use Rattle.client_core.specs.Renewals.{alone}
use Rattle.client_core.specs.Resumes.{first_of_last}
use Rattle.client_core.specs.StandsFor.{frames_next, with_command}
use Rattle.client_core.specs.States.{BehindState, ClientOf}
use Rattle.client_core.specs.TakenViews.{first_number}
use Rattle.client_core.specs.Updates.{command_of_update}
use Rattle.client_core.specs.declared.update.Update.{Update}
use Rattle.client_core.specs.declared.update.Update.TheVariants as updates
use Rattle.client_registry.proofs.FromEnd.{from_end}
use Rattle.client_registry.proofs.SizedLaws.{update_frames-push}
use Rattle.client_registry.specs.Command.{Command, Add, Delete, Search, is_update}
use Rattle.client_registry.specs.Epochs.{begins, key_now, with_commands}
use Rattle.client_registry.specs.Histories.{frames_in}
use Rattle.client_registry.specs.Run.{Epochs, From, Renewed, Offsets, Run, last_run}
use Rattle.client_registry.specs.Setup.{Setup}
use Rattle.client_registry.specs.Sized.{update_frames}
use Rattle.keyed_fn.specs.KeyedFn.{KeyedFn}
use Rattle.sse_model.proofs.Counts.{length-frames_of_setup}
use Rattle.sse_model.specs.Names.{table}
use Rattle.world_client.specs.Clients.{IsSending}
use Rattle.world_client.specs.Histories.{key_marks}

pub is_update-update : (u : Update) → is_update (command_of_update u) ≡ true
is_update-update (updates.Add doc) = refl
is_update-update (updates.Delete id) = refl

one_update : (c : Command) → is_update c ≡ true → length (filter is_update (c ∷ [])) ≡ 1
one_update c is = ap (λ b. length (cond b (c ∷ []) [])) is

module _ (f : KeyedFn) (keys : ℕ → List ℕ) (o : Offsets) where
  one_frame : (run : Run) (c : Command) → length (frames_next f keys o run c) ≡ 1
  one_frame run (Add d) = refl
  one_frame run (Delete id) = refl
  one_frame run (Search word) = refl

  -- a history has the frames of its last command
  pub last_within : (run : Run) → length (last_frames f keys o run) ≤ o.frame + update_frames run
  last_within run = from_end (λ cs. length (last_frames f keys o (record { setup = run.setup; later = cs })) ≤ o.frame + update_frames (record { setup = run.setup; later = cs }))
      (omega (arith, length-frames_of_setup (table f run.setup.shape keys) o run.setup)) (λ past c _. push past c) run.later
    where
      push : (past : List Command) (c : Command) → length (last_frames f keys o (record { setup = run.setup; later = past ++ c ∷ [] })) ≤ o.frame + update_frames (record { setup = run.setup; later = past ++ c ∷ [] })
      push past c =
          let before : Run = record { setup = run.setup; later = past } in
          omega (arith, ap length (last_frames-with_command f keys o before c), one_frame before c)

-- the first frame of an update behind a run has the number of the frames before it
pub first-next : (f : KeyedFn) (key : List ℕ) (o : Offsets) (run : Run) (c : Command) → is_update c ≡ true → first_of_last f key o (with_command run c) ≡ o.frame + update_frames run
first-next f key o run c is =
    omega (arith, update_frames-push run c, one_update c is, ap length (last_frames-with_command f (λ epoch. key) o run c), one_frame f (λ epoch. key) o run c)

-- all frames are owed from the first on
pub owes_all : (f : KeyedFn) (keys : ℕ → List ℕ) (o : Offsets) (run : Run) (low next : ℕ) (state : BehindState) → low ≡ next → Owes f keys o run 0 state → Owes f keys o run (next - low) state
owes_all f keys o run low next state same owes = let none : 0 ≡ next - low = omega (arith, same) in subst (λ k. Owes f keys o run k state) none owes

-- a client that owes the frame of an update behind a history
pub sending_update : (f : KeyedFn) (first : List ℕ) (es : Epochs) (c : Command) (client : ClientOf BehindState) → is_update c ≡ true → client.key ≡ key_now first es
    → Owes f (λ epoch. key_now first es) (begins es) (with_command (last_run es) c) 0 client.state → first_number client.state ≡ frames_in (Some es) → client.state.ready.past.marks.items ≡ key_marks f first es
    → IsSending f first (with_commands (c ∷ []) es) (frames_in (Some es)) client
sending_update f first (From o run) c client is key owes number marks =
    let low = first-next f first o run c is in
    record {
      key = key;
      low = omega (arith, low);
      owes = owes_all f (λ epoch. first) o (with_command run c) (first_of_last f first o (with_command run c)) (o.frame + update_frames run) client.state low owes;
      number = number;
      marks = marks;
    }
sending_update f first (Renewed before own run) c client is key owes number marks =
    let o = begins (Renewed before own run) in
    let low = first-next f own o run c is in
    record {
      key = key;
      low = omega (arith, low);
      owes = owes_all f (λ epoch. own) o (with_command run c) (first_of_last f own o (with_command run c)) (o.frame + update_frames run) client.state low owes;
      number = number;
      marks = marks;
    }

-- the frames of a setup from the first on, the first of them under this number
module _ (f : KeyedFn) (key : List ℕ) (o : Offsets) (s : Setup) (next : ℕ) (same : o.frame ≡ next) where
  pub low-alone : first_of_last f key o (alone s) ≤ next
  low-alone = omega (arith, first-setup f key o s, same)

  pub owes-alone : (state : BehindState) → Owes f (λ epoch. key) o (alone s) 0 state → Owes f (λ epoch. key) o (alone s) (next - first_of_last f key o (alone s)) state
  owes-alone state owes = owes_all f (λ epoch. key) o (alone s) (first_of_last f key o (alone s)) next state (first-setup f key o s ∙ same) owes
