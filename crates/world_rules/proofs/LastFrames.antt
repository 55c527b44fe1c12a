-- The frames of a history's last change, and the number of the first of them.
use Rattle.std.proofs.Common.{◌≡◌, ℕ, ◌+◌, ◌-◌, true, List, [], ◌∷◌, ◌++◌, length, None, Some, refl, sym, ap, ◌∙◌, arith, length-append}
use Rattle.std.specs.Prelude.{slice_index_or}
use Rattle.std.proofs.Math.Seq.{get_or-append_seam}
use Rattle.std.proofs.lemmas.Bool.{true≢false}
use Rattle.keyed_fn.specs.KeyedFn.{KeyedFn}
use Rattle.client_registry.proofs.FromEnd.{from_end}
use Rattle.client_registry.proofs.OverLaws.{over-append, length-over}
use Rattle.client_registry.specs.Command.{Command, Add, Delete}
use Rattle.client_registry.specs.Epochs.{begins, next_begins, key_now}
use Rattle.client_registry.specs.Histories.{frames_in}
use Rattle.client_registry.specs.Over.{over}
use Rattle.client_registry.specs.Run.{History, From, Renewed, Run, Offsets, last_run}
use Rattle.sse_frames.specs.Frames.{FrameText}
use Rattle.sse_model.specs.Histories.{table_at, frames_sent}
use Rattle.sse_model.specs.Names.{Table}
use Rattle.sse_model.specs.Wire.{frames_of_setup, frames_of, next_number, wire}
use Rattle.world_model.proofs.Lists.{but_last-push}
use Rattle.world_model.specs.Events.{but_last}
use Rattle.world_model.specs.Rules.{AreAccepted}
use Rattle.world_rules.proofs.Numbered.{history_of-push, accepted-push, frames_next, sends, gapless}
use Rattle.world_rules.specs.Changes.{Change, SetsUp, Adds, Deletes, Renews, with_change, history_of}
use Rattle.world_rules.specs.Rules.{accepts, store_rules}

-- those of the last command of a history's last epoch
abbrev pub last_frames_in : KeyedFn → (key : List ℕ) → History → List FrameText
last_frames_in f key None = []
last_frames_in f key (Some es) = slice_index_or (wire (table_at f (key_now key es) (last_run es)) (begins es) (last_run es)) (length (last_run es).later) []

-- of a run with one command more
last_of_run : (t : Table) (o : Offsets) (run : Run) (c : Command)
    → slice_index_or (wire t o (record { setup = run.setup; later = run.later ++ c ∷ [] })) (length (run.later ++ c ∷ [])) [] ≡ frames_of t o.epoch run.setup (next_number o run.setup run.later) run.later c
last_of_run t o run c =
    let by = λ (past : List Command) (c : Command). frames_of t o.epoch run.setup (next_number o run.setup past) past c in
    let first = frames_of_setup t o run.setup in
    let wire_is : wire t o (record { setup = run.setup; later = run.later ++ c ∷ [] }) ≡ (first ∷ over by [] run.later) ++ by run.later c ∷ [] = ap (λ rest. first ∷ rest) (over-append by [] run.later (c ∷ [])) in
    let place : length (run.later ++ c ∷ []) ≡ length (first ∷ over by [] run.later) = omega (arith, length-append run.later (c ∷ []), length-over by [] run.later) in
    (λ i. slice_index_or (wire_is i) (place i) []) ∙ get_or-append_seam (first ∷ over by [] run.later) (by run.later c) [] []

module _ (f : KeyedFn) (key : List ℕ) where
  -- they are those of the last change
  pub last_is : (h : History) (c : Change) → accepts f key h c ≡ true → last_frames_in f key (with_change h c) ≡ frames_next f key h c
  last_is (Some es) (SetsUp s) ok = absurd (true≢false (sym ok))
  last_is None (SetsUp s) ok = refl
  last_is None (Adds d) ok = absurd (true≢false (sym ok))
  last_is (Some (From o run)) (Adds d) ok = last_of_run (table_at f key run) o run (Add d)
  last_is (Some (Renewed before own run)) (Adds d) ok = last_of_run (table_at f own run) (next_begins before) run (Add d)
  last_is None (Deletes id) ok = absurd (true≢false (sym ok))
  last_is (Some (From o run)) (Deletes id) ok = last_of_run (table_at f key run) o run (Delete id)
  last_is (Some (Renewed before own run)) (Deletes id) ok = last_of_run (table_at f own run) (next_begins before) run (Delete id)
  last_is None (Renews own) ok = absurd (true≢false (sym ok))
  last_is (Some es) (Renews own) ok = refl

  -- the first of them has the number of all frames before it
  pub first_of_last-frames : (changes : List Change) → AreAccepted (store_rules f key) changes
      → frames_in (history_of changes) - length (last_frames_in f key (history_of changes)) ≡ length (frames_sent f key (history_of (but_last changes)))
  first_of_last-frames =
      from_end (λ changes. AreAccepted (store_rules f key) changes → frames_in (history_of changes) - length (last_frames_in f key (history_of changes)) ≡ length (frames_sent f key (history_of (but_last changes))))
      (λ are. refl) push
    where
      push : (xs : List Change) (c : Change) → (AreAccepted (store_rules f key) xs → frames_in (history_of xs) - length (last_frames_in f key (history_of xs)) ≡ length (frames_sent f key (history_of (but_last xs))))
          → AreAccepted (store_rules f key) (xs ++ c ∷ [])
          → frames_in (history_of (xs ++ c ∷ [])) - length (last_frames_in f key (history_of (xs ++ c ∷ []))) ≡ length (frames_sent f key (history_of (but_last (xs ++ c ∷ []))))
      push xs c had are =
          let both = accepted-push (store_rules f key) [] xs c are in
          let h = history_of xs in
          let now = sends f key h c both.1 in
          let all : frames_in (history_of (xs ++ c ∷ [])) ≡ frames_in h + length (frames_next f key h c) = ap frames_in (history_of-push xs c) ∙ now.count in
          let last : length (last_frames_in f key (history_of (xs ++ c ∷ []))) ≡ length (frames_next f key h c) = ap (λ h. length (last_frames_in f key h)) (history_of-push xs c) ∙ ap length (last_is h c both.1) in
          let before : length (frames_sent f key (history_of (but_last (xs ++ c ∷ [])))) ≡ frames_in h = ap (λ cs. length (frames_sent f key (history_of cs))) (but_last-push xs c) ∙ (gapless f key xs both.0).count in
          omega (arith, all, last, before)

  -- and all frames are those before it, and they
  pub frames-last : (changes : List Change) → AreAccepted (store_rules f key) changes
      → frames_sent f key (history_of changes) ≡ frames_sent f key (history_of (but_last changes)) ++ last_frames_in f key (history_of changes)
  frames-last =
      from_end (λ changes. AreAccepted (store_rules f key) changes → frames_sent f key (history_of changes) ≡ frames_sent f key (history_of (but_last changes)) ++ last_frames_in f key (history_of changes)) (λ are. refl) push
    where
      push : (xs : List Change) (c : Change) → (AreAccepted (store_rules f key) xs → frames_sent f key (history_of xs) ≡ frames_sent f key (history_of (but_last xs)) ++ last_frames_in f key (history_of xs))
          → AreAccepted (store_rules f key) (xs ++ c ∷ [])
          → frames_sent f key (history_of (xs ++ c ∷ [])) ≡ frames_sent f key (history_of (but_last (xs ++ c ∷ []))) ++ last_frames_in f key (history_of (xs ++ c ∷ []))
      push xs c had are =
          let ok = (accepted-push (store_rules f key) [] xs c are).1 in
          let whole = ap (frames_sent f key) (history_of-push xs c) ∙ (sends f key (history_of xs) c ok).is in
          let before = ap (λ cs. frames_sent f key (history_of cs)) (but_last-push xs c) in
          let last = ap (last_frames_in f key) (history_of-push xs c) ∙ last_is (history_of xs) c ok in
          whole ∙ (λ i. sym before i ++ sym last i)
