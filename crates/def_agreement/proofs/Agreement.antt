-- Server and client agree.
use Rattle.std.proofs.Common.{◌≡◌, ℕ, List, [], ◌∷◌, ◌++◌, length, map, refl, sym, ap, ◌∙◌, subst, append_assoc}
use Rattle.std.specs.Prelude.{flat_map}
use Rattle.std.specs.List.{range_with_len}
use Rattle.std.proofs.lemmas.List.{append-nil, take_at}
use Rattle.std.proofs.lemmas.Simd.{map-map}
use Rattle.keyed_fn.specs.KeyedFn.{KeyedFn, IsKeyedFn}
use Rattle.client_registry.proofs.SizedLaws.{IsHistory-front}
use Rattle.client_registry.specs.Acceptance.{frames_needed}
use Rattle.client_registry.specs.Command.{Command}
use Rattle.client_registry.specs.Over.{over}
use Rattle.client_registry.specs.Run.{Offsets}
use Rattle.client_registry.specs.Setup.{Setup}
use Rattle.client_registry.specs.Sized.{IsHistory}
use Rattle.sse_frames.specs.Replies.{Took}
use Rattle.sse_frames.specs.SentParts.{pages}
use Rattle.client_registry.specs.Live.{shown}
use Rattle.server_core.specs.State.{ServerState}
use Rattle.server_core.specs.Step.{step}
use Rattle.sse_model.proofs.Collisions.{IsCollisionFree-first}
use Rattle.sse_model.proofs.Prefixes.{run_of, frames_by}
use Rattle.sse_model.specs.Drawn.{IsCollisionFree}
use Rattle.sse_model.specs.Names.{Table, table}
use Rattle.sse_model.specs.Wire.{frames_of_setup, acknowledgements, replies_of}
use Rattle.def_agreement.proofs.SetupTaken.{took_each}
use Rattle.def_agreement.proofs.TakenFrames.{takes-none, takes-both, steps-taken}
use Rattle.def_agreement.proofs.Taken.{setup_held, command_held, search_held}
use Rattle.def_agreement.specs.Agreement.{frames_fed, fed, replies_by_frame, search_for, CommandsTaken, HistoriesTaken, ServerAgrees}
use Rattle.def_agreement.specs.TakenFrames.{Takes}
use Rattle.def_agreement.specs.Held.{Holds}

each_acknowledged : (q count : ℕ) → took_each q count ≡ map (λ reply. reply ∷ []) (acknowledgements q count)
each_acknowledged q count = sym (map-map (λ reply. reply ∷ []) Took (range_with_len q count))

-- the front of a run without collisions has none
IsCollisionFree-front : (t : Table) (o : Offsets) (s : Setup) (xs ys : List Command) → IsCollisionFree t o (run_of s (xs ++ ys)) → IsCollisionFree t o (run_of s xs)
IsCollisionFree-front t o s xs ys free =
    subst (λ cs. IsCollisionFree t o (run_of s cs)) (take_at xs ys (length xs) refl) (IsCollisionFree-first t o (length xs) (run_of s (xs ++ ys)) free)

module _ (f : KeyedFn) (laws : IsKeyedFn f) (keys : ℕ → List ℕ) (o : Offsets) (s : Setup) where
  abbrev t : Table
  t = table f s.shape keys

  -- a server that holds what these commands leave takes those behind them, and then holds what all leave
  commands_held : (past later : List Command) (state : ServerState) → IsHistory (run_of s (past ++ later)) → IsCollisionFree t o (run_of s (past ++ later)) → Holds t o s past state
      → (end : ServerState) × Takes f state (flat_map (λ fs. fs) (over (frames_by t o s) past later)) end (over (replies_of o s) past later) × Holds t o s (past ++ later) end
  commands_held past [] state history free held = (state, takes-none f state, subst (λ cs. Holds t o s cs state) (sym (append-nil past)) held)
  commands_held past (c ∷ later) state history free held =
      let joined = append_assoc past (c ∷ []) later in
      let whole_history : IsHistory (run_of s ((past ++ c ∷ []) ++ later)) = subst (λ cs. IsHistory (run_of s cs)) (sym joined) history in
      let whole_free : IsCollisionFree t o (run_of s ((past ++ c ∷ []) ++ later)) = subst (λ cs. IsCollisionFree t o (run_of s cs)) (sym joined) free in
      let one = command_held f laws keys o s past c state (IsHistory-front s (past ++ c ∷ []) later whole_history) (IsCollisionFree-front t o s (past ++ c ∷ []) later whole_free) held in
      let rest = commands_held (past ++ c ∷ []) later one.0 whole_history whole_free one.2 in (
        rest.0,
        takes-both f state one.0 rest.0 (frames_by t o s past c) (flat_map (λ fs. fs) (over (frames_by t o s) (past ++ c ∷ []) later)) (replies_of o s past c ∷ [])
            (over (replies_of o s) (past ++ c ∷ []) later) one.1 rest.1,
        subst (λ cs. Holds t o s cs rest.0) joined rest.2,
      )

-- Promise P149, also here
-- so does one that holds what a run leaves those of more commands
pub commands_taken : CommandsTaken
commands_taken f keys o run more start laws history free held = commands_held f laws keys o run.setup run.later more start history free held

-- Promise P149 (inside): A server that is sent a history's frames reaches the state they make and answers each search with the identifiers the history shows.
--   assumes: keyed function, kept limits, no collision, countable history
-- on each run that is a history, under every key, where no compared values collide, a server that expects its first frame takes
-- all frames, replies as the run says, and then holds what it leaves
pub histories_taken : HistoriesTaken
histories_taken f keys o run start laws history free expects =
    let s = run.setup in
    let t = table f s.shape keys in
    let first = setup_held f laws keys o s start expects (IsCollisionFree-front t o s [] run.later free) in
    let rest = commands_held f laws keys o s [] run.later first.0 history free first.2 in (
      rest.0,
      subst (λ replies. Takes f start (frames_fed t o run) rest.0 (replies ++ over (replies_of o s) [] run.later)) (each_acknowledged o.frame (frames_needed s))
          (takes-both f start first.0 rest.0 (frames_of_setup t o s) (flat_map (λ fs. fs) (over (frames_by t o s) [] run.later)) (took_each o.frame (frames_needed s)) (over (replies_of o s) [] run.later) first.1 rest.1),
      rest.2,
    )

-- Promise P149, also here
-- Promise P156, also here
-- so the server that is sent the frames replies as the run says, holds what it leaves, and answers each search by what is shown
pub server_agrees : ServerAgrees
server_agrees f keys o run start laws history free expects =
    let s = run.setup in
    let t = table f s.shape keys in
    let all = histories_taken f keys o run start laws history free expects in
    let stepped : fed f start t o run ≡ (all.0, replies_by_frame o run) = steps-taken f start (frames_fed t o run) all.1.each ∙ all.1.leaves in
    record {
      replies = ap (λ r. r.1) stepped;
      holds = subst (Holds t o s run.later) (sym (ap (λ r. r.0) stepped)) all.2;
      search =
          λ word free_too.
          ap (λ r. step f r.0 (search_for t o word)) stepped
          ∙ search_held f laws keys o s run.later word all.0 history free_too all.2
          ∙ ap (λ r. (r.0, pages (shown s run.later word))) (sym stepped);
    }
