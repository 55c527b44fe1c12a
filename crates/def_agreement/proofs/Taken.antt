-- A server that holds what a run's commands leave takes the frame of one command more, and then holds what they all leave.
use Rattle.std.proofs.Common.{◌≡◌, ℕ, ◌+◌, List, [], ◌∷◌, ◌++◌, length, refl, sym, ap, ◌∙◌, subst, arith}
use Rattle.std.specs.Option.{option_map_or}
use Rattle.keyed_fn.specs.KeyedFn.{KeyedFn, IsKeyedFn}
use Rattle.client_registry.specs.Acceptance.{frames_needed}
use Rattle.client_registry.specs.Command.{Command, Search}
use Rattle.client_registry.specs.Live as live
use Rattle.client_registry.specs.Run.{Offsets}
use Rattle.client_registry.specs.Setup.{Setup}
use Rattle.client_registry.specs.Sized.{IsHistory}
use Rattle.server_core.specs.State.{ServerState, is_ready}
use Rattle.server_core.specs.Step.{taken, step}
use Rattle.sse_frames.proofs.Sorted.{AllDiffer}
use Rattle.sse_frames.specs.Frames.{labels_of, Entry}
use Rattle.sse_frames.specs.Replies.{BadList}
use Rattle.sse_frames.specs.SentParts.{pages}
use Rattle.sse_model.proofs.Counts.{length-frames_of_setup}
use Rattle.sse_model.proofs.Prefixes.{run_of, frames_by}
use Rattle.sse_model.specs.Drawn.{IsCollisionFree}
use Rattle.sse_model.specs.Names.{Table, table}
use Rattle.sse_model.specs.Wire.{frames_of_setup, replies_of}
use Rattle.def_agreement.proofs.Commands.{told, frame_of, frames_by-one, search_result-held, has_next, is_fitting, has_no_clash, holds-taken, answers-held}
use Rattle.def_agreement.proofs.HeldAdditions.{HoldsAdditions-setup}
use Rattle.def_agreement.proofs.HeldRevocations.{HoldsRevoked-setup}
use Rattle.def_agreement.proofs.SetupTaken.{filled, took_each, setup_taken}
use Rattle.def_agreement.proofs.Tags.{entries_differ, blocks_differ}
use Rattle.def_agreement.proofs.TakenFrames.{takes-none, takes-cons, step-taken}
use Rattle.def_agreement.specs.TakenFrames.{Expects, IsInOrder, Takes}
use Rattle.def_agreement.specs.Agreement.{search_for}
use Rattle.def_agreement.specs.Held.{Holds}
use Rattle.def_agreement.proofs.SetupHeld.{entries_in, blocks_in, dictionary_of, array_of, HoldsSetup-made}
use Rattle.sse_model.proofs.Collisions.{joined}
use Rattle.sse_model.proofs.SealedEntries.{IsTold}
use Rattle.sse_model.specs.Drawn.{drawn}

module _ (f : KeyedFn) (laws : IsKeyedFn f) (keys : ℕ → List ℕ) (o : Offsets) (s : Setup) where
  abbrev t : Table
  t = table f s.shape keys

  -- a server that expects the first frame of a setup takes all of them, and holds its tables
  pub setup_held : (start : ServerState) → Expects o.frame start → IsCollisionFree t o (run_of s [])
      → (state : ServerState) × Takes f start (frames_of_setup t o s) state (took_each o.frame (frames_needed s)) × Holds t o s [] state
  setup_held start expects free = (after (frames_needed s), takes, held)
    where
      entries : List Entry
      entries = entries_in t o.epoch s

      blocks : List Entry
      blocks = blocks_in t o.epoch s

      after : ℕ → ServerState
      after count = filled s.shape (length entries) (length blocks) (o.frame + count) (dictionary_of t o.epoch s) (array_of t o.epoch s)

      names : IsTold s.shape t (joined (drawn o (run_of s [])))
      names = told f laws keys o s [] free

      differ : AllDiffer (labels_of entries)
      differ = entries_differ t o (run_of s []) names.apart

      takes : Takes f start (frames_of_setup t o s) (after (frames_needed s)) (took_each o.frame (frames_needed s))
      takes = subst (λ (n : ℕ). Takes f start (frames_of_setup t o s) (after n) (took_each o.frame n)) (length-frames_of_setup t o s) (setup_taken f start o.frame s.shape entries blocks expects differ)

      held : Holds t o s [] (after (frames_needed s))
      held = record {
        ready = refl;
        next = omega arith;
        setup = HoldsSetup-made t o.epoch s differ (blocks_differ t o (run_of s []) names.apart);
        additions = HoldsAdditions-setup t o.epoch s;
        revoked = HoldsRevoked-setup t o.epoch s;
      }

  in_order : (past : List Command) (c : Command) (state : ServerState) → IsHistory (run_of s (past ++ c ∷ [])) → IsCollisionFree t o (run_of s (past ++ c ∷ [])) → Holds t o s past state
      → IsInOrder state (frame_of f laws keys o s past c)
  in_order past c state history free held = record {
    next = has_next f laws keys o s past c state held;
    stage = is_fitting f laws keys o s past c state held;
    clash = has_no_clash f laws keys o s past state held c history free;
  }

  -- a server takes the frame of each command, and holds what it leaves
  pub command_held : (past : List Command) (c : Command) (state : ServerState) → IsHistory (run_of s (past ++ c ∷ [])) → IsCollisionFree t o (run_of s (past ++ c ∷ [])) → Holds t o s past state
      → (now : ServerState) × Takes f state (frames_by t o s past c) now (replies_of o s past c ∷ []) × Holds t o s (past ++ c ∷ []) now
  command_held past c state history free held =
      let frame = frame_of f laws keys o s past c in
      let now = taken state frame in (
        now,
        subst (λ frames. Takes f state frames now (replies_of o s past c ∷ [])) (sym (frames_by-one f laws keys o s past c))
            (takes-cons f state now now frame [] (replies_of o s past c) [] (in_order past c state history free held) refl (answers-held f laws keys o s past state held c history free) (takes-none f now)),
        holds-taken f laws keys o s past state held c history free,
      )

  -- a search of a word that looks up no collision is answered by what the run shows
  pub search_held : (past : List Command) (word : List ℕ) (state : ServerState) → IsHistory (run_of s past) → IsCollisionFree t o (run_of s (past ++ Search word ∷ [])) → Holds t o s past state
      → step f state (search_for t o word) ≡ (state, pages (live.shown s past word))
  search_held past word state history free held =
      step-taken f state (search_for t o word) (record { next = refl; stage = ap is_ready held.ready; clash = refl })
      ∙ ap (λ ids. (state, option_map_or pages ids (BadList ∷ []))) (search_result-held f laws keys o s past word state history free held)
