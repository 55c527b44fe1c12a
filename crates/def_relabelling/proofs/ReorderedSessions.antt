-- The order of the words inside documents changes nothing of what passes: neither frames nor replies.
use Rattle.std.proofs.Common.{◌≡◌, ℕ, ◌+◌, List, [], ◌∷◌, ◌++◌, length, map, refl, sym, ap, ◌∙◌, Some}
use Rattle.std.specs.Prelude.{flat_map, zip}
use Rattle.client_registry.specs.Acceptance.{frames_needed}
use Rattle.client_registry.specs.Command.{Command, Add, Delete, Search}
use Rattle.client_registry.specs.Over.{over}
use Rattle.client_registry.specs.Epochs.{behind, next_begins, AreEpochs}
use Rattle.client_registry.specs.Run.{Run, Offsets, Epochs, From, Renewed, at_first}
use Rattle.client_registry.specs.Setup.{Setup}
use Rattle.client_registry.specs.Sized.{IsHistory}
use Rattle.keyed_fn.specs.KeyedFn.{KeyedFn}
use Rattle.sse_frames.specs.Exchange.{exchanged, greeting}
use Rattle.sse_frames.specs.Frames.{FrameText}
use Rattle.sse_frames.specs.Replies.{ReplyText, Took}
use Rattle.sse_frames.specs.SentParts.{pages}
use Rattle.sse_model.proofs.Counts.{length-frames_of_setup}
use Rattle.sse_model.specs.Drawn.{IsCollisionFree}
use Rattle.sse_model.specs.Histories.{table_at, HasNoCollision}
use Rattle.sse_model.specs.Names.{Table, table}
use Rattle.sse_model.specs.Transcript.{transcript, session}
use Rattle.sse_model.specs.Wire.{frames_of_setup, frames_of, next_number, wire, acknowledgements, replies_of, replies}
use Rattle.def_relabelling.proofs.Pairs.{heads, paired-length}
use Rattle.def_relabelling.proofs.ReorderedDocuments.{updates_same, over_same, shown_same}
use Rattle.def_relabelling.proofs.ReorderedRuns.{wire_reordered}
use Rattle.def_relabelling.specs.Histories.{passed_by_keys}
use Rattle.def_relabelling.specs.Paired.{Paired}
use Rattle.def_relabelling.specs.Reordered.{IsSameCommand, IsReordered, AreReordered}

-- command by command, frames with their replies
transcript_zipped : (t : Table) (o : Offsets) (run : Run) → transcript t o run ≡ map (λ (pair : List FrameText × List ReplyText). exchanged pair.0 pair.1) (zip (wire t o run) (replies o run))
transcript_zipped t o run = ap (λ rest. exchanged (frames_of_setup t o run.setup) (acknowledgements o.frame (frames_needed run.setup)) ∷ rest) (later [] run.later)
  where
    s : Setup
    s = run.setup

    later : (past cs : List Command) → over (λ past c. exchanged (frames_of t o.epoch s (next_number o s past) past c) (replies_of o s past c)) past cs
        ≡ map (λ (pair : List FrameText × List ReplyText). exchanged pair.0 pair.1) (zip (over (λ past c. frames_of t o.epoch s (next_number o s past) past c) past cs) (over (replies_of o s) past cs))
    later past [] = refl
    later past (c ∷ cs) = ap (λ rest. exchanged (frames_of t o.epoch s (next_number o s past) past c) (replies_of o s past c) ∷ rest) (later (past ++ c ∷ []) cs)

module _ (o : Offsets) (run other : Run) (reordered : IsReordered run other) (needed : frames_needed run.setup ≡ frames_needed other.setup) where
  next_same : (past past2 : List Command) → Paired IsSameCommand past past2 → next_number o run.setup past ≡ next_number o other.setup past2
  next_same past past2 before = λ i. o.frame + needed i + updates_same past past2 before i

  reply_same : (past past2 : List Command) (c c2 : Command) → Paired IsSameCommand past past2 → IsSameCommand c c2 → replies_of o run.setup past c ≡ replies_of o other.setup past2 c2
  reply_same past past2 (Add d) (Add d2) before same = λ i. Took (next_same past past2 before i) ∷ []
  reply_same past past2 (Delete id) (Delete id2) before same = λ i. Took (next_same past past2 before i) ∷ []
  reply_same past past2 (Search word) (Search word2) before same = ap pages (shown_same run.setup other.setup reordered.documents past past2 before word) ∙ ap (λ w. replies_of o other.setup past2 (Search w)) same
  reply_same past past2 (Add d) (Delete id) before same = absurd same
  reply_same past past2 (Add d) (Search word) before same = absurd same
  reply_same past past2 (Delete id) (Add d) before same = absurd same
  reply_same past past2 (Delete id) (Search word) before same = absurd same
  reply_same past past2 (Search word) (Add d) before same = absurd same
  reply_same past past2 (Search word) (Delete id) before same = absurd same

  replies_same : replies o run ≡ replies o other
  replies_same = λ i. acknowledgements o.frame (needed i) ∷ over_same (replies_of o run.setup) (replies_of o other.setup) reply_same [] [] run.later other.later tt reordered.later i

module _ (t : Table) (o : Offsets) (run other : Run) (history : IsHistory run) (history2 : IsHistory other) (reordered : IsReordered run other) (free : IsCollisionFree t o run) where
  frames_same : wire t o run ≡ wire t o other
  frames_same = wire_reordered t o run other history history2 reordered free

  needed_same : frames_needed run.setup ≡ frames_needed other.setup
  needed_same =
      sym (length-frames_of_setup t o run.setup)
      ∙ ap length (heads (frames_of_setup t o run.setup) (frames_of_setup t o other.setup)
      (over (λ past c. frames_of t o.epoch run.setup (next_number o run.setup past) past c) [] run.later) (over (λ past c. frames_of t o.epoch other.setup (next_number o other.setup past) past c) [] other.later) frames_same)
      ∙ length-frames_of_setup t o other.setup

  -- Promise P157, also here
  -- Where the table has no collision for the one, all that passes for it passes for the other.
  pub transcript_reordered : transcript t o run ≡ transcript t o other
  transcript_reordered =
      transcript_zipped t o run
      ∙ (λ i. map (λ (pair : List FrameText × List ReplyText). exchanged pair.0 pair.1) (zip (frames_same i) (replies_same o run other reordered needed_same i)))
      ∙ sym (transcript_zipped t o other)

module _ (f : KeyedFn) where
  -- an epoch under its key
  epoch_same : (key : List ℕ) (o : Offsets) (run other : Run) → IsHistory run → IsHistory other → IsReordered run other → IsCollisionFree (table_at f key run) o run
      → transcript (table_at f key run) o run ≡ transcript (table_at f key other) o other
  epoch_same key o run other history history2 reordered free =
      transcript_reordered (table_at f key run) o run other history history2 reordered free ∙ (λ i. transcript (table f (reordered.shape i) (λ epoch. key)) o other)

  -- the next one begins at the same offsets
  behind_same : (key : List ℕ) (o : Offsets) (run other : Run) → IsHistory run → IsHistory other → IsReordered run other → IsCollisionFree (table_at f key run) o run
      → behind o run ≡ behind o other
  behind_same key o run other history history2 reordered free =
      let needed = needed_same (table_at f key run) o run other history history2 reordered free in
      let long = paired-length IsSameCommand run.later other.later reordered.later in
      let updates = updates_same run.later other.later reordered.later in
      λ i. record { epoch = o.epoch + 1; command = o.command + 1 + long i; frame = o.frame + (needed i + updates i) }

  -- what passes for the epochs, and where the next one would begin
  all_same : (key : List ℕ) (es other : Epochs) → AreEpochs es → AreEpochs other → AreReordered es other → HasNoCollision f key (Some es)
      → (passed_by_keys f key es ≡ passed_by_keys f key other) × (next_begins es ≡ next_begins other)
  all_same key (From o run) (From o2 other) are are2 reordered free = (
    ap (flat_map (λ passed. passed)) (epoch_same key o run other are are2 reordered.1 free ∙ ap (λ (p : Offsets). transcript (table_at f key other) p other) reordered.0),
    behind_same key o run other are are2 reordered.1 free ∙ ap (λ (p : Offsets). behind p other) reordered.0,
  )
  all_same key (From o run) (Renewed before2 own2 other) are are2 reordered free = absurd reordered
  all_same key (Renewed before own run) (From o2 other) are are2 reordered free = absurd reordered
  all_same key (Renewed before own run) (Renewed before2 own2 other) are are2 reordered free =
      let had = all_same key before before2 are.0 are2.0 reordered.0 free.0 in
      let o = next_begins before in
      let last : transcript (table_at f own run) o run ≡ transcript (table_at f own2 other) (next_begins before2) other =
      epoch_same own o run other are.2 are2.2 reordered.2 free.1 ∙ (λ i. transcript (table_at f (reordered.1 i) other) (had.1 i) other) in (
        λ i. had.0 i ++ flat_map (λ passed. passed) (last i),
        behind_same own o run other are.2 are2.2 reordered.2 free.1 ∙ ap (λ (p : Offsets). behind p other) had.1,
      )

  -- Promise P157, also here
  -- So under the same keys the two have one session.
  pub session_reordered : (key : List ℕ) (es other : Epochs) → AreEpochs es → AreEpochs other → AreReordered es other → HasNoCollision f key (Some es)
      → session f key (Some es) ≡ session f key (Some other)
  session_reordered key es other are are2 reordered free = ap (λ rest. greeting at_first.frame ++ rest) (all_same key es other are are2 reordered free).0
