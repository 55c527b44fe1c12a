-- The session of a history under its keys is what passes for any other history of equal leakage under the relabelled table.
use Rattle.std.proofs.Common.{◌≡◌, ℕ, ◌≤◌, Bool, true, false, List, ◌++◌, refl, sym, ap, ◌∙◌, arith, eqb-true, Some, None}
use Rattle.std.specs.Prelude.{◌==◌, flat_map, if◌then◌else◌}
use Rattle.std.proofs.lemmas.Cmp.{nat_eq_equiv}
use Rattle.client_registry.specs.Epochs.{begins, next_begins, AreEpochs}
use Rattle.client_registry.specs.Histories.{IsWhole, IsKept}
use Rattle.client_registry.specs.Run.{Run, Offsets, Epochs, From, Renewed, History, at_first}
use Rattle.client_registry.specs.Sized.{IsHistory}
use Rattle.keyed_fn.specs.KeyedFn.{KeyedFn, IsKeyedFn}
use Rattle.def_comparison.specs.Sums.{sums}
use Rattle.sse_frames.specs.Exchange.{greeting}
use Rattle.def_leakage.specs.Histories.{leak_in}
use Rattle.def_leakage.specs.CommandLeaks.{leak}
use Rattle.sse_model.proofs.KeyValues.{IsValue-table}
use Rattle.sse_model.specs.Histories.{table_at}
use Rattle.sse_model.specs.Names.{Name, Table}
use Rattle.sse_model.specs.Transcript.{transcript, session}
use Rattle.def_relabelling.proofs.AlikeEpochs.{leaks_some, alike}
use Rattle.def_relabelling.proofs.EpochDraws.{AgreeAt, draws-own_epoch}
use Rattle.def_relabelling.proofs.RelabelledBack.{same_sizes}
use Rattle.def_relabelling.proofs.RelabelledEpochs.{traffic_relabelled}
use Rattle.def_relabelling.proofs.SameDraws.{transcript_drawn}
use Rattle.def_relabelling.proofs.SumsBeside.{sums_relabelled}
use Rattle.def_relabelling.proofs.Twins.{twins}
use Rattle.def_relabelling.specs.FirstUses.{sum_in_step}
use Rattle.def_relabelling.specs.Histories.{passed_under, passed_by_keys, passed, table_in, relabelled_from, IsTableIn}
use Rattle.def_relabelling.specs.Tables.{IsTableFor}
use Rattle.def_relabelling.specs.Twins.{AreTwins}

module _ (f : KeyedFn) (laws : IsKeyedFn f) (key : List ℕ) where
  -- the table of all epochs at the names of the last one, and of those before
  module _ (before : Epochs) (own : List ℕ) (run : Run) where
    abbrev now : Offsets
    now = next_begins before

    at_last : AgreeAt now.epoch (table_in f key (Renewed before own run)) (table_at f own run)
    at_last n e = ap (λ b. if b then table_at f own run n else table_in f key before n) (ap (λ k. k == now.epoch) e ∙ nat_eq_equiv.refl now.epoch)

    before_last : (n : Name) → n.epoch ≤ (begins before).epoch → table_in f key (Renewed before own run) n ≡ table_in f key before n
    before_last n le = by (n.epoch == now.epoch) refl
      where
        by : (b : Bool) → (n.epoch == now.epoch) ≡ b → (if b then table_at f own run n else table_in f key before n) ≡ table_in f key before n
        by true e = let same : n.epoch ≡ now.epoch = eqb-true n.epoch now.epoch e in absurd (omega (arith, same, le))
        by false e = refl

  -- an epoch under its key, and under a table with the same values at its names
  sized : (own : List ℕ) (o : Offsets) (run : Run) (t : Table) → AgreeAt o.epoch t (table_at f own run) → IsTableFor t o run
  sized own o run t agree = same_sizes o run t (table_at f own run) agree (λ n within. IsValue-table f laws run.setup.shape (λ epoch. own) n)

  same_transcript : (own : List ℕ) (o : Offsets) (run : Run) (t : Table) → IsHistory run → AgreeAt o.epoch t (table_at f own run) → transcript t o run ≡ transcript (table_at f own run) o run
  same_transcript own o run t history agree = transcript_drawn o run run (table_at f own run) t history history refl (draws-own_epoch t (table_at f own run) o run agree)

  -- all epochs
  under_one_table : (es : Epochs) (t : Table) → AreEpochs es → ((n : Name) → n.epoch ≤ (begins es).epoch → t n ≡ table_in f key es n)
      → IsTableIn t es × (passed_under t es ≡ passed_by_keys f key es)
  under_one_table (From o run) t are agree =
      let here : AgreeAt o.epoch t (table_at f key run) = λ n e. agree n (omega (arith, e)) in
      (sized key o run t here, ap (flat_map (λ exchanged. exchanged)) (same_transcript key o run t are here))
  under_one_table (Renewed before own run) t are agree =
      let o = next_begins before in
      let first = under_one_table before t are.0 (λ n le. agree n (omega (arith, le)) ∙ before_last before own run n le) in
      let here : AgreeAt o.epoch t (table_at f own run) = λ n e. agree n (omega (arith, e)) ∙ at_last before own run n e in
      ((first.0, sized own o run t here), λ i. first.1 i ++ flat_map (λ exchanged. exchanged) (same_transcript own o run t are.2 here i))

  -- Promise P151 (inside): The traffic of a history under its keys is that of any other of equal leakage, under the relabelled table.
  --   assumes: keyed function, equal leakage, kept limits; not: That the relabelled table is the table of some keys.
  pub session_relabelled : (h other : History) → IsWhole h → IsWhole other → IsKept h → IsKept other → leak_in h ≡ leak_in other
      → passed (relabelled_from f key h other) other ≡ session f key h
  session_relabelled None None whole whole2 kept kept2 leaks = refl
  session_relabelled None (Some other) whole whole2 kept kept2 leaks = leaks_some other (sym leaks)
  session_relabelled (Some es) None whole whole2 kept kept2 leaks = leaks_some es leaks
  session_relabelled (Some es) (Some other) whole whole2 kept kept2 leaks =
      let keyed = under_one_table es (table_in f key es) kept.0 (λ n le. refl) in
      ap (λ rest. greeting at_first.frame ++ rest)
      ((traffic_relabelled es other (table_in f key es) (alike es other (whole ∙ sym whole2) leaks) kept.0 kept2.0 keyed.0).passed ∙ keyed.1)

  -- Each epoch by itself.

  module _ (o : Offsets) (run other : Run) (history : IsHistory run) (history2 : IsHistory other) (leaks : leak o run ≡ leak o other) where
    -- Promise P151, also here
    -- the table of keys has a twin for every other history of equal leakage
    pub twins_of_keys : AreTwins o run other (table_at f key run) (relabelled_from f key (Some (From o run)) (Some (From o other)))
    twins_of_keys = twins o run other history history2 leaks (table_at f key run) (sized key o run (table_at f key run) (λ n e. refl))

    -- Promise P151, also here
    -- under which as much is counted of it
    pub sums_of_keys : sums (relabelled_from f key (Some (From o run)) (Some (From o other))) o other ≡ record {
      frames = (sums (table_at f key run) o run).frames;
      bytes = (sums (table_at f key run) o run).bytes;
      values = sum_in_step (table_at f key run) o run other;
    }
    sums_of_keys = sums_relabelled o run other (table_at f key run) history history2 leaks (sized key o run (table_at f key run) (λ n e. refl))
