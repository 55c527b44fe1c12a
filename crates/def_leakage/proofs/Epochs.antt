-- What the simulator makes of the leakage and the draws of a history of several epochs is its wire.
use Rattle.std.proofs.Common.{◌≡◌, ℕ, ◌+◌, List, [], ◌∷◌, ◌++◌, length, map, filter, Some, refl, sym, ap, ◌∙◌, arith, append_assoc, length-append, None}
use Rattle.std.specs.Prelude.{flat_map, Option, option_map}
use Rattle.std.proofs.lemmas.List.{append-nil, length-map}
use Rattle.std.proofs.lemmas.List.Concat.{flat_map-append}
use Rattle.client_registry.proofs.OverLaws.{length-over}
use Rattle.client_registry.specs.Command.{Command, Add, Delete, Search, is_update}
use Rattle.client_registry.specs.Histories.{shown_by}
use Rattle.client_registry.specs.Live.{shown}
use Rattle.client_registry.specs.Over.{over}
use Rattle.client_registry.specs.Run.{Run, Offsets, Epochs, From, Renewed, last_run}
use Rattle.client_registry.specs.Setup.{Setup}
use Rattle.client_registry.specs.Sized.{IsHistory}
use Rattle.keyed_fn.specs.KeyedFn.{KeyedFn}
use Rattle.sse_frames.specs.Exchange.{Passed, exchange, searches, greeting}
use Rattle.sse_frames.specs.Frames.{FrameText}
use Rattle.def_leakage.proofs.Law.{simulate_is_wire}
use Rattle.def_leakage.specs.DrawnValues.{draw, drawings_of_setup, drawings_by, drawings, draws}
use Rattle.def_leakage.specs.CommandLeaks.{leak_of_setup, leak_by, leak}
use Rattle.sse_model.proofs.Counts.{length-frames_of_setup}
use Rattle.sse_model.proofs.ExchangeLaws.{exchange-append, exchange-setup, exchange-commands, searches-append, searches-setup}
use Rattle.sse_model.proofs.Prefixes.{frames_by, exchanged_setup}
use Rattle.sse_model.specs.Names.{Table}
use Rattle.sse_model.specs.Positions.{block_positions, ranks_of}
use Rattle.sse_model.specs.Transcript.{transcript}
use Rattle.sse_model.specs.Wire.{labels_in, frames_of_setup, wire}
use Rattle.sse_simulator.specs.Leaks.{Leak, Draw}
use Rattle.sse_simulator.specs.Simulator.{Kept, Sim, sim_at_first, sim_after, simulated_from, simulated, answer_of}
use Rattle.def_leakage.proofs.SimulatorRuns.{ahead, sim_behind, simulated_from-append, count-behind}
use Rattle.client_registry.specs.Epochs.{behind, begins, first_begins, next_begins, joined, AreEpochs}

abbrev sim_at : List Kept → ℕ → Sim
sim_at kept next = record { kept = kept; next = next }

-- One run.

module _ (t : Table) (o : Offsets) (run : Run) (earlier : List Kept) (count : length earlier ≡ o.command) where
  abbrev s : Setup
  s = run.setup

  abbrev now : Sim
  now = sim_behind (sim_at earlier o.frame) (leak o run) (draws t o run) (wire t o run)

  many_draws : length (draws t o run) ≡ length (leak o run)
  many_draws =
      omega (arith, length-map (drawings o run) (map (draw t (ranks_of (labels_in t (block_positions o.epoch s))))), length-over (drawings_by o.epoch s) [] run.later, length-over (leak_by o s) [] run.later)

  many_frames : length (wire t o run) ≡ length (leak o run)
  many_frames = omega (arith, length-over (frames_by t o s) [] run.later, length-over (leak_by o s) [] run.later)

  -- a simulator that stands before the run stands before the next one after it
  count_after : length now.kept ≡ (behind o run).command
  count_after = omega (arith, count, count-behind (sim_at earlier o.frame) (leak o run) (draws t o run) (wire t o run) many_draws many_frames, length-over (leak_by o s) [] run.later)

  next_after : now.next ≡ (behind o run).frame
  next_after = omega (arith, length-frames_of_setup t o s, by first [] run.later)
    where
      ranks : List ℕ
      ranks = ranks_of (labels_in t (block_positions o.epoch s))

      first : Sim
      first = sim_after (sim_at earlier o.frame) (leak_of_setup o.epoch s) (map (draw t ranks) (drawings_of_setup o.epoch s)) (frames_of_setup t o s)

      one : Sim → List Command → Command → Sim
      one sim past c = sim_after sim (leak_by o s past c) (map (draw t ranks) (drawings_by o.epoch s past c)) (frames_by t o s past c)

      by : (sim : Sim) (past later : List Command)
          → (sim_behind sim (over (leak_by o s) past later) (map (map (draw t ranks)) (over (drawings_by o.epoch s) past later)) (over (frames_by t o s) past later)).next
          ≡ sim.next + length (filter is_update later)
      by sim past [] = omega arith
      by sim past (Add d ∷ later) = omega (arith, by (one sim past (Add d)) (past ++ Add d ∷ []) later)
      by sim past (Delete id ∷ later) = omega (arith, by (one sim past (Delete id)) (past ++ Delete id ∷ []) later)
      by sim past (Search word ∷ later) = omega (arith, by (one sim past (Search word)) (past ++ Search word ∷ []) later)

  -- what is simulated of the run, and of more behind it
  goes_on : IsHistory run → (more : List Leak) (others : List (List Draw))
      → simulated_from (sim_at earlier o.frame) (leak o run ++ more) (draws t o run ++ others) ≡ ahead (wire t o run) (simulated_from (sim_at now.kept (behind o run).frame) more others)
  goes_on history more others =
      simulated_from-append (sim_at earlier o.frame) (leak o run) (draws t o run) (wire t o run) more others many_draws (simulate_is_wire t o run earlier count history)
      ∙ ap (λ n. ahead (wire t o run) (simulated_from (sim_at now.kept n) more others)) next_after

-- what they leak, epoch by epoch
abbrev pub leaks_of : Epochs → List Leak
leaks_of es = joined (λ key o run. leak o run) [] es

-- All epochs, each under a table that its key and its run determine.

module _ (T : List ℕ → Run → Table) (key : List ℕ) where
  abbrev pub wires : Epochs → List (List FrameText)
  wires es = joined (λ k o run. wire (T k run) o run) key es

  abbrev pub draws_all : Epochs → List (List Draw)
  draws_all es = joined (λ k o run. draws (T k run) o run) key es

  -- from a simulator that stands before the first epoch
  record Stands (es : Epochs) (earlier : List Kept) : Type 0 where
    kept : List Kept
    count : length kept ≡ (next_begins es).command
    goes : (more : List Leak) (others : List (List Draw))
        → simulated_from (sim_at earlier (first_begins es).frame) (leaks_of es ++ more) (draws_all es ++ others) ≡ ahead (wires es) (simulated_from (sim_at kept (next_begins es).frame) more others)

  ahead-both : {A : Type 0} (xs ys : List A) (o : Option (List A)) → ahead xs (ahead ys o) ≡ ahead (xs ++ ys) o
  ahead-both xs ys None = refl
  ahead-both xs ys (Some zs) = ap (λ all. Some all) (sym (append_assoc xs ys zs))

  stands : (es : Epochs) (earlier : List Kept) → length earlier ≡ (first_begins es).command → AreEpochs es → Stands es earlier
  stands (From o run) earlier count are = record {
    kept = (now (T key run) o run earlier count).kept;
    count = count_after (T key run) o run earlier count;
    goes = goes_on (T key run) o run earlier count are;
  }
  stands (Renewed before own run) earlier count are =
      let had = stands before earlier count are.0 in
      let o = next_begins before in
      let t = T own run in record {
        kept = (now t o run had.kept had.count).kept;
        count = count_after t o run had.kept had.count;
        goes = λ more others.
            (λ i. simulated_from (sim_at earlier (first_begins before).frame) (append_assoc (leaks_of before) (leak o run) more i) (append_assoc (draws_all before) (draws t o run) others i))
            ∙ had.goes (leak o run ++ more) (draws t o run ++ others)
            ∙ ap (ahead (wires before)) (goes_on t o run had.kept had.count are.2 more others)
            ∙ ahead-both (wires before) (wire t o run) _;
      }

  -- the simulator makes the wire of all
  pub simulated_from-epochs : (es : Epochs) (earlier : List Kept) → length earlier ≡ (first_begins es).command → AreEpochs es
      → simulated_from (sim_at earlier (first_begins es).frame) (leaks_of es) (draws_all es) ≡ Some (wires es)
  simulated_from-epochs es earlier count are =
      (λ i. simulated_from (sim_at earlier (first_begins es).frame) (sym (append-nil (leaks_of es)) i) (sym (append-nil (draws_all es)) i))
      ∙ (stands es earlier count are).goes [] []
      ∙ ap (λ all. Some all) (append-nil (wires es))
