-- The leakage and the draws of the first part of a history are the first of the whole's, and so is all that passes.
use Rattle.std.proofs.Common.{◌≡◌, ℕ, List, [], ◌∷◌, ◌++◌, map, None, Some, refl, sym, ap, ◌∙◌}
use Rattle.std.specs.Prelude.{flat_map}
use Rattle.std.proofs.lemmas.List.{append-nil, map-append}
use Rattle.std.proofs.lemmas.List.Concat.{flat_map-append}
use Rattle.client_registry.proofs.HistoryLaws.{IsKept-first, joined-first}
use Rattle.client_registry.proofs.OverLaws.{over-append}
use Rattle.client_registry.specs.Command.{Command}
use Rattle.client_registry.specs.Histories.{IsKept, IsWhole, IsFirstOf}
use Rattle.client_registry.specs.Over.{over}
use Rattle.client_registry.specs.Run.{Run, Offsets, History, at_first}
use Rattle.keyed_fn.specs.KeyedFn.{KeyedFn}
use Rattle.sse_frames.specs.Exchange.{Passed, greeting}
use Rattle.def_leakage.proofs.Draws.{ranks_in}
use Rattle.def_leakage.proofs.Sessions.{session_is_simulated}
use Rattle.def_leakage.specs.DrawnValues.{draw, drawings_of_setup, drawings_by, drawings, draws}
use Rattle.def_leakage.specs.Histories.{leak_in, draws_in}
use Rattle.def_leakage.specs.CommandLeaks.{leak_of_setup, leak_by, leak}
use Rattle.sse_model.proofs.Prefixes.{run_of, exchanged_by, transcript-append}
use Rattle.sse_model.specs.Histories.{table_at}
use Rattle.sse_model.specs.Names.{Table}
use Rattle.sse_model.specs.Transcript.{transcript, session}
use Rattle.sse_simulator.specs.Leaks.{Leak, Draw}
use Rattle.sse_simulator.specs.Simulator.{simulated}

-- of commands, and others after them
pub leak-append : (o : Offsets) (run : Run) (cs : List Command) → leak o (run_of run.setup (run.later ++ cs)) ≡ leak o run ++ over (leak_by o run.setup) run.later cs
leak-append o run cs = ap (λ rest. leak_of_setup o.epoch run.setup ∷ rest) (over-append (leak_by o run.setup) [] run.later cs)

pub draws-append : (t : Table) (o : Offsets) (run : Run) (cs : List Command)
    → draws t o (run_of run.setup (run.later ++ cs)) ≡ draws t o run ++ map (map (draw t (ranks_in t o.epoch run.setup))) (over (drawings_by o.epoch run.setup) run.later cs)
draws-append t o run cs =
    let drawn = map (draw t (ranks_in t o.epoch run.setup)) in
    ap (λ rest. map drawn (drawings_of_setup o.epoch run.setup ∷ rest)) (over-append (drawings_by o.epoch run.setup) [] run.later cs)
    ∙ map-append drawn (drawings o run) (over (drawings_by o.epoch run.setup) run.later cs)

leaks-more : (o : Offsets) (run : Run) (cs : List Command) → leak o (record { setup = run.setup; later = run.later ++ cs }) ≡ leak o run ++ over (leak_by o run.setup) run.later cs
leaks-more o run cs = leak-append o run cs

-- Promise P146 (inside): A history's leakage, draws and simulated traffic up to a command don't depend on later commands.
--   assumes: kept limits
pub leak_in-first : (part whole : History) → IsFirstOf part whole → (more : List Leak) × (leak_in whole ≡ leak_in part ++ more)
leak_in-first None whole p = (leak_in whole, refl)
leak_in-first (Some es) None p = absurd p
leak_in-first (Some es) (Some whole) p =
    let all = joined-first (λ key o run. leak o run) (λ key o run cs. over (leak_by o run.setup) run.later cs) (λ key o run cs. leaks-more o run cs) [] es p.0 in
    (all.0, ap (λ xs. leak_in (Some xs)) p.1 ∙ all.1)

module _ (f : KeyedFn) (key : List ℕ) where
  -- Promise P146, also here
  pub draws_in-first : (part whole : History) → IsFirstOf part whole → (more : List (List Draw)) × (draws_in f key whole ≡ draws_in f key part ++ more)
  draws_in-first None whole p = (draws_in f key whole, refl)
  draws_in-first (Some es) None p = absurd p
  draws_in-first (Some es) (Some whole) p =
      let all = joined-first (λ own o run. draws (table_at f own run) o run)
      (λ own o run cs. map (map (draw (table_at f own run) (ranks_in (table_at f own run) o.epoch run.setup))) (over (drawings_by o.epoch run.setup) run.later cs))
      (λ own o run cs. draws-append (table_at f own run) o run cs) key es p.0 in
      (all.0, ap (λ xs. draws_in f key (Some xs)) p.1 ∙ all.1)

  transcripts-more : (own : List ℕ) (o : Offsets) (run : Run) (cs : List Command)
      → flat_map (λ passed. passed) (transcript (table_at f own run) o (record { setup = run.setup; later = run.later ++ cs }))
      ≡ flat_map (λ passed. passed) (transcript (table_at f own run) o run) ++ flat_map (λ passed. passed) (over (exchanged_by (table_at f own run) o run.setup) run.later cs)
  transcripts-more own o run cs =
      ap (flat_map (λ passed. passed)) (transcript-append (table_at f own run) o run.setup run.later cs)
      ∙ flat_map-append (λ passed. passed) (transcript (table_at f own run) o run) (over (exchanged_by (table_at f own run) o run.setup) run.later cs)

  -- Promise P146, also here
  pub session-first : (part whole : History) → IsFirstOf part whole → (more : List Passed) × (session f key whole ≡ session f key part ++ more)
  session-first None None p = ([], sym (append-nil (greeting 0)))
  session-first None (Some es) p = (_, refl)
  session-first (Some es) None p = absurd p
  session-first (Some es) (Some whole) p =
      let all = joined-first (λ own o run. flat_map (λ passed. passed) (transcript (table_at f own run) o run))
      (λ own o run cs. flat_map (λ passed. passed) (over (exchanged_by (table_at f own run) o run.setup) run.later cs)) transcripts-more key es p.0 in
      (all.0, ap (λ xs. session f key (Some xs)) p.1 ∙ ap (λ passed. greeting 0 ++ passed) all.1)

  -- Promise P146, also here
  -- what the simulator makes of the first part is the first of what it makes of the whole
  pub simulated-first : (part whole : History) → IsFirstOf part whole → IsWhole part → IsWhole whole → IsKept whole
      → (front : List Passed) × (more : List Passed) × (simulated (leak_in part) (draws_in f key part) ≡ Some front) × (simulated (leak_in whole) (draws_in f key whole) ≡ Some (front ++ more))
  simulated-first part whole p one all kept =
      let later = session-first part whole p in
      (session f key part, later.0, session_is_simulated f key part one (IsKept-first part whole p kept), session_is_simulated f key whole all kept ∙ ap Some later.1)
