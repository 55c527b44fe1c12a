-- All that passes for a history is what the simulator makes of its leakage and its draws.
use Rattle.std.proofs.Common.{◌≡◌, ℕ, List, [], ◌∷◌, ◌++◌, Some, None, refl, sym, ap, ◌∙◌}
use Rattle.std.specs.Prelude.{flat_map, option_map}
use Rattle.std.proofs.lemmas.List.Concat.{flat_map-append}
use Rattle.sse_model.specs.Wire.{wire}
use Rattle.client_registry.specs.Command.{Command, Add, Delete, Search}
use Rattle.client_registry.specs.Histories.{IsKept, IsWhole, shown_by, shown_in_turn}
use Rattle.client_registry.specs.Live.{shown}
use Rattle.client_registry.specs.Over.{over}
use Rattle.client_registry.specs.Epochs.{next_begins}
use Rattle.client_registry.specs.Run.{History, Run, Offsets, Epochs, From, Renewed}
use Rattle.client_registry.specs.Setup.{Setup}
use Rattle.keyed_fn.specs.KeyedFn.{KeyedFn}
use Rattle.sse_frames.specs.Exchange.{exchange, greeting}
use Rattle.def_leakage.proofs.Epochs.{wires, simulated_from-epochs}
use Rattle.def_leakage.specs.Histories.{leak_in, draws_in}
use Rattle.def_leakage.specs.CommandLeaks.{leak_by, leak}
use Rattle.sse_model.proofs.ExchangeLaws.{session-exchange}
use Rattle.sse_model.specs.Histories.{table_at, frames_sent}
use Rattle.sse_model.specs.Transcript.{session}
use Rattle.sse_simulator.specs.Simulator.{answer_of, simulated_from, simulated}

-- the leakage of searches tells what they show
answers : (o : Offsets) (s : Setup) (past later : List Command) → flat_map answer_of (over (leak_by o s) past later) ≡ flat_map (λ r. r) (over (shown_by s) past later)
answers o s past [] = refl
answers o s past (Add d ∷ later) = answers o s (past ++ Add d ∷ []) later
answers o s past (Delete id ∷ later) = answers o s (past ++ Delete id ∷ []) later
answers o s past (Search word ∷ later) = ap (λ rest. shown s past word ∷ rest) (answers o s (past ++ Search word ∷ []) later)

answers_of : (es : Epochs) → flat_map answer_of (leak_in (Some es)) ≡ shown_in_turn (Some es)
answers_of (From o run) = answers o run.setup [] run.later
answers_of (Renewed before own run) =
    flat_map-append answer_of (leak_in (Some before)) (leak (next_begins before) run) ∙ (λ i. answers_of before i ++ answers (next_begins before) run.setup [] run.later i)

flat_wires : (f : KeyedFn) (key : List ℕ) (es : Epochs) → flat_map (λ fs. fs) (wires (table_at f) key es) ≡ frames_sent f key (Some es)
flat_wires f key (From o run) = refl
flat_wires f key (Renewed before own run) =
    flat_map-append (λ fs. fs) (wires (table_at f) key before) (wire (table_at f own run) (next_begins before) run) ∙ (λ i. flat_wires f key before i ++ flat_map (λ fs. fs) (wire (table_at f own run) (next_begins before) run))

-- Promise P25, also here
-- for every whole history and under every keyed function, whatever values are equal
pub session_is_simulated : (f : KeyedFn) (key : List ℕ) (h : History) → IsWhole h → IsKept h → simulated (leak_in h) (draws_in f key h) ≡ Some (session f key h)
session_is_simulated f key None whole kept = refl
session_is_simulated f key (Some es) whole kept =
    let made = option_map (λ frames. greeting 0 ++ exchange (flat_map answer_of (leak_in (Some es))) (flat_map (λ fs. fs) frames)) in
    ap (λ (n : ℕ). made (simulated_from (record { kept = []; next = n }) (leak_in (Some es)) (draws_in f key (Some es)))) (λ i. (sym whole i).frame)
    ∙ ap made (simulated_from-epochs (table_at f) key es [] (ap (λ (o : Offsets). o.command) (sym whole)) kept.0)
    ∙ ap Some ((λ i. greeting 0 ++ exchange (answers_of es i) (flat_wires f key es i)) ∙ sym (session-exchange f key (Some es)))
