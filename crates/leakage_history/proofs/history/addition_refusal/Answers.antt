use Rattle.std.proofs.Common.{Option, Some, is_some, not, position, sym, ap, ◌∙◌}
use Rattle.std.specs.Prelude.{option_map, if◌then◌else◌}
use Rattle.client_registry.specs.Facts.{has_counter}
use Rattle.client_registry.specs.Registered.{facts}
use Rattle.leakage_history.specs.declared.fault.HistoryFault.{HistoryFault}
use Rattle.leakage_history.specs.declared.fault.HistoryFault.TheVariants.{AlreadyLive, CounterFull}
use Rattle.leakage_history.proofs.Refusals.{push_refusal-add}
use Rattle.leakage_history.proofs.history.addition_refusal.Goals as goal

pub returns-then-is_live-clause-refusal : goal.returns-then-is_live-clause-refusal
returns-then-is_live-clause-refusal c = λ run stands.
    let r = c.args.registry.now in
    let d = c.args.doc.now in
    let full : Option HistoryFault = option_map (λ p. CounterFull p) (position (λ word. not (has_counter (facts r) d.id word)) d.words) in
    let live = ap (λ id. is_some ((facts r).live id)) (sym c.id.ensures) ∙ sym c.is_live.ensures ∙ c.if-is_live.true in
    ap (λ id. Some (AlreadyLive id)) (c.get.ensures.number ∙ c.id-then-is_live.ensures)
    ∙ sym (ap (λ b. if b then Some (AlreadyLive d.id) else full) live)
    ∙ sym (push_refusal-add r run stands d)

pub returns-in-Some-clause-refusal : goal.returns-in-Some-clause-refusal
returns-in-Some-clause-refusal c = λ run stands.
    let r = c.args.registry.now in
    let d = c.args.doc.now in
    let full : Option HistoryFault = option_map (λ p. CounterFull p) (position (λ word. not (has_counter (facts r) d.id word)) d.words) in
    let live = ap (λ id. is_some ((facts r).live id)) (sym c.id.ensures) ∙ sym c.is_live.ensures ∙ c.if-is_live.false in
    ap (option_map (λ p. CounterFull p)) c.in-Some.ensures.position
    ∙ sym (ap (λ b. if b then Some (AlreadyLive d.id) else full) live)
    ∙ sym (push_refusal-add r run stands d)

pub returns-in-None-clause-refusal : goal.returns-in-None-clause-refusal
returns-in-None-clause-refusal c = λ run stands.
    let r = c.args.registry.now in
    let d = c.args.doc.now in
    let full : Option HistoryFault = option_map (λ p. CounterFull p) (position (λ word. not (has_counter (facts r) d.id word)) d.words) in
    let live = ap (λ id. is_some ((facts r).live id)) (sym c.id.ensures) ∙ sym c.is_live.ensures ∙ c.if-is_live.false in
    ap (option_map (λ p. CounterFull p)) c.in-None.ensures.position
    ∙ sym (ap (λ b. if b then Some (AlreadyLive d.id) else full) live)
    ∙ sym (push_refusal-add r run stands d)
