use Rattle.std.proofs.Common.{◌≡◌, ◌+◌, ℕ, Option, length, None, Some, sym, ap, ◌∙◌}
use Rattle.std.specs.Prelude.{nat_lt, if◌then◌else◌}
use Rattle.std.specs.Int.{div_ceil}
use Rattle.std.specs.Option.{option_and_then, option_or}
use Rattle.std.proofs.lemmas.Result.{IfOk-weaker}
use Rattle.client_registry.specs.Acceptance.{padded_blocks, padded_words, size_refusal}
use Rattle.client_registry.specs.Setup.{setup_with, setup_words}
use Rattle.client_registry.specs.declared.size.Size.{Size}
use Rattle.leakage_history.proofs.LiveFaults.{by_parts, size_accepted, size_first}
use Rattle.leakage_history.specs.Renewals.{IsIndexSize, fault_of_size, frames_refusal, index_refusal}
use Rattle.leakage_history.specs.declared.renewal_fault.RenewalFault.{RenewalFault}
use Rattle.leakage_history.specs.declared.renewal_fault.RenewalFault.TheVariants.{HistoryFull}
use Rattle.leakage_history.proofs.renewed.size_within.Goals as goal

-- why so many entries and blocks aren't sent in as many frames
abbrev frames_refusal_at : (most words blocks : ℕ) → Option RenewalFault
frames_refusal_at most words blocks = if nat_lt most (2 + div_ceil words 1024 + div_ceil blocks 256) then Some HistoryFull else None

pub returns-in-Ok-clause-size : goal.returns-in-Ok-clause-size
returns-in-Ok-clause-size c =
    let docs = c.args.docs.now.documents in
    let is = by_parts docs c.args.history.now.setup c.from-b.result c.from-big.result c.from-pad.result (c.from-b.ensures ∙ c.b.ensures) (c.from-big.ensures ∙ c.big.ensures) (c.from-pad.ensures ∙ c.pad.ensures) in
    IfOk-weaker c.numbered.result (λ same. same ≡ c.in-Ok.size) (λ size. IsIndexSize size (record { documents = docs; shape = c.args.history.now.setup.shape; pad = c.args.history.now.setup.pad }))
    (λ size same.
    record {
      words = ap (λ (x : Size). x.words) same ∙ c.in-Ok.ensures.words ∙ ap (λ s. length (setup_words s)) is;
      padded_words = ap (λ (x : Size). x.padded_words) same ∙ c.in-Ok.ensures.padded_words ∙ ap padded_words is;
      padded_blocks = ap (λ (x : Size). x.padded_blocks) same ∙ c.in-Ok.ensures.padded_blocks ∙ ap padded_blocks is;
    })
    c.numbered.ensures.same

pub returns-in-Ok-clause-fault : goal.returns-in-Ok-clause-fault
returns-in-Ok-clause-fault c =
    let docs = c.args.docs.now.documents in
    let is = by_parts docs c.args.history.now.setup c.from-b.result c.from-big.result c.from-pad.result (c.from-b.ensures ∙ c.b.ensures) (c.from-big.ensures ∙ c.big.ensures) (c.from-pad.ensures ∙ c.pad.ensures) in
    let none = size_accepted Size c.in-Ok.size (size_refusal (setup_with docs c.from-b.result c.from-big.result c.from-pad.result)) c.in-Ok.ensures.refused in
    c.numbered.ensures.fault
    ∙ (λ i. frames_refusal_at c.args.most (c.in-Ok.ensures.padded_words i) (c.in-Ok.ensures.padded_blocks i))
    ∙ ap (λ first. option_or (option_and_then fault_of_size first) (frames_refusal c.args.most (setup_with docs c.from-b.result c.from-big.result c.from-pad.result))) (sym none)
    ∙ ap (index_refusal c.args.most) is

pub returns-in-Ok-clause-accepted : goal.returns-in-Ok-clause-accepted
returns-in-Ok-clause-accepted c =
    let docs = c.args.docs.now.documents in
    let is = by_parts docs c.args.history.now.setup c.from-b.result c.from-big.result c.from-pad.result (c.from-b.ensures ∙ c.b.ensures) (c.from-big.ensures ∙ c.big.ensures) (c.from-pad.ensures ∙ c.pad.ensures) in
    let none = size_accepted Size c.in-Ok.size (size_refusal (setup_with docs c.from-b.result c.from-big.result c.from-pad.result)) c.in-Ok.ensures.refused in
    IfOk-weaker c.numbered.result (λ same. same ≡ c.in-Ok.size) (λ size. size_refusal (record { documents = docs; shape = c.args.history.now.setup.shape; pad = c.args.history.now.setup.pad }) ≡ None) (λ size same. ap size_refusal (sym is) ∙ none) c.numbered.ensures.same

pub returns-in-Err-clause-fault : goal.returns-in-Err-clause-fault
returns-in-Err-clause-fault c =
    let docs = c.args.docs.now.documents in
    let s = setup_with docs c.from-b.result c.from-big.result c.from-pad.result in
    let is = by_parts docs c.args.history.now.setup c.from-b.result c.from-big.result c.from-pad.result (c.from-b.ensures ∙ c.b.ensures) (c.from-big.ensures ∙ c.big.ensures) (c.from-pad.ensures ∙ c.pad.ensures) in
    size_first Size (frames_refusal c.args.most s) (size_refusal s) c.in-Err.fault c.of_size.result c.in-Err.ensures.refused c.in-Err.ensures.accepted c.of_size.ensures ∙ ap (index_refusal c.args.most) is
