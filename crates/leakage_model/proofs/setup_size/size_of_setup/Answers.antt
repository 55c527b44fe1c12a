use Rattle.std.proofs.Common.{◌≡◌, ℕ, List, sym, ap, ◌∙◌}
use Rattle.std.proofs.lemmas.Bool.{true≢false}
use Rattle.client_registry.specs.Acceptance.{blocks_of, padded_blocks, size_refusal}
use Rattle.client_registry.specs.Document.{Document}
use Rattle.client_registry.specs.Setup.{Setup, setup_with}
use Rattle.leakage_model.proofs.setup_size.size_of_setup.Goals as goal

-- the setup, by its parts
parts : (s : Setup) (docs : List Document) (b big pad : ℕ) → docs ≡ s.documents → b ≡ s.shape.b → big ≡ s.shape.big → pad ≡ s.pad → setup_with docs b big pad ≡ s
parts s docs b big pad docs_is b_is big_is pad_is = λ i. record { documents = docs_is i; shape = record { b = b_is i; big = big_is i }; pad = pad_is i }

pub unreachable-requires : goal.unreachable-requires
unreachable-requires c =
    let same = parts c.args.history.now.setup c.docs.result.now.documents c.from-b.result c.from-big.result c.from-pad.result c.docs.ensures (c.from-b.ensures ∙ c.b.ensures) (c.from-big.ensures ∙ c.big.ensures) (c.from-pad.ensures ∙ c.pad.ensures) in
    true≢false (sym (c.in-Err.ensures.accepted (ap size_refusal same ∙ c.requires)))

pub returns-clause-blocks : goal.returns-clause-blocks
returns-clause-blocks c =
    let same = parts c.args.history.now.setup c.docs.result.now.documents c.from-b.result c.from-big.result c.from-pad.result c.docs.ensures (c.from-b.ensures ∙ c.b.ensures) (c.from-big.ensures ∙ c.big.ensures) (c.from-pad.ensures ∙ c.pad.ensures) in
    c.in-Ok.ensures.blocks ∙ ap blocks_of same

pub returns-clause-padded_blocks : goal.returns-clause-padded_blocks
returns-clause-padded_blocks c =
    let same = parts c.args.history.now.setup c.docs.result.now.documents c.from-b.result c.from-big.result c.from-pad.result c.docs.ensures (c.from-b.ensures ∙ c.b.ensures) (c.from-big.ensures ∙ c.big.ensures) (c.from-pad.ensures ∙ c.pad.ensures) in
    c.in-Ok.ensures.padded_blocks ∙ ap padded_blocks same
