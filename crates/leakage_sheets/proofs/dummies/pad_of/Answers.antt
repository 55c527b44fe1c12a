use Rattle.std.proofs.Common.{◌≡◌, ℕ, List, IfOk, subst}
use Rattle.std.proofs.lemmas.List.{take-replicate}
use Rattle.leakage_sheets.proofs.Zeros.{pad-zeros}
use Rattle.leakage_sheets.proofs.dummies.pad_of.Goals as goal

pub returns : goal.returns
returns g c =
    let pad : ℕ → List ℕ = λ len. g.K.Keyed.pad c.args.slot.key c.args.slot.number len in
    subst (λ bytes. IfOk c.from_slice.result (λ v. v.items ≡ bytes))
    (pad-zeros pad _ c.seal.new.plaintext c.args.size (g.met.K.Keyed.pad_length c.args.slot.key c.args.slot.number) (take-replicate c.args.size 2048 0 c.requires) c.seal.ensures)
    c.from_slice.ensures.items
