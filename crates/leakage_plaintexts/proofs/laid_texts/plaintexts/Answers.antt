use Rattle.std.proofs.Common.{◌≡◌, ◌-◌, ◌++◌, sym, ap, subst, ◌∙◌}
use Rattle.client_registry.specs.Setup.{Setup}
use Rattle.index_setup.proofs.AcceptedLaws.{dummy_blocks-counted, dummy_entries-counted}
use Rattle.index_setup.specs.SizeOf.{IsSizeOf, setup_sized}
use Rattle.sse_model.specs.Positions.{block_positions, entry_positions}
use Rattle.leakage_plaintexts.proofs.ClearLaws.{clears_joined}
use Rattle.leakage_plaintexts.specs.Clears.{clears}
use Rattle.leakage_plaintexts.proofs.laid_texts.plaintexts.Goals as goal

pub push_cells-requires-clause-size : goal.push_cells-requires-clause-size
push_cells-requires-clause-size c = subst (λ docs. IsSizeOf docs c.setup_size-size.result) (sym c.docs-docs.ensures) c.setup_size-size.ensures.size

pub push_blocks-requires-clause-size : goal.push_blocks-requires-clause-size
push_blocks-requires-clause-size c = subst (λ docs. IsSizeOf docs c.setup_size-size.result) (sym c.docs-docs.ensures) c.setup_size-size.ensures.size

pub returns : goal.returns
returns c = λ epoch.
    let s : Setup = c.args.history.now.setup in
    let docs = c.docs-docs.result.now.documents in
    let size = c.setup_size-size.result in
    let same : setup_sized docs size ≡ s = ap (λ ds. setup_sized ds size) c.docs-docs.ensures ∙ c.setup_size-size.ensures.setup in
    let is : IsSizeOf docs size = subst (λ ds. IsSizeOf ds size) (sym c.docs-docs.ensures) c.setup_size-size.ensures.size in
    let ranks = c.args.ranks.now in
    clears_joined (setup_sized docs size) ranks epoch c.new-texts.result c.push_cells.new.texts c.push_zeros.new.texts c.push_blocks.new.texts c.push_zeros-2.new.texts
    (size.padded_words - size.words) (size.padded_blocks - size.blocks) c.cell_size.result c.block_size.result
    c.new-texts.ensures c.in_ok-push_cells.ensures c.in_ok-push_zeros.ensures c.in_ok-push_blocks.ensures c.in_ok-push_zeros-2.ensures
    (dummy_entries-counted docs size is) (dummy_blocks-counted docs size is) c.cell_size.ensures.size c.block_size.ensures.size
    ∙ ap (λ t. clears ranks (entry_positions epoch t ++ block_positions epoch t)) same
