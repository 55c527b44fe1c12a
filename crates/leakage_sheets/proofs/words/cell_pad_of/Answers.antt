use Rattle.std.proofs.Common.{◌∙◌, replicate, ap}
use Rattle.sse_model.specs.Names.{cell_size}
use Rattle.leakage_sheets.proofs.Zeros.{pad-written}
use Rattle.leakage_sheets.proofs.words.cell_pad_of.Goals as goal

pub returns : goal.returns
returns g c =
    pad-written (λ len. g.K.Keyed.pad c.args.token.now.pad_key 0 len) c.open_cell.new.cell c.as_mut_slice.result.now c.in_ok-pad.pad.items c.in_ok-pad.pad.len (cell_size c.args.shape)
    (g.met.K.Keyed.pad_length c.args.token.now.pad_key 0)
    (c.as_mut_slice.ensures.value ∙ c.in_ok-pad.ensures.items_if_clones_equal (λ y is. is) ∙ ap (λ n. replicate n 0) c.cell_size.ensures.size)
    c.open_cell.ensures (c.in_ok-pad.ensures.len ∙ c.cell_size.ensures.size)
