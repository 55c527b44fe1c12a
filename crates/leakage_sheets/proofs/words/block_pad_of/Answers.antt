use Rattle.std.proofs.Common.{◌≡◌, ◌+◌, length, ◌∙◌, replicate, ap, subst}
use Rattle.chacha_stream.specs.Xored.{xored}
use Rattle.sse_model.specs.Names.{block_size}
use Rattle.leakage_sheets.proofs.Zeros.{pad-written}
use Rattle.leakage_sheets.proofs.words.block_pad_of.Goals as goal

pub returns : goal.returns
returns g c =
    let key = c.args.token.now.pad_key in
    let zeros = c.as_mut_slice.result.now in
    pad-written (λ len. g.K.Keyed.pad key (c.args.block + 1) len) c.open_block.new.block zeros c.in_ok-pad.pad.items c.in_ok-pad.pad.len (block_size c.args.shape)
    (g.met.K.Keyed.pad_length key (c.args.block + 1))
    (c.as_mut_slice.ensures.value ∙ c.in_ok-pad.ensures.items_if_clones_equal (λ y is. is) ∙ ap (λ n. replicate n 0) c.block_size.ensures.size)
    (subst (λ b. c.open_block.new.block ≡ xored zeros (g.K.Keyed.pad key (b + 1) (length zeros))) c.in_ok-block.ensures c.open_block.ensures)
    (c.in_ok-pad.ensures.len ∙ c.block_size.ensures.size)
