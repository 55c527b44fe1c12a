use Rattle.std.proofs.Common.{◌++◌, ap, ◌∙◌}
use Rattle.std.proofs.lemmas.List.{drop-replicate}
use Rattle.hmac_lanes.proofs.blocks.in_front.Goals as goal

pub returns : goal.returns
returns c = c.write_front.ensures ∙ ap (λ zeros. c.args.bytes.now ++ zeros) (drop-replicate _ 64 0)
