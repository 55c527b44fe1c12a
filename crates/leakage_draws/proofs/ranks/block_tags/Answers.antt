use Rattle.std.proofs.Common.{take, vec_len, refl, ap, ◌∙◌}
use Rattle.std.specs.Prelude.{flat_map}
use Rattle.std.proofs.lemmas.List.{take_all}
use Rattle.leakage_values.proofs.NameLaws.{one_front}
use Rattle.index_setup.proofs.TagLists.{tagged-append}
use Rattle.client_tag_order.specs.Tagged.{tagged_from}
use Rattle.leakage_draws.specs.Given.{tags_given}
use Rattle.leakage_draws.proofs.ranks.block_tags.Goals as goal

pub loop-drawing-preserved : goal.loop-drawing-preserved
loop-drawing-preserved c =
    let f = tags_given c.args.sheet.now in
    let drawings = c.args.drawings.now in
    let i = c.loop-drawing.drawing-index in
    record {
      tags =
          tagged-append (flat_map f (take i drawings)) _ (vec_len c.loop-drawing.tags) c.loop-drawing.tags.items _ c.loop-drawing.invariant.tags c.loop-drawing.tags.ok.0 c.in_ok-push_tag.ensures.tags
          ∙ ap (tagged_from 0) (one_front f drawings i _ (flat_map f (take i drawings)) _ c.loop-drawing-test.true refl refl);
      few = c.in_ok-push_tag.ensures.few;
    }

pub returns-clause-tags : goal.returns-clause-tags
returns-clause-tags c =
    c.loop-drawing.invariant.tags
    ∙ ap (λ ds. tagged_from 0 (flat_map (tags_given c.args.sheet.now) ds)) (take_all c.loop-drawing.drawing-index c.args.drawings.now c.loop-drawing-test.false)
