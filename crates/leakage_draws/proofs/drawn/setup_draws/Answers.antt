use Rattle.std.proofs.Common.{◌≡◌, ℕ, length, map, ap, ◌∙◌, arith}
use Rattle.std.specs.Prelude.{flat_map}
use Rattle.std.proofs.lemmas.List.{length-map}
use Rattle.std.proofs.lemmas.Result.{IfOk-weaker}
use Rattle.client_registry.specs.Setup.{Setup}
use Rattle.client_registry.specs.Sized.{run_words}
use Rattle.leakage_history.specs.HashedRun.{run_of}
use Rattle.leakage_values.specs.Numbered.{numbered_drawing}
use Rattle.index_setup.proofs.RankWrites.{length-ranks_of}
use Rattle.def_leakage.specs.DrawnValues.{draw, drawings_of_setup}
use Rattle.sse_model.proofs.Counts.{length-block_positions}
use Rattle.sse_model.specs.Names.{Table}
use Rattle.sse_model.specs.Positions.{Position, block_positions, ranks_of}
use Rattle.sse_model.specs.Wire.{labels_in}
use Rattle.leakage_draws.proofs.GivenLaws.{length-setup, setup_drawn, setup_tags}
use Rattle.leakage_draws.specs.Given.{sheet_table, tags_given}
use Rattle.leakage_frames.specs.Views.{draw_view}
use Rattle.leakage_draws.proofs.drawn.setup_draws.Goals as goal

pub plaintexts-requires-clause-ranks : goal.plaintexts-requires-clause-ranks
plaintexts-requires-clause-ranks c =
    let s : Setup = c.args.history.now.setup in
    let epoch = c.requires.drawings.0 in
    let words = run_words (run_of c.args.history.now) in
    let tags = labels_in (sheet_table c.args.sheet.now words) (block_positions epoch s) in
    let are : flat_map (tags_given c.args.sheet.now) c.args.drawings.now ≡ tags = ap (flat_map (tags_given c.args.sheet.now)) c.requires.drawings.1 ∙ setup_tags c.args.sheet.now words epoch s in
    omega (
      arith,
      ap length c.deref.ensures.value,
      ap length (c.in_ok-ranks.ensures ∙ ap ranks_of are),
      length-ranks_of tags,
      length-map (block_positions epoch s) (λ (p : Position). sheet_table c.args.sheet.now words p.label),
      length-block_positions epoch s,
    )

pub draws_beside-requires : goal.draws_beside-requires
draws_beside-requires c =
    let s : Setup = c.args.history.now.setup in
    let epoch = c.requires.drawings.0 in
    length-setup (run_words (run_of c.args.history.now)) epoch s c.deref.result.now c.args.drawings.now c.as_slice.result.now c.requires.drawings.1 (c.as_slice.ensures ∙ c.in_ok-clears.ensures epoch)

pub returns : goal.returns
returns c =
    let s : Setup = c.args.history.now.setup in
    let words = run_words (run_of c.args.history.now) in
    let t : Table = sheet_table c.args.sheet.now words in
    IfOk-weaker c.draws_beside.result _
    (λ draws. (epoch : ℕ) → c.args.drawings.now ≡ map (numbered_drawing words) (drawings_of_setup epoch s) → map draw_view draws ≡ map (draw t (ranks_of (labels_in t (block_positions epoch s)))) (drawings_of_setup epoch s))
    (λ draws is epoch those.
    let are : flat_map (tags_given c.args.sheet.now) c.args.drawings.now ≡ labels_in t (block_positions epoch s) =
    ap (flat_map (tags_given c.args.sheet.now)) those ∙ setup_tags c.args.sheet.now words epoch s in
    let ranks : c.deref.result.now ≡ ranks_of (labels_in t (block_positions epoch s)) = c.deref.ensures.value ∙ c.in_ok-ranks.ensures ∙ ap ranks_of are in
    is
    ∙ setup_drawn c.args.sheet.now words epoch c.deref.result.now s c.args.drawings.now c.as_slice.result.now those (c.as_slice.ensures ∙ c.in_ok-clears.ensures epoch)
    ∙ ap (λ rs. map (draw t rs) (drawings_of_setup epoch s)) ranks)
    c.draws_beside.ensures
