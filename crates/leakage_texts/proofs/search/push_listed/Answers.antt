use Rattle.std.proofs.Common.{◌≤◌, ◌++◌, length, map, ap, string_bytes, ◌∙◌, arith}
use Rattle.std.specs.Prelude.{flat_map}
use Rattle.std.proofs.lemmas.List.{length-map, take_all}
use Rattle.leakage_frames.specs.Views.{listed_view}
use Rattle.leakage_texts.specs.LeakTexts.{pair_text}
use Rattle.leakage_texts.proofs.LineLemmas.{push_flat}
use Rattle.leakage_texts.proofs.search.push_listed.Goals as goal

pub loop-pair-preserved : goal.loop-pair-preserved
loop-pair-preserved c =
    push_flat listed_view c.args.listed.now c.loop-pair.pair-index _ c.loop-pair-test.true pair_text (string_bytes c.args.line.now) (string_bytes c.loop-pair.line) (string_bytes c.push_pair.new.line) c.loop-pair.invariant c.in_ok-push_pair.ensures

pub returns : goal.returns
returns c =
    let pairs = map listed_view c.args.listed.now in
    let all : length pairs ≤ c.loop-pair.pair-index = omega (arith, length-map c.args.listed.now listed_view, c.loop-pair-test.false) in
    c.loop-pair.invariant ∙ ap (λ front. string_bytes c.args.line.now ++ flat_map pair_text front) (take_all c.loop-pair.pair-index pairs all)
