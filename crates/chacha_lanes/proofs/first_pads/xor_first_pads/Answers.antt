use Rattle.std.proofs.Common.{◌≡◌, ◌≢◌, ◌<◌, ℕ, List, [], length, slice_index, slice_index_or, sym, ap, ◌∙◌, arith, get_or-set_other, length-set}
use Rattle.std.specs.Prelude.{slice_set}
use Rattle.std.proofs.lemmas.List.Edits.{fill_by_more}
use Rattle.chacha_stream.specs.Pad.{chacha_pad}
use Rattle.chacha_stream.specs.Xored.{xored}
use Rattle.chacha_lanes.proofs.Pads.{xored_first}
use Rattle.chacha_lanes.proofs.first_pads.xor_first_pads.Goals as goal

pub loop-j-preserved : goal.loop-j-preserved
loop-j-preserved g c =
    let j : ℕ = c.loop-j.j in
    let n : ℕ = slice_index c.args.numbers.now j in
    let key : List ℕ = slice_index_or c.args.keys.now j [] in
    let old : List ℕ = slice_index_or c.args.texts.now j [] in
    let before : slice_index_or c.loop-j.texts j [] ≡ old = c.loop-j.invariant.rest j (omega arith) in
    let long : length old ≡ g.row.N = ap length (sym before) ∙ c.xor_front.ensures.length in
    let text : c.xor_front.new.text ≡ xored old (chacha_pad key n g.row.N) =
    c.xor_front.ensures.text ∙ ap (λ (t : List ℕ). xored t (slice_index_or c.blocks-pads.result j [])) before
    ∙ ap (xored old) (c.blocks-pads.ensures j (omega arith))
    ∙ xored_first old key n g.row.N long c.requires in
    let within : j < length c.loop-j.texts = omega (arith, c.loop-j.invariant.count) in
    record {
      count = length-set c.loop-j.texts j _ ∙ c.loop-j.invariant.count;
      done = λ k below. ap (λ (v : List ℕ). slice_index_or (slice_set c.loop-j.texts j v) k []) text
          ∙ fill_by_more (λ k. xored (slice_index_or c.args.texts.now k []) (chacha_pad (slice_index_or c.args.keys.now k []) (slice_index c.args.numbers.now k) g.row.N)) c.loop-j.texts j [] within
          c.loop-j.invariant.done k below;
      rest = λ k above. let other : k ≢ j = omega arith in rw get_or-set_other (c.loop-j.invariant.rest k (omega arith));
    }

pub returns : goal.returns
returns g c j below = c.loop-j.invariant.done j (omega arith)
