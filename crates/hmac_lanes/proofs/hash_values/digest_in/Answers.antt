use Rattle.std.proofs.Common.{rules, ◌≡◌, ◌*◌, length, arith, sym, ap, ◌∙◌, refl}
use Rattle.std.specs.Int.{w32, to_be_bytes}
use Rattle.std.proofs.lemmas.List.{take_all}
use Rattle.std.proofs.lemmas.Slice.{overwrites}
use Rattle.sha2.specs.Sha256.{digest_bytes}
use Rattle.sha2.proofs.Absorbing256.{digest_more}
use Rattle.sha256_lanes.specs.Lanes.{lane}
use Rattle.sha256_lanes.proofs.Lanes.{slice_index-lane}
use Rattle.hmac_lanes.proofs.hash_values.digest_in.Goals as goal

pub loop-i-init : goal.loop-i-init
unfolding digest_bytes
loop-i-init c = (refl, refl)

pub loop-i-preserved : goal.loop-i-preserved
loop-i-preserved c =
    let word = slice_index-lane c.args.j c.args.hash_values.now c.loop-i.i in (
      search (rules, overwrites),
      digest_more c.loop-i.digest (lane c.args.j c.args.hash_values.now) c.copy_from_slice.new.self c.loop-i.i _ c.loop-i.invariant.1 (omega arith)
          (c.copy_from_slice.ensures.after ∙ c.to_be_bytes.ensures ∙ ap (to_be_bytes w32) (sym word)),
    )
