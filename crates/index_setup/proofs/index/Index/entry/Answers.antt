use Rattle.std.proofs.Common.{◌+◌, ◌*◌, ◌<◌, [], length, get_or, sym, ap, ◌∙◌, subst, arith}
use Rattle.list_packing.specs.Parts.{parts}
use Rattle.index_setup.proofs.PlacedLaws.{length-slot}
use Rattle.index_setup.proofs.index.Index.entry.Goals as goal

pub split_at-requires : goal.split_at-requires
split_at-requires c =
    let index = c.self.inside in
    let within : c.args.i < index.words = subst (λ seen. c.args.i < seen.words) (sym c.self.view_is) c.requires in
    let size = length-slot (17 + 8 * index.b) c.args.i index.words index.entries.items (omega arith) (omega (arith, c.self.invariant.whole)) within in
    let is = c.part.ensures ∙ ap (λ bytes. get_or (parts (17 + 8 * index.b) bytes) c.args.i []) c.deref.ensures.value in
    omega (arith, ap length is, size)
