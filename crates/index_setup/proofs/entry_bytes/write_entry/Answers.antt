use Rattle.std.proofs.Common.{◌≡◌, ◌+◌, ◌*◌, length, ◌∙◌, arith}
use Rattle.keyed_fn.specs.KeyedFn.{keyed_fn}
use Rattle.two_level.specs.Laid.{laid}
use Rattle.word_keys.specs.PadName.{named_pad}
use Rattle.index_setup.proofs.PlacedLaws.{behind_label, entry_written}
use Rattle.index_setup.proofs.entry_bytes.write_entry.Goals as goal

pub returns : goal.returns
returns g c =
    let f = keyed_fn g.K.Keyed.prf g.K.Keyed.pad in
    let size : length c.lay_cell.new.out ≡ 1 + 8 * c.args.shape.b =
    c.lay_cell.auto.out ∙ behind_label c.args.label.now c.copy_from_slice.new.self c.args.out.now (1 + 8 * c.args.shape.b) c.copy_from_slice.ensures.after c.told-label (omega (arith, c.requires.size)) in
    entry_written (laid c.args.shape c.args.ranks.now c.args.ids.now) c.args.label.now c.copy_from_slice.new.self c.args.out.now
    c.lay_cell.new.out c.seal.new.plaintext (1 + 8 * c.args.shape.b) (named_pad f c.args.pad) c.copy_from_slice.ensures.after c.told-label
    (omega (arith, c.requires.size)) c.lay_cell.ensures size c.seal.ensures
