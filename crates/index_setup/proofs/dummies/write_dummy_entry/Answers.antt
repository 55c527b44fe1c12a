use Rattle.std.proofs.Common.{◌-◌, ◌++◌, length, replicate, ap, ◌∙◌, arith}
use Rattle.keyed_fn.specs.KeyedFn.{keyed_fn}
use Rattle.keyed_fn.specs.Xored.{xored}
use Rattle.word_keys.specs.PadName.{named_pad}
use Rattle.index_setup.proofs.PlacedLaws.{behind_label, label_written}
use Rattle.index_setup.proofs.dummies.write_dummy_entry.Goals as goal

pub returns : goal.returns
returns g c =
    let f = keyed_fn g.K.Keyed.prf g.K.Keyed.pad in
    let size = length c.args.out.now - 16 in
    let fits = behind_label c.args.label.now c.copy_from_slice.new.self c.args.out.now size c.copy_from_slice.ensures.after c.told-label (omega (arith, c.requires.some)) in
    label_written c.args.label.now c.copy_from_slice.new.self c.args.out.now c.seal_zeros.new.out c.copy_from_slice.ensures.after c.told-label
    ∙ ap (λ bytes. c.args.label.now ++ bytes) (c.seal_zeros.ensures ∙ ap (λ n. xored (replicate n 0) (named_pad f c.args.pad n)) fits)
