use Rattle.std.proofs.Common.{rules}
use Rattle.client_registry.specs.Setup.{setup_with}
use Rattle.client_records.proofs.Sizes.{setup_size}
use Rattle.client_records.proofs.writer.write_setup.Goals as goal

pub returns-in_err-reserve_exact-clause-most : goal.returns-in_err-reserve_exact-clause-most
returns-in_err-reserve_exact-clause-most c =
    setup_size c.args.mark.now (setup_with c.args.docs.now.documents c.args.b c.args.big c.args.pad) (search rules) c.documents_len.ensures.valid

pub returns-clause-most : goal.returns-clause-most
returns-clause-most c =
    setup_size c.args.mark.now (setup_with c.args.docs.now.documents c.args.b c.args.big c.args.pad) (search rules) c.documents_len.ensures.valid
