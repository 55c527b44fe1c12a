use Rattle.std.proofs.Common.{rules, ◌≡◌, ◌∷◌, Err, inl, refl}
use Rattle.client_records.specs.declared.fault.ReadFault.TheVariants.{BadRecord, NoMemory}
use Rattle.client_records.proofs.RecordReads.{reads_fault}
use Rattle.client_records.proofs.Setups.{no_addition}
use Rattle.client_records.proofs.reader.read_addition.Goals as goal

pub returns-in_err-doc : goal.returns-in_err-doc
returns-in_err-doc c = λ keys.
    reads_fault keys (0x12 ∷ c.args.unread) c.from_residual.result c.in_err-doc.field-0.0 (search rules) (
    λ bad. let was : c.read_whole_document.result ≡ Err BadRecord = search rules in
    no_addition c.args.unread (c.read_whole_document.ensures.none was)
    ) (
    λ memory. let was : c.read_whole_document.result ≡ Err NoMemory = search rules in
    (c.args.unread, inl (refl, c.read_whole_document.ensures.memory was))
    )
