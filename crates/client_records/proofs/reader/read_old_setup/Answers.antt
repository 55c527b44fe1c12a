use Rattle.std.proofs.Common.{rules, ◌≡◌, ℕ, ◌<◌, List, ◌∷◌, ◌++◌, length, Err, ap, ◌∙◌, arith}
use Rattle.std.specs.Int.{w16, to_be_bytes}
use Rattle.std.proofs.lemmas.List.{length-append}
use Rattle.client_registry.specs.HashNumbers.{hash_numbers}
use Rattle.client_records.specs.declared.fault.ReadFault.TheVariants.{BadRecord, NoMemory}
use Rattle.client_records.proofs.MemoryLaws.{old_setup_takes}
use Rattle.client_records.proofs.RecordReads.{reads_bad, reads_fault}
use Rattle.client_records.proofs.Setups.{no_old_setup_documents, no_old_setup_short, old_setup_read}
use Rattle.client_records.proofs.reader.read_old_setup.Goals as goal

pub returns-in_err-mark : goal.returns-in_err-mark
returns-in_err-mark c =
    reads_bad (hash_numbers c.args.keys) (0x11 ∷ c.args.unread) c.from_residual.result (search rules) (no_old_setup_short c.args.unread (omega (arith, c.in_err-mark.ensures.short)))

pub returns-in_err-b : goal.returns-in_err-b
returns-in_err-b c =
    let size : length c.in_ok-mark.mark ≡ 16 = c.in_ok-mark.ensures.len in
    let short : length c.args.unread < 24 = omega (arith, size, c.in_err-b.ensures.short, ap length c.in_ok-mark.ensures.read, length-append c.in_ok-mark.mark c.read_array.new.self) in
    reads_bad (hash_numbers c.args.keys) (0x11 ∷ c.args.unread) c.from_residual-in_err-b.result (search rules) (no_old_setup_short c.args.unread short)

pub returns-in_err-big : goal.returns-in_err-big
returns-in_err-big c =
    let size : length c.in_ok-mark.mark ≡ 16 = c.in_ok-mark.ensures.len in
    let short : length c.args.unread < 24 =
    omega (arith, size, c.in_err-big.ensures.short, ap length c.in_ok-b.ensures.read, ap length c.in_ok-mark.ensures.read, length-append c.in_ok-mark.mark c.read_array.new.self) in
    reads_bad (hash_numbers c.args.keys) (0x11 ∷ c.args.unread) c.from_residual-in_err-big.result (search rules) (no_old_setup_short c.args.unread short)

pub returns-in_err-docs : goal.returns-in_err-docs
returns-in_err-docs c =
    let size : length c.in_ok-mark.mark ≡ 16 = c.in_ok-mark.ensures.len in
    let read =
    c.in_ok-mark.ensures.read
    ∙ ap (λ (l : List ℕ). c.in_ok-mark.mark ++ l) (c.in_ok-b.ensures.read ∙ ap (λ (l : List ℕ). to_be_bytes w16 c.in_ok-b.b ++ l) c.in_ok-big.ensures.read) in
    reads_fault (hash_numbers c.args.keys) (0x11 ∷ c.args.unread) c.from_residual-in_err-docs.result c.in_err-docs.field-0.0 (search rules) (
    λ bad. let was : c.read_whole_documents.result ≡ Err BadRecord = search rules in
    no_old_setup_documents c.args.unread c.in_ok-mark.mark c.in_ok-b.b c.in_ok-big.big c.read_u16-2.new.self size read (c.read_whole_documents.ensures.none was)
    ) (
    λ memory. let was : c.read_whole_documents.result ≡ Err NoMemory = search rules in
    old_setup_takes c.args.unread c.in_ok-mark.mark c.read_u16-2.new.self c.in_ok-b.b c.in_ok-big.big size read (c.read_whole_documents.ensures.memory was)
    )

pub returns : goal.returns
returns c =
    let size : length c.in_ok-mark.mark ≡ 16 = c.in_ok-mark.ensures.len in
    let read =
    c.in_ok-mark.ensures.read
    ∙ ap (λ (l : List ℕ). c.in_ok-mark.mark ++ l) (
    c.in_ok-b.ensures.read
    ∙ ap (λ (l : List ℕ). to_be_bytes w16 c.in_ok-b.b ++ l) (c.in_ok-big.ensures.read ∙ ap (λ (l : List ℕ). to_be_bytes w16 c.in_ok-big.big ++ l) c.in_ok-docs.ensures.read)
    ) in (
      old_setup_read c.args.unread c.in_ok-mark.mark c.in_ok-docs.docs.documents c.in_ok-b.b c.in_ok-big.big size (search rules) (search rules) c.in_ok-docs.ensures.valid read,
      c.in_ok-docs.ensures.keys,
    )
