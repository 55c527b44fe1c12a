-- The file of a journal at rest is exactly that of its records.
use Rattle.std.proofs.Common.{◌≡◌, ℕ, List, None, Some, sym, ap, ◌∙◌, subst}
use Rattle.std.specs.Prelude.{All, IfSome, Option}
use Rattle.client_journal.specs.Openings.{IsOfRecords}
use Rattle.sse_journal.proofs.FileRecords.{records_of_journal}
use Rattle.sse_journal.specs.FileRecords.{records_in_file}
use Rattle.sse_journal.specs.Files.{IsPayload, file}
use Rattle.sse_journal.specs.declared.journal.Journal.{Journal}
use Rattle.client_journal.specs.DiskRuns.{IsExact}

-- a disk that holds the records of a journal has a file that is exactly theirs, and a crash leaves no other
pub holds_exact : (j : Journal) (content : Option (List ℕ)) (images : List ℕ → Type 0) → IfSome content (λ file. IsOfRecords j content images) → IsExact content images
holds_exact j None images of = tt
holds_exact j (Some held) images of =
    let records : records_in_file held ≡ of.0 = (let is = records_of_journal of.0 j (Some held) images of.1 in cc) in
    let reads : held ≡ file of.0 = (let is = of.1.settled.reads in cc) in
    record {
      payloads_are = subst (All IsPayload) (sym records) of.1.payloads_are;
      are = reads ∙ ap (λ payloads. file payloads) (sym records);
      durable = λ image left. of.1.settled.durable image left ∙ sym reads;
    }
