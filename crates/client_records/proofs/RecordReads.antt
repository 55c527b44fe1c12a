-- What reading a record answers: by its fault, by the first byte, and what it means.
use Rattle.std.proofs.Common.{◌≡◌, ◌≢◌, ℕ, List, ◌∷◌, refl, sym, ap, subst, ◌∙◌}
use Rattle.std.specs.Prelude.{Result, Ok, Err, IfOk, IsOkAnd}
use Rattle.client_records.specs.Records.{RecordText, IsNoRecord, IsRecordOf}
use Rattle.client_records.specs.RecordView.{HasKeys, ReadsRecord, record_text}
use Rattle.client_records.specs.TakenMemory.{TakesMemory}
use Rattle.client_records.specs.declared.client_record.Record.{Record}
use Rattle.client_records.specs.declared.fault.ReadFault.{ReadFault}
use Rattle.client_records.specs.declared.fault.ReadFault.TheVariants.{BadRecord, NoMemory}
use Rattle.client_records.proofs.RecordOnce.{record_once}

-- bytes that say nothing
pub reads_bad : (keys : ℕ × ℕ) (payload : List ℕ) (r : Result Record ReadFault) → r ≡ Err BadRecord → IsNoRecord payload → ReadsRecord keys payload r
reads_bad keys payload r is none = subst (ReadsRecord keys payload) (sym is) none

-- a fault: bytes that say something aren't answered as none, and memory is taken for those that are answered as too many for it
pub reads_fault : (keys : ℕ × ℕ) (payload : List ℕ) (r : Result Record ReadFault) (e : ReadFault) → r ≡ Err e → (e ≡ BadRecord → IsNoRecord payload) → (e ≡ NoMemory → TakesMemory payload) → ReadsRecord keys payload r
reads_fault keys payload r e is none taken = subst (ReadsRecord keys payload) (sym is) (by e none taken)
  where
    by : (f : ReadFault) → (f ≡ BadRecord → IsNoRecord payload) → (f ≡ NoMemory → TakesMemory payload) → ReadsRecord keys payload (Err f)
    by BadRecord bad memory = bad refl
    by NoMemory bad memory = memory refl

-- bytes of a kind
pub reads_kind : (keys : ℕ × ℕ) (payload rest : List ℕ) (k n : ℕ) (r : Result Record ReadFault) → payload ≡ k ∷ rest → k ≡ n → ReadsRecord keys (n ∷ rest) r → ReadsRecord keys payload r
reads_kind keys payload rest k n r read is reads = subst (λ (p : List ℕ). ReadsRecord keys p r) (sym (read ∙ ap (λ (m : ℕ). m ∷ rest) is)) reads

module _ (keys : ℕ × ℕ) (payload : List ℕ) where
  pub reads_found : (r : Result Record ReadFault) → ReadsRecord keys payload r → IfOk r (λ x. IsRecordOf payload (record_text x))
  reads_found (Ok x) reads = reads.0
  reads_found (Err e) reads = tt

  pub reads_keys : (r : Result Record ReadFault) → ReadsRecord keys payload r → IfOk r (λ x. HasKeys keys x)
  reads_keys (Ok x) reads = reads.1
  reads_keys (Err e) reads = tt

  pub reads_none : (r : Result Record ReadFault) → ReadsRecord keys payload r → r ≡ Err BadRecord → IsNoRecord payload
  reads_none r reads is = subst (ReadsRecord keys payload) is reads

  pub reads_memory : (r : Result Record ReadFault) → ReadsRecord keys payload r → r ≡ Err NoMemory → TakesMemory payload
  reads_memory r reads is = subst (ReadsRecord keys payload) is reads

  pub reads_only : (r : Result Record ReadFault) → ReadsRecord keys payload r → (text : RecordText) → IsRecordOf payload text → r ≢ Err NoMemory → IsOkAnd r (λ x. record_text x ≡ text)
  reads_only (Ok x) reads text is memory = record_once payload (record_text x) text reads.0 is
  reads_only (Err BadRecord) reads text is memory = absurd (reads text is)
  reads_only (Err NoMemory) reads text is memory = absurd (memory refl)
