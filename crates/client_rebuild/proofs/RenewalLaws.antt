-- A renewal is accepted behind the last record exactly where it is behind the history that this recalls.
use Rattle.std.proofs.Common.{◌≡◌, ℕ, ◌+◌, ◌^◌, ◌<◌, Bool, true, false, nat_lt, List, [], length, Option, None, Some, refl, sym, ap, subst, ◌∙◌, arith}
use Rattle.std.specs.Prelude.{Result, Ok, Err, IfErr, IfOk, bytes_eq, if◌then◌else◌}
use Rattle.std.specs.List.{list_any}
use Rattle.std.proofs.lemmas.Bool.{le-ltb}
use Rattle.client_live_docs.proofs.Renewed.{renewed-are_live}
use Rattle.client_live_docs.specs.AreLive.{AreLive}
use Rattle.client_live_docs.specs.LiveAfter.{live_refusal}
use Rattle.client_registry.proofs.LiveOnce.{rising_once}
use Rattle.client_registry.specs.Acceptance.{frames_needed, size_refusal}
use Rattle.client_registry.specs.Collected.{Collected}
use Rattle.client_registry.specs.Document.{Document}
use Rattle.client_registry.specs.Documents.{IsCollected, pairs_of}
use Rattle.client_registry.specs.Epochs.{setup_renewed}
use Rattle.client_registry.specs.Facts.{Facts}
use Rattle.client_registry.specs.Run.{Offsets, Run}
use Rattle.client_registry.specs.Setup.{Setup, setup_with}
use Rattle.client_registry.specs.Sized.{IsHistory, update_frames}
use Rattle.client_registry.specs.declared.faults.DocsFault.{DocsFault}
use Rattle.client_registry.specs.declared.faults.DocsFault.TheVariants as documents
use Rattle.client_rebuild.proofs.LastLaws.{facts-recalled, frames-recalled, pad-recalled, shape-recalled}
use Rattle.client_rebuild.specs.Recalls.{Recalls, facts_of_last, frames_of_last, pad_of_last, records_of_last, setup_in, shape_of_last}
use Rattle.client_rebuild.specs.Renewals.{AcceptsRenewal, IsRenewed, fault_of_docs, setup_behind}
use Rattle.client_rebuild.specs.declared.fault.RebuildFault.{RebuildFault}
use Rattle.client_rebuild.specs.declared.fault.RebuildFault.TheVariants.{BadRecord, NoMemory}
use Rattle.client_rebuild.specs.declared.last.Last.{Last}
use Rattle.client_rebuild.specs.declared.last.Last.TheVariants as last
use Rattle.client_rebuild.specs.declared.recorded_setup.RecordedSetup.{RecordedSetup}

-- live documents are one list
pub live_once : (known : ℕ → Option (List (List ℕ))) (docs others : List Document) → AreLive known docs → AreLive known others → docs ≡ others
live_once known docs others are too = rising_once docs others are.rising too.rising (λ id. are.same id ∙ sym (too.same id))

module _ (l : Last) (o : Offsets) (run : Run) (history : IsHistory run) (is : Recalls o run l) where
  -- what is live after it are the documents of the renewed setup
  pub renewed_live : AreLive (facts_of_last l).live (setup_renewed run).documents
  renewed_live = renewed-are_live (facts_of_last l).live run history (ap (λ (f : Facts). f.live) (facts-recalled l o run is))

  -- so that is the setup of its live documents
  pub setup_renewed-live : (docs : List Document) → AreLive (facts_of_last l).live docs → setup_renewed run ≡ setup_behind l docs
  setup_renewed-live docs live =
      λ i. record {
        documents = live_once (facts_of_last l).live (setup_renewed run).documents docs renewed_live live i;
        shape = sym (shape-recalled l o run is) i;
        pad = sym (pad-recalled l o run is) i;
      }

  -- what is accepted here is accepted there
  pub accepted-renewal : (marks : List (List ℕ)) (own : List ℕ) → AcceptsRenewal marks l own
      → IsCollected (setup_renewed run).documents
      × (size_refusal (setup_renewed run) ≡ None)
      × (list_any (bytes_eq own) marks ≡ false)
      × (o.frame + update_frames run + frames_needed (setup_renewed run) < 2 ^ 32)
  accepted-renewal marks own ok =
      let same = setup_renewed-live ok.docs ok.live in (
        subst (λ (s : Setup). IsCollected s.documents) (sym same) ok.collected,
        ap size_refusal same ∙ ok.accepted,
        ok.fresh,
        omega (arith, ok.numbered, frames-recalled l o run is, ap frames_needed same),
      )

  -- and the other way round
  pub renewal-accepted : (marks : List (List ℕ)) (own : List ℕ) → IsCollected (setup_renewed run).documents → size_refusal (setup_renewed run) ≡ None → list_any (bytes_eq own) marks ≡ false
      → o.frame + update_frames run + frames_needed (setup_renewed run) < 2 ^ 32 → AcceptsRenewal marks l own
  renewal-accepted marks own collected accepted fresh number =
      let same = setup_renewed-live (setup_renewed run).documents renewed_live in
      record {
        fresh = fresh;
        docs = (setup_renewed run).documents;
        live = renewed_live;
        collected = collected;
        accepted = ap size_refusal (sym same) ∙ accepted;
        numbered = omega (arith, number, frames-recalled l o run is, ap frames_needed same);
      }

-- a setup of what is live, with the parameters and counts of what stands before it, is recorded behind it
pub is_renewed : (keys : ℕ × ℕ) (l : Last) (s : RecordedSetup) → AreLive (facts_of_last l).live s.docs.documents → setup_in s ≡ setup_behind l s.docs.documents → s.before ≡ frames_of_last l
    → s.records ≡ records_of_last l + 1 → s.docs.keys ≡ keys → IsRenewed keys l (last.Setup s)
is_renewed keys l s live sizes before records hashed = record {
  recalls = λ o run history is. (
    λ i. record { setup = (setup_renewed-live l o run history is s.docs.documents live ∙ sym sizes) i; later = [] },
    sym (frames-recalled l o run is) ∙ sym before,
  );
  records = records;
  hashed = hashed;
}

-- What is made of a record of a renewal.

-- collected documents aren't refused
not_refused_collected : (docs : List Document) → IsCollected docs → live_refusal docs ≡ None
not_refused_collected docs collected =
    few (nat_lt (2 ^ 18) (length docs)) (nat_lt (2 ^ 20) (pairs_of docs)) (length docs) (pairs_of docs)
    (le-ltb (2 ^ 18) (length docs) (omega (arith, collected.documents)))
    (le-ltb (2 ^ 20) (pairs_of docs) (omega (arith, collected.pairs)))
  where
    few : (many pairs : Bool) (n p : ℕ) → many ≡ false → pairs ≡ false
        → (if many then Some (documents.TooManyDocuments n) else if pairs then Some (documents.TooManyPairs p) else None) ≡ None
    few true pairs n p a b = absurd (cc)
    few false true n p a b = absurd (cc)
    few false false n p a b = refl

number_of : RebuildFault → ℕ
number_of (BadRecord n) = n
number_of NoMemory = 0

module _ (marks : List (List ℕ)) (l : Last) (own : List ℕ) where
  -- where it's refused for its documents
  pub refused_docs : (fault : DocsFault) → ((docs : List Document) → AreLive (facts_of_last l).live docs → live_refusal docs ≡ None → fault ≡ documents.NoMemory)
      → (count : ℕ) → count ≡ records_of_last l → (n : ℕ) → fault_of_docs count fault ≡ BadRecord n → (n ≡ records_of_last l) × (AcceptsRenewal marks l own → ⊥)
  unfolding number_of
  refused_docs (documents.AlreadyLive id) accepted count counted n is =
      (ap number_of (sym is) ∙ counted, λ ok. differs (accepted ok.docs ok.live (not_refused_collected ok.docs ok.collected)))
    where
      differs : documents.AlreadyLive id ≡ documents.NoMemory → ⊥
      differs e = cc
  refused_docs (documents.TooManyDocuments many) accepted count counted n is =
      (ap number_of (sym is) ∙ counted, λ ok. differs (accepted ok.docs ok.live (not_refused_collected ok.docs ok.collected)))
    where
      differs : documents.TooManyDocuments many ≡ documents.NoMemory → ⊥
      differs e = cc
  refused_docs (documents.TooManyPairs many) accepted count counted n is =
      (ap number_of (sym is) ∙ counted, λ ok. differs (accepted ok.docs ok.live (not_refused_collected ok.docs ok.collected)))
    where
      differs : documents.TooManyPairs many ≡ documents.NoMemory → ⊥
      differs e = cc
  refused_docs documents.NoMemory accepted count counted n is = absurd (cc)

module _ (l : Last) (docs : Collected) (b big pad before records : ℕ) (r : Result RecordedSetup RebuildFault) (live : AreLive (facts_of_last l).live docs.documents)
    (shape : shape_of_last l ≡ record { b = b; big = big }) (filled : pad_of_last l ≡ pad) (frames : before ≡ frames_of_last l) (counted : records ≡ records_of_last l) where
  -- where it's accepted
  pub renewed_if : (keys : ℕ × ℕ) → docs.keys ≡ keys → IfOk r (λ s. s.docs ≡ docs) → IfOk r (λ s. (s.b ≡ b) × (s.big ≡ big) × (s.pad ≡ pad)) → IfOk r (λ s. (s.before ≡ before) × (s.records ≡ records + 1))
      → IfOk r (λ s. IsRenewed keys l (last.Setup s))
  renewed_if keys hashed same sizes counts = by r same sizes counts
    where
      by : (q : Result RecordedSetup RebuildFault) → IfOk q (λ s. s.docs ≡ docs) → IfOk q (λ s. (s.b ≡ b) × (s.big ≡ big) × (s.pad ≡ pad)) → IfOk q (λ s. (s.before ≡ before) × (s.records ≡ records + 1))
          → IfOk q (λ s. IsRenewed keys l (last.Setup s))
      by (Err fault) same sizes counts = tt
      by (Ok s) same sizes counts =
          let own_shape : record { b = s.b; big = s.big } ≡ shape_of_last l = (λ i. record { b = sizes.0 i; big = sizes.1 i }) ∙ sym shape in
          is_renewed keys l s (subst (λ (d : Collected). AreLive (facts_of_last l).live d.documents) (sym same) live)
          (λ i. record { documents = s.docs.documents; shape = own_shape i; pad = (sizes.2 ∙ sym filled) i })
          (counts.0 ∙ frames)
          (counts.1 ∙ ap (λ (n : ℕ). n + 1) counted)
          (ap (λ (d : Collected). d.keys) same ∙ hashed)

  -- where it's refused for its size, or for the numbers of its frames
  pub refused_size : (marks : List (List ℕ)) (own : List ℕ)
      → IfErr r (λ fault. (fault ≡ BadRecord records) × (size_refusal (setup_with docs.documents b big pad) ≡ None → before + frames_needed (setup_with docs.documents b big pad) < 2 ^ 32 → ⊥))
      → (n : ℕ) → r ≡ Err (BadRecord n) → (n ≡ records_of_last l) × (AcceptsRenewal marks l own → ⊥)
  unfolding number_of
  refused_size marks own refused n is =
      let at : (BadRecord n ≡ BadRecord records) × (size_refusal (setup_with docs.documents b big pad) ≡ None → before + frames_needed (setup_with docs.documents b big pad) < 2 ^ 32 → ⊥) =
      subst (λ (q : Result RecordedSetup RebuildFault).
      IfErr q (λ fault. (fault ≡ BadRecord records) × (size_refusal (setup_with docs.documents b big pad) ≡ None → before + frames_needed (setup_with docs.documents b big pad) < 2 ^ 32 → ⊥)))
      is refused in
      (ap number_of at.0 ∙ counted, λ ok. none ok at.1)
    where
      none : AcceptsRenewal marks l own → (size_refusal (setup_with docs.documents b big pad) ≡ None → before + frames_needed (setup_with docs.documents b big pad) < 2 ^ 32 → ⊥) → ⊥
      none ok never =
          let same : setup_behind l ok.docs ≡ setup_with docs.documents b big pad =
          λ i. record { documents = live_once (facts_of_last l).live ok.docs docs.documents ok.live live i; shape = shape i; pad = filled i } in
          never (ap size_refusal (sym same) ∙ ok.accepted) (omega (arith, ok.numbered, ap frames_needed same, frames))
