-- What a crash leaves of a disk in memory under a journal.
use Rattle.std.proofs.Common.{◌≡◌, ◌⊎◌, ℕ, Bool, true, false, List, [], None, Some, inl, inr, refl, sym, ap, ◌∙◌, subst, arith}
use Rattle.outside_memory_disk.specs.MemDisk.{began_of, changes_on, file_of, images_of, moment_of, left_since_of}
use Rattle.outside_memory_disk.specs.declared.mem_disk.MemDisk.{MemDisk}
use Rattle.sse_journal.proofs.FileRecords.{left_now}
use Rattle.sse_journal.specs.AnyMoment.{LeavesOnly, HasSynced}
use Rattle.sse_journal.specs.JournalView.{end_of, records_of, broken_by, IsJournalOf, IsJournalFrom}
use Rattle.sse_journal.proofs.Once.{gives_once}
use Rattle.sse_journal.specs.Files.{Gives, GivesAs, GivesWithOrWithout}
use Rattle.sse_outside.specs.Changes.{IsImage}
use Rattle.sse_outside.specs.Images.{NoOther}
use Rattle.sse_outside.proofs.DiskLaws.{counts_now, only_now, reads_now}
use Rattle.world_model.specs.World.{Disk}
use Rattle.world_model.specs.Events.{left, in_doubt, settled}
use Rattle.sse_journal.specs.declared.journal.Journal.{Journal}
use Rattle.world_disks.specs.Disks.{IsDiskOf, Holds}

-- each file that a crash may leave now is one that it left since a call began
pub each_left : (old new : MemDisk) (P : List ℕ → Type 0) → LeavesOnly moment_of left_since_of old new P → (image : List ℕ) → images_of new image → P image
each_left old new P leaves image is = left_now images_of moment_of left_since_of old new P (λ t f le now. counts_now (began_of new) (changes_on new) t f le now) leaves image is

with_or_without : (payloads : List (List ℕ)) (payload image : List ℕ) → GivesWithOrWithout payloads payload image → (there : Bool) × Gives (left there (in_doubt (settled payloads) payload)).records image
with_or_without payloads payload image (inl gives) = (false, gives)
with_or_without payloads payload image (inr gives) = (true, gives)

-- a call that leaves the records with one more or without leaves a disk on which that one is in doubt
pub doubts : (old new : MemDisk) (payloads : List (List ℕ)) (payload : List ℕ) → LeavesOnly moment_of left_since_of old new (GivesWithOrWithout payloads payload) → IsDiskOf (in_doubt (settled payloads) payload) new
doubts old new payloads payload leaves image is = with_or_without payloads payload image (each_left old new (GivesWithOrWithout payloads payload) leaves image is)

-- a journal with another buffer
pub holds_same : (payloads : List (List ℕ)) (j after : Journal) (d : MemDisk) → end_of after ≡ end_of j → records_of after ≡ records_of j → broken_by after ≡ broken_by j → Holds payloads j d → Holds payloads after d
holds_same payloads j after d end records broken h = record {
  whole = broken ∙ h.whole;
  is = record { payloads_are = h.is.payloads_are; end_is = end ∙ h.is.end_is; records_are = records ∙ h.is.records_are; settled = h.is.settled };
}

-- Starting.

module _ (model : Disk (List ℕ)) (old new : MemDisk) (is : IsDiskOf model old) where
  -- the file as it reads is one that a crash may leave
  reads : (there : Bool) × Gives (left there model).records (file_of old)
  reads = is (file_of old) (reads_now (began_of old) (changes_on old) (file_of old) old.file.replayed)

  -- behind its first sync, and after a refusal of that, a start leaves a disk from which starting gives the same
  pub start_leaves : (HasSynced (λ d. Some (file_of d)) images_of moment_of left_since_of old new GivesAs ⊎ LeavesOnly moment_of left_since_of old new (images_of old)) → IsDiskOf model new
  start_leaves (inl s) image now = elim ((s.after).since (moment_of s.synced) (omega arith) image (counts_now (began_of new) (changes_on new) (moment_of s.synced) image (s.after).later now)) [
    | inl before ↦ (reads.0, subst (Gives (left reads.0 model).records) (sym (s.durable image (only_now (began_of s.synced) (changes_on s.synced) image before))) reads.1)
    | inr same ↦ (reads.0, same (left reads.0 model).records reads.1)
  ]
  start_leaves (inr leaves) image now = is image (each_left old new (images_of old) leaves image now)

  -- the journal is that of the records which the file gave
  pub started_holds : (j : Journal) → IsJournalFrom (file_of old) j (Some (file_of new)) (images_of new) → broken_by j ≡ None → (there : Bool) × Holds (left there model).records j new
  started_holds j from whole =
      let same : from.payloads ≡ (left reads.0 model).records = gives_once from.payloads (left reads.0 model).records (file_of old) from.gives reads.1 in
      (reads.0, record { whole = whole; is = subst (λ payloads. IsJournalOf payloads j (Some (file_of new)) (images_of new)) same from.journal })

-- a start's clause on each moment, whatever its result
pub start_left : {E : Type 0} (model : Disk (List ℕ)) (old new : MemDisk) → IsDiskOf model old
    → (HasSynced (λ d. Some (file_of d)) images_of moment_of left_since_of old new GivesAs ⊎ (E × LeavesOnly moment_of left_since_of old new (images_of old))) → IsDiskOf model new
start_left model old new is (inl synced) = start_leaves model old new is (inl synced)
start_left model old new is (inr refused) = start_leaves model old new is (inr refused.1)

-- calls that only read: the journal is that of the same records, and what is in doubt stays so
pub holds_quiet : (payloads : List (List ℕ)) (j : Journal) (old new : MemDisk) → file_of new ≡ file_of old → NoOther (images_of old) (images_of new) → Holds payloads j old → Holds payloads j new
holds_quiet payloads j old new file images h = record {
  whole = h.whole;
  is = record {
    payloads_are = h.is.payloads_are;
    end_is = h.is.end_is;
    records_are = h.is.records_are;
    settled = record { reads = ap (λ bytes. Some bytes) file ∙ h.is.settled.reads; durable = λ c is. h.is.settled.durable c (images c is) };
  };
}

pub disk_quiet : (model : Disk (List ℕ)) (old new : MemDisk) → LeavesOnly moment_of left_since_of old new (images_of old) → IsDiskOf model old → IsDiskOf model new
disk_quiet model old new quiet is image now = is image (each_left old new (images_of old) quiet image now)

-- a disk of the same beginning and the same changes leaves the same images
pub same_images : (old new : MemDisk) → began_of new ≡ began_of old → changes_on new ≡ changes_on old → (image : List ℕ) → images_of new image → images_of old image
same_images old new began changes image is = subst (λ made. IsImage (began_of old) made image) changes (subst (λ first. IsImage first (changes_on new) image) began is)

-- from a disk that holds a journal, starting gives its records alone
pub holds_disk : (payloads : List (List ℕ)) (j : Journal) (d : MemDisk) → Holds payloads j d → IsDiskOf (settled payloads) d
holds_disk payloads j d h image is = (
  false,
  inr (record {
    payloads_are = h.is.payloads_are;
    commit = 0;
    tail = [];
    are = h.is.settled.durable image is;
    unset = λ e. refl;
  }),
)
