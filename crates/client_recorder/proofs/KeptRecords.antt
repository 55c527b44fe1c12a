-- What a crash leaves of a journal to which a record is added, or which refuses it.
use Rattle.std.proofs.Common.{◌≡◌, ◌⊎◌, inl, inr, ℕ, ◌≤◌, List, [], ◌∷◌, ◌++◌, take, Some, None, refl, sym, ap, ◌∙◌, subst}
use Rattle.std.specs.Prelude.{Option, option_map, IfSome}
use Rattle.std.proofs.lemmas.List.{append-nil}
use Rattle.sse_journal.proofs.FileRecords.{counted_of}
use Rattle.sse_journal.proofs.Moments as Moments
use Rattle.sse_journal.proofs.Moments.{weakened}
use Rattle.sse_journal.specs.AnyMoment.{LeavesOnly}
use Rattle.sse_journal.specs.FileRecords.{records_counted, records_in_file, TakesRecords}
use Rattle.sse_journal.specs.Files.{Gives, GivesWithOrWithout}
use Rattle.sse_journal.specs.JournalView.{records_of, IsJournalOf}
use Rattle.sse_journal.specs.declared.journal.Journal.{Journal}
use Rattle.sse_outside.specs.Kept.{Kept, with_records, with_refused}
use Rattle.client_recorder.specs.KeepsOn.{GivesFront, KeepsOn}

-- what holds of the records of a journal whose buffer was made larger holds of those that it counted before
pub counted_before : (j after : Journal) (content : Option (List ℕ)) (images : List ℕ → Type 0) (P : List (List ℕ) → Type 0) → records_of after ≡ records_of j → TakesRecords after content images
    → ((payloads : List (List ℕ)) → IsJournalOf payloads after content images → P payloads) → IfSome (records_counted j content) P
counted_before j after content images P same takes each =
    subst (λ n. IfSome (option_map (λ file. take n (records_in_file file)) content) P) same (counted_of after images content P takes each)

-- what a disk leaves between two moments, so does what holds it
pub held-meanwhile : {D R : Type 0} (moment : D → ℕ) (left_since : D → ℕ → List ℕ → Type 0) (disk : R → D) (old new : R) (payload : List ℕ) (records : Option (List (List ℕ)))
    → IfSome records (λ before. LeavesOnly moment left_since (disk old) (disk new) (GivesWithOrWithout before payload))
    → IfSome records (λ before. LeavesOnly (λ r. moment (disk r)) (λ r. left_since (disk r)) old new (GivesWithOrWithout before payload))
held-meanwhile moment left_since disk old new payload None leaves = tt
held-meanwhile moment left_since disk old new payload (Some before) leaves = record { begins = leaves.begins; later = leaves.later; since = leaves.since }

module _ {R : Type 0} (kept : R → Kept) (moment : R → ℕ) (left_since : R → ℕ → List ℕ → Type 0) (old new : R) (payload : List ℕ) where
  -- a record that was taken
  pub keeps-taken : kept new ≡ with_records (payload ∷ []) (kept old) → (kept old).refused ≡ []
      → IfSome (kept old).records (λ before. LeavesOnly moment left_since old new (GivesWithOrWithout before payload))
      → IfSome (kept new).records (λ records. (image : List ℕ) → left_since new (moment new) image → Gives records image)
      → KeepsOn kept moment left_since old new
  keeps-taken is none meanwhile leaves = record {
    more = payload ∷ [];
    grows = ap (λ (k : Kept). k.records) is;
    meanwhile = each (kept old).records meanwhile;
    leaves = now (kept new).records leaves;
  }
    where
      nothing : (kept new).refused ≡ []
      nothing = ap (λ (k : Kept). k.refused) is ∙ none

      each : (records : Option (List (List ℕ))) → IfSome records (λ before. LeavesOnly moment left_since old new (GivesWithOrWithout before payload))
          → IfSome records (λ before. LeavesOnly moment left_since old new (GivesFront before (payload ∷ [] ++ (kept new).refused)))
      each None leaves = tt
      each (Some before) leaves = weakened moment left_since old new (GivesWithOrWithout before payload) (GivesFront before (payload ∷ (kept new).refused)) (λ image gives. elim gives [
        | inl without ↦ record { front = []; back = payload ∷ (kept new).refused; parts = refl; gives = subst (λ all. Gives all image) (sym (append-nil before)) without }
        | inr with_it ↦ record { front = payload ∷ []; back = (kept new).refused; parts = refl; gives = with_it }
      ]) leaves

      now : (records : Option (List (List ℕ))) → IfSome records (λ all. (image : List ℕ) → left_since new (moment new) image → Gives all image)
          → IfSome records (λ all. (image : List ℕ) → left_since new (moment new) image → Gives all image ⊎ Gives (all ++ (kept new).refused) image)
      now None leaves = tt
      now (Some all) leaves = λ image left. inl (leaves image left)

  -- and one that was refused
  pub keeps-refused : kept new ≡ with_refused (payload ∷ []) (kept old)
      → (moment old ≤ moment new → (image : List ℕ) → left_since new (moment new) image → left_since new (moment old) image)
      → IfSome (kept old).records (λ before. LeavesOnly moment left_since old new (GivesWithOrWithout before payload))
      → KeepsOn kept moment left_since old new
  keeps-refused is counts meanwhile = record {
    more = [];
    grows = same ∙ nothing (kept old).records;
    meanwhile = each (kept old).records meanwhile;
    leaves = subst (λ records. IfSome records (λ all. (image : List ℕ) → left_since new (moment new) image → Gives all image ⊎ Gives (all ++ (kept new).refused) image)) (sym same) (now (kept old).records meanwhile);
  }
    where
      same : (kept new).records ≡ (kept old).records
      same = ap (λ (k : Kept). k.records) is

      one : (kept new).refused ≡ payload ∷ []
      one = ap (λ (k : Kept). k.refused) is

      nothing : (records : Option (List (List ℕ))) → records ≡ option_map (λ all. all ++ []) records
      nothing None = refl
      nothing (Some all) = ap (λ a. Some a) (sym (append-nil all))

      each : (records : Option (List (List ℕ))) → IfSome records (λ before. LeavesOnly moment left_since old new (GivesWithOrWithout before payload))
          → IfSome records (λ before. LeavesOnly moment left_since old new (GivesFront before ([] ++ (kept new).refused)))
      each None leaves = tt
      each (Some before) leaves = weakened moment left_since old new (GivesWithOrWithout before payload) (GivesFront before (kept new).refused) (λ image gives. elim gives [
        | inl without ↦ record { front = []; back = (kept new).refused; parts = refl; gives = subst (λ all. Gives all image) (sym (append-nil before)) without }
        | inr with_it ↦ record { front = payload ∷ []; back = []; parts = one; gives = with_it }
      ]) leaves

      now : (records : Option (List (List ℕ))) → IfSome records (λ before. LeavesOnly moment left_since old new (GivesWithOrWithout before payload))
          → IfSome records (λ all. (image : List ℕ) → left_since new (moment new) image → Gives all image ⊎ Gives (all ++ (kept new).refused) image)
      now None leaves = tt
      now (Some all) leaves = λ image left. subst (λ refused. Gives all image ⊎ Gives (all ++ refused) image) (sym one) (Moments.each moment left_since old new (GivesWithOrWithout all payload) leaves image (counts leaves.later image left))
