-- The records of a file are those that starting gives of it; over a disk that holds a journal a crash leaves them, and no others.
use Rattle.std.proofs.Common.{◌≡◌, inl, inr, ℕ, zero, suc, ◌+◌, ◌<◌, ◌≤◌, Bool, true, false, List, [], ◌∷◌, ◌++◌, length, take, drop, Some, None, refl, sym, ap, ◌∙◌, subst, arith, append_assoc, length-append}
use Rattle.std.specs.Prelude.{◌==◌, ◌&&◌, nat_lt, All, flat_map, Option, option_map, is_some, IfSome, if◌then◌else◌}
use Rattle.std.specs.Int.{w32, to_be_bytes, from_be_bytes}
use Rattle.std.proofs.lemmas.Bool.{lt-ltb, eqb-true}
use Rattle.std.proofs.lemmas.List.{take_at, drop_at, drop_all}
use Rattle.std.proofs.lemmas.List.Elements.{All-head, All-tail}
use Rattle.std.proofs.Math.Seq.{take-append_seam, take-length}
use Rattle.std.proofs.lemmas.Nat.{from_be_bytes-to_be_bytes_4}
use Rattle.sse_journal.specs.AnyMoment.{LeavesOnly}
use Rattle.sse_journal.proofs.Once.{file_gives}
use Rattle.sse_journal.specs.FileRecords.{records_at, records_counted, records_in_file, TakesRecords}
use Rattle.sse_journal.specs.Files.{magic, framed, record_bytes, front, file, IsPayload, Gives, GivesWithOrWithout}
use Rattle.sse_journal.specs.JournalView.{end_of, records_of, broken_by, IsJournalOf}
use Rattle.sse_journal.specs.declared.journal.Journal.{Journal}

inside : {A : Type 0} (a b : A) → Some a ≡ Some b → a ≡ b
inside a b e = cc

-- where the commit byte isn't set there is no record more
abbrev step : (n : ℕ) (set : Bool) (rest : List ℕ) → List (List ℕ)
step n set rest =
    let size = from_be_bytes w32 (take 4 rest) in
    if set && nat_lt (4 + size) (length rest) then take size (drop 4 rest) ∷ records_at n (drop (4 + size) rest) else []

none_left : (n commit : ℕ) (tail : List ℕ) → (commit ≡ 1 → tail ≡ []) → records_at n (commit ∷ tail) ≡ []
none_left zero commit tail unset = refl
none_left (suc n) commit tail unset = by (commit == 1) refl
  where
    by : (set : Bool) → (commit == 1) ≡ set → step n set tail ≡ []
    by true is = subst (λ t. step n true t ≡ []) (sym (unset (eqb-true commit 1 is))) refl
    by false is = refl

framed_length : (payload : List ℕ) → 4 + length payload ≡ length (framed payload)
unfolding framed
framed_length payload = omega (arith, length-append (to_be_bytes w32 (length payload)) payload)

-- a record with a byte behind it is the first
module _ (n : ℕ) (payload rest : List ℕ) (is : IsPayload payload) (more : 1 ≤ length rest) where
  abbrev bytes : List ℕ
  bytes = framed payload ++ rest

  size_is : from_be_bytes w32 (take 4 bytes) ≡ length payload
  unfolding framed
  size_is = from_be_bytes-to_be_bytes_4 (length payload) (omega (arith, is.limit))

  length_is : length bytes ≡ 4 + length payload + length rest
  unfolding framed
  length_is = omega (arith, length-append (to_be_bytes w32 (length payload) ++ payload) rest, length-append (to_be_bytes w32 (length payload)) payload)

  behind : drop 4 bytes ≡ payload ++ rest
  unfolding framed
  behind = refl

  rest_is : drop (4 + length payload) bytes ≡ rest
  rest_is = drop_at (framed payload) rest (4 + length payload) (sym (framed_length payload))

  one_more : step n true bytes ≡ payload ∷ records_at n rest
  one_more =
      ap (λ size. if nat_lt (4 + size) (length bytes) then take size (drop 4 bytes) ∷ records_at n (drop (4 + size) bytes) else []) size_is
      ∙ ap (λ (b : Bool). if b then take (length payload) (drop 4 bytes) ∷ records_at n (drop (4 + length payload) bytes) else []) (lt-ltb (4 + length payload) (length bytes) (omega (arith, length_is, more)))
      ∙ (λ i. ((ap (take (length payload)) behind ∙ take_at payload rest (length payload) refl) i) ∷ records_at n (rest_is i))

-- so the records that stand there are read, and no others
pub records_read : (n : ℕ) (payloads : List (List ℕ)) (commit : ℕ) (tail : List ℕ) → All IsPayload payloads → (commit ≡ 1 → tail ≡ []) → length payloads < n
    → records_at n (flat_map record_bytes payloads ++ commit ∷ tail) ≡ payloads
records_read zero payloads commit tail are unset fits = absurd (omega (arith, fits))
records_read (suc n) [] commit tail are unset fits = none_left (suc n) commit tail unset
records_read (suc n) (payload ∷ payloads) commit tail are unset fits =
    let behind = flat_map record_bytes payloads ++ commit ∷ tail in
    ap (step n true) (append_assoc (framed payload) (flat_map record_bytes payloads) (commit ∷ tail))
    ∙ one_more n payload behind (All-head IsPayload payload payloads are) (omega (arith, length-append (flat_map record_bytes payloads) (commit ∷ tail)))
    ∙ ap (λ rest. payload ∷ rest) (records_read n payloads commit tail (All-tail IsPayload payload payloads are) unset (omega (arith, fits)))

-- there are no more records than bytes
few_records : (payloads : List (List ℕ)) (rest : List ℕ) → length payloads ≤ length (flat_map record_bytes payloads ++ rest)
few_records [] rest = omega arith
few_records (payload ∷ payloads) rest = omega (arith, few_records payloads rest, length-append (record_bytes payload ++ flat_map record_bytes payloads) rest, length-append (record_bytes payload) (flat_map record_bytes payloads), length-append (flat_map record_bytes payloads) rest)

read_front : (payloads : List (List ℕ)) (commit : ℕ) (tail : List ℕ) → All IsPayload payloads → (commit ≡ 1 → tail ≡ []) → records_in_file (front payloads ++ commit ∷ tail) ≡ payloads
unfolding front
read_front payloads commit tail are unset =
    records_read (length ((magic ++ flat_map record_bytes payloads) ++ commit ∷ tail)) payloads commit tail are unset
    (omega (arith, few_records payloads (commit ∷ tail), length-append (magic ++ flat_map record_bytes payloads) (commit ∷ tail), length-append magic (flat_map record_bytes payloads), length-append (flat_map record_bytes payloads) (commit ∷ tail)))

-- the records that starting gives of a file are those that it has
pub gives_records : (payloads : List (List ℕ)) (bytes : List ℕ) → Gives payloads bytes → records_in_file bytes ≡ payloads
gives_records payloads bytes (inl short) = ap (records_at (length bytes)) (drop_all 8 bytes (omega (arith, short.0))) ∙ none (length bytes) ∙ sym short.1
  where
    none : (n : ℕ) → records_at n [] ≡ []
    none zero = refl
    none (suc n) = refl
gives_records payloads bytes (inr is) = ap records_in_file is.are ∙ read_front payloads is.commit is.tail is.payloads_are is.unset

-- a disk that holds a journal has its records
pub records_of_journal : (payloads : List (List ℕ)) (j : Journal) (content : Option (List ℕ)) (images : List ℕ → Type 0) → IsJournalOf payloads j content images → option_map records_in_file content ≡ Some payloads
records_of_journal payloads j content images is =
    ap (option_map records_in_file) is.settled.reads ∙ ap (λ r. Some r) (gives_records payloads (file payloads) (file_gives payloads is.payloads_are))

-- a journal that takes records counts all of its file
module _ (j : Journal) (images : List ℕ → Type 0) where
  pub counted_all : (content : Option (List ℕ)) → TakesRecords j content images → records_counted j content ≡ option_map records_in_file content
  counted_all None takes = refl
  counted_all (Some held) takes =
      let payloads = takes.holds.0 in
      let is = takes.holds.1 in
      let records : records_in_file held ≡ payloads = inside (records_in_file held) payloads (records_of_journal payloads j (Some held) images is) in
      ap (λ r. Some r) (ap (take (records_of j)) records ∙ ap (λ n. take n payloads) is.records_are ∙ take-length payloads ∙ sym records)

  -- what holds of the records that it is the journal of holds of those that it counts
  pub counted_of : (content : Option (List ℕ)) (P : List (List ℕ) → Type 0) → TakesRecords j content images → ((payloads : List (List ℕ)) → IsJournalOf payloads j content images → P payloads) → IfSome (records_counted j content) P
  counted_of None P takes each = tt
  counted_of (Some held) P takes each =
      let payloads = takes.holds.0 in
      let is = takes.holds.1 in
      let counted : take (records_of j) (records_in_file held) ≡ payloads =
      inside (take (records_of j) (records_in_file held)) payloads (counted_all (Some held) takes ∙ records_of_journal payloads j (Some held) images is) in
      subst P (sym counted) (each payloads is)

-- the file of a journal's records gives them, and its disk leaves no other
pub settled_gives : (payloads : List (List ℕ)) (j : Journal) (content : Option (List ℕ)) (images : List ℕ → Type 0) → IsJournalOf payloads j content images → (image : List ℕ) → images image → Gives payloads image
settled_gives payloads j content images is image left = subst (Gives payloads) (sym (is.settled.durable image left)) (file_gives payloads is.payloads_are)

-- a crash leaves the records that it counts
pub takes_at_rest : (j : Journal) (content : Option (List ℕ)) (images left : List ℕ → Type 0) → TakesRecords j content images → ((image : List ℕ) → left image → images image)
    → IfSome (records_counted j content) (λ records. (image : List ℕ) → left image → Gives records image)
takes_at_rest j content images left takes only = counted_of j images content _ takes (λ payloads is image now. settled_gives payloads j content images is image (only image now))

-- a journal with another buffer takes what it took
pub takes_same : (j after : Journal) (content : Option (List ℕ)) (images : List ℕ → Type 0) → end_of after ≡ end_of j → records_of after ≡ records_of j → broken_by after ≡ broken_by j
    → TakesRecords j content images → TakesRecords after content images
takes_same j after None images ends records broken takes = record { unbroken = broken ∙ takes.unbroken; holds = tt }
takes_same j after (Some held) images ends records broken takes =
    let is = takes.holds.1 in record {
      unbroken = broken ∙ takes.unbroken;
      holds = (takes.holds.0, record { payloads_are = is.payloads_are; end_is = ends ∙ is.end_is; records_are = records ∙ is.records_are; settled = is.settled });
    }

-- The disk before an append and after it.

module _ (j : Journal) (payload : List ℕ) (old_images new_images : List ℕ → Type 0) where
  -- a journal that takes records stands on its disk
  pub takes_within : (old : Option (List ℕ)) → TakesRecords j old old_images → IfSome old (λ bytes. end_of j + 1 ≤ length bytes)
  takes_within None takes = tt
  takes_within (Some held) takes = long takes.holds.0 takes.holds.1
    where
      long : (payloads : List (List ℕ)) → IsJournalOf payloads j (Some held) old_images → end_of j + 1 ≤ length held
      long payloads is = omega (arith, ap length (inside held (file payloads) is.settled.reads), length-append (front payloads) (0 ∷ []), is.end_is)

  -- once it was taken the record stands behind the others, and the journal takes more
  pub takes_added : (old new : Option (List ℕ)) (after : Journal) → TakesRecords j old old_images → is_some new ≡ is_some old → broken_by after ≡ None
      → ((payloads : List (List ℕ)) → IsJournalOf payloads j old old_images → IsJournalOf (payloads ++ payload ∷ []) after new new_images)
      → TakesRecords after new new_images × (option_map records_in_file new ≡ option_map (λ all. all ++ payload ∷ []) (option_map records_in_file old))
  takes_added None None after takes told unbroken added = (record { unbroken = unbroken; holds = tt }, refl)
  takes_added None (Some held) after takes told unbroken added = absurd (cc)
  takes_added (Some held) None after takes told unbroken added = absurd (cc)
  takes_added (Some held) (Some written) after takes told unbroken added =
      let payloads = takes.holds.0 in
      let is = takes.holds.1 in
      let behind = added payloads is in (
        record { unbroken = unbroken; holds = (payloads ++ payload ∷ [], behind) },
        records_of_journal (payloads ++ payload ∷ []) after (Some written) new_images behind
            ∙ ap (option_map (λ all. all ++ payload ∷ [])) (sym (records_of_journal payloads j (Some held) old_images is)),
      )

  -- after a refusal it counts the records of before
  pub takes_refused : (old new : Option (List ℕ)) (after : Journal) → TakesRecords j old old_images → is_some new ≡ is_some old → records_of after ≡ records_of j → IfSome new new_images
      → ((payloads : List (List ℕ)) → IsJournalOf payloads j old old_images → (image : List ℕ) → new_images image → GivesWithOrWithout payloads payload image)
      → records_counted after new ≡ records_counted j old
  takes_refused None None after takes told count now gives = refl
  takes_refused None (Some held) after takes told count now gives = absurd (cc)
  takes_refused (Some held) None after takes told count now gives = absurd (cc)
  takes_refused (Some held) (Some written) after takes told count now gives =
      let payloads = takes.holds.0 in
      let is = takes.holds.1 in
      let had : records_counted j (Some held) ≡ Some payloads = counted_all j old_images (Some held) takes ∙ records_of_journal payloads j (Some held) old_images is in
      let size : records_of after ≡ length payloads = count ∙ is.records_are in
      elim (gives payloads is written now) [
        | inl same ↦ ap (λ r. Some r) (ap (take (records_of after)) (gives_records payloads written same) ∙ ap (λ n. take n payloads) size ∙ take-length payloads) ∙ sym had
        | inr with_it ↦ ap (λ r. Some r) (ap (take (records_of after)) (gives_records (payloads ++ payload ∷ []) written with_it) ∙ ap (λ n. take n (payloads ++ payload ∷ [])) size ∙ take-append_seam payloads (payload ∷ [])) ∙ sym had
      ]

-- what a crash leaves now, it left since the moment at which a call began
pub left_now : {D : Type 0} (images : D → List ℕ → Type 0) (moment : D → ℕ) (left_since : D → ℕ → List ℕ → Type 0) (old new : D) (P : List ℕ → Type 0)
    → ((t : ℕ) (c : List ℕ) → t ≤ moment new → images new c → left_since new t c) → LeavesOnly moment left_since old new P → (c : List ℕ) → images new c → P c
left_now images moment left_since old new P counts leaves c is =
    elim (leaves.since (moment old) (omega arith) c (counts (moment old) c leaves.later is)) [ inl before ↦ leaves.begins c before | inr since ↦ since ]
