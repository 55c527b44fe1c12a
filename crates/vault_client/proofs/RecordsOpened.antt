-- Records that open under a mark: the first of them do too, and what they come to is one thing.
use Rattle.std.proofs.Common.{◌≡◌, inl, inr, ⊎_elim, ℕ, zero, suc, ◌+◌, ◌<◌, ◌≤◌, length, List, [], ◌∷◌, map, take, drop, refl, sym, ap, ◌∙◌, subst, Ok, Err, arith}
use Rattle.std.specs.Prelude.{Bool, true, false, IfOk, Result, get_or}
use Rattle.std.proofs.Math.Dec.{leb}
use Rattle.std.proofs.lemmas.Bool.Decides.{leb_tells}
use Rattle.std.proofs.lemmas.List.{length-take-le, take-append-drop, take-map, take-take}
use Rattle.client_journal.specs.Faults.{EndsFor, GoesOn}
use Rattle.vault_shelf.proofs.Fronts.{accepted_first}
use Rattle.vault_shelf.specs.ClientRecords.{AreRecorded, VaultOpens, VaultOpensElsewhere, command_record, mark_record}
use Rattle.vault_shelf.specs.ShelfFaults.{AreAccepted}
use Rattle.vault_shelf.specs.Shelves.{VaultCommand, empty_shelf}
use Rattle.script_run_texts.specs.declared.journal_stop.JournalStop.{JournalStop}
use Rattle.script_run_texts.specs.declared.journal_stop.JournalStop.TheVariants.{NoJournal, HasRecords, BadRecord, WrongKey, Disk, Memory}
use Rattle.vault_shelf.specs.Rebuilds.{IsTaken, Rebuilds}
use Rattle.vault_shelf.specs.ShelfView.{ShelfView}
use Rattle.vault_shelf.specs.declared.rebuild.ShelfRebuild.{ShelfRebuild}
use Rattle.vault_client.specs.Recoveries.{AreNone, IsBadUnder, OpensUnder, Recovers}

head_is : {A : Type 0} (x y : A) (xs ys : List A) → x ∷ xs ≡ y ∷ ys → x ≡ y
head_is x y xs ys e = ap (λ l. get_or l 0 x) e

-- of a mark's record
mark_is : (mark other : List ℕ) → mark_record mark ≡ mark_record other → mark ≡ other
mark_is mark other e = ap (drop 1) e

take_next : {A : Type 0} (n : ℕ) (x : A) (xs : List A) → take (n + 1) (x ∷ xs) ≡ x ∷ take n xs
take_next n x xs = ap (λ (k : ℕ). take k (x ∷ xs)) (let e : n + 1 ≡ suc n = omega arith in e)

recorded_first : (n : ℕ) (cs : List VaultCommand) → AreRecorded cs → AreRecorded (take n cs)
recorded_first zero cs are = tt
recorded_first (suc n) [] are = tt
recorded_first (suc n) (c ∷ cs) are = (are.0, recorded_first n cs are.1)

-- the mark's record, and those of the first commands
pub opens_first : (mark : List ℕ) (all : List (List ℕ)) (cs : List VaultCommand) → VaultOpens mark all cs → (n : ℕ) → VaultOpens mark (take (n + 1) all) (take n cs)
opens_first mark all cs opens n = record {
  size = opens.size;
  are =
      ap (take (n + 1)) opens.are ∙ take_next n (mark_record mark) (map command_record cs)
      ∙ ap (λ (rest : List (List ℕ)). mark_record mark ∷ rest) (take-map command_record n cs);
  recorded = recorded_first n cs opens.recorded;
  accepted = accepted_first empty_shelf (take n cs) (drop n cs) (subst (AreAccepted empty_shelf) (sym (take-append-drop n cs)) opens.accepted);
}

-- records that open under two marks open under one
pub one_mark : (mark other : List ℕ) (all : List (List ℕ)) (cs ds : List VaultCommand) → VaultOpens mark all cs → VaultOpens other all ds → other ≡ mark
one_mark mark other all cs ds a b =
    mark_is other mark (head_is (mark_record other) (mark_record mark) (map command_record ds) (map command_record cs) (sym b.are ∙ a.are))

abbrev no_records : List (List ℕ)
no_records = []

take_none : (k : ℕ) → take 1 (take k no_records) ≡ no_records
take_none zero = refl
take_none (suc k) = refl

-- if the first records open under another mark, so does the first of all
pub elsewhere_first : (mark : List ℕ) (all : List (List ℕ)) (n : ℕ) → VaultOpensElsewhere mark (take (n + 1) all) → VaultOpensElsewhere mark (take 1 all)
elsewhere_first mark all n else_where = record {
  other = else_where.other;
  commands = [];
  opened = by all (opens_first else_where.other (take (n + 1) all) else_where.commands else_where.opened 0);
  differs = else_where.differs;
}
  where
    by : (all : List (List ℕ)) → VaultOpens else_where.other (take 1 (take (n + 1) all)) (take 0 else_where.commands) → VaultOpens else_where.other (take 1 all) []
    by [] opens = subst (λ (l : List (List ℕ)). VaultOpens else_where.other l []) (take_none (n + 1)) opens
    by (x ∷ xs) opens = subst (λ (l : List (List ℕ)). VaultOpens else_where.other (take 1 l) []) (take_next n x xs) opens

-- records that were taken
pub opens_taken : (payloads : List (List ℕ)) (r : ShelfRebuild) → Rebuilds payloads r → OpensUnder r.mark payloads
opens_taken payloads r taken = by r.mark r.marked r.shelf r.last.items taken
  where
    by : (mark : List ℕ) (marked : Bool) (view : ShelfView) (last : List ℕ) → IsTaken mark marked payloads view last → OpensUnder mark payloads
    by mark false view last is = inl is.none
    by mark true view last is = inr (is.commands, is.opens)

-- What records come to excludes any other.

open_not_bad : (mark : List ℕ) (all : List (List ℕ)) (cs : List VaultCommand) (n : ℕ) → VaultOpens mark all cs → IsBadUnder mark all n → ⊥
open_not_bad mark all cs n opens bad = bad.refused mark (take n cs) (opens_first mark all cs opens n)

open_not_elsewhere : (mark : List ℕ) (all : List (List ℕ)) (cs : List VaultCommand) → VaultOpens mark all cs → VaultOpensElsewhere mark (take 1 all) → ⊥
open_not_elsewhere mark all cs opens else_where =
    else_where.differs (one_mark mark else_where.other (take 1 all) (take 0 cs) else_where.commands (opens_first mark all cs opens 0) else_where.opened)

bad_not_elsewhere : (mark : List ℕ) (all : List (List ℕ)) (n : ℕ) → IsBadUnder mark all n → VaultOpensElsewhere mark (take 1 all) → ⊥
bad_not_elsewhere mark all n bad else_where = by bad.before
  where
    by : OpensUnder mark (take n all) → ⊥
    by (inl none) =
        let first : n ≡ 0 = omega (arith, bad.within, length-take-le n all (omega (arith, bad.within)), ap length none) in
        bad.refused else_where.other else_where.commands (subst (λ (k : ℕ). VaultOpens else_where.other (take (k + 1) all) else_where.commands) (sym first) else_where.opened)
    by (inr opened) =
        let some : 1 ≤ n = omega (arith, bad.within, length-take-le n all (omega (arith, bad.within)), ap length opened.1.are) in
        open_not_elsewhere mark (take n all) opened.0 opened.1 (subst (VaultOpensElsewhere mark) (sym (take-take 1 n all some)) else_where)

not_before : (mark : List ℕ) (all : List (List ℕ)) (n m : ℕ) → IsBadUnder mark all n → IsBadUnder mark all m → n < m → ⊥
not_before mark all n m one two lt = by two.before
  where
    by : OpensUnder mark (take m all) → ⊥
    by (inl none) = absurd (omega (arith, lt, two.within, length-take-le m all (omega (arith, two.within)), ap length none))
    by (inr opened) =
        one.refused mark (take n opened.0)
        (subst (λ (ps : List (List ℕ)). VaultOpens mark ps (take n opened.0)) (take-take (n + 1) m all (omega (arith, lt))) (opens_first mark (take m all) opened.0 opened.1 n))

bad_once : (mark : List ℕ) (all : List (List ℕ)) (n m : ℕ) → IsBadUnder mark all n → IsBadUnder mark all m → n ≡ m
bad_once mark all n m one two =
    ⊎_elim (λ (le : (leb n m ≡ true) × (n ≤ m)). ⊎_elim (λ (ge : (leb m n ≡ true) × (m ≤ n)). omega (arith, le.1, ge.1)) (λ lt. absurd (not_before mark all n m one two lt.1)) (leb_tells m n))
    (λ gt. absurd (not_before mark all m n two one gt.1)) (leb_tells n m)

opens_or_none : (mark : List ℕ) (all : List (List ℕ)) → OpensUnder mark all → (stop : JournalStop) → AreNone mark all stop → ⊥
opens_or_none mark all (inl empty) (BadRecord n) bad = absurd (omega (arith, bad.within, ap length empty))
opens_or_none mark all (inl empty) WrongKey else_where = absurd (omega (arith, ap length else_where.opened.are, ap (λ (l : List (List ℕ)). length (take 1 l)) empty))
opens_or_none mark all (inr opened) (BadRecord n) bad = open_not_bad mark all opened.0 n opened.1 bad
opens_or_none mark all (inr opened) WrongKey else_where = open_not_elsewhere mark all opened.0 opened.1 else_where
opens_or_none mark all opens NoJournal none = absurd none
opens_or_none mark all opens HasRecords none = absurd none
opens_or_none mark all opens Disk none = absurd none
opens_or_none mark all opens Memory none = absurd none

module _ (told : List (List ℕ) → Type 0) (mark : List ℕ) (all : List (List ℕ)) (is : told all) where
  -- they open under the mark: only the disk or memory stops a reader
  pub recovers-opened : (result : Result ShelfRebuild JournalStop) → Recovers told mark result → (cs : List VaultCommand) → VaultOpens mark all cs → GoesOn result
  recovers-opened (Ok r) recovers cs opens disk memory = refl
  recovers-opened (Err (BadRecord n)) recovers cs opens disk memory = absurd (open_not_bad mark all cs n opens (recovers all is))
  recovers-opened (Err WrongKey) recovers cs opens disk memory = absurd (open_not_elsewhere mark all cs opens (recovers all is))
  recovers-opened (Err NoJournal) recovers cs opens disk memory = absurd (recovers all is)
  recovers-opened (Err HasRecords) recovers cs opens disk memory = absurd recovers
  recovers-opened (Err Disk) recovers cs opens disk memory = absurd (disk refl)
  recovers-opened (Err Memory) recovers cs opens disk memory = absurd (memory refl)

  -- they are none of the mark, for this cause: unless the disk or memory stops a reader, it names that
  pub recovers-refused : (result : Result ShelfRebuild JournalStop) → Recovers told mark result → IfOk result (λ r. r.mark ≡ mark) → (stop : JournalStop) → AreNone mark all stop → EndsFor stop result
  recovers-refused (Ok r) recovers marks stop none disk memory =
      absurd (opens_or_none mark all (subst (λ (m : List ℕ). OpensUnder m all) marks (subst (OpensUnder r.mark) (recovers.all all is) (opens_taken recovers.payloads r recovers.taken))) stop none)
  recovers-refused (Err (BadRecord m)) recovers marks (BadRecord n) none disk memory = ap (λ (k : ℕ). Err (BadRecord k)) (bad_once mark all m n (recovers all is) none)
  recovers-refused (Err (BadRecord m)) recovers marks WrongKey none disk memory = absurd (bad_not_elsewhere mark all m (recovers all is) none)
  recovers-refused (Err WrongKey) recovers marks (BadRecord n) none disk memory = absurd (bad_not_elsewhere mark all n none (recovers all is))
  recovers-refused (Err WrongKey) recovers marks WrongKey none disk memory = refl
  recovers-refused (Err (BadRecord m)) recovers marks NoJournal none disk memory = absurd none
  recovers-refused (Err (BadRecord m)) recovers marks HasRecords none disk memory = absurd none
  recovers-refused (Err (BadRecord m)) recovers marks Disk none disk memory = absurd none
  recovers-refused (Err (BadRecord m)) recovers marks Memory none disk memory = absurd none
  recovers-refused (Err WrongKey) recovers marks NoJournal none disk memory = absurd none
  recovers-refused (Err WrongKey) recovers marks HasRecords none disk memory = absurd none
  recovers-refused (Err WrongKey) recovers marks Disk none disk memory = absurd none
  recovers-refused (Err WrongKey) recovers marks Memory none disk memory = absurd none
  recovers-refused (Err NoJournal) recovers marks stop none disk memory = absurd (recovers all is)
  recovers-refused (Err HasRecords) recovers marks stop none disk memory = absurd recovers
  recovers-refused (Err Disk) recovers marks stop none disk memory = absurd (disk refl)
  recovers-refused (Err Memory) recovers marks stop none disk memory = absurd (memory refl)
