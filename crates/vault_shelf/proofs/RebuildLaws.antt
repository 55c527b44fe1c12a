-- What one record more makes of those that a rebuild took.
use Rattle.std.proofs.Common.{◌≡◌, ⊎_elim, inl, inr, ℕ, ◌+◌, Bool, true, false, not, ◌&&◌, List, [], ◌∷◌, ◌++◌, length, map, take, drop, refl, sym, ap, ◌∙◌, subst, arith, Some, None}
use Rattle.std.specs.Prelude.{Err, Option, Result, bytes_eq, get_or, is_some, nat_le, nat_lt}
use Rattle.std.specs.Option.{option_map_or}
use Rattle.std.proofs.lemmas.Bool.{leb-true, ltb-true, true≢false}
use Rattle.std.proofs.lemmas.List.{append-nil, length-append, length-map, map-append}
use Rattle.std.proofs.Math.Seq.{take-append_seam}
use Rattle.std.proofs.lemmas.Slice.Eq.{bytes_eq-Decides}
use Rattle.vault_shelf.proofs.Fronts.{accepted-append, accepted_later}
use Rattle.vault_shelf.proofs.Rows.{and_left, and_right}
use Rattle.vault_shelf.specs.ClientRecords.{AreRecorded, IsBadVaultRecord, IsRecorded, NoneYet, OpensSoFar, SomeOpen, VaultOpens, VaultOpensElsewhere, VaultOpensNowhere, command_record, mark_record, vault_records_of}
use Rattle.vault_shelf.specs.ShelfFaults.{AreAccepted, shelf_fault}
use Rattle.vault_shelf.specs.Shelves.{VaultCommand, Put, Drop, Get, Shelf, empty_shelf, shelf_after, shelf_of}
use Rattle.vault_shelf.specs.declared.shelf_fault.ShelfFault.{ShelfFault}
use Rattle.vault_shelf.specs.Apart.{KeepsApart, KeepsNone}
use Rattle.vault_shelf.specs.Readiness.{is_ready, is_ready_for}
use Rattle.vault_shelf.specs.Rebuilds.{HasNone, IsSettled, IsTaken, Takes}
use Rattle.vault_shelf.specs.declared.record_fault.RecordFault.{RecordFault}
use Rattle.vault_shelf.specs.declared.record_fault.RecordFault.TheVariants.{BadRecord}
use Rattle.vault_shelf.specs.RecordReading.{command_in, mark_in}
use Rattle.vault_shelf.specs.ShelfView.{ShelfView, CanSend, HasRoom, Keeps}
use Rattle.vault_shelf.proofs.RecordGrammar.{command_back, mark_back, mark_found, no_some, one_command}

-- Readiness.

pub ready_sends : (view : ShelfView) (c : VaultCommand) → is_ready_for view c ≡ true → CanSend view c
ready_sends view (Put id body) e =
    let rest = and_right (nat_lt view.puts 0xffffffff) (nat_lt view.sent 0xffffffff && (nat_le (length body) 65536 && nat_lt 0 view.room)) e in
    let last = and_right (nat_lt view.sent 0xffffffff) (nat_le (length body) 65536 && nat_lt 0 view.room) rest in record {
      put = ltb-true view.puts 0xffffffff (and_left (nat_lt view.puts 0xffffffff) (nat_lt view.sent 0xffffffff && (nat_le (length body) 65536 && nat_lt 0 view.room)) e);
      number = ltb-true view.sent 0xffffffff (and_left (nat_lt view.sent 0xffffffff) (nat_le (length body) 65536 && nat_lt 0 view.room) rest);
      short = leb-true (length body) 65536 (and_left (nat_le (length body) 65536) (nat_lt 0 view.room) last);
    }
ready_sends view (Drop id) e = ltb-true view.sent 0xffffffff e
ready_sends view (Get id) e = tt

pub ready_room : (view : ShelfView) (c : VaultCommand) → is_ready_for view c ≡ true → HasRoom view c
ready_room view (Put id body) e =
    let rest = and_right (nat_lt view.puts 0xffffffff) (nat_lt view.sent 0xffffffff && (nat_le (length body) 65536 && nat_lt 0 view.room)) e in
    let last = and_right (nat_lt view.sent 0xffffffff) (nat_le (length body) 65536 && nat_lt 0 view.room) rest in
    ltb-true 0 view.room (and_right (nat_le (length body) 65536) (nat_lt 0 view.room) last)
ready_room view (Drop id) e = tt
ready_room view (Get id) e = tt

-- the same of the command that a record is
pub ready_in : (view : ShelfView) (last : List ℕ) (c : VaultCommand) → command_in last ≡ Some c → is_ready view last ≡ true → is_ready_for view c ≡ true
ready_in view last c found ready = ap (λ m. option_map_or (is_ready_for view) m true) (sym found) ∙ ready

-- Rows.

head_is : {A : Type 0} (x y : A) (xs ys : List A) → x ∷ xs ≡ y ∷ ys → x ≡ y
head_is x y xs ys e = ap (λ l. get_or l 0 x) e

tail_is : {A : Type 0} (x y : A) (xs ys : List A) → x ∷ xs ≡ y ∷ ys → xs ≡ ys
tail_is x y xs ys e = ap (drop 1) e

no_row : {A B : Type 0} (x : A) (xs : List A) → x ∷ xs ≡ [] → B
no_row x xs e = absurd (omega (arith, ap length e))

-- the records of commands with one record more are those of these commands and of one more
record OneMore (cs ds : List VaultCommand) (payload : List ℕ) : Type 0 where
  last : VaultCommand
  are : ds ≡ cs ++ last ∷ []
  recorded : IsRecorded last
  record_is : payload ≡ command_record last

one_more : (cs ds : List VaultCommand) (payload : List ℕ) → AreRecorded cs → AreRecorded ds → map command_record cs ++ payload ∷ [] ≡ map command_record ds → OneMore cs ds payload
one_more [] [] payload a b e = no_row payload [] e
one_more [] (d ∷ []) payload a b e = record { last = d; are = refl; recorded = b.0; record_is = head_is payload (command_record d) [] [] e }
one_more [] (d ∷ d2 ∷ ds) payload a b e = no_row (command_record d2) (map command_record ds) (sym (tail_is payload (command_record d) [] (command_record d2 ∷ map command_record ds) e))
one_more (c ∷ cs) [] payload a b e = no_row (command_record c) (map command_record cs ++ payload ∷ []) e
one_more (c ∷ cs) (d ∷ ds) payload a b e =
    let same : c ≡ d = one_command c d a.0 b.0 (head_is (command_record c) (command_record d) (map command_record cs ++ payload ∷ []) (map command_record ds) e) in
    let rest = one_more cs ds payload a.1 b.1 (tail_is (command_record c) (command_record d) (map command_record cs ++ payload ∷ []) (map command_record ds) e) in
    record { last = rest.last; are = (λ i. sym same i ∷ rest.are i); recorded = rest.recorded; record_is = rest.record_is }

-- The first record.

pub mark_opens : (mark payload : List ℕ) → length mark ≡ 16 → payload ≡ mark_record mark → VaultOpens mark (payload ∷ []) []
mark_opens mark payload size e = record { size = size; are = ap (λ p. p ∷ []) e; recorded = tt; accepted = tt }

pub no_mark : (payload : List ℕ) → mark_in payload ≡ None → VaultOpensNowhere (payload ∷ [])
no_mark payload e m cs opens = no_some m (sym e ∙ ap mark_in (head_is payload (mark_record m) [] (map command_record cs) opens.are) ∙ mark_back m opens.size)

-- One after it.

module _ (mark : List ℕ) (payloads : List (List ℕ)) (cs : List VaultCommand) (opens : VaultOpens mark payloads cs) (payload : List ℕ) where
  more_of : (m : List ℕ) (ds : List VaultCommand) → VaultOpens m (payloads ++ payload ∷ []) ds → OneMore cs ds payload
  more_of m ds other =
      let e : vault_records_of mark cs ++ payload ∷ [] ≡ vault_records_of m ds = ap (λ l. l ++ payload ∷ []) (sym opens.are) ∙ other.are in
      one_more cs ds payload opens.recorded other.recorded (tail_is (mark_record mark) (mark_record m) (map command_record cs ++ payload ∷ []) (map command_record ds) e)

  pub no_command : command_in payload ≡ None → VaultOpensNowhere (payloads ++ payload ∷ [])
  no_command none m ds other =
      let more = more_of m ds other in
      no_some more.last (sym none ∙ ap command_in more.record_is ∙ command_back more.last more.recorded)

  pub refused_command : (c : VaultCommand) → IsRecorded c → payload ≡ command_record c → is_some (shelf_fault (shelf_of empty_shelf cs) c) ≡ true → VaultOpensNowhere (payloads ++ payload ∷ [])
  refused_command c recorded record_is refused m ds other =
      let more = more_of m ds other in
      let same : more.last ≡ c = one_command more.last c more.recorded recorded (sym more.record_is ∙ record_is) in
      let accepted : AreAccepted (shelf_of empty_shelf cs) (more.last ∷ []) = accepted_later empty_shelf cs (more.last ∷ []) (subst (AreAccepted empty_shelf) more.are other.accepted) in
      true≢false (sym refused ∙ ap (λ d. is_some (shelf_fault (shelf_of empty_shelf cs) d)) (sym same) ∙ ap is_some accepted.0)

  pub accepted_command : (c : VaultCommand) → IsRecorded c → payload ≡ command_record c → shelf_fault (shelf_of empty_shelf cs) c ≡ None → VaultOpens mark (payloads ++ payload ∷ []) (cs ++ c ∷ [])
  accepted_command c recorded record_is accepted = record {
    size = opens.size;
    are = (λ i. opens.are i ++ record_is i ∷ []) ∙ ap (λ rest. mark_record mark ∷ rest) (sym (map-append command_record cs (c ∷ [])));
    recorded = recorded-append cs opens.recorded;
    accepted = accepted-append empty_shelf cs (c ∷ []) opens.accepted (accepted, tt);
  }
    where
      recorded-append : (xs : List VaultCommand) → AreRecorded xs → AreRecorded (xs ++ c ∷ [])
      recorded-append [] are = (recorded, tt)
      recorded-append (x ∷ xs) are = (are.0, recorded-append xs are.1)

-- as many updates as records after the first
sent_of : (s : Shelf) (cs : List VaultCommand) → AreRecorded cs → (shelf_of s cs).sent ≡ s.sent + length cs
sent_of s [] are = omega arith
sent_of s (Put id body ∷ cs) are = sent_of (shelf_after s (Put id body)) cs are.1 ∙ omega arith
sent_of s (Drop id ∷ cs) are = sent_of (shelf_after s (Drop id)) cs are.1 ∙ omega arith
sent_of s (Get id ∷ cs) are = absurd are.0

pub records_of : (mark : List ℕ) (payloads : List (List ℕ)) (cs : List VaultCommand) → VaultOpens mark payloads cs → 1 + (shelf_of empty_shelf cs).sent ≡ length payloads
records_of mark payloads cs opens = omega (arith, sent_of empty_shelf cs opens.recorded, ap length opens.are, length-map cs command_record)

-- What the records say of the first bad one, of another key, and of memory.

pub so_far : (mark : List ℕ) (marked : Bool) (payloads : List (List ℕ)) (view : ShelfView) (last : List ℕ) → IsTaken mark marked payloads view last → OpensSoFar payloads
so_far mark false payloads view last taken = NoneYet taken.none
so_far mark true payloads view last taken = SomeOpen mark taken.commands taken.opens

take_all : (xs : List (List ℕ)) (n : ℕ) → length xs ≡ n → take n xs ≡ xs
take_all xs n e = subst (λ k. take k xs ≡ xs) e (ap (take (length xs)) (sym (append-nil xs)) ∙ take-append_seam xs [])

pub bad_record : (payloads : List (List ℕ)) (payload : List ℕ) (n : ℕ) → OpensSoFar payloads → n ≡ length payloads → VaultOpensNowhere (payloads ++ payload ∷ []) → IsBadVaultRecord (payloads ++ payload ∷ []) n
bad_record payloads payload n so number nowhere = record {
  before = subst OpensSoFar (sym (subst (λ k. take k (payloads ++ payload ∷ []) ≡ payloads) (sym number) (take-append_seam payloads (payload ∷ [])))) so;
  refused = subst VaultOpensNowhere (sym (take_all (payloads ++ payload ∷ []) (n + 1) (length-append payloads (payload ∷ []) ∙ omega (arith, number)))) nowhere;
}

pub taken_marked : (mark : List ℕ) (marked : Bool) (payloads : List (List ℕ)) (view : ShelfView) (last : List ℕ) → marked ≡ true → IsTaken mark marked payloads view last → IsTaken mark true payloads view last
taken_marked mark marked payloads view last e taken = subst (λ m. IsTaken mark m payloads view last) e taken

pub taken_unmarked : (mark : List ℕ) (marked : Bool) (payloads : List (List ℕ)) (view : ShelfView) (last : List ℕ) → marked ≡ false → IsTaken mark marked payloads view last → IsTaken mark false payloads view last
taken_unmarked mark marked payloads view last e taken = subst (λ m. IsTaken mark m payloads view last) e taken

-- all commands are carried out
pub settled : (mark : List ℕ) (payloads : List (List ℕ)) (before after : ShelfView) (last : List ℕ) → IsTaken mark true payloads before last
    → ((cs : List VaultCommand) → KeepsNone before last cs → Keeps after (shelf_of empty_shelf cs))
    → ((cs : List VaultCommand) → KeepsApart before last cs → Keeps after (shelf_of empty_shelf cs)) → IsSettled mark payloads after
settled mark payloads before after last taken none apart =
    record { commands = taken.commands; opens = taken.opens; keeps = ⊎_elim (none taken.commands) (apart taken.commands) taken.kept }

-- the number of the next record
pub record_number : (mark : List ℕ) (payloads : List (List ℕ)) (view : ShelfView) → IsSettled mark payloads view → 1 + view.sent ≡ length payloads
record_number mark payloads view s = ap (λ n. 1 + n) s.keeps.sent ∙ records_of mark payloads s.commands s.opens

-- one more command is kept apart
pub kept_apart : (mark : List ℕ) (payloads : List (List ℕ)) (before after : ShelfView) (payload : List ℕ) (c : VaultCommand) → (s : IsSettled mark payloads before) → IsRecorded c → payload ≡ command_record c
    → shelf_fault (shelf_of empty_shelf s.commands) c ≡ None → Keeps after (shelf_of empty_shelf s.commands) → IsTaken mark true (payloads ++ payload ∷ []) after payload
kept_apart mark payloads before after payload c s recorded record_is accepted keeps =
    record {
      commands = s.commands ++ c ∷ [];
      opens = accepted_command mark payloads s.commands s.opens payload c recorded record_is accepted;
      kept = inr (record { before = s.commands; command = c; are = refl; recorded = recorded; last_is = record_is; keeps = keeps });
    }

-- The answers, one by one.

none_of : {A : Type 0} (m : Option A) → is_some m ≡ false → m ≡ None
none_of None e = refl
none_of (Some x) e = absurd (true≢false e)

pub takes_apart : (mark : List ℕ) (marked : Bool) (payloads : List (List ℕ)) (before after : ShelfView) (payload last : List ℕ) (c : VaultCommand) (found : Option ShelfFault) → IsSettled mark payloads before → marked ≡ true → last ≡ payload
    → IsRecorded c → payload ≡ command_record c → is_some found ≡ false → ((s : Shelf) → Keeps before s → found ≡ shelf_fault s c) → ((s : Shelf) → Keeps before s → Keeps after s)
    → IsTaken mark marked (payloads ++ payload ∷ []) after last
takes_apart mark marked payloads before after payload last c found s marks lasts recorded record_is accepted fault keeps =
    let left = shelf_of empty_shelf s.commands in
    let none : shelf_fault left c ≡ None = sym (fault left s.keeps) ∙ none_of found accepted in
    subst (λ m. IsTaken mark m (payloads ++ payload ∷ []) after last) (sym marks)
    (subst (IsTaken mark true (payloads ++ payload ∷ []) after) (sym lasts) (kept_apart mark payloads before after payload c s recorded record_is none (keeps left s.keeps)))

pub opens_with : (mark : List ℕ) (payloads : List (List ℕ)) (before : ShelfView) (payload : List ℕ) (c : VaultCommand) (found : Option ShelfFault) → IsSettled mark payloads before → IsRecorded c → payload ≡ command_record c → is_some found ≡ false
    → ((s : Shelf) → Keeps before s → found ≡ shelf_fault s c) → (cs : List VaultCommand) × (d : VaultCommand) × VaultOpens mark (payloads ++ payload ∷ []) (cs ++ d ∷ [])
opens_with mark payloads before payload c found s recorded record_is accepted fault =
    let left = shelf_of empty_shelf s.commands in
    (s.commands, c, accepted_command mark payloads s.commands s.opens payload c recorded record_is (sym (fault left s.keeps) ∙ none_of found accepted))

pub refused_with : (mark : List ℕ) (payloads : List (List ℕ)) (before : ShelfView) (payload : List ℕ) (c : VaultCommand) (found : Option ShelfFault) → IsSettled mark payloads before → IsRecorded c → payload ≡ command_record c → is_some found ≡ true
    → ((s : Shelf) → Keeps before s → found ≡ shelf_fault s c) → VaultOpensNowhere (payloads ++ payload ∷ [])
refused_with mark payloads before payload c found s recorded record_is refused fault =
    refused_command mark payloads s.commands s.opens payload c recorded record_is (sym (ap is_some (fault (shelf_of empty_shelf s.commands) s.keeps)) ∙ refused)

pub unread_with : (mark : List ℕ) (payloads : List (List ℕ)) (before : ShelfView) (payload : List ℕ) → IsSettled mark payloads before → command_in payload ≡ None → VaultOpensNowhere (payloads ++ payload ∷ [])
unread_with mark payloads before payload s none = no_command mark payloads s.commands s.opens payload none

-- what the comparison of two marks says
pub differs_of : (x y : List ℕ) (test : Bool) → test ≡ not (bytes_eq x y) → test ≡ true → x ≡ y → ⊥
differs_of x y test is true_is same = true≢false (sym true_is ∙ is ∙ ap not ((bytes_eq-Decides x y).1 same))

pub same_of : (x y : List ℕ) (test : Bool) → test ≡ not (bytes_eq x y) → test ≡ false → x ≡ y
same_of x y test is false_is = by (bytes_eq x y) refl
  where
    by : (b : Bool) → bytes_eq x y ≡ b → x ≡ y
    by true e = (bytes_eq-Decides x y).0 e
    by false e = absurd (true≢false (sym (ap not e) ∙ sym is ∙ false_is))

pub first_bad : (payloads : List (List ℕ)) (payload : List ℕ) → payloads ≡ [] → mark_in payload ≡ None → (0 ≡ length payloads) × VaultOpensNowhere (payloads ++ payload ∷ [])
first_bad payloads payload none e = (sym (ap length none), subst (λ ps. VaultOpensNowhere (ps ++ payload ∷ [])) (sym none) (no_mark payload e))

pub first_wrong : (mark other : List ℕ) (payloads : List (List ℕ)) (payload : List ℕ) → payloads ≡ [] → Some other ≡ mark_in payload → (other ≡ mark → ⊥) → VaultOpensElsewhere mark (payloads ++ payload ∷ [])
first_wrong mark other payloads payload none found differs =
    let has = mark_found payload other found in
    subst (λ ps. VaultOpensElsewhere mark (ps ++ payload ∷ [])) (sym none) (record { other = other; commands = []; opened = mark_opens other payload has.size has.record_is; differs = differs })

pub first_taken : (mark other : List ℕ) (payloads : List (List ℕ)) (payload : List ℕ) (view : ShelfView) (last : List ℕ) → HasNone payloads view last → Some other ≡ mark_in payload → other ≡ mark
    → IsTaken mark true (payloads ++ payload ∷ []) view last
first_taken mark other payloads payload view last is found same =
    let has = mark_found payload mark (sym (ap Some same) ∙ found) in
    subst (λ ps. IsTaken mark true (ps ++ payload ∷ []) view last) (sym is.none) (record { commands = []; opens = mark_opens mark payload has.size has.record_is; kept = inl is.kept })

pub takes_bad : {A B : Type 0} (mark : List ℕ) (payloads : List (List ℕ)) (payload : List ℕ) (marked : Bool) (view : ShelfView) (last : List ℕ) (result : Result A RecordFault) (fault : RecordFault) (n : ℕ) → OpensSoFar payloads
    → result ≡ Err fault → Takes mark payloads payload marked view last result → ◌≡◌ {A = Result B RecordFault} (Err fault) (Err (BadRecord n)) → (n ≡ length payloads) × IsBadVaultRecord (payloads ++ payload ∷ []) n
takes_bad {A} mark payloads payload marked view last result fault n so is takes e =
    let same : fault ≡ BadRecord n = cc in
    let bad = subst (Takes mark payloads payload marked view last) (is ∙ ap Err same) takes in
    (bad.0, bad_record payloads payload n so bad.0 bad.1)
