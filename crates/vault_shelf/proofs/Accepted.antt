-- What is so where a client accepts a put or a drop.
use Rattle.std.proofs.Common.{◌≡◌, ℕ, ◌<◌, ◌≤◌, Bool, true, false, not, ◌==◌, List, length, refl, sym, Some, None}
use Rattle.std.specs.Prelude.{Option, is_some, nat_lt, if◌then◌else◌}
use Rattle.std.proofs.lemmas.Bool.{ltb-true, ltb-false}
use Rattle.vault_shelf.specs.Shelves.{Put, Drop, Shelf}
use Rattle.vault_shelf.specs.ShelfFaults.{has_number, has_place, shelf_fault}
use Rattle.vault_shelf.specs.declared.shelf_fault.ShelfFault.TheVariants.{IdentifierZero, IsThere, NotThere, TooLong, Full}
use Rattle.vault_shelf.proofs.Rows.{and_left, and_right, no_some}

pub record IsAcceptedPut (s : Shelf) (id : ℕ) (body : List ℕ) : Type 0 where
  pub some : (id == 0) ≡ false
  pub free : is_some (s.there id) ≡ false
  pub short : length body ≤ 65536
  pub place : length s.puts < 0xffffffff
  pub number : s.sent < 0xffffffff

pub record IsAcceptedDrop (s : Shelf) (id : ℕ) : Type 0 where
  pub some : (id == 0) ≡ false
  pub put : ℕ
  pub there : s.there id ≡ Some put
  pub number : s.sent < 0xffffffff

pub accepted_put : (s : Shelf) (id : ℕ) (body : List ℕ) → shelf_fault s (Put id body) ≡ None → IsAcceptedPut s id body
accepted_put s id body accepted = by (id == 0) refl (is_some (s.there id)) refl (nat_lt 65536 (length body)) refl (has_place s) refl accepted
  where
    by : (zero : Bool) → (id == 0) ≡ zero → (there : Bool) → is_some (s.there id) ≡ there → (long : Bool) → nat_lt 65536 (length body) ≡ long → (place : Bool) → has_place s ≡ place
        → (if zero then Some IdentifierZero else if there then Some (IsThere id) else if long then Some (TooLong (length body)) else if place then None else Some Full) ≡ None
        → IsAcceptedPut s id body
    by true z there t long l place p e = no_some IdentifierZero (sym e)
    by false z true t long l place p e = no_some (IsThere id) (sym e)
    by false z false t true l place p e = no_some (TooLong (length body)) (sym e)
    by false z false t false l false p e = no_some Full (sym e)
    by false z false t false l true p e = record {
      some = z;
      free = t;
      short = ltb-false 65536 (length body) l;
      place = ltb-true (length s.puts) 0xffffffff (and_left (nat_lt (length s.puts) 0xffffffff) (has_number s) p);
      number = ltb-true s.sent 0xffffffff (and_right (nat_lt (length s.puts) 0xffffffff) (has_number s) p);
    }

pub accepted_drop : (s : Shelf) (id : ℕ) → shelf_fault s (Drop id) ≡ None → IsAcceptedDrop s id
accepted_drop s id accepted = by (id == 0) refl (s.there id) refl (has_number s) refl accepted
  where
    by : (zero : Bool) → (id == 0) ≡ zero → (there : Option ℕ) → s.there id ≡ there → (number : Bool) → has_number s ≡ number
        → (if zero then Some IdentifierZero else if not (is_some there) then Some (NotThere id) else if number then None else Some Full) ≡ None
        → IsAcceptedDrop s id
    by true z there t number n e = no_some IdentifierZero (sym e)
    by false z None t number n e = no_some (NotThere id) (sym e)
    by false z (Some put) t false n e = no_some Full (sym e)
    by false z (Some put) t true n e = record { some = z; put = put; there = t; number = ltb-true s.sent 0xffffffff n }
