-- A number that is read stands between its limits.
use Rattle.std.proofs.Common.{◌≡◌, ℕ, ◌+◌, ◌≤◌, true, List, length, get_or}
use Rattle.std.specs.Int.{w16, w32, w64}
use Rattle.std.proofs.lemmas.Bool.{leb-true, and_parts}
use Rattle.sse_frames.specs.Fields.{number_at, range_field, byte_field}

-- a number that stands between its limits
pub record Stands (size low high place number : ℕ) (body : List ℕ) : Type 0 where
  pub inside : place + size ≤ length body
  pub above : low ≤ number
  pub below : number ≤ high

pub stands32 : (low high place : ℕ) (body : List ℕ) → (range_field w32 low high place).stands body ≡ true → Stands 4 low high place (number_at w32 place body) body
stands32 low high place body is =
    let a = and_parts _ _ is in
    let b = and_parts _ _ a.1 in
    record { inside = leb-true _ _ a.0; above = leb-true _ _ b.0; below = leb-true _ _ b.1 }

pub stands16 : (low high place : ℕ) (body : List ℕ) → (range_field w16 low high place).stands body ≡ true → Stands 2 low high place (number_at w16 place body) body
stands16 low high place body is =
    let a = and_parts _ _ is in
    let b = and_parts _ _ a.1 in
    record { inside = leb-true _ _ a.0; above = leb-true _ _ b.0; below = leb-true _ _ b.1 }

pub stands64 : (low high place : ℕ) (body : List ℕ) → (range_field w64 low high place).stands body ≡ true → Stands 8 low high place (number_at w64 place body) body
stands64 low high place body is =
    let a = and_parts _ _ is in
    let b = and_parts _ _ a.1 in
    record { inside = leb-true _ _ a.0; above = leb-true _ _ b.0; below = leb-true _ _ b.1 }

pub stands8 : (low high place : ℕ) (body : List ℕ) → (byte_field low high place).stands body ≡ true → Stands 1 low high place (get_or body place 0) body
stands8 low high place body is =
    let a = and_parts _ _ is in
    let b = and_parts _ _ a.1 in
    record { inside = leb-true _ _ a.0; above = leb-true _ _ b.0; below = leb-true _ _ b.1 }
