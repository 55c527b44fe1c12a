-- The records kept from one moment to another, and those that a crash leaves meanwhile.
use Rattle.std.specs.Prelude.{◌≡◌, ◌⊎◌, ℕ, List, [], ◌++◌, option_map, IfSome}
use Rattle.sse_journal.specs.AnyMoment.{LeavesOnly}
use Rattle.sse_journal.specs.Files.{Gives}
use Rattle.sse_outside.specs.Kept.{Kept}

-- this file gives the records of before and then the first of these, none skipped
pub record GivesFront (before more : List (List ℕ)) (image : List ℕ) : Type 0 where
  pub front : List (List ℕ)
  pub back : List (List ℕ)
  pub parts : more ≡ front ++ back
  pub gives : Gives (before ++ front) image

-- nothing was refused, and each of these files gives the records that were taken
pub record IsAtRest (kept : Kept) (left : List ℕ → Type 0) : Type 0 where
  pub none : kept.refused ≡ []
  pub leaves : IfSome kept.records (λ records. (image : List ℕ) → left image → Gives records image)

-- each of these files gives the records that were taken, with the one that was refused or without it
abbrev pub LeavesKept : (kept : Kept) (left : List ℕ → Type 0) → Type 0
LeavesKept kept left = IfSome kept.records (λ records. (image : List ℕ) → left image → Gives records image ⊎ Gives (records ++ kept.refused) image)

-- records were taken behind those of before; a crash at any moment since leaves those of before and then the first of what was taken and
-- refused since, in order; and a crash now leaves all that were taken, with the one that was refused or without it
pub record KeepsOn {R : Type 0} (kept : R → Kept) (moment : R → ℕ) (left_since : R → ℕ → List ℕ → Type 0) (old new : R) : Type 0 where
  pub more : List (List ℕ)
  pub grows : (kept new).records ≡ option_map (λ all. all ++ more) (kept old).records
  pub meanwhile : IfSome (kept old).records (λ before. LeavesOnly moment left_since old new (GivesFront before (more ++ (kept new).refused)))
  pub leaves : LeavesKept (kept new) (left_since new (moment new))
