-- How a start goes on over calls that change nothing, and over a repair.
use Rattle.std.proofs.Common.{◌≡◌, ℕ, List, sym, ◌∙◌, subst, is_some, ◌+◌, ◌≤◌, ◌∷◌, [], length, true≢false, ap, arith, length-append}
use Rattle.std.specs.Prelude.{Some, None, IfSome, Option}
use Rattle.sse_outside.specs.Images.{NoOther, Elapses, Only}
use Rattle.sse_journal.specs.Files.{Gives, GivesAs, front, file}
use Rattle.sse_journal.specs.AnyMoment.{LeavesOnly}
use Rattle.sse_journal.specs.Holds.{IsAllOf}
use Rattle.sse_journal.specs.Walks.{IsWalked}
use Rattle.sse_journal.proofs.Moments.{started, goes_on, goes_on_to, weakened}
use Rattle.sse_journal.proofs.RepairSteps.{unset_gives}
use Rattle.sse_journal.proofs.Once.{gives_once}

pub told_of : (o : Option (List ℕ)) (bytes : List ℕ) (P : List ℕ → Type 0) → o ≡ Some bytes → IfSome o P → P bytes
told_of o bytes P reads has = subst (λ (m : Option (List ℕ)). IfSome m P) reads has

-- a file that gives these records gives no others
pub only_those : (payloads : List (List ℕ)) (bytes image : List ℕ) → Gives payloads bytes → Gives payloads image → GivesAs bytes image
only_those payloads bytes image gives same others gives_others = subst (λ (ps : List (List ℕ)). Gives ps image) (gives_once payloads others bytes gives gives_others) same

pub walked_gives : (bytes : List ℕ) (end records commit : ℕ) → (w : IsWalked bytes end records commit) → Gives w.payloads bytes
walked_gives bytes end records commit w = subst (Gives w.payloads) (sym w.are) (unset_gives w.payloads commit w.tail w.payloads_are w.unset)

-- after a sync that succeeded, where the disk tells its content
pub after_sync : (o m : Option (List ℕ)) (images : List ℕ → Type 0) (X : List ℕ → Type 0) → m ≡ o → IfSome o (λ file. Only file images) → ((bytes : List ℕ) → IsAllOf bytes m images → X bytes) → IfSome o X
after_sync None m images X kept only to = tt
after_sync (Some bytes) m images X kept only to = to bytes (record { reads = kept; durable = only })

module _ {D : Type 0} (content : D → Option (List ℕ)) (images : D → List ℕ → Type 0) (moment : D → ℕ) (left_since : D → ℕ → List ℕ → Type 0) (bytes : List ℕ) where
  pub still : (d e : D) → IsAllOf bytes (content d) (images d) → content e ≡ content d → NoOther (images d) (images e) → IsAllOf bytes (content e) (images e)
  still d e all kept fewer = record { reads = kept ∙ all.reads; durable = λ c left. all.durable c (fewer c left) }

  pub quiet_from : (d : D) → ((c : List ℕ) → left_since d (moment d) c → images d c) → IsAllOf bytes (content d) (images d) → LeavesOnly moment left_since d d (GivesAs bytes)
  quiet_from d only_now all = started moment left_since d (GivesAs bytes) (λ c left. subst (GivesAs bytes) (sym (all.durable c (only_now c left))) (λ payloads gives. gives))

  pub quiet_on : (old d e : D) → LeavesOnly moment left_since old d (GivesAs bytes) → IsAllOf bytes (content d) (images d) → NoOther (images d) (images e) → Elapses (moment d) (moment e) (left_since d) (left_since e) (images e) → LeavesOnly moment left_since old e (GivesAs bytes)
  quiet_on old d e so_far all fewer time = goes_on moment left_since old d e (GivesAs bytes) (images e) so_far time (λ c left. subst (GivesAs bytes) (sym (all.durable c (fewer c left))) (λ payloads gives. gives))

  pub walk_quiet : (old d e : D) → LeavesOnly moment left_since old d (GivesAs bytes) → IsAllOf bytes (content d) (images d) → LeavesOnly moment left_since d e (images d) → LeavesOnly moment left_since old e (GivesAs bytes)
  walk_quiet old d e so_far all quiet = goes_on_to moment left_since old d e (GivesAs bytes) so_far (weakened moment left_since d e (images d) (GivesAs bytes) (λ c left. subst (GivesAs bytes) (sym (all.durable c left)) (λ payloads gives. gives)) quiet)

  pub repaired : (old d e : D) (payloads : List (List ℕ)) → Gives payloads bytes → LeavesOnly moment left_since old d (GivesAs bytes) → LeavesOnly moment left_since d e (Gives payloads) → LeavesOnly moment left_since old e (GivesAs bytes)
  repaired old d e payloads gives so_far then = goes_on_to moment left_since old d e (GivesAs bytes) so_far (weakened moment left_since d e (Gives payloads) (GivesAs bytes) (λ c same. only_those payloads bytes c gives same) then)

-- a file of these records has its end within
pub ends_within : (o n : Option (List ℕ)) (end : ℕ) → is_some n ≡ is_some o → IfSome o (λ bytes. (payloads : List (List ℕ)) × (end ≡ length (front payloads)) × (n ≡ Some (file payloads))) → IfSome n (λ bytes. end + 1 ≤ length bytes)
ends_within o None end told has = tt
ends_within None (Some bytes) end told has = absurd (true≢false told)
ends_within (Some old) (Some bytes) end told has = subst (λ (b : List ℕ). end + 1 ≤ length b) (sym (some_is bytes (file has.0) has.2)) (omega (arith, has.1, length-append (front has.0) (0 ∷ [])))
  where
    some_is : (a b : List ℕ) → Some a ≡ Some b → a ≡ b
    some_is a b same = ap (λ (o : Option (List ℕ)). value o) same
      where
        value : Option (List ℕ) → List ℕ
        value None = []
        value (Some x) = x
