-- The last of commands that were recorded, and what they leave.
use Rattle.std.proofs.Common.{◌≡◌, ℕ, ◌+◌, List, [], ◌∷◌, ◌++◌, drop, length, take, refl, sym, ap, ◌∙◌, arith}
use Rattle.std.specs.Prelude.{get_or}
use Rattle.std.proofs.lemmas.List.{length-append}
use Rattle.std.proofs.Math.Seq.{drop-append_seam, take-append_seam}
use Rattle.vault_shelf.proofs.Fronts.{shelf_of-append}
use Rattle.vault_shelf.specs.ClientRecords.{AreRecorded, IsRecorded}
use Rattle.vault_shelf.specs.Shelves.{VaultCommand, Put, Drop, Get, Shelf, empty_shelf, shelf_after}
use Rattle.vault_client.specs.CatchingUp.{left_by}

-- what commands leave, and one more
pub left_by-last : (before : List VaultCommand) (c : VaultCommand) → left_by (before ++ c ∷ []) ≡ shelf_after (left_by before) c
left_by-last before c = shelf_of-append empty_shelf before (c ∷ [])

one_update : (s : Shelf) (c : VaultCommand) → IsRecorded c → (shelf_after s c).sent ≡ s.sent + 1
one_update s (Put id body) recorded = refl
one_update s (Drop id) recorded = refl
one_update s (Get id) recorded = absurd recorded

-- one update more
pub sent-last : (before : List VaultCommand) (c : VaultCommand) → IsRecorded c → (left_by (before ++ c ∷ [])).sent ≡ (left_by before).sent + 1
sent-last before c recorded = ap (λ (s : Shelf). s.sent) (left_by-last before c) ∙ one_update (left_by before) c recorded

pub recorded_last : (before : List VaultCommand) (c : VaultCommand) → AreRecorded (before ++ c ∷ []) → IsRecorded c
recorded_last [] c are = are.0
recorded_last (b ∷ before) c are = recorded_last before c are.1

-- two rows with one command more are one row
pub record OneRow (before earlier : List VaultCommand) (c d : VaultCommand) : Type 0 where
  pub rows : before ≡ earlier
  pub last : c ≡ d

head_is : (c d : VaultCommand) (cs ds : List VaultCommand) → c ∷ cs ≡ d ∷ ds → c ≡ d
head_is c d cs ds e = ap (λ (l : List VaultCommand). get_or l 0 c) e

pub one_row : (before earlier : List VaultCommand) (c d : VaultCommand) → before ++ c ∷ [] ≡ earlier ++ d ∷ [] → OneRow before earlier c d
one_row before earlier c d e =
    let long : length before ≡ length earlier = omega (arith, ap length e, length-append before (c ∷ []), length-append earlier (d ∷ [])) in
    record {
      rows =
          sym (take-append_seam before (c ∷ [])) ∙ ap (λ (l : List VaultCommand). take (length before) l) e
          ∙ ap (λ (n : ℕ). take n (earlier ++ d ∷ [])) long ∙ take-append_seam earlier (d ∷ []);
      last = head_is c d [] []
          (sym (drop-append_seam before (c ∷ [])) ∙ ap (λ (l : List VaultCommand). drop (length before) l) e
          ∙ ap (λ (n : ℕ). drop n (earlier ++ d ∷ [])) long ∙ drop-append_seam earlier (d ∷ []));
    }
