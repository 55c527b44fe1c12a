-- A file that gives no record stops being a journal nowhere.
use Rattle.std.proofs.Common.{◌≡◌, inl, inr, ℕ, ◌<◌, List, [], ◌∷◌, ◌++◌, length, take, drop, refl, sym, ◌∙◌, ap, arith, append_assoc, length-append}
use Rattle.std.specs.Prelude.{flat_map}
use Rattle.client_journal.specs.Openings.{IsNoJournal}
use Rattle.sse_journal.proofs.Once.{some_framed}
use Rattle.sse_journal.specs.Files.{magic, framed, record_bytes, front, Gives}
use Rattle.sse_journal.specs.Heads.{IsBad}

begins_as : (payloads : List (List ℕ)) (rest : List ℕ) → take 8 (front payloads ++ rest) ≡ magic
unfolding front
begins_as payloads rest = refl

behind_magic : (payloads : List (List ℕ)) (rest : List ℕ) → drop 8 (front payloads ++ rest) ≡ flat_map record_bytes payloads ++ rest
unfolding front
behind_magic payloads rest = refl

nil_of : (xs : List ℕ) → length xs ≡ 0 → xs ≡ []
nil_of [] none = refl
nil_of (x ∷ xs) none = absurd (omega (arith, none))

too_long : (payloads : List (List ℕ)) (rest : List ℕ) → IsBad rest → length (front payloads ++ rest) < 9 → ⊥
unfolding front
too_long payloads rest bad short = absurd (bad.more (nil_of bad.tail (omega (arith, short, ap length bad.are, length-append (magic ++ flat_map record_bytes payloads) rest, length-append magic (flat_map record_bytes payloads)))))

abbrev first : List ℕ → ℕ
first [] = 0
first (a ∷ l) = a

-- a commit byte that isn't set, and what stands behind records
not_bad : (qs : List (List ℕ)) (rest : List ℕ) (commit : ℕ) (tail : List ℕ) → IsBad rest → (commit ≡ 1 → tail ≡ []) → flat_map record_bytes qs ++ rest ≡ commit ∷ tail → ⊥
not_bad [] rest commit tail bad unset same =
    let here : 1 ∷ bad.tail ≡ commit ∷ tail = sym bad.are ∙ same in
    bad.more (ap (λ (l : List ℕ). drop 1 l) here ∙ unset (sym (ap first here)))
not_bad (q ∷ qs) rest commit tail bad unset same =
    some_framed q (flat_map record_bytes qs ++ rest) (sym (append_assoc (framed q) (flat_map record_bytes qs) rest) ∙ ap (λ (l : List ℕ). drop 1 l) same ∙ unset (sym (ap first same)))

pub is_journal : (bytes : List ℕ) → Gives [] bytes → IsNoJournal bytes → ⊥
is_journal bytes (inl short) (place, inl other) = absurd (omega (arith, other.1, short.0))
is_journal bytes (inl short) (place, inr there) = too_long there.payloads there.rest there.bad (omega (arith, short.0, ap length there.are))
is_journal bytes (inr is) (place, inl other) = other.2 (ap (λ (l : List ℕ). take 8 l) is.are ∙ begins_as [] (is.commit ∷ is.tail))
is_journal bytes (inr is) (place, inr there) =
    not_bad there.payloads there.rest is.commit is.tail there.bad is.unset
    (sym (behind_magic there.payloads there.rest) ∙ ap (λ (l : List ℕ). drop 8 l) (sym there.are ∙ is.are) ∙ behind_magic [] (is.commit ∷ is.tail))
