-- A file that stops being a journal gives no records.
use Rattle.std.proofs.Common.{◌≡◌, ◌≢◌, inl, inr, ℕ, ◌<◌, List, [], ◌∷◌, ◌++◌, length, take, drop, refl, sym, ◌∙◌, ap, arith, append_assoc, length-append}
use Rattle.std.specs.Prelude.{All, flat_map}
use Rattle.std.proofs.lemmas.List.Elements.{All-head, All-tail}
use Rattle.sse_journal.specs.Files.{magic, framed, record_bytes, front, IsPayload, Gives}
use Rattle.sse_journal.specs.Heads.{IsBad}
use Rattle.sse_journal.specs.Walks.{IsNoJournalAt}
use Rattle.sse_journal.proofs.Once.{framed_once, some_framed}

begins_as : (payloads : List (List ℕ)) (rest : List ℕ) → take 8 (front payloads ++ rest) ≡ magic
unfolding front
begins_as payloads rest = refl

records_behind : (payloads : List (List ℕ)) (rest : List ℕ) → drop 8 (front payloads ++ rest) ≡ flat_map record_bytes payloads ++ rest
unfolding front
records_behind payloads rest = refl

long_enough : (payloads : List (List ℕ)) (rest : List ℕ) → IsBad rest → length (front payloads ++ rest) < 9 → ⊥
unfolding front
long_enough payloads rest bad short = absurd (bad.more (nil_of bad.tail (omega (arith, short, ap length bad.are, length-append (magic ++ flat_map record_bytes payloads) rest, length-append magic (flat_map record_bytes payloads)))))
  where
    nil_of : (xs : List ℕ) → length xs ≡ 0 → xs ≡ []
    nil_of [] none = refl
    nil_of (x ∷ xs) none = absurd (omega (arith, none))

abbrev first : List ℕ → ℕ
first [] = 0
first (a ∷ l) = a

some_end : (xs : List ℕ) (g : ℕ) (t : List ℕ) → xs ++ g ∷ t ≢ []
some_end xs g t none = absurd (omega (arith, ap length none, length-append xs (g ∷ t)))

refused : (qs ps : List (List ℕ)) (rest : List ℕ) (g : ℕ) (t : List ℕ) → All IsPayload qs → All IsPayload ps → IsBad rest → (g ≡ 1 → t ≡ []) → flat_map record_bytes qs ++ rest ≡ flat_map record_bytes ps ++ g ∷ t → ⊥
refused [] [] rest g t are_q are_p bad not_set same =
    let here : 1 ∷ bad.tail ≡ g ∷ t = sym bad.are ∙ same in
    bad.more (ap (λ (l : List ℕ). drop 1 l) here ∙ not_set (sym (ap first here)))
refused [] (p ∷ ps) rest g t are_q are_p bad not_set same =
    bad.none p (flat_map record_bytes ps ++ g ∷ t) (All-head IsPayload p ps are_p) (some_end (flat_map record_bytes ps) g t) (same ∙ append_assoc (record_bytes p) (flat_map record_bytes ps) (g ∷ t))
refused (q ∷ qs) [] rest g t are_q are_p bad not_set same =
    some_framed q (flat_map record_bytes qs ++ rest) (sym (append_assoc (framed q) (flat_map record_bytes qs) rest) ∙ ap (λ (l : List ℕ). drop 1 l) same ∙ not_set (sym (ap first same)))
refused (q ∷ qs) (p ∷ ps) rest g t are_q are_p bad not_set same =
    let both = framed_once q p (flat_map record_bytes qs ++ rest) (flat_map record_bytes ps ++ g ∷ t) (All-head IsPayload q qs are_q) (All-head IsPayload p ps are_p) (sym (append_assoc (framed q) (flat_map record_bytes qs) rest) ∙ ap (λ (l : List ℕ). drop 1 l) same ∙ append_assoc (framed p) (flat_map record_bytes ps) (g ∷ t)) in
    refused qs ps rest g t (All-tail IsPayload q qs are_q) (All-tail IsPayload p ps are_p) bad not_set both.1

-- it isn't too short for one
pub no_journal_long : (bytes : List ℕ) (place : ℕ) → IsNoJournalAt bytes place → length bytes < 9 → ⊥
no_journal_long bytes place (inl other) short = absurd (omega (arith, other.1, short))
no_journal_long bytes place (inr there) short = long_enough there.payloads there.rest there.bad (omega (arith, short, ap length there.are))

pub no_journal_gives : (bytes : List ℕ) (place : ℕ) → IsNoJournalAt bytes place → (payloads : List (List ℕ)) → Gives payloads bytes → ⊥
no_journal_gives bytes place (inl other) payloads (inl short) = no_journal_long bytes place (inl other) short.0
no_journal_gives bytes place (inl other) payloads (inr is) = other.2 (ap (λ (l : List ℕ). take 8 l) is.are ∙ begins_as payloads (is.commit ∷ is.tail))
no_journal_gives bytes place (inr there) payloads (inl short) = no_journal_long bytes place (inr there) short.0
no_journal_gives bytes place (inr there) payloads (inr is) = refused there.payloads payloads there.rest is.commit is.tail there.payloads_are is.payloads_are there.bad is.unset (sym (records_behind there.payloads there.rest) ∙ ap (λ (l : List ℕ). drop 8 l) (sym there.are ∙ is.are) ∙ records_behind payloads (is.commit ∷ is.tail))

bad_end : (xs rest : List ℕ) → IsBad rest → xs ++ rest ≢ []
bad_end xs rest bad none = some_end xs 1 bad.tail (ap (λ (l : List ℕ). xs ++ l) (sym bad.are) ∙ none)

once : (qs ps : List (List ℕ)) (rest other : List ℕ) → All IsPayload qs → All IsPayload ps → IsBad rest → IsBad other → flat_map record_bytes qs ++ rest ≡ flat_map record_bytes ps ++ other → qs ≡ ps
once [] [] rest other are_q are_p bad worse same = refl
once [] (p ∷ ps) rest other are_q are_p bad worse same =
    absurd (bad.none p (flat_map record_bytes ps ++ other) (All-head IsPayload p ps are_p) (bad_end (flat_map record_bytes ps) other worse) (same ∙ append_assoc (record_bytes p) (flat_map record_bytes ps) other))
once (q ∷ qs) [] rest other are_q are_p bad worse same =
    absurd (worse.none q (flat_map record_bytes qs ++ rest) (All-head IsPayload q qs are_q) (bad_end (flat_map record_bytes qs) rest bad) (sym same ∙ append_assoc (record_bytes q) (flat_map record_bytes qs) rest))
once (q ∷ qs) (p ∷ ps) rest other are_q are_p bad worse same =
    let both = framed_once q p (flat_map record_bytes qs ++ rest) (flat_map record_bytes ps ++ other) (All-head IsPayload q qs are_q) (All-head IsPayload p ps are_p) (sym (append_assoc (framed q) (flat_map record_bytes qs) rest) ∙ ap (λ (l : List ℕ). drop 1 l) same ∙ append_assoc (framed p) (flat_map record_bytes ps) other) in
    ap (λ (z : List ℕ). z ∷ qs) both.0 ∙ ap (λ (zs : List (List ℕ)). p ∷ zs) (once qs ps rest other (All-tail IsPayload q qs are_q) (All-tail IsPayload p ps are_p) bad worse both.1)

pub no_journal_once : (bytes : List ℕ) (place other : ℕ) → IsNoJournalAt bytes place → IsNoJournalAt bytes other → other ≡ place
no_journal_once bytes place other (inl one) (inl two) = two.0 ∙ sym one.0
no_journal_once bytes place other (inl one) (inr there) = absurd (one.2 (ap (λ (l : List ℕ). take 8 l) there.are ∙ begins_as there.payloads there.rest))
no_journal_once bytes place other (inr there) (inl two) = absurd (two.2 (ap (λ (l : List ℕ). take 8 l) there.are ∙ begins_as there.payloads there.rest))
no_journal_once bytes place other (inr there) (inr too) =
    too.at_is ∙ ap (λ (l : List (List ℕ)). length (front l)) (sym (once there.payloads too.payloads there.rest too.rest there.payloads_are too.payloads_are there.bad too.bad (sym (records_behind there.payloads there.rest) ∙ ap (λ (l : List ℕ). drop 8 l) (sym there.are ∙ too.are) ∙ records_behind too.payloads too.rest))) ∙ sym there.at_is
