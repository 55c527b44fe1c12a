-- The record at a place of a journal's file.
use Rattle.std.proofs.Common.{◌≡◌, ◌≢◌, inl, inr, ℕ, ◌+◌, ◌-◌, ◌<◌, ◌≤◌, List, [], ◌∷◌, ◌++◌, length, get_or, take, drop, sym, ◌∙◌, ap, subst, arith, append_assoc, length-append, take-append-drop}
use Rattle.std.specs.Prelude.{All, flat_map, Option, Some, None, IfSome}
use Rattle.std.proofs.lemmas.List.{drop_at, drop_more, drop-drop, length-drop, take_all, take_at, take_more}
use Rattle.std.proofs.lemmas.List.Elements.{All-get_or}
use Rattle.std.proofs.lemmas.Bool.{cases_order}
use Rattle.std.proofs.lemmas.Grind.{flat_map-append}
use Rattle.sse_journal.specs.Files.{magic, framed, record_bytes, front, file, IsPayload}
use Rattle.sse_journal.specs.Heads.{IsRecord}
use Rattle.sse_journal.specs.Reads.{Begins}
use Rattle.sse_journal.proofs.Torn.{front_push}
use Rattle.sse_journal.proofs.WalkSteps.{length-record_bytes}
use Rattle.sse_journal.proofs.StartSteps.{told_of}
use Rattle.sse_journal.proofs.Once.{framed_once}

front_more : (xs ys : List (List ℕ)) → front (xs ++ ys) ≡ front xs ++ flat_map record_bytes ys
unfolding front
front_more xs ys = ap (λ (l : List ℕ). magic ++ l) (flat_map-append record_bytes xs ys) ∙ sym (append_assoc magic (flat_map record_bytes xs) (flat_map record_bytes ys))

pub begins_once : (x y rest : List ℕ) → Begins x rest → Begins y rest → x ≡ y
begins_once x y rest a b = (framed_once x y a.tail b.tail a.is b.is (ap (λ (l : List ℕ). drop 1 l) (sym a.are ∙ b.are))).0

module _ (ps : List (List ℕ)) (are : All IsPayload ps) (k : ℕ) (lt : k < length ps) where
  abbrev pub payload : List ℕ
  payload = get_or ps k []

  abbrev pub tail : List ℕ
  tail = flat_map record_bytes (drop (k + 1) ps) ++ 0 ∷ []

  split : take k ps ++ (payload ∷ drop (k + 1) ps) ≡ ps
  split = ap (λ (l : List (List ℕ)). take k ps ++ l) (sym (drop_more ps k [] lt)) ∙ take-append-drop k ps

  front_is : front ps ≡ front (take k ps) ++ (record_bytes payload ++ flat_map record_bytes (drop (k + 1) ps))
  front_is = ap front (sym split) ∙ front_more (take k ps) (payload ∷ drop (k + 1) ps)

  pub file_is : file ps ≡ front (take k ps) ++ (record_bytes payload ++ tail)
  file_is =
      ap (λ (l : List ℕ). l ++ 0 ∷ []) front_is
      ∙ append_assoc (front (take k ps)) (record_bytes payload ++ flat_map record_bytes (drop (k + 1) ps)) (0 ∷ [])
      ∙ ap (λ (l : List ℕ). front (take k ps) ++ l) (append_assoc (record_bytes payload) (flat_map record_bytes (drop (k + 1) ps)) (0 ∷ []))

  pub place_within : length (front (take k ps)) < length (front ps)
  place_within = omega (arith, ap length front_is, length-append (front (take k ps)) (record_bytes payload ++ flat_map record_bytes (drop (k + 1) ps)), length-append (record_bytes payload) (flat_map record_bytes (drop (k + 1) ps)), length-record_bytes payload)

  some_tail : tail ≢ []
  some_tail none = absurd (omega (arith, ap length none, length-append (flat_map record_bytes (drop (k + 1) ps)) (0 ∷ [])))

  pub begins_here : (at : ℕ) → at ≡ length (front (take k ps)) → Begins payload (drop at (file ps))
  begins_here at at_is = record {
    is = All-get_or IsPayload ps k [] lt are;
    tail = tail;
    are = ap (λ (l : List ℕ). drop at l) file_is ∙ drop_at (front (take k ps)) (record_bytes payload ++ tail) at (sym at_is);
    more = some_tail;
  }

  pub next_is : (at : ℕ) → at ≡ length (front (take k ps)) → at + (5 + length payload) ≡ length (front (take (k + 1) ps))
  next_is at at_is = omega (arith, at_is, length-record_bytes payload, length-append (front (take k ps)) (record_bytes payload), ap length (front_push (take k ps) payload), ap (λ (l : List (List ℕ)). length (front l)) (take_more ps k [] lt))

-- whether it is the last place
pub before_last : (ps : List (List ℕ)) (k at end : ℕ) → k ≤ length ps → at ≡ length (front (take k ps)) → end ≡ length (front ps) → at < end → k < length ps
before_last ps k at end le at_is end_is early = elim (cases_order k (length ps)) [
  | inl same ↦ absurd (omega (arith, early, at_is, end_is, ap (λ (l : List (List ℕ)). length (front l)) (take_all k ps (omega (arith, same)))))
  | inr (inl less) ↦ less
  | inr (inr more) ↦ absurd (omega (arith, more, le))
]

pub at_last : (ps : List (List ℕ)) → All IsPayload ps → (k at end : ℕ) → k ≤ length ps → at ≡ length (front (take k ps)) → end ≡ length (front ps) → end ≤ at → k ≡ length ps
at_last ps are k at end le at_is end_is late = elim (cases_order k (length ps)) [
  | inl same ↦ same
  | inr (inl less) ↦ absurd (omega (arith, late, at_is, end_is, place_within ps are k less))
  | inr (inr more) ↦ absurd (omega (arith, more, le))
]

pub size_here : (ps : List (List ℕ)) (at end : ℕ) → end ≡ length (front ps) → at < end → length (drop at (file ps)) ≡ end - at + 1
size_here ps at end end_is early = omega (arith, early, end_is, length-drop at (file ps), length-append (front ps) (0 ∷ []))

-- what was read, where the disk tells its content
pub payload_read : (bytes out : List ℕ) (at n : ℕ) → (there : IsRecord n (drop at bytes)) → out ≡ take n (drop (at + 5) bytes) → out ≡ there.payload
unfolding framed
payload_read bytes out at n there reads =
    reads
    ∙ ap (λ (l : List ℕ). take n l) (sym (drop-drop 5 at bytes) ∙ ap (λ (l : List ℕ). drop 5 l) there.are)
    ∙ take_at there.payload (drop (5 + n) (drop at bytes)) n there.size

pub record_told : (o m : Option (List ℕ)) (at left n next : ℕ) (out : List ℕ) → m ≡ o → IfSome o (λ bytes. length (drop at bytes) ≡ left → IsRecord n (drop at bytes)) → IfSome m (λ bytes. out ≡ take n (drop (at + 5) bytes)) → next ≡ at + (5 + n)
    → IfSome o (λ bytes. length (drop at bytes) ≡ left → Begins out (drop at bytes) × (next ≡ at + (5 + length out)))
record_told None m at left n next out same there reads next_is = tt
record_told (Some bytes) m at left n next out same there reads next_is = λ size.
    let here : IsRecord n (drop at bytes) = there size in
    let out_is : out ≡ here.payload = payload_read bytes out at n here (told_of m bytes (λ b. out ≡ take n (drop (at + 5) b)) same reads) in (
      record {
        is = subst IsPayload (sym out_is) here.is;
        tail = drop (5 + n) (drop at bytes);
        are = here.are ∙ ap (λ (p : List ℕ). record_bytes p ++ drop (5 + n) (drop at bytes)) (sym out_is);
        more = λ none. absurd (omega (arith, here.more, ap length none, length-drop (5 + n) (drop at bytes)));
      },
      omega (arith, next_is, ap length out_is, here.size),
    )
