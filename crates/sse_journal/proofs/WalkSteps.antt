-- One record more of a walk.
use Rattle.std.proofs.Common.{◌≡◌, ℕ, ◌+◌, ◌-◌, ◌<◌, ◌≤◌, List, [], ◌∷◌, ◌++◌, length, take, drop, refl, sym, ◌∙◌, ap, arith, append_assoc, length-append, take-append-drop}
use Rattle.std.specs.Prelude.{IfSome, Option, Some, None}
use Rattle.std.specs.Int.{w32, to_be_bytes}
use Rattle.std.proofs.lemmas.List.{drop_at}
use Rattle.std.proofs.lemmas.List.Elements.{All-push as all_push}
use Rattle.sse_journal.specs.Files.{magic, framed, record_bytes, front, IsPayload}
use Rattle.sse_journal.specs.Heads.{IsRecord}
use Rattle.sse_journal.specs.Walks.{IsWithin}
use Rattle.sse_journal.proofs.Torn.{front_push, front_nil}

pub length-record_bytes : (payload : List ℕ) → length (record_bytes payload) ≡ 5 + length payload
unfolding framed
length-record_bytes payload = omega (arith, length-append (to_be_bytes w32 (length payload)) payload)

pub length-front_nil : length (front []) ≡ 8
unfolding front
length-front_nil = refl

pub walk_begun : (bytes : List ℕ) → take 8 bytes ≡ magic → 8 < length bytes → IsWithin bytes 8 0
walk_begun bytes is long = record {
  payloads = [];
  payloads_are = λ k p lt. absurd (omega (arith, lt));
  rest = drop 8 bytes;
  are = sym (take-append-drop 8 bytes) ∙ ap (λ (l : List ℕ). l ++ drop 8 bytes) (is ∙ sym front_nil);
  at_is = sym length-front_nil;
  records_are = refl;
  more = long;
}

module _ (bytes : List ℕ) (at records : ℕ) (here : IsWithin bytes at records) where
  pub rest_is : drop at bytes ≡ here.rest
  rest_is = ap (λ (l : List ℕ). drop at l) here.are ∙ drop_at (front here.payloads) here.rest at (sym here.at_is)

  pub length-rest : (size : ℕ) → size ≡ length bytes → length (drop at bytes) ≡ size - at
  length-rest size is = ap length rest_is ∙ omega (arith, is, ap length here.are, length-append (front here.payloads) here.rest, here.at_is)

  pub walk_on : (n : ℕ) → IsRecord n (drop at bytes) → IsWithin bytes (at + (5 + n)) (records + 1)
  walk_on n there = record {
    payloads = here.payloads ++ there.payload ∷ [];
    payloads_are = all_push IsPayload here.payloads there.payload here.payloads_are there.is;
    rest = drop (5 + n) (drop at bytes);
    are = here.are ∙ ap (λ (l : List ℕ). front here.payloads ++ l) (sym rest_is ∙ there.are) ∙ sym (append_assoc (front here.payloads) (record_bytes there.payload) (drop (5 + n) (drop at bytes))) ∙ ap (λ (l : List ℕ). l ++ drop (5 + n) (drop at bytes)) (front_push here.payloads there.payload);
    at_is = omega (arith, here.at_is, length-record_bytes there.payload, there.size, length-append (front here.payloads) (record_bytes there.payload), ap length (front_push here.payloads there.payload));
    records_are = omega (arith, here.records_are, length-append here.payloads (there.payload ∷ []));
    more = omega (arith, there.more, ap length rest_is, ap length here.are, length-append (front here.payloads) here.rest, here.at_is);
  }

-- where the disk tells its content
pub walk_on_told : (o : Option (List ℕ)) (size at records n : ℕ) → IfSome o (λ bytes. (size ≡ length bytes) × IsWithin bytes at records) → IfSome o (λ bytes. length (drop at bytes) ≡ size - at → IsRecord n (drop at bytes))
    → IfSome o (λ bytes. (size ≡ length bytes) × IsWithin bytes (at + (5 + n)) (records + 1))
walk_on_told None size at records n here there = tt
walk_on_told (Some bytes) size at records n here there = (here.0, walk_on bytes at records here.1 n (there (length-rest bytes at records here.1 size here.0)))

pub walk_begun_told : (o : Option (List ℕ)) (size : ℕ) → 9 ≤ size → IfSome o (λ bytes. (size ≡ length bytes) × (take 8 bytes ≡ magic)) → IfSome o (λ bytes. (size ≡ length bytes) × IsWithin bytes 8 0)
walk_begun_told None size least is = tt
walk_begun_told (Some bytes) size least is = (is.0, walk_begun bytes is.1 (omega (arith, is.0, least)))
