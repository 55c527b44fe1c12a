-- Identifiers whose fields stand: each is one, and their bytes are the body's.
use Rattle.std.proofs.Common.{◌≡◌, ℕ, zero, suc, ◌+◌, ◌*◌, List, ◌∷◌, ◌++◌, map, length, take, drop, None, sym, ap, subst, ◌∙◌, arith}
use Rattle.std.specs.Int.{w64, from_be_bytes}
use Rattle.std.specs.List.{flat_map, AllByRecursion}
use Rattle.std.specs.Simd.{first_chunks}
use Rattle.std.proofs.lemmas.List.{drop-drop, length-map}
use Rattle.sse_frames.specs.Frames.{be64}
use Rattle.sse_frames.specs.Replies.{IsIdentifier}
use Rattle.sse_frames.specs.Fields.{number_at, range_field, id_fields, first_fault}
use Rattle.sse_frames.proofs.Cut.{AreBytes, then64}
use Rattle.sse_frames.proofs.Numbers.{stands64}
use Rattle.sse_frames.proofs.Faults.{stands_first}
use Rattle.sse_frames.proofs.Chunks.{length-first_chunks}

-- so many identifiers from a place on
abbrev pub ids_at : (count place : ℕ) (body : List ℕ) → List ℕ
ids_at count place body = map (from_be_bytes w64) (first_chunks 8 count (drop place body))

pub ids_at-suc : (count place : ℕ) (body : List ℕ) → ids_at (suc count) place body ≡ number_at w64 place body ∷ ids_at count (place + 8) body
unfolding number_at
ids_at-suc count place body =
    ap (λ (rest : List ℕ). from_be_bytes w64 (take 8 (drop place body)) ∷ map (from_be_bytes w64) (first_chunks 8 count rest)) (drop-drop 8 place body)

pub record IdsStand (count place : ℕ) (body : List ℕ) : Type 0 where
  pub each : AllByRecursion IsIdentifier (ids_at count place body)
  pub joined : drop place body ≡ flat_map be64 (ids_at count place body) ++ drop (place + count * 8) body

pub ids_stand : (count place : ℕ) (body : List ℕ) → AreBytes body → first_fault (id_fields count place) body ≡ None → IdsStand count place body
ids_stand zero place body bytes e =
    let none : place + 0 * 8 ≡ place = omega arith in
    record { each = tt; joined = ap (λ (p : ℕ). drop p body) (sym none) }
ids_stand (suc count) place body bytes e =
    let first = stands_first (range_field w64 1 0xffffffffffffffff place) (id_fields count (place + 8)) body e in
    let id = stands64 1 0xffffffffffffffff place body first.0 in
    let others = ids_stand count (place + 8) body bytes first.1 in
    let end : place + 8 + count * 8 ≡ place + suc count * 8 = omega arith in
    let after = drop (place + suc count * 8) body in
    let more = ids_at count (place + 8) body in
    let both : drop place body ≡ be64 (number_at w64 place body) ++ (flat_map be64 more ++ after) =
    then64 place body (flat_map be64 more ++ after) bytes id.inside (subst (λ (p : ℕ). drop (place + 8) body ≡ flat_map be64 more ++ drop p body) end others.joined) in
    record {
      each = subst (λ (ids : List ℕ). AllByRecursion IsIdentifier ids) (sym (ids_at-suc count place body)) ((id.above, omega (arith, id.below)), others.each);
      joined = both ∙ ap (λ (ids : List ℕ). flat_map be64 ids ++ after) (sym (ids_at-suc count place body));
    }

pub length-ids_at : (count place : ℕ) (body : List ℕ) → length (ids_at count place body) ≡ count
length-ids_at count place body = length-map (first_chunks 8 count (drop place body)) (from_be_bytes w64) ∙ length-first_chunks 8 count (drop place body)
