-- The frame in front of bytes, as it was read.
use Rattle.std.proofs.Common.{◌≡◌, ℕ, ◌≤◌, true, false, Bool, List, ◌++◌, length, take, drop, refl, sym, ap, subst, ◌∙◌, arith}
use Rattle.std.specs.Prelude.{nat_le, ◌&&◌, if◌then◌else◌}
use Rattle.std.proofs.lemmas.Bool.{leb-true}
use Rattle.std.proofs.lemmas.List.{take-append-drop, drop-drop, length-take-le, append_assoc}
use Rattle.sse_frames.specs.Frames.{be32}
use Rattle.vault_server.specs.VaultReading.{number_in}
use Rattle.vault_server.proofs.Fronts.{AreBytes, number_bytes}
use Rattle.vault_served.specs.declared.front.Front.{Front}
use Rattle.vault_served.specs.declared.front.Front.TheVariants as fronts
use Rattle.vault_served.specs.Fronts.{Framed, IfFramed, IsFramed, OutOfRange, Unfinished, front_of, front_view}
use Rattle.vault_served.specs.Turns.{frame_of}

framed_inside : (x y : List ℕ) → Framed x ≡ Framed y → x ≡ y
framed_inside x y e = cc

-- a body of so many bytes, with its length in front
framed : (bytes : List ℕ) (n : ℕ) → AreBytes bytes → 4 ≤ length bytes → n ≡ number_in bytes → 1 ≤ n → n ≤ 65600 → n ≤ length (drop 4 bytes) → IsFramed (take n (drop 4 bytes)) bytes
framed bytes n are long is least most inside =
    let size : length (take n (drop 4 bytes)) ≡ n = length-take-le n (drop 4 bytes) inside in
    let four : be32 (length (take n (drop 4 bytes))) ≡ take 4 bytes = ap be32 (size ∙ is) ∙ number_bytes bytes are long in
    record {
      sized = record { least = omega (arith, size, least); most = omega (arith, size, most) };
      spelled = sym (take-append-drop 4 bytes)
          ∙ ap (λ l. take 4 bytes ++ l) (sym (take-append-drop n (drop 4 bytes)))
          ∙ sym (append_assoc (take 4 bytes) (take n (drop 4 bytes)) (drop n (drop 4 bytes)))
          ∙ (λ i. (sym four i ++ take n (drop 4 bytes)) ++ drop n (drop 4 bytes))
          ∙ ap (λ l. frame_of (take n (drop 4 bytes)) ++ l) (drop-drop n 4 bytes ∙ ap (λ k. drop k bytes) (omega (arith, size)));
    }

spelled_if : (bytes body : List ℕ) → AreBytes bytes → front_of bytes ≡ Framed body → IsFramed body bytes
spelled_if bytes body are e = by (nat_le 4 (length bytes)) (nat_le 1 (number_in bytes)) (nat_le (number_in bytes) 65600) (nat_le (number_in bytes) (length (drop 4 bytes))) refl refl refl refl e
  where
    by : (a b c d : Bool) → nat_le 4 (length bytes) ≡ a → nat_le 1 (number_in bytes) ≡ b → nat_le (number_in bytes) 65600 ≡ c → nat_le (number_in bytes) (length (drop 4 bytes)) ≡ d
        → (if a then (if b && c then (if d then Framed (take (number_in bytes) (drop 4 bytes)) else Unfinished) else OutOfRange) else Unfinished) ≡ Framed body → IsFramed body bytes
    by true true true true four least most inside e =
        subst (λ b. IsFramed b bytes) (framed_inside (take (number_in bytes) (drop 4 bytes)) body e)
        (framed bytes (number_in bytes) are (leb-true 4 (length bytes) four) refl (leb-true 1 (number_in bytes) least) (leb-true (number_in bytes) 65600 most) (leb-true (number_in bytes) (length (drop 4 bytes)) inside))
    by true true true false four least most inside e = absurd (let no : Unfinished ≡ Framed body = e in cc)
    by true true false d four least most inside e = absurd (let no : OutOfRange ≡ Framed body = e in cc)
    by true false c d four least most inside e = absurd (let no : OutOfRange ≡ Framed body = e in cc)
    by false b c d four least most inside e = absurd (let no : Unfinished ≡ Framed body = e in cc)

-- what was found is spelled so
pub spelled_front : (front : Front) (bytes : List ℕ) → AreBytes bytes → front_view front ≡ front_of bytes → IfFramed front bytes
spelled_front fronts.Unfinished bytes are e = tt
spelled_front fronts.OutOfRange bytes are e = tt
spelled_front (fronts.Framed body) bytes are e = spelled_if bytes body.now are (sym e)
