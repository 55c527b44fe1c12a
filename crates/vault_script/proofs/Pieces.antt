-- A text whose front was taken, and then more of it.
use Rattle.std.proofs.Common.{◌≡◌, ℕ, ◌+◌, List, [], ◌∷◌, ◌++◌, length, take, drop, None, Some, Ok, Err, refl, sym, ap, subst, ◌∙◌, arith}
use Rattle.std.specs.declared.option.Option.{Option}
use Rattle.std.specs.declared.result.Result.{Result}
use Rattle.std.specs.Result.{IsErrAnd}
use Rattle.std.specs.Io.KnownBytes.{append_known}
use Rattle.std.proofs.Math.Seq.{take-add, take-append-add}
use Rattle.std.proofs.lemmas.List.{take-append-drop, take-append-le, length-append, append-nil}
use Rattle.hex.specs.Hex.{encode_with, encode_lower}
use Rattle.sse_outside.specs.Fronts.{TookFront}
use Rattle.sse_outside.specs.declared.device_fault.DeviceFault.{DeviceFault}
use Rattle.vault_script.specs.VaultPrints.{TakesText}
use Rattle.sse_outside.proofs.Known.{append_known-twice}

-- a strict prefix of the first of two texts is one of both
pub took_first : (old new : Option (List ℕ)) (a b : List ℕ) → TookFront old new a → TookFront old new (a ++ b)
took_first old new a b front = record {
  n = front.n;
  short = omega (arith, length-append a b, front.short);
  taken = front.taken ∙ ap (append_known old) (sym (take-append-le front.n a b (omega (arith, front.short))));
}

-- the first text, and then a strict prefix of the second
pub took_second : (old mid new : Option (List ℕ)) (a b : List ℕ) → mid ≡ append_known old a → TookFront mid new b → TookFront old new (a ++ b)
took_second old mid new a b first front = record {
  n = length a + front.n;
  short = omega (arith, length-append a b, front.short);
  taken = front.taken ∙ ap (λ known. append_known known (take front.n b)) first ∙ append_known-twice old a (take front.n b) ∙ ap (append_known old) (sym (take-append-add a b front.n));
}

-- both texts
pub took_both : (old mid new : Option (List ℕ)) (a b : List ℕ) → mid ≡ append_known old a → new ≡ append_known mid b → new ≡ append_known old (a ++ b)
took_both old mid new a b first second = second ∙ ap (λ known. append_known known b) first ∙ append_known-twice old a b

-- the digits of two texts in a row
pub encode_with-append : (t xs ys : List ℕ) → encode_with t (xs ++ ys) ≡ encode_with t xs ++ encode_with t ys
unfolding encode_with
encode_with-append t [] ys = refl
encode_with-append t (b ∷ xs) ys = ap (λ rest. encode_with t (b ∷ []) ++ rest) (encode_with-append t xs ys)

-- the digits of a text whose front is followed by a piece
piece_of : (body rest piece : List ℕ) (done n : ℕ) → rest ≡ drop done body → piece ≡ take n rest → body ≡ take done body ++ (piece ++ drop n rest)
piece_of body rest piece done n is_rest is_piece =
    sym (take-append-drop done body)
    ∙ ap (λ l. take done body ++ l) (sym is_rest ∙ sym (take-append-drop n rest) ∙ ap (λ l. l ++ drop n rest) (sym is_piece))

digits_of : (body rest piece : List ℕ) (done n : ℕ) → rest ≡ drop done body → piece ≡ take n rest
    → encode_lower body ≡ encode_lower (take done body) ++ (encode_lower piece ++ encode_lower (drop n rest))
digits_of body rest piece done n is_rest is_piece =
    ap encode_lower (piece_of body rest piece done n is_rest is_piece)
    ∙ encode_with-append _ (take done body) (piece ++ drop n rest)
    ∙ ap (λ l. encode_lower (take done body) ++ l) (encode_with-append _ piece (drop n rest))

-- the digits of a text were printed up to a piece, and then a strict prefix of those of the piece
pub digits_front : (old mid new : Option (List ℕ)) (body rest piece : List ℕ) (done n : ℕ) → mid ≡ append_known old (encode_lower (take done body))
    → rest ≡ drop done body → piece ≡ take n rest → TookFront mid new (encode_lower piece) → TookFront old new (encode_lower body)
digits_front old mid new body rest piece done n first is_rest is_piece front =
    subst (λ (text : List ℕ). TookFront old new text) (sym (digits_of body rest piece done n is_rest is_piece))
    (took_second old mid new (encode_lower (take done body)) _ first (took_first mid new (encode_lower piece) (encode_lower (drop n rest)) front))

-- they were printed up to a piece, and then the piece
pub digits_more : (old mid new : Option (List ℕ)) (body rest piece : List ℕ) (done n : ℕ) → mid ≡ append_known old (encode_lower (take done body))
    → rest ≡ drop done body → piece ≡ take n rest → length piece ≡ n → new ≡ append_known mid (encode_lower piece) → new ≡ append_known old (encode_lower (take (done + length piece) body))
digits_more old mid new body rest piece done n first is_rest is_piece size more =
    took_both old mid new (encode_lower (take done body)) (encode_lower piece) first more
    ∙ ap (append_known old)
    (sym (encode_with-append _ (take done body) piece)
    ∙ ap encode_lower (ap (λ l. take done body ++ l) (is_piece ∙ ap (λ l. take n l) is_rest) ∙ sym (take-add done n body) ∙ ap (λ k. take (done + k) body) (sym size)))

-- no digit was printed yet
pub nothing_taken : (known : Option (List ℕ)) → known ≡ append_known known (encode_lower [])
unfolding encode_with
nothing_taken None = refl
nothing_taken (Some xs) = ap Some (sym (append-nil xs))

-- a printing that stopped
pub takes-stopped : {T : Type 0} (result : Result T DeviceFault) (P : DeviceFault → Type 0) (old new : Option (List ℕ)) (text : List ℕ) → IsErrAnd result P → TookFront old new text → TakesText result old new text
takes-stopped (Ok x) P old new text is front = absurd is
takes-stopped (Err fault) P old new text is front = record { all = tt; front = front }

-- a printing whose last part went on as the text does
pub takes-second : {T : Type 0} (result : Result T DeviceFault) (old mid new : Option (List ℕ)) (a b text : List ℕ) → text ≡ a ++ b → mid ≡ append_known old a → TakesText result mid new b → TakesText result old new text
takes-second (Ok x) old mid new a b text is first takes = record { all = took_both old mid new a b first takes.all ∙ ap (append_known old) (sym is); front = tt }
takes-second (Err fault) old mid new a b text is first takes = record { all = tt; front = subst (λ (l : List ℕ). TookFront old new l) (sym is) (took_second old mid new a b first takes.front) }
