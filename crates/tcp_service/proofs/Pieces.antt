-- Bytes that were read or written in pieces.
use Rattle.std.proofs.Common.{◌≡◌, ◌⊎◌, inl, inr, ℕ, ◌+◌, List, [], ◌∷◌, ◌++◌, length, take, None, Some, Ok, Err, refl, sym, ap, subst, ◌∙◌, arith, append_assoc, length-append}
use Rattle.std.specs.Prelude.{flat_map, IsErrAnd}
use Rattle.std.specs.declared.option.Option.{Option}
use Rattle.std.specs.declared.result.Result.{Result}
use Rattle.std.specs.Io.KnownBytes.{append_known, prepend_known}
use Rattle.std.proofs.Math.Seq.{take-append-add}
use Rattle.std.proofs.lemmas.Grind.{flat_map-append}
use Rattle.std.proofs.lemmas.List.{append-nil}
use Rattle.sse_outside.proofs.Known.{append_known-twice}
use Rattle.sse_outside.specs.Fronts.{TookFront}
use Rattle.tcp_service.specs.Writing.{IsSaid, IsUnsaid}
use Rattle.tcp_service.specs.declared.conn_end.ConnEnd.{ConnEnd}

-- the bytes of a list with one more at its end
pub flat_map-last : {X A : Type 0} (g : X → List A) (xs : List X) (x : X) → flat_map g (xs ++ x ∷ []) ≡ flat_map g xs ++ g x
flat_map-last g xs x = flat_map-append g xs (x ∷ []) ∙ ap (λ l. flat_map g xs ++ l) (append-nil (g x))

-- a list before another before what is left is both together
prepend_known-twice : (a b : List ℕ) (left : Option (List ℕ)) → prepend_known a (prepend_known b left) ≡ prepend_known (a ++ b) left
prepend_known-twice a b None = refl
prepend_known-twice a b (Some l) = ap Some (sym (append_assoc a b l))

-- one piece and then another
pub both_read : (old mid new : Option (List ℕ)) (a b both : List ℕ) → old ≡ prepend_known a mid → mid ≡ prepend_known b new → both ≡ a ++ b → old ≡ prepend_known both new
both_read old mid new a b both first second is =
    first ∙ ap (prepend_known a) second ∙ prepend_known-twice a b new ∙ ap (λ l. prepend_known l new) (sym is)

-- a piece after those that were there
pub after : (done count : ℕ) (front room bytes : List ℕ) → length front ≡ done → front ≡ take done bytes → take (done + count) (front ++ room) ≡ take done bytes ++ take count room
after done count front room bytes size is =
    ap (λ k. take (k + count) (front ++ room)) (sym size) ∙ take-append-add front room count ∙ ap (λ l. l ++ take count room) is

-- more bytes after those that are held
pub read-more : (left0 left left2 : Option (List ℕ)) (used held held2 held3 read : List ℕ)
    → left0 ≡ prepend_known (used ++ held) left → held2 ≡ held → held3 ≡ held2 ++ read → left ≡ prepend_known read left2
    → left0 ≡ prepend_known (used ++ held3) left2
read-more left0 left left2 used held held2 held3 read is same more given =
    is ∙ ap (prepend_known (used ++ held)) given ∙ prepend_known-twice (used ++ held) read left2
    ∙ ap (λ l. prepend_known l left2) (append_assoc used held read ∙ ap (λ l. used ++ l) (ap (λ l. l ++ read) (sym same) ∙ sym more))

-- more bytes after those that were written
pub written-more : (written0 written written2 : Option (List ℕ)) (said more : List ℕ)
    → written ≡ append_known written0 said → written2 ≡ append_known written more → written2 ≡ append_known written0 (said ++ more)
written-more written0 written written2 said more is grown = grown ∙ ap (λ k. append_known k more) is ∙ append_known-twice written0 said more

-- a strict prefix of more bytes after those that were written
pub front-more : (written0 written written2 : Option (List ℕ)) (said more : List ℕ)
    → written ≡ append_known written0 said → TookFront written written2 more → TookFront written0 written2 (said ++ more)
front-more written0 written written2 said more is front = record {
  n = length said + front.n;
  short = omega (arith, length-append said more, front.short);
  taken = written-more written0 written written2 said (take front.n more) is front.taken ∙ ap (append_known written0) (sym (take-append-add said more front.n));
}

-- whichever error it is, the sink failed there
pub IsSaid-err : (written written2 : Option (List ℕ)) (all : List ℕ) (result : Result Unit ConnEnd) (end : ConnEnd) → IsErrAnd result (λ e. e ≡ end) → IsUnsaid end written written2 all → IsSaid written written2 all result
IsSaid-err written written2 all (Ok x) end is unsaid = absurd is
IsSaid-err written written2 all (Err e) end is unsaid = subst (λ k. IsUnsaid k written written2 all) (sym is) unsaid
