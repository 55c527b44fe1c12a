-- Frames that are in order, one after another; and a server that takes frames of theirs steps through them.
use Rattle.std.proofs.Common.{◌≡◌, Bool, true, List, [], ◌∷◌, ◌++◌, Option, None, Some, refl, sym, ap, ◌∙◌, subst}
use Rattle.std.specs.Prelude.{if◌then◌else◌}
use Rattle.keyed_fn.specs.KeyedFn.{KeyedFn}
use Rattle.sse_frames.specs.Frames.{FrameText}
use Rattle.sse_frames.specs.Replies.{ReplyText, Number, OutOfPlace}
use Rattle.server_core.specs.Refusal.{is_next, in_place, clash, refusal}
use Rattle.server_core.specs.State.{ServerState}
use Rattle.server_core.specs.Step.{taken, answers, step, steps}
use Rattle.def_agreement.specs.TakenFrames.{IsInOrder, AreInOrder, taken_all, Takes}

-- no frames
pub takes-none : (f : KeyedFn) (s : ServerState) → Takes f s [] s []
takes-none f s = record { each = tt; leaves = refl }

-- a frame and others after it
pub takes-cons : (f : KeyedFn) (s now end : ServerState) (x : FrameText) (xs : List FrameText) (r : List ReplyText) (rs : List (List ReplyText))
    → IsInOrder s x → taken s x ≡ now → answers f s x ≡ r → Takes f now xs end rs → Takes f s (x ∷ xs) end (r ∷ rs)
takes-cons f s now end x xs r rs one leaves replies later = record {
  each = (one, subst (λ state. AreInOrder state xs) (sym leaves) later.each);
  leaves = (λ i. let behind = taken_all f (leaves i) xs in (behind.0, replies i ∷ behind.1)) ∙ ap (λ behind. (behind.0, r ∷ behind.1)) later.leaves;
}

AreInOrder-append : (f : KeyedFn) (s : ServerState) (xs ys : List FrameText) → AreInOrder s xs → AreInOrder (taken_all f s xs).0 ys → AreInOrder s (xs ++ ys)
AreInOrder-append f s [] ys first later = later
AreInOrder-append f s (x ∷ xs) ys first later = (first.0, AreInOrder-append f (taken s x) xs ys first.1 later)

taken_all-append : (f : KeyedFn) (s : ServerState) (xs ys : List FrameText) → taken_all f s (xs ++ ys) ≡ ((taken_all f (taken_all f s xs).0 ys).0, (taken_all f s xs).1 ++ (taken_all f (taken_all f s xs).0 ys).1)
taken_all-append f s [] ys = refl
taken_all-append f s (x ∷ xs) ys = ap (λ r. (r.0, answers f s x ∷ r.1)) (taken_all-append f (taken s x) xs ys)

-- frames and others after them
pub takes-both : (f : KeyedFn) (s now end : ServerState) (xs ys : List FrameText) (rs ts : List (List ReplyText)) → Takes f s xs now rs → Takes f now ys end ts → Takes f s (xs ++ ys) end (rs ++ ts)
takes-both f s now end xs ys rs ts first later = record {
  each = AreInOrder-append f s xs ys first.each (subst (λ state. AreInOrder state ys) (sym (ap (λ p. p.0) first.leaves)) later.each);
  leaves =
      taken_all-append f s xs ys
      ∙ (λ i. let behind = taken_all f (first.leaves i).0 ys in (behind.0, (first.leaves i).1 ++ behind.1))
      ∙ ap (λ behind. (behind.0, rs ++ behind.1)) later.leaves;
}

-- Steps.

unrefused : (n p : Bool) (o : Option ReplyText) (x y : ReplyText) → n ≡ true → p ≡ true → o ≡ None → (if n then (if p then o else Some x) else Some y) ≡ None
unrefused n p o x y e f g = rw (e, f, g) refl

-- a frame in order isn't refused
pub refusal-none : (s : ServerState) (frame : FrameText) → IsInOrder s frame → refusal s frame ≡ None
refusal-none s frame one = unrefused (is_next s frame) (in_place s frame) (clash s frame) OutOfPlace (Number s.next) one.next one.stage one.clash

-- so the step takes it and answers it
pub step-taken : (f : KeyedFn) (s : ServerState) (frame : FrameText) → IsInOrder s frame → step f s frame ≡ (taken s frame, answers f s frame)
step-taken f s frame one = rw (refusal-none s frame one) refl

-- and frames in order are taken step by step
pub steps-taken : (f : KeyedFn) (s : ServerState) (frames : List FrameText) → AreInOrder s frames → steps f s frames ≡ taken_all f s frames
steps-taken f s [] each = refl
steps-taken f s (x ∷ xs) each =
    (λ i. let behind = steps f (step-taken f s x each.0 i).0 xs in (behind.0, (step-taken f s x each.0 i).1 ∷ behind.1))
    ∙ ap (λ behind. (behind.0, answers f s x ∷ behind.1)) (steps-taken f (taken s x) xs each.1)
