-- One more frame of an owner.
use Rattle.std.proofs.Common.{◌≡◌, ℕ, zero, suc, ◌<◌, Bool, true, false, List, [], ◌∷◌, ◌++◌, length, get_or, slice_set, refl, sym, ap, subst, ◌∙◌, append_assoc, arith}
use Rattle.std.specs.Prelude.{◌==◌, ◌≢◌, map, filter, if◌then◌else◌}
use Rattle.std.proofs.lemmas.Bool.{ne_eqb, eqb-true, eq-eqb, true≢false}
use Rattle.std.proofs.lemmas.Cmp.{nat_eq_equiv}
use Rattle.std.proofs.lemmas.List.{append-nil, map-append}
use Rattle.std.proofs.lemmas.List.Elements.{filter-append}
use Rattle.sse_frames.specs.Frames.{FrameText}
use Rattle.server_core.specs.State.{at_first}
use Rattle.server_core.specs.Step.{taken}
use Rattle.sse_server.specs.Taken.{IsTaken, AreTaken, taken_all}
use Rattle.sse_server.proofs.TakenFrames.{taken_all-push}
use Rattle.sse_owners.specs.Owned.{OwnedFrame, IsOwnTaken, AreOwnTaken, owned, frames_of, state_of, states_of, record_of, records}

frames_of-append : (owner : ℕ) (xs ys : List OwnedFrame) → frames_of owner (xs ++ ys) ≡ frames_of owner xs ++ frames_of owner ys
frames_of-append owner xs ys =
    ap (map (λ one. one.frame)) (filter-append (λ one. one.owner == owner) xs ys)
    ∙ map-append (λ one. one.frame) (filter (λ one. one.owner == owner) xs) (filter (λ one. one.owner == owner) ys)

one_of : (owner : ℕ) (one : OwnedFrame) → Bool → List FrameText
one_of owner one mine = map (λ (x : OwnedFrame). x.frame) (if mine then one ∷ [] else [])

frames_of-own : (owner : ℕ) (xs : List OwnedFrame) (frame : FrameText) → frames_of owner (xs ++ owned owner frame ∷ []) ≡ frames_of owner xs ++ frame ∷ []
unfolding one_of
frames_of-own owner xs frame =
    frames_of-append owner xs (owned owner frame ∷ []) ∙ ap (λ mine. frames_of owner xs ++ one_of owner (owned owner frame) mine) (nat_eq_equiv.refl owner)

frames_of-other : (owner other : ℕ) (xs : List OwnedFrame) (frame : FrameText) → other ≢ owner → frames_of owner (xs ++ owned other frame ∷ []) ≡ frames_of owner xs
unfolding one_of
frames_of-other owner other xs frame differ =
    frames_of-append owner xs (owned other frame ∷ [])
    ∙ ap (λ mine. frames_of owner xs ++ one_of owner (owned other frame) mine) (ne_eqb other owner differ)
    ∙ append-nil (frames_of owner xs)

-- its own server takes it, and every other stays
pub state_of-own : (owner : ℕ) (xs : List OwnedFrame) (frame : FrameText) → state_of owner (xs ++ owned owner frame ∷ []) ≡ taken (state_of owner xs) frame
state_of-own owner xs frame = ap (taken_all at_first) (frames_of-own owner xs frame) ∙ taken_all-push at_first (frames_of owner xs) frame

pub state_of-other : (owner other : ℕ) (xs : List OwnedFrame) (frame : FrameText) → other ≢ owner → state_of owner (xs ++ owned other frame ∷ []) ≡ state_of owner xs
state_of-other owner other xs frame differ = ap (taken_all at_first) (frames_of-other owner other xs frame differ)

-- of several servers, none of these owners' takes it
others_stay : (numbers : List ℕ) (owner : ℕ) (xs : List OwnedFrame) (frame : FrameText) → ((j : ℕ) → j < length numbers → get_or numbers j 0 ≢ owner)
    → states_of numbers (xs ++ owned owner frame ∷ []) ≡ states_of numbers xs
others_stay [] owner xs frame apart = refl
others_stay (n ∷ ns) owner xs frame apart =
    let first : n ≢ owner = apart 0 (omega arith) in
    (λ i. state_of-other n owner xs frame (λ e. first (sym e)) i ∷ others_stay ns owner xs frame (λ j lt. apart (suc j) (omega (arith, lt))) i)

-- the number at a place is no other's
abbrev pub IsApart : (numbers : List ℕ) (i : ℕ) → Type 0
IsApart numbers i = (j : ℕ) → j < length numbers → j ≢ i → get_or numbers j 0 ≢ get_or numbers i 0

none_below : (i : ℕ) → i < 0 → ⊥
none_below i lt = omega (arith, lt)

-- the server at a place takes it
pub states_of-push : (numbers : List ℕ) (i : ℕ) (xs : List OwnedFrame) (frame : FrameText) → i < length numbers → IsApart numbers i
    → states_of numbers (xs ++ owned (get_or numbers i 0) frame ∷ []) ≡ slice_set (states_of numbers xs) i (taken (state_of (get_or numbers i 0) xs) frame)
states_of-push [] i xs frame lt apart = absurd (none_below i lt)
states_of-push (n ∷ ns) zero xs frame lt apart =
    (λ i. state_of-own n xs frame i ∷ others_stay ns n xs frame (λ j lt'. apart (suc j) (omega (arith, lt')) (λ e. omega (arith, e))) i)
states_of-push (n ∷ ns) (suc i) xs frame lt apart =
    let first : n ≢ get_or ns i 0 = apart 0 (omega arith) (λ e. omega (arith, e)) in
    (λ k. state_of-other n (get_or ns i 0) xs frame (λ e. first (sym e)) k ∷ states_of-push ns i xs frame (omega (arith, lt)) (λ j lt' differ. apart (suc j) (omega (arith, lt')) (λ e. differ (omega (arith, e)))) k)

pub AreOwnTaken-push : (numbers : List ℕ) (before frames : List OwnedFrame) (one : OwnedFrame) → AreOwnTaken numbers before frames → IsOwnTaken numbers (before ++ frames) one → AreOwnTaken numbers before (frames ++ one ∷ [])
AreOwnTaken-push numbers before [] one are is = (subst (λ xs. IsOwnTaken numbers xs one) (append-nil before) is, tt)
AreOwnTaken-push numbers before (x ∷ xs) one are is =
    (are.0, AreOwnTaken-push numbers (before ++ x ∷ []) xs one are.1 (subst (λ l. IsOwnTaken numbers l one) (sym (append_assoc before (x ∷ []) xs)) is))

pub records-push : (xs : List OwnedFrame) (one : OwnedFrame) → records (xs ++ one ∷ []) ≡ records xs ++ record_of one ∷ []
records-push xs one = map-append record_of xs (one ∷ [])

-- an owner's own frames are taken by its server
pub own_taken : (numbers : List ℕ) (owner : ℕ) (before frames : List OwnedFrame) → AreOwnTaken numbers before frames → AreTaken (state_of owner before) (frames_of owner frames)
own_taken numbers owner before [] are = tt
own_taken numbers owner before (one ∷ more) are = by (one.owner == owner) refl (own_taken numbers owner (before ++ one ∷ []) more are.1)
  where
    by : (mine : Bool) → (one.owner == owner) ≡ mine → AreTaken (state_of owner (before ++ one ∷ [])) (frames_of owner more)
        → AreTaken (state_of owner before) (map (λ (x : OwnedFrame). x.frame) (if mine then one ∷ filter (λ x. x.owner == owner) more else filter (λ x. x.owner == owner) more))
    by true e rest =
        let same : one.owner ≡ owner = eqb-true one.owner owner e in (
          subst (λ o. IsTaken (state_of o before) one.frame) same are.0.is_taken,
          subst (λ s. AreTaken s (frames_of owner more)) (subst (λ o. state_of o (before ++ one ∷ []) ≡ taken (state_of o before) one.frame) same (state_of-own one.owner before one.frame)) rest,
        )
    by false e rest = subst (λ s. AreTaken s (frames_of owner more)) (state_of-other owner one.owner before one.frame (λ same. true≢false (sym (eq-eqb one.owner owner same) ∙ e))) rest
