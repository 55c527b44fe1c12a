-- Why a server doesn't take an update frame, and the number of the frame that it expects.
use Rattle.std.proofs.Common.{◌≡◌, ℕ, ◌+◌, Bool, true, false, List, [], ◌∷◌, length, inl, inr, refl, subst, arith}
use Rattle.std.specs.Prelude.{Option, Some, None, IsSome, if◌then◌else◌}
use Rattle.std.specs.Option.{option_map_or}
use Rattle.keyed_fn.specs.KeyedFn.{KeyedFn}
use Rattle.sse_frames.specs.Frames.{FrameText, InGrammar, Hello, SetupBegin, SetupDict, SetupArray, SetupEnd, AddFrame, DeleteFrame, SearchFrame, update_number}
use Rattle.sse_frames.specs.Replies.{ReplyText, Number, Clash, BadList, OutOfPlace}
use Rattle.sse_frames.specs.SentParts.{pages}
use Rattle.search_token.specs.TokenKeys.{keys_of_bytes}
use Rattle.server_core.specs.Refusal.{refusal, in_place, is_next, clash, clash_at, first_of_two}
use Rattle.server_core.specs.Search.{search_result}
use Rattle.server_core.specs.State.{ServerState, at_first, is_ready}
use Rattle.server_core.specs.Step.{taken, step}
use Rattle.sse_server.specs.Taken.{IsTaken, AreTaken, taken_all}
use Rattle.world_server.specs.Waiting.{IsRefusal, IsOfSearch}

none_is : (r : ReplyText) → None ≡ Some r → IsRefusal r
none_is r e = cc

at_is : (what : ℕ) (place : Option ℕ) (r : ReplyText) → clash_at what place ≡ Some r → IsRefusal r
at_is what None r e = none_is r e
at_is what (Some i) r e = let same : Clash what i ≡ r = cc in subst IsRefusal same tt

two_are : (a b : Option ReplyText) → ((r : ReplyText) → a ≡ Some r → IsRefusal r) → ((r : ReplyText) → b ≡ Some r → IsRefusal r) → (r : ReplyText) → first_of_two a b ≡ Some r → IsRefusal r
two_are None b first second r e = second r e
two_are (Some x) b first second r e = first r e

clash_is : (s : ServerState) (frame : FrameText) (r : ReplyText) → clash s frame ≡ Some r → IsRefusal r
clash_is s Hello r e = none_is r e
clash_is s (SetupBegin q b big m a) r e = none_is r e
clash_is s (SetupDict q width entries) r e = at_is 1 _ r e
clash_is s (SetupArray q width blocks) r e = none_is r e
clash_is s (SetupEnd q) r e = none_is r e
clash_is s (AddFrame q entries numbers) r e = two_are _ _ (at_is 2 _) (at_is 3 _) r e
clash_is s (DeleteFrame q numbers) r e = at_is 3 _ r e
clash_is s (SearchFrame token) r e = none_is r e

-- the cause is another number, a collision, or a frame out of place
pub refusal_is : (s : ServerState) (frame : FrameText) (r : ReplyText) → refusal s frame ≡ Some r → IsRefusal r
refusal_is s frame r e = by (is_next s frame) (in_place s frame) (clash s frame) (clash_is s frame) e
  where
    by : (b c : Bool) (o : Option ReplyText) → ((x : ReplyText) → o ≡ Some x → IsRefusal x) → (if b then (if c then o else Some OutOfPlace) else Some (Number s.next)) ≡ Some r → IsRefusal r
    by true true o is same = is r same
    by true false o is same = let x : OutOfPlace ≡ r = cc in subst IsRefusal x tt
    by false c o is same = let x : Number s.next ≡ r = cc in subst IsRefusal x tt

-- an update frame that isn't taken is refused
pub untaken_refused : (s : ServerState) (frame : FrameText) → IsSome (update_number frame) → InGrammar frame → (IsTaken s frame → ⊥) → (r : ReplyText) × (refusal s frame ≡ Some r)
untaken_refused s frame update grammar not = by (refusal s frame) refl
  where
    by : (o : Option ReplyText) → refusal s frame ≡ o → (r : ReplyText) × (refusal s frame ≡ Some r)
    by None e = absurd (not (record { update = update; grammar = grammar; accepted = e }))
    by (Some r) e = (r, e)

taken_next : (s : ServerState) (frame : FrameText) → IsSome (update_number frame) → (taken s frame).next ≡ s.next + 1
taken_next s Hello some = let none : IsSome {T = ℕ} None = some in cc
taken_next s (SetupBegin q b big m a) some = refl
taken_next s (SetupDict q width entries) some = refl
taken_next s (SetupArray q width blocks) some = refl
taken_next s (SetupEnd q) some = refl
taken_next s (AddFrame q entries numbers) some = refl
taken_next s (DeleteFrame q numbers) some = refl
taken_next s (SearchFrame token) some = let none : IsSome {T = ℕ} None = some in cc

-- a server expects the number of frames that it took
expected : (s : ServerState) (frames : List FrameText) → AreTaken s frames → (taken_all s frames).next ≡ s.next + length frames
expected s [] are = omega arith
expected s (x ∷ xs) are = omega (arith, expected (taken s x) xs are.1, taken_next s x are.0.update)

pub expected_first : (frames : List FrameText) → AreTaken at_first frames → (taken_all at_first frames).next ≡ length frames
expected_first frames are = omega (arith, expected at_first frames are)

-- Searches.

replies_when : ServerState → (ready : Bool) → (found : Option (List ℕ)) → List ReplyText
replies_when s ready found =
    let came : ServerState × List ReplyText = option_map_or (λ reply. (s, reply ∷ [])) (if ready then None else Some OutOfPlace) (s, option_map_or pages found (BadList ∷ [])) in came.1

of_search_when : (s : ServerState) (ready : Bool) (found : Option (List ℕ)) → IsOfSearch (replies_when s ready found)
unfolding replies_when
of_search_when s false found = inr (inr refl)
of_search_when s true None = inr (inl refl)
of_search_when s true (Some ids) = inl (ids, refl)

-- what a server replies to a search is the pages of an answer, or why there is none
pub of_search : (f : KeyedFn) (s : ServerState) (token : List ℕ) → IsOfSearch (step f s (SearchFrame token)).1
unfolding replies_when
of_search f s token = of_search_when s (is_ready s.stage) (search_result f s (keys_of_bytes token))
