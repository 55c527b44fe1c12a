-- Owners' servers take the records of a journal one after the other.
use Rattle.std.proofs.Common.{◌≡◌, ℕ, ◌+◌, ◌<◌, ◌≤◌, ◌^◌, List, [], ◌∷◌, ◌++◌, length, take, get_or, slice_set, refl, sym, ◌∙◌, ap, subst, arith}
use Rattle.std.specs.Prelude.{◌≢◌, Contains, Option, Result, Ok, Err, OnOk}
use Rattle.std.specs.Int.{w64, to_be_bytes}
use Rattle.std.specs.List.Sorted.{IsStrictlyIncreasing}
use Rattle.std.proofs.lemmas.List.{take_more, get_or-map}
use Rattle.std.proofs.lemmas.Grind.{get_or_default_zero}
use Rattle.sse_frames.specs.Frames.{FrameText, body_of}
use Rattle.sse_journal.specs.Reads.{place_of}
use Rattle.server_core.specs.State.{ServerState, at_first}
use Rattle.server_core.specs.Step.{taken}
use Rattle.sse_server.specs.Records.{TakesRecord}
use Rattle.sse_server.specs.Taken.{IsTaken}
use Rattle.sse_owners.specs.Owned.{OwnedFrame, owned, state_of, states_of, record_of, records}
use Rattle.sse_owners.specs.OwnedRecords.{IsBadOwned, AreReplayed, CanTakeOwned, TakesOwned}
use Rattle.sse_owners.proofs.OwnedLaws.{AreOwnTaken-push, records-push, states_of-push}
use Rattle.sse_owners.proofs.OwnedOnce.{one_number, one_rest}
use Rattle.sse_owners.proofs.RisingLaws.{apart, contained}
use Rattle.sse_owners.proofs.LastingOwners.{own_taken_at}

pub replayed_none : (numbers : List ℕ) (payloads : List (List ℕ)) (states : List ServerState) → states ≡ states_of numbers [] → AreReplayed numbers (take 0 payloads) states
replayed_none numbers payloads states are = record { frames = []; are_taken = tt; payloads_are = refl; states_are = are }

-- the state at a place
state_at : (numbers : List ℕ) (frames : List OwnedFrame) (states : List ServerState) (place : ℕ) → place < length numbers → states ≡ states_of numbers frames → get_or states place at_first ≡ state_of (get_or numbers place 0) frames
state_at numbers frames states place within are = ap (λ l. get_or l place at_first) are ∙ get_or-map (λ owner. state_of owner frames) numbers place 0 at_first within

pub replayed_next : (numbers : List ℕ) (payloads : List (List ℕ)) (k : ℕ) (before after : List ServerState) → IsStrictlyIncreasing numbers → k < length payloads
    → AreReplayed numbers (take k payloads) before → TakesOwned numbers before (get_or payloads k []) after → AreReplayed numbers (take (k + 1) payloads) after
replayed_next numbers payloads k before after rising lt done one =
    let can = one.can in
    let more = owned (get_or numbers can.place 0) can.frame in
    let here = state_at numbers done.frames before can.place can.within done.states_are in
    record {
      frames = done.frames ++ more ∷ [];
      are_taken = AreOwnTaken-push numbers [] done.frames more done.are_taken (own_taken_at done.frames numbers before can.place can.frame can.within can.short done.states_are can.is_taken);
      payloads_are = take_more payloads k [] lt ∙ ap (λ l. l ++ get_or payloads k [] ∷ []) done.payloads_are ∙ ap (λ x. records done.frames ++ x ∷ []) can.payload_is ∙ sym (records-push done.frames more);
      states_are = one.after_is
          ∙ (λ i. slice_set (done.states_are i) can.place (taken (here i) can.frame))
          ∙ sym (states_of-push numbers can.place done.frames can.frame can.within (apart numbers can.place rising can.within));
    }

pub bad_here : (numbers : List ℕ) (payloads : List (List ℕ)) (k : ℕ) (states : List ServerState) → k < length payloads → AreReplayed numbers (take k payloads) states
    → (CanTakeOwned numbers states (get_or payloads k []) → ⊥) → IsBadOwned numbers payloads k
bad_here numbers payloads k states lt done none = record {
  frames = done.frames;
  are_taken = done.are_taken;
  before = done.payloads_are;
  inside = lt;
  bad = λ one is same.
      let place = is.known.0 in
      let within = is.known.1 in
      let number : get_or numbers place 0 ≡ one.owner = sym (get_or_default_zero numbers place one.owner within) ∙ is.known.2 in
      none (record {
        place = place;
        within = within;
        short = subst (λ n. n < 2 ^ 64) (sym number) is.short;
        frame = one.frame;
        is_taken = subst (λ s. IsTaken s one.frame) (sym (state_at numbers done.frames states place within done.states_are ∙ ap (λ n. state_of n done.frames) number)) is.is_taken;
        payload_is = same ∙ ap (λ n. record_of (owned n one.frame)) (sym number);
      });
}

-- where servers stand that have taken the first records
pub record IsHere (numbers : List ℕ) (payloads : List (List ℕ)) (at number : ℕ) (states : List ServerState) : Type 0 where
  pub within : number ≤ length payloads
  pub at_is : at ≡ place_of payloads number
  pub replayed : AreReplayed numbers (take number payloads) states

-- A record is a number and a body.

abbrev pub IsBadBody : ServerState → (body : List ℕ) → Type 0
IsBadBody s body = (frame : FrameText) → IsTaken s frame → body ≢ body_of frame

-- the body is bad for the server of its owner
pub bad_body : (numbers : List ℕ) (states : List ServerState) (payload : List ℕ) (owner : ℕ) (body : List ℕ) (place : ℕ) → IsStrictlyIncreasing numbers → owner < 2 ^ 64
    → payload ≡ to_be_bytes w64 owner ++ body → place < length numbers → get_or numbers place 0 ≡ owner → IsBadBody (get_or states place at_first) body → CanTakeOwned numbers states payload → ⊥
bad_body numbers states payload owner body place rising short are within number bad can =
    let same : to_be_bytes w64 (get_or numbers can.place 0) ++ body_of can.frame ≡ to_be_bytes w64 owner ++ body = sym can.payload_is ∙ are in
    let owner_is : get_or numbers can.place 0 ≡ owner = one_number (get_or numbers can.place 0) owner (body_of can.frame) body can.short short same in
    let place_is : can.place ≡ place = same_place numbers can.place place rising can.within within (owner_is ∙ sym number) in
    bad can.frame (subst (λ p. IsTaken (get_or states p at_first) can.frame) place_is can.is_taken) (sym (one_rest (get_or numbers can.place 0) owner (body_of can.frame) body same))
  where
    same_place : (numbers : List ℕ) (i j : ℕ) → IsStrictlyIncreasing numbers → i < length numbers → j < length numbers → get_or numbers i 0 ≡ get_or numbers j 0 → i ≡ j
    same_place numbers i j rising lt lt' same = grind (arith, λ (differ : i ≢ j). apart numbers j rising lt' i lt differ same)

-- its owner is none of these
pub bad_owner : (numbers : List ℕ) (states : List ServerState) (payload : List ℕ) (owner : ℕ) (body : List ℕ) → owner < 2 ^ 64
    → payload ≡ to_be_bytes w64 owner ++ body → (Contains numbers owner → ⊥) → CanTakeOwned numbers states payload → ⊥
bad_owner numbers states payload owner body short are none can =
    let same : to_be_bytes w64 (get_or numbers can.place 0) ++ body_of can.frame ≡ to_be_bytes w64 owner ++ body = sym can.payload_is ∙ are in
    none (contained numbers owner can.place can.within (one_number (get_or numbers can.place 0) owner (body_of can.frame) body can.short short same))

-- it has no number
pub bad_size : (numbers : List ℕ) (states : List ServerState) (payload : List ℕ) → length payload < 8 → CanTakeOwned numbers states payload → ⊥
bad_size numbers states payload few can = omega (arith, few, ap length can.payload_is)

-- the server at a place took it
pub takes_owned : (numbers : List ℕ) (states after : List ServerState) (payload : List ℕ) (owner : ℕ) (body : List ℕ) (place : ℕ) (state : ServerState) → owner < 2 ^ 64
    → payload ≡ to_be_bytes w64 owner ++ body → place < length numbers → get_or numbers place 0 ≡ owner → TakesRecord (get_or states place at_first) body state → after ≡ slice_set states place state → TakesOwned numbers states payload after
takes_owned numbers states after payload owner body place state short are within number one is = record {
  can = record {
    place = place;
    within = within;
    short = subst (λ n. n < 2 ^ 64) (sym number) short;
    frame = one.frame;
    is_taken = one.is_taken;
    payload_is = are ∙ ap (λ n. to_be_bytes w64 n ++ body) (sym number) ∙ ap (λ b. to_be_bytes w64 (get_or numbers place 0) ++ b) one.body_is;
  };
  after_is = is ∙ ap (slice_set states place) one.state_is;
}

pub on_ok_to : {T E P Q : Type 0} (r : Result T E) → (P → Q) → OnOk r P → OnOk r Q
on_ok_to (Ok x) to is = to is
on_ok_to (Err e) to is = tt
