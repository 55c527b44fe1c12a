-- What an owner is replied is what its own frames alone bring.
use Rattle.std.proofs.Common.{◌≡◌, ℕ, Bool, true, false, List, [], ◌∷◌, refl, sym, ◌∙◌}
use Rattle.std.specs.Prelude.{◌==◌, map, filter, if◌then◌else◌}
use Rattle.std.proofs.lemmas.Bool.{eqb-true}
use Rattle.keyed_fn.specs.KeyedFn.{KeyedFn}
use Rattle.server_core.specs.State.{ServerState, at_first}
use Rattle.server_core.specs.Step.{step, steps}
use Rattle.sse_owners.specs.Owned.{OwnedFrame, AreOwnTaken, frames_of, state_of}
use Rattle.sse_server.proofs.TakenFrames.{steps_taken}
use Rattle.sse_owners.proofs.OwnedLaws.{own_taken}
use Rattle.sse_owners.specs.Isolation.{OwnedReplies, after, replied, replies_to}

pub own_replies : (f : KeyedFn) (servers : ℕ → ServerState) (owner : ℕ) (frames : List OwnedFrame)
    → replies_to owner (replied f servers frames) ≡ (steps f (servers owner) (frames_of owner frames)).1
own_replies f servers owner [] = refl
own_replies f servers owner (one ∷ frames) = by (one.owner == owner) refl (own_replies f (after f servers one) owner frames)
  where
    rest : List (OwnedReplies)
    rest = replied f (after f servers one) frames

    by : (mine : Bool) → (one.owner == owner) ≡ mine
        → replies_to owner rest ≡ (steps f (if mine then (step f (servers owner) one.frame).0 else servers owner) (frames_of owner frames)).1
        → map (λ (r : OwnedReplies). r.replies) (if mine then record { owner = one.owner; replies = (step f (servers one.owner) one.frame).1 } ∷ filter (λ r. r.owner == owner) rest else filter (λ r. r.owner == owner) rest)
        ≡ (steps f (servers owner) (map (λ (o : OwnedFrame). o.frame) (if mine then one ∷ filter (λ o. o.owner == owner) frames else filter (λ o. o.owner == owner) frames))).1
    by true e later = (λ i. (step f (servers (eqb-true one.owner owner e i)) one.frame).1 ∷ later i)
    by false e later = later

-- so two lists of frames that agree on an owner's bring it equal replies, whatever the others send
pub isolated : (f : KeyedFn) (servers others : ℕ → ServerState) (owner : ℕ) (xs ys : List OwnedFrame)
    → servers owner ≡ others owner → frames_of owner xs ≡ frames_of owner ys
    → replies_to owner (replied f servers xs) ≡ replies_to owner (replied f others ys)
isolated f servers others owner xs ys same agree =
    own_replies f servers owner xs ∙ (λ i. (steps f (same i) (agree i)).1) ∙ sym (own_replies f others owner ys)

-- the server that an owner's frames make is what a server's steps make of them
pub replayed : (f : KeyedFn) (numbers : List ℕ) (frames : List OwnedFrame) (owner : ℕ) → AreOwnTaken numbers [] frames → state_of owner frames ≡ (steps f at_first (frames_of owner frames)).0
replayed f numbers frames owner are = sym (steps_taken f at_first (frames_of owner frames) (own_taken numbers owner [] frames are))
