-- Frames of many owners last after each frame that is handled for the chosen one.
use Rattle.std.proofs.Common.{◌≡◌, ℕ, List, [], ◌∷◌, ◌++◌, get_or, sym, ap, subst, ◌∙◌, append_assoc}
use Rattle.std.specs.Prelude.{map}
use Rattle.std.specs.declared.option.Option.{Option}
use Rattle.std.proofs.lemmas.List.{append-nil, map-append}
use Rattle.sse_frames.specs.Frames.{FrameText}
use Rattle.server_core.specs.declared.answer.Answer.TheVariants as answers
use Rattle.sse_server.specs.declared.store_answer.StoreAnswer.{StoreAnswer}
use Rattle.sse_server.specs.declared.store_answer.StoreAnswer.TheVariants as stores
use Rattle.sse_owners.specs.Handled as owners
use Rattle.sse_owners.specs.Owned.{OwnedFrame, owned}
use Rattle.sse_owners.specs.OwnersView.{OwnersView, GivesAtMostOneMore, IsOwnersOf, StaysButChosen, chosen_owner}
use Rattle.server_connections.specs.Handled.{Since, taken_by}
use Rattle.server_connections.specs.OwnersLasting.{AreOwnersLasting, with_own}

none_more : (since : Since) (frames : List FrameText) → with_own since frames ++ [] ≡ with_own since (frames ++ [])
none_more since frames = append-nil (with_own since frames) ∙ ap (λ fs. with_own since fs) (sym (append-nil frames))

one_more : (since : Since) (frames : List FrameText) (frame : FrameText) (answer : StoreAnswer) (owner : ℕ) → owner ≡ since.owner → with_own since frames ++ owners.taken_by owner frame answer ≡ with_own since (frames ++ taken_by frame answer)
one_more since frames frame (stores.Answered (answers.Took q)) owner same =
    ap (λ o. with_own since frames ++ owned o frame ∷ []) same
    ∙ append_assoc since.taken (map (owned since.owner) frames) (owned since.owner frame ∷ [])
    ∙ ap (λ l. since.taken ++ l) (sym (map-append (owned since.owner) frames (frame ∷ [])))
one_more since frames frame (stores.Answered (answers.Next q)) owner same = none_more since frames
one_more since frames frame (stores.Answered (answers.Number q)) owner same = none_more since frames
one_more since frames frame (stores.Answered (answers.Clash what place)) owner same = none_more since frames
one_more since frames frame (stores.Answered (answers.Found count walk)) owner same = none_more since frames
one_more since frames frame (stores.Answered answers.BadList) owner same = none_more since frames
one_more since frames frame (stores.Answered answers.NoMemory) owner same = none_more since frames
one_more since frames frame (stores.Answered answers.OutOfPlace) owner same = none_more since frames
one_more since frames frame stores.StoreFault owner same = none_more since frames

pub owners_kept : (since : Since) (frames : List FrameText) (frame : FrameText) (answer : StoreAnswer) (old new : OwnersView) (content content2 : Option (List ℕ)) (images images2 : List ℕ → Type 0) → StaysButChosen old new
    → ((all : List OwnedFrame) → IsOwnersOf all old content images → IsOwnersOf (all ++ owners.taken_by (chosen_owner old) frame answer) new content2 images2)
    → AreOwnersLasting since frames old content images → AreOwnersLasting since (frames ++ taken_by frame answer) new content2 images2
owners_kept since frames frame answer old new content content2 images images2 others lasts is =
    let numbers : new.numbers ≡ since.numbers = others.numbers ∙ is.numbers in
    let taken : IsOwnersOf (with_own since (frames ++ taken_by frame answer)) new content2 images2 =
    subst (λ all. IsOwnersOf all new content2 images2) (one_more since frames frame answer (chosen_owner old) is.owner) (lasts (with_own since frames) is.taken) in
    record {
      numbers = numbers;
      owner = (λ i. get_or (others.numbers i) (others.chosen i) 0) ∙ is.owner;
      taken = taken;
      left = λ bytes image. subst (λ ns. GivesAtMostOneMore ns (with_own since (frames ++ taken_by frame answer)) bytes) numbers (taken.left bytes image);
    }
