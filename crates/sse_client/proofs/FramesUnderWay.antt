-- The next of the frames that an update is to send.
use Rattle.std.proofs.Common.{◌≡◌, ℕ, ◌+◌, List, [], ◌∷◌, map, take, drop, Some, refl, sym, ap, subst}
use Rattle.std.specs.List.{AllByRecursion}
use Rattle.client_core.specs.TakenViews.{first_number, to_send}
use Rattle.client_core.specs.declared.behind.Behind.{Behind}
use Rattle.sse_frames.specs.Frames.{FrameText, IsFrame, frame_bytes, update_number}
use Rattle.client_core.specs.Owes.{AreNumbered}

-- the next of the frames that are left
pub record IsNext (state : Behind) (frame : List ℕ) (left : List FrameText) : Type 0 where
  pub first : FrameText
  pub others : List FrameText
  pub are : left ≡ first ∷ others
  pub spelled : frame ≡ frame_bytes first
  pub number : update_number first ≡ Some (first_number state)
  pub more : drop 1 (to_send state) ≡ map frame_bytes others
  pub numbered : AreNumbered (first_number state + 1) others

pub next_of : (state : Behind) (frame : List ℕ) (left : List FrameText) → to_send state ≡ map frame_bytes left → AreNumbered (first_number state) left → take 1 (to_send state) ≡ frame ∷ [] → IsNext state frame left
next_of state frame [] to_come numbered one = absurd (let none : take 1 (to_send state) ≡ [] = ap (take 1) to_come in cc)
next_of state frame (first ∷ others) to_come numbered one =
    let ones : take 1 (to_send state) ≡ frame_bytes first ∷ [] = ap (take 1) to_come in
    record {
      first = first;
      others = others;
      are = refl;
      spelled = cc;
      number = numbered.0;
      more = ap (drop 1) to_come;
      numbered = numbered.1;
    }

-- of frames of the grammar the first is one, and so are those after it
pub first_frame : (frames : List (List ℕ)) (frame : List ℕ) → take 1 frames ≡ frame ∷ [] → AllByRecursion IsFrame frames → IsFrame frame
first_frame [] frame e are = absurd cc
first_frame (first ∷ frames) frame e are = let same : first ≡ frame = cc in subst IsFrame same are.0

pub frames_of_next : (frames later : List (List ℕ)) → later ≡ drop 1 frames → AllByRecursion IsFrame frames → AllByRecursion IsFrame later
frames_of_next [] later e are = subst (AllByRecursion IsFrame) (sym e) tt
frames_of_next (first ∷ frames) later e are = subst (AllByRecursion IsFrame) (sym e) are.1

pub none_mapped : (frames : List FrameText) → map frame_bytes frames ≡ [] → frames ≡ []
none_mapped [] e = refl
none_mapped (frame ∷ frames) e = absurd cc
