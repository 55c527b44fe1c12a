-- Which record a server doesn't take is determined by the records, and where there is one they aren't all taken.
use Rattle.std.proofs.Common.{◌≡◌, inl, inr, ℕ, ◌+◌, ◌<◌, ◌≤◌, List, [], ◌∷◌, ◌++◌, length, take, drop, get_or, refl, sym, ◌∙◌, ap, subst, arith}
use Rattle.std.specs.Prelude.{◌≢◌}
use Rattle.std.proofs.lemmas.List.{get_or-take, take-take, take-append-drop, drop_more, length-take-le}
use Rattle.sse_frames.specs.Frames.{FrameText, body_of}
use Rattle.sse_frames.proofs.FrameBytesLaws.{one_body}
use Rattle.sse_journal.specs.Files.{Gives}
use Rattle.sse_journal.proofs.Once.{gives_once}
use Rattle.server_core.specs.State.{ServerState, at_first}
use Rattle.server_core.specs.Step.{taken}
use Rattle.sse_server.specs.Taken.{IsTaken, AreTaken, taken_all, bodies}
use Rattle.sse_server.specs.Records.{IsBadRecord, HasBadRecord}

-- of two rows of frames that are taken, the longer one goes on with a frame that is taken after the shorter one
pub goes_on_with : (s : ServerState) (fs gs : List FrameText) (r : List ℕ) (rs : List (List ℕ)) → AreTaken s fs → AreTaken s gs → bodies fs ++ r ∷ rs ≡ bodies gs → (frame : FrameText) × IsTaken (taken_all s fs) frame × (r ≡ body_of frame)
goes_on_with s [] [] r rs are are' same = cc
goes_on_with s [] (g ∷ gs) r rs are are' same = let e : r ≡ body_of g = cc in (g, are'.0, e)
goes_on_with s (x ∷ xs) [] r rs are are' same = cc
goes_on_with s (x ∷ xs) (g ∷ gs) r rs are are' same =
    let e : body_of x ≡ body_of g = cc in
    let behind : bodies xs ++ r ∷ rs ≡ bodies gs = cc in
    let one : g ≡ x = one_body g x are'.0.grammar are.0.grammar (sym e) in
    goes_on_with (taken s x) xs gs r rs are.1 (subst (λ h. AreTaken (taken s h) gs) one are'.1) behind

-- what a row of frames that are taken has as its k-th body is the body of a frame that is taken after the first k
there : (payloads : List (List ℕ)) (k : ℕ) (fs gs : List FrameText) → k < length payloads → AreTaken at_first fs → AreTaken at_first gs → take k payloads ≡ bodies fs → payloads ≡ bodies gs → (frame : FrameText) × IsTaken (taken_all at_first fs) frame × (get_or payloads k [] ≡ body_of frame)
there payloads k fs gs lt are are' front all =
    goes_on_with at_first fs gs (get_or payloads k []) (drop (k + 1) payloads) are are' (ap (λ l. l ++ get_or payloads k [] ∷ drop (k + 1) payloads) (sym front) ∙ ap (λ l. take k payloads ++ l) (sym (drop_more payloads k [] lt)) ∙ take-append-drop k payloads ∙ all)

-- where all records are taken, none is bad
pub no_bad_record : (payloads : List (List ℕ)) (k : ℕ) (frames : List FrameText) → IsBadRecord payloads k → AreTaken at_first frames → payloads ≡ bodies frames → ⊥
no_bad_record payloads k frames bad are all =
    let more = there payloads k bad.frames frames bad.inside bad.are_taken are bad.before all in
    bad.bad more.0 more.1 more.2

-- a later record isn't the first bad one
no_later : (payloads : List (List ℕ)) (k l : ℕ) → IsBadRecord payloads k → IsBadRecord payloads l → k < l → ⊥
no_later payloads k l bad later lt =
    let size : length (take l payloads) ≡ l = length-take-le l payloads (omega (arith, later.inside)) in
    let front : take k (take l payloads) ≡ bodies bad.frames = take-take k l payloads (omega arith) ∙ bad.before in
    let more = there (take l payloads) k bad.frames later.frames (omega (arith, size)) bad.are_taken later.are_taken front later.before in
    bad.bad more.0 more.1 (sym (get_or-take l payloads k [] lt) ∙ more.2)

-- the first record that isn't taken is determined by the records
pub bad_record_once : (payloads : List (List ℕ)) (k l : ℕ) → IsBadRecord payloads k → IsBadRecord payloads l → k ≡ l
bad_record_once payloads k l bad too = grind (arith, no_later payloads k l bad too, no_later payloads l k too bad)

-- Promise P130, also here
-- a file whose records are all taken has no bad one
pub no_bad_record_of : (bytes : List ℕ) (k : ℕ) (frames : List FrameText) → HasBadRecord bytes k → AreTaken at_first frames → Gives (bodies frames) bytes → ⊥
no_bad_record_of bytes k frames has are gives = no_bad_record has.payloads k frames has.bad are (gives_once has.payloads (bodies frames) bytes has.gives gives)

-- Promise P130, also here
-- and which it is is determined by the file
pub bad_record_once_of : (bytes : List ℕ) (k l : ℕ) → HasBadRecord bytes k → HasBadRecord bytes l → k ≡ l
bad_record_once_of bytes k l has too = bad_record_once has.payloads k l has.bad (subst (λ ps. IsBadRecord ps l) (gives_once too.payloads has.payloads bytes too.gives has.gives) too.bad)
