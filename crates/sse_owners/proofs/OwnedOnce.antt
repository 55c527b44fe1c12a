-- Which record no owner's server takes is determined by the records, and if there is one they aren't all taken.
use Rattle.std.proofs.Common.{◌≡◌, ℕ, ◌+◌, ◌<◌, ◌^◌, List, [], ◌∷◌, ◌++◌, length, take, drop, get_or, sym, ◌∙◌, ap, subst, append_assoc, arith}
use Rattle.std.specs.Int.{w64, to_be_bytes, from_be_bytes}
use Rattle.std.proofs.lemmas.Nat.{from_be_bytes-to_be_bytes_8}
use Rattle.std.proofs.lemmas.List.{append-nil, get_or-take, take-take, take-append-drop, drop_more, length-take-le}
use Rattle.sse_frames.specs.Frames.{InGrammar, body_of}
use Rattle.sse_frames.proofs.FrameBytesLaws.{one_body}
use Rattle.sse_journal.specs.Files.{Gives}
use Rattle.sse_journal.proofs.Once.{gives_once}
use Rattle.sse_owners.specs.Owned.{OwnedFrame, IsOwnTaken, AreOwnTaken, record_of, records}
use Rattle.sse_owners.specs.OwnedRecords.{IsBadOwned, HasBadOwned}

-- eight bytes in front of others
front_8 : (a b : ℕ) (xs ys : List ℕ) → to_be_bytes w64 a ++ xs ≡ to_be_bytes w64 b ++ ys → to_be_bytes w64 a ≡ to_be_bytes w64 b
front_8 a b xs ys same = ap (take 8) same

rest_8 : (a b : ℕ) (xs ys : List ℕ) → to_be_bytes w64 a ++ xs ≡ to_be_bytes w64 b ++ ys → xs ≡ ys
rest_8 a b xs ys same = ap (drop 8) same

-- the number and the rest are determined by the bytes
pub one_number : (a b : ℕ) (xs ys : List ℕ) → a < 2 ^ 64 → b < 2 ^ 64 → to_be_bytes w64 a ++ xs ≡ to_be_bytes w64 b ++ ys → a ≡ b
one_number a b xs ys below below2 same =
    sym (from_be_bytes-to_be_bytes_8 a below) ∙ ap (from_be_bytes w64) (front_8 a b xs ys same) ∙ from_be_bytes-to_be_bytes_8 b below2

pub one_rest : (a b : ℕ) (xs ys : List ℕ) → to_be_bytes w64 a ++ xs ≡ to_be_bytes w64 b ++ ys → xs ≡ ys
one_rest a b xs ys same = rest_8 a b xs ys same

-- what eight bytes spell, and the bytes after them
pub joined : (bytes head body : List ℕ) (n : ℕ) → to_be_bytes w64 n ≡ head → head ≡ take 8 bytes → body ≡ drop 8 bytes → bytes ≡ to_be_bytes w64 n ++ body
joined bytes head body n spells front rest = sym (take-append-drop 8 bytes) ∙ ap (λ h. h ++ drop 8 bytes) (sym (spells ∙ front)) ∙ ap (λ b. to_be_bytes w64 n ++ b) (sym rest)

-- so a record is of one frame
one_record : (one other : OwnedFrame) → one.owner < 2 ^ 64 → other.owner < 2 ^ 64 → InGrammar one.frame → InGrammar other.frame → record_of one ≡ record_of other → one ≡ other
one_record one other below below2 grammar grammar2 same =
    let owner : one.owner ≡ other.owner = one_number one.owner other.owner (body_of one.frame) (body_of other.frame) below below2 same in
    let frame = one_body one.frame other.frame grammar grammar2 (one_rest one.owner other.owner (body_of one.frame) (body_of other.frame) same) in
    (λ i. record { owner = owner i; frame = frame i })

first_is : (x y : List ℕ) (xs ys : List (List ℕ)) → x ∷ xs ≡ y ∷ ys → x ≡ y
first_is x y xs ys same = cc

others_are : (x y : List ℕ) (xs ys : List (List ℕ)) → x ∷ xs ≡ y ∷ ys → xs ≡ ys
others_are x y xs ys same = cc

none_more : (x : List ℕ) (xs : List (List ℕ)) → x ∷ xs ≡ [] → ⊥
none_more x xs same = cc

-- of two rows of frames that are taken, the longer one goes on with a frame that is taken after the shorter one
goes_on_with : (numbers : List ℕ) (before fs gs : List OwnedFrame) (r : List ℕ) (rs : List (List ℕ)) → AreOwnTaken numbers before fs → AreOwnTaken numbers before gs → records fs ++ r ∷ rs ≡ records gs
    → (one : OwnedFrame) × IsOwnTaken numbers (before ++ fs) one × (r ≡ record_of one)
goes_on_with numbers before [] [] r rs are are' same = absurd (none_more r rs same)
goes_on_with numbers before [] (g ∷ gs) r rs are are' same =
    (g, subst (λ l. IsOwnTaken numbers l g) (sym (append-nil before)) are'.0, first_is r (record_of g) rs (records gs) same)
goes_on_with numbers before (x ∷ xs) [] r rs are are' same = absurd (none_more (record_of x) (records xs ++ r ∷ rs) same)
goes_on_with numbers before (x ∷ xs) (g ∷ gs) r rs are are' same =
    let e : record_of x ≡ record_of g = first_is (record_of x) (record_of g) (records xs ++ r ∷ rs) (records gs) same in
    let behind : records xs ++ r ∷ rs ≡ records gs = others_are (record_of x) (record_of g) (records xs ++ r ∷ rs) (records gs) same in
    let one : g ≡ x = one_record g x are'.0.short are.0.short are'.0.is_taken.grammar are.0.is_taken.grammar (sym e) in
    let more = goes_on_with numbers (before ++ x ∷ []) xs gs r rs are.1 (subst (λ h. AreOwnTaken numbers (before ++ h ∷ []) gs) one are'.1) behind in
    (more.0, subst (λ l. IsOwnTaken numbers l more.0) (append_assoc before (x ∷ []) xs) more.1, more.2)

-- what a row of frames that are taken has as its k-th record is a frame that is taken after the first k
there : (numbers : List ℕ) (payloads : List (List ℕ)) (k : ℕ) (fs gs : List OwnedFrame) → k < length payloads → AreOwnTaken numbers [] fs → AreOwnTaken numbers [] gs → take k payloads ≡ records fs → payloads ≡ records gs
    → (one : OwnedFrame) × IsOwnTaken numbers fs one × (get_or payloads k [] ≡ record_of one)
there numbers payloads k fs gs lt are are' front all =
    goes_on_with numbers [] fs gs (get_or payloads k []) (drop (k + 1) payloads) are are' (ap (λ l. l ++ get_or payloads k [] ∷ drop (k + 1) payloads) (sym front) ∙ ap (λ l. take k payloads ++ l) (sym (drop_more payloads k [] lt)) ∙ take-append-drop k payloads ∙ all)

-- if all records are taken, none is bad
no_bad_record : (numbers : List ℕ) (payloads : List (List ℕ)) (k : ℕ) (frames : List OwnedFrame) → IsBadOwned numbers payloads k → AreOwnTaken numbers [] frames → payloads ≡ records frames → ⊥
no_bad_record numbers payloads k frames bad are all =
    let more = there numbers payloads k bad.frames frames bad.inside bad.are_taken are bad.before all in
    bad.bad more.0 more.1 more.2

-- a later record isn't the first bad one
no_later : (numbers : List ℕ) (payloads : List (List ℕ)) (k l : ℕ) → IsBadOwned numbers payloads k → IsBadOwned numbers payloads l → k < l → ⊥
no_later numbers payloads k l bad later lt =
    let size : length (take l payloads) ≡ l = length-take-le l payloads (omega (arith, later.inside)) in
    let front : take k (take l payloads) ≡ records bad.frames = take-take k l payloads (omega arith) ∙ bad.before in
    let more = there numbers (take l payloads) k bad.frames later.frames (omega (arith, size)) bad.are_taken later.are_taken front later.before in
    bad.bad more.0 more.1 (sym (get_or-take l payloads k [] lt) ∙ more.2)

bad_record_once : (numbers : List ℕ) (payloads : List (List ℕ)) (k l : ℕ) → IsBadOwned numbers payloads k → IsBadOwned numbers payloads l → k ≡ l
bad_record_once numbers payloads k l bad too = grind (arith, no_later numbers payloads k l bad too, no_later numbers payloads l k too bad)

-- Promise P253, also here
-- a file whose records are all taken has no bad one
pub no_bad_record_of : (numbers : List ℕ) (bytes : List ℕ) (k : ℕ) (frames : List OwnedFrame) → HasBadOwned numbers bytes k → AreOwnTaken numbers [] frames → Gives (records frames) bytes → ⊥
no_bad_record_of numbers bytes k frames has are gives = no_bad_record numbers has.payloads k frames has.bad are (gives_once has.payloads (records frames) bytes has.gives gives)

-- Promise P253, also here
-- and which it is is determined by the file
pub bad_record_once_of : (numbers : List ℕ) (bytes : List ℕ) (k l : ℕ) → HasBadOwned numbers bytes k → HasBadOwned numbers bytes l → k ≡ l
bad_record_once_of numbers bytes k l has too = bad_record_once numbers has.payloads k l has.bad (subst (λ ps. IsBadOwned numbers ps l) (gives_once too.payloads has.payloads bytes too.gives has.gives) too.bad)
