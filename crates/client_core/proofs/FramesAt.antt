-- The frames of a setup by their places.
use Rattle.std.proofs.Common.{◌≡◌, ℕ, suc, ◌+◌, ◌-◌, ◌*◌, ◌<◌, List, [], ◌∷◌, ◌++◌, map, length, get_or, refl, ap, ◌∙◌, arith}
use Rattle.std.specs.Int.{div_ceil}
use Rattle.std.proofs.lemmas.List.{get_or-map, get_or_append_left, get_or-append_right, length-map, length-append}
use Rattle.list_packing.specs.Parts.{parts}
use Rattle.list_packing.proofs.PartsLemmas.{length-parts}
use Rattle.sse_frames.specs.Frames.{Entry, FrameText, SetupBegin, SetupDict, SetupArray, SetupEnd}
use Rattle.sse_frames.specs.SentParts.{numbered}
use Rattle.client_core.specs.Setup.{frames_between}

pub length-numbered : (q : ℕ) (fs : List (ℕ → FrameText)) → length (numbered q fs) ≡ length fs
length-numbered q [] = refl
length-numbered q (f ∷ fs) = ap (λ (n : ℕ). suc n) (length-numbered (q + 1) fs)

module _ (b big words blocks : ℕ) (es : List Entry) (bs : List (List ℕ)) (words_are : length es ≡ words) (blocks_are : length bs ≡ blocks) where
  abbrev as_dict : List Entry → ℕ → FrameText
  as_dict part q = SetupDict q (1 + 8 * b) part

  abbrev as_array : List (List ℕ) → ℕ → FrameText
  as_array part q = SetupArray q (8 * big) part

  abbrev dicts : List (ℕ → FrameText)
  dicts = map as_dict (parts 1024 es)

  abbrev arrays : List (ℕ → FrameText)
  arrays = map as_array (parts 256 bs)

  abbrev ending : List (ℕ → FrameText)
  ending = (λ q. SetupEnd q) ∷ []

  length-dicts : length dicts ≡ div_ceil words 1024
  length-dicts = length-map (parts 1024 es) as_dict ∙ length-parts 1024 es ∙ ap (λ n. div_ceil n 1024) words_are

  length-arrays : length arrays ≡ div_ceil blocks 256
  length-arrays = length-map (parts 256 bs) as_array ∙ length-parts 256 bs ∙ ap (λ n. div_ceil n 256) blocks_are

  pub length-frames : length (frames_between b big es bs) ≡ 2 + div_ceil words 1024 + div_ceil blocks 256
  length-frames =
      omega (arith, length-append (dicts ++ arrays) ending, length-append dicts arrays, length-dicts, length-arrays)

  module _ (e : ℕ → FrameText) (q : ℕ) where
    pub begin_at : get_or (frames_between b big es bs) 0 e q ≡ SetupBegin q b big words blocks
    begin_at = λ i. SetupBegin q b big (words_are i) (blocks_are i)

    pub dict_at : (k : ℕ) → k < div_ceil words 1024 → get_or (frames_between b big es bs) (suc k) e q ≡ SetupDict q (1 + 8 * b) (get_or (parts 1024 es) k [])
    dict_at k within =
        let inside : k < length dicts = omega (arith, length-dicts, within) in
        let some : k < length (parts 1024 es) = omega (arith, inside, length-map (parts 1024 es) as_dict) in
        ap (λ (f : ℕ → FrameText). f q)
        (get_or_append_left (dicts ++ arrays) ending e k (omega (arith, inside, length-append dicts arrays))
        ∙ get_or_append_left dicts arrays e k inside
        ∙ get_or-map as_dict (parts 1024 es) k [] e some)

    pub array_at : (k : ℕ) → k < div_ceil blocks 256
        → get_or (frames_between b big es bs) (suc (div_ceil words 1024 + k)) e q ≡ SetupArray q (8 * big) (get_or (parts 256 bs) k [])
    array_at k within =
        let d : ℕ = div_ceil words 1024 in
        let inside : k < length arrays = omega (arith, length-arrays, within) in
        let some : k < length (parts 256 bs) = omega (arith, inside, length-map (parts 256 bs) as_array) in
        let less : d + k - d ≡ k = omega arith in
        ap (λ (f : ℕ → FrameText). f q)
        (get_or_append_left (dicts ++ arrays) ending e (d + k) (omega (arith, inside, length-append dicts arrays, length-dicts))
        ∙ get_or-append_right dicts arrays d (d + k) e length-dicts (omega arith)
        ∙ ap (λ n. get_or arrays n e) less
        ∙ get_or-map as_array (parts 256 bs) k [] e some)

    pub end_at : get_or (frames_between b big es bs) (suc (div_ceil words 1024 + div_ceil blocks 256)) e q ≡ SetupEnd q
    end_at =
        let n : ℕ = div_ceil words 1024 + div_ceil blocks 256 in
        let less : n - n ≡ 0 = omega arith in
        ap (λ (f : ℕ → FrameText). f q)
        (get_or-append_right (dicts ++ arrays) ending n n e (omega (arith, length-append dicts arrays, length-dicts, length-arrays)) (omega arith)
        ∙ ap (λ k. get_or ending k e) less)
