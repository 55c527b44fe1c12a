-- The frames of an index are in the grammar.
use Rattle.std.proofs.Common.{◌≡◌, ℕ, zero, suc, ◌+◌, ◌-◌, ◌*◌, ◌<◌, ◌^◌, inl, inr, List, [], ◌∷◌, map, length, get_or, refl, sym, subst, arith}
use Rattle.std.specs.Int.{div_ceil}
use Rattle.std.specs.List.{AllByRecursion}
use Rattle.std.proofs.lemmas.Bool.{cases_lt}
use Rattle.list_packing.specs.Parts.{parts}
use Rattle.list_packing.proofs.PartsLemmas.{parts-at}
use Rattle.sse_frames.specs.Frames.{FrameText, SetupEnd, InGrammar, IsFrame, IsNumber, IsSetupArray, IsSetupDict, Rises, frame_bytes, labels_of}
use Rattle.sse_frames.specs.FrameViews.{entries_in, items_in}
use Rattle.sse_frames.specs.SentParts.{numbered}
use Rattle.sse_frames.proofs.Cut.{AreBytes, AreBytes-drop, AreBytes-take}
use Rattle.index_setup.specs.Built.{IsIndex}
use Rattle.index_setup.specs.declared.index.Index.{Index}
use Rattle.client_core.proofs.FramesAt.{begin_at, dict_at, array_at, end_at}
use Rattle.client_core.proofs.IndexCounts.{blocks_held, length-index_frames, words_held}
use Rattle.client_core.proofs.PartsOfItems.{part_entries, part_items, there}
use Rattle.client_core.proofs.SetupFrames.{IsSetupArray-part, IsSetupDict-part, entries_whole}
use Rattle.client_core.specs.Setup.{frames_in, index_frames}

-- frames that are in the grammar, each under its number
each_numbered : (q : ℕ) (fs : List (ℕ → FrameText)) (e : ℕ → FrameText) → ((k : ℕ) → k < length fs → InGrammar (get_or fs k e (q + k))) → AllByRecursion IsFrame (map frame_bytes (numbered q fs))
each_numbered q [] e each = tt
each_numbered q (f ∷ fs) e each =
    let own : q + 0 ≡ q = omega arith in (
      record { frame = f q; grammar = subst (λ n. InGrammar (f n)) own (each 0 (omega arith)); spelled = refl },
      each_numbered (q + 1) fs e (λ k within. let next : q + suc k ≡ q + 1 + k = omega arith in subst (λ n. InGrammar (get_or fs k e n)) next (each (suc k) (omega (arith, within)))),
    )

-- the bytes of a part
AreBytes-part : (size i : ℕ) (bytes : List ℕ) → i < div_ceil (length bytes) size → AreBytes bytes → AreBytes (get_or (parts size bytes) i [])
AreBytes-part size i bytes within are = subst AreBytes (sym (parts-at size bytes i within)) (AreBytes-take size _ (AreBytes-drop (i * size) bytes are))

module _ (index : Index) (is : IsIndex index) (entries_are : AreBytes index.entries) (array_are : AreBytes index.array) (rises : Rises (labels_of (entries_in (1 + 8 * index.b) index.entries))) where
  abbrev ending : ℕ → FrameText
  ending n = SetupEnd n

  whole : length index.entries ≡ index.words * (16 + (1 + 8 * index.b))
  whole = entries_whole _ index.words index.b index.entries is.whole refl

  array_whole : length index.array ≡ index.blocks * (8 * index.big)
  array_whole = is.array_whole

  dict_is : (i q : ℕ) → i < div_ceil index.words 1024 → IsNumber q → IsSetupDict q (1 + 8 * index.b) (get_or (parts 1024 (entries_in (1 + 8 * index.b) index.entries)) i [])
  dict_is i q within number =
      subst (λ es. IsSetupDict q (1 + 8 * index.b) es) (part_entries (1 + 8 * index.b) 1024 index.words i index.entries (omega arith) whole within)
      (IsSetupDict-part index.b index.words i q index.entries _ is.some is.cell whole within refl
      (AreBytes-part _ i index.entries (there (16 + (1 + 8 * index.b)) 1024 index.words i index.entries (omega arith) (omega arith) whole within) entries_are) number rises)

  array_is : (i q : ℕ) → i < div_ceil index.blocks 256 → IsNumber q → IsSetupArray q (8 * index.big) (get_or (parts 256 (items_in (8 * index.big) index.array)) i [])
  array_is i q within number =
      let some : 0 < 8 * index.big = omega (arith, is.block_some) in
      subst (λ bs. IsSetupArray q (8 * index.big) bs) (part_items (8 * index.big) 256 index.blocks i index.array some (omega arith) array_whole within)
      (IsSetupArray-part index.big index.blocks i q index.array _ is.block_some is.block array_whole within refl
      (AreBytes-part _ i index.array (there (8 * index.big) 256 index.blocks i index.array some (omega arith) array_whole within) array_are) number)

  frame_is : (k q : ℕ) → k < frames_in index → IsNumber q → InGrammar (get_or (index_frames index) k ending q)
  frame_is zero q within number =
      subst InGrammar
      (sym (begin_at index.b index.big index.words index.blocks (entries_in (1 + 8 * index.b) index.entries) (items_in (8 * index.big) index.array) (words_held index is) (blocks_held index is) ending q))
      (record { number = number; cell = (is.some, is.cell); block = (is.block_some, is.block); words = is.most; blocks = is.few_blocks })
  frame_is (suc k) q within number =
      let d : ℕ = div_ceil index.words 1024 in
      let a : ℕ = div_ceil index.blocks 256 in
      elim (cases_lt k d) [
        | inl lt ↦
            subst InGrammar
            (sym (dict_at index.b index.big index.words index.blocks (entries_in (1 + 8 * index.b) index.entries) (items_in (8 * index.big) index.array) (words_held index is) (blocks_held index is) ending q k lt))
            (dict_is k q lt number)
        | inr ge ↦
            let at : d + (k - d) ≡ k = omega (arith, ge) in
            subst (λ n. InGrammar (get_or (index_frames index) (suc n) ending q)) at
            (elim (cases_lt (k - d) a) [
              | inl lt ↦
                  subst InGrammar
                  (sym (array_at index.b index.big index.words index.blocks (entries_in (1 + 8 * index.b) index.entries) (items_in (8 * index.big) index.array) (words_held index is) (blocks_held index is) ending q (k - d) lt))
                  (array_is (k - d) q lt number)
              | inr last ↦
                  let all : a ≡ k - d = omega (arith, last, within, ge) in
                  subst (λ n. InGrammar (get_or (index_frames index) (suc (d + n)) ending q)) all
                  (subst InGrammar
                  (sym (end_at index.b index.big index.words index.blocks (entries_in (1 + 8 * index.b) index.entries) (items_in (8 * index.big) index.array) (words_held index is) (blocks_held index is) ending q))
                  number)
            ])
      ]

  -- under any first number from which on there is one for each
  pub frames_are : (q : ℕ) → q + frames_in index < 2 ^ 32 → AllByRecursion IsFrame (map frame_bytes (numbered q (index_frames index)))
  frames_are q numbers =
      each_numbered q (index_frames index) ending
      (λ k within. let here : k < frames_in index = subst (λ (n : ℕ). k < n) (length-index_frames index is) within in frame_is k (q + k) here (omega (arith, here, numbers)))
