-- A part of the entries or the blocks of a setup is a frame of the grammar.
use Rattle.std.proofs.Common.{◌≡◌, ℕ, ◌+◌, ◌*◌, ◌<◌, ◌≤◌, List, [], length, take, drop, get_or, refl, sym, ap, subst, ◌∙◌, arith}
use Rattle.std.specs.Int.{div_ceil}
use Rattle.list_packing.specs.Parts.{parts}
use Rattle.sse_frames.specs.Frames.{Entry, IsNumber, IsSetupDict, IsSetupArray, Rises, labels_of}
use Rattle.sse_frames.specs.FrameViews.{entries_in, items_in}
use Rattle.sse_frames.proofs.Chunks.{length-entries_in, length-items_in, each_entry, each_item}
use Rattle.sse_frames.proofs.Cut.{AreBytes}
use Rattle.sse_model.proofs.SetupGrammar.{Rises-take, Rises-drop}
use Rattle.client_core.proofs.PartsOfItems.{before_part, part_count, part_entries, part_taken, length-part_bytes}

-- the bytes of the entries, counted by their width
pub entries_whole : (len words b : ℕ) (bytes : List ℕ) → len ≡ words * (17 + 8 * b) → len ≡ length bytes → length bytes ≡ words * (16 + (1 + 8 * b))
entries_whole len words b bytes e is = let same : 17 + 8 * b ≡ 16 + (1 + 8 * b) = omega arith in sym is ∙ e ∙ ap (λ (n : ℕ). words * n) same

part_some : (k count i : ℕ) → 0 < k → i < div_ceil count k → (1 ≤ part_count k count i) × (part_count k count i ≤ k)
part_some k count i wide within = let first = before_part k count i wide within in (omega (arith, first, wide), omega arith)

-- a part of entries that rise is a frame of the grammar
pub IsSetupDict-part : (b words i q : ℕ) (bytes part : List ℕ) → 1 ≤ b → b ≤ 64 → length bytes ≡ words * (16 + (1 + 8 * b)) → i < div_ceil words 1024
    → part ≡ get_or (parts (1024 * (16 + (1 + 8 * b))) bytes) i [] → AreBytes part → IsNumber q → Rises (labels_of (entries_in (1 + 8 * b) bytes))
    → IsSetupDict q (1 + 8 * b) (entries_in (1 + 8 * b) part)
IsSetupDict-part b words i q bytes part some small whole within is are number rises =
    let width : ℕ = 1 + 8 * b in
    let es = entries_in width bytes in
    let c : ℕ = part_count 1024 words i in
    let len : length part ≡ c * (16 + width) = ap length is ∙ length-part_bytes (16 + width) 1024 words i bytes (omega arith) (omega arith) whole within in
    let count : length (entries_in width part) ≡ c = length-entries_in width c part len in
    let its : entries_in width part ≡ take c (drop (i * 1024) es) =
    ap (entries_in width) is ∙ part_entries width 1024 words i bytes (omega arith) whole within ∙ part_taken 1024 words i es (length-entries_in width words bytes whole) within in
    let fits = part_some 1024 words i (omega arith) within in
    record {
      number = number;
      cell = (b, some, small, refl);
      count = (omega (arith, count, fits.0), omega (arith, count, fits.1));
      each = each_entry width c part are len;
      rises =
          subst (λ (xs : List Entry). Rises (labels_of xs)) (sym its)
          (Rises-take (λ (entry : Entry). entry.label) c (drop (i * 1024) es) (Rises-drop (λ (entry : Entry). entry.label) (i * 1024) es rises));
    }

-- and so is a part of blocks
pub IsSetupArray-part : (big count i q : ℕ) (bytes part : List ℕ) → 1 ≤ big → big ≤ 256 → length bytes ≡ count * (8 * big) → i < div_ceil count 256
    → part ≡ get_or (parts (256 * (8 * big)) bytes) i [] → AreBytes part → IsNumber q → IsSetupArray q (8 * big) (items_in (8 * big) part)
IsSetupArray-part big count i q bytes part some small whole within is are number =
    let width : ℕ = 8 * big in
    let c : ℕ = part_count 256 count i in
    let len : length part ≡ c * width = ap length is ∙ length-part_bytes width 256 count i bytes (omega (arith, some)) (omega arith) whole within in
    let length_is : length (items_in width part) ≡ c = length-items_in width c part (omega (arith, some)) len in
    let fits = part_some 256 count i (omega arith) within in
    record {
      number = number;
      block = (big, some, small, refl);
      count = (omega (arith, length_is, fits.0), omega (arith, length_is, fits.1));
      each = each_item width c part (omega (arith, some)) are len;
    }
