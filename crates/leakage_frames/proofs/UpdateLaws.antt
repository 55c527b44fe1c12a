-- What passes for update frames: each with its acknowledgement, one after the other; and what is made of updates.
use Rattle.std.proofs.Common.{◌≡◌, ℕ, suc, ◌+◌, ◌*◌, List, [], ◌∷◌, ◌++◌, length, drop, filter, Some, refl, sym, ap, ◌∙◌, add-zero}
use Rattle.std.specs.Prelude.{option_map}
use Rattle.std.specs.Option.{option_and_then}
use Rattle.std.proofs.lemmas.List.{append-nil}
use Rattle.sse_frames.proofs.Sorted.{length-by_bytes}
use Rattle.sse_frames.specs.Exchange.{ForTook, asked}
use Rattle.sse_frames.specs.Frames.{Entry, FrameText, SetupBegin, SetupEnd, AddFrame, DeleteFrame}
use Rattle.sse_frames.specs.Order.{by_bytes}
use Rattle.sse_frames.specs.SentParts.{numbered, setup_frames}
use Rattle.sse_simulator.specs.Leaks.{WordLeak, SetupLeak, AddLeak, DeleteLeak, Draw}
use Rattle.sse_simulator.specs.Simulator.{Kept, as_entry, as_block, first_of, is_entry, numbers_added, numbers_deleted}
use Rattle.two_level.specs.Shape.{Shape}
use Rattle.leakage_frames.specs.MadeFrames.{part_frame, part_frames, setup_makers, then_updates, made_onto}
use Rattle.leakage_frames.specs.Steps.{bytes_of}
use Rattle.leakage_frames.specs.declared.drawn.Section.{Section}
use Rattle.leakage_frames.specs.declared.drawn.Section.TheVariants as sections
use Rattle.leakage_frames.specs.declared.passed.Passing.{Passing}

-- as many frames as there are to be numbered
pub length-numbered : {X : Type 0} (q : ℕ) (fs : List (ℕ → X)) → length (numbered q fs) ≡ length fs
length-numbered q [] = refl
length-numbered q (f ∷ fs) = ap (λ (n : ℕ). suc n) (length-numbered (q + 1) fs)

-- the frames of a part ask to be acknowledged
pub asked-part_frame : (section : Section) (width : ℕ) (items : List Entry) (q : ℕ) → asked (part_frame section width items q) ≡ ForTook q
asked-part_frame sections.Entries width items q = refl
asked-part_frame sections.Blocks width items q = refl

-- the frames of a setup are those of the draws, sorted
pub setup_frames-sorted : (q b big : ℕ) (entries blocks : List Entry)
    → setup_frames q (record { b = b; big = big }) entries blocks ≡ numbered q (setup_makers b big (by_bytes (λ entry. entry.label) entries) (by_bytes (λ block. block.label) blocks))
setup_frames-sorted q b big entries blocks =
    let label : Entry → List ℕ = λ entry. entry.label in
    let later : List (ℕ → FrameText) =
    part_frames sections.Entries (1 + 8 * b) 1024 (by_bytes label entries) ++ part_frames sections.Blocks (8 * big) 256 (by_bytes label blocks) ++ (λ n. SetupEnd n) ∷ [] in
    sym (λ i. numbered q ((λ (n : ℕ). SetupBegin n b big (length-by_bytes label entries i) (length-by_bytes label blocks i)) ∷ later))

-- what passed for these update frames and nothing behind them
pub updates_made : (old new : Passing) (fs : List (ℕ → FrameText)) → then_updates new [] ≡ then_updates old fs
    → ◌≡◌ {A = List (List ℕ) × ℕ} (old.texts ++ bytes_of [] (numbered old.next fs), old.next + length (numbered old.next fs)) (new.texts, new.next)
updates_made old new fs same =
    ap (λ (n : ℕ). (old.texts ++ bytes_of [] (numbered old.next fs), old.next + n)) (length-numbered old.next fs)
    ∙ sym same
    ∙ (λ i. (append-nil new.texts i, add-zero new.next i))

-- what is made of a setup
pub setup_made : (old new : Passing) (kept : List Kept) (b big words blocks : ℕ) (draws : List Draw) (es bs ses sbs : List Entry)
    → first_of as_entry words draws ≡ Some es → first_of as_block blocks (drop words draws) ≡ Some bs
    → ses ≡ by_bytes (λ entry. entry.label) es → sbs ≡ by_bytes (λ block. block.label) bs
    → then_updates new [] ≡ then_updates old (setup_makers b big ses sbs)
    → made_onto old.texts kept old.next (SetupLeak (record { b = b; big = big }) words blocks) draws ≡ Some (new.texts, new.next)
setup_made old new kept b big words blocks draws es bs ses sbs one two sorted sorted' same =
    let shape : Shape = record { b = b; big = big } in
    let told : List FrameText → List (List ℕ) × ℕ = λ frames. (old.texts ++ bytes_of [] frames, old.next + length frames) in
    let makers : List Entry → List Entry → List (ℕ → FrameText) = setup_makers b big in
    ap (λ o. option_map told (option_and_then (λ entries. option_map (λ sealed. setup_frames old.next shape entries sealed) (first_of as_block blocks (drop words draws))) o)) one
    ∙ ap (λ o. option_map told (option_map (λ sealed. setup_frames old.next shape es sealed) o)) two
    ∙ ap (λ frames. Some (told frames)) (setup_frames-sorted old.next b big es bs)
    ∙ (λ i. Some (told (numbered old.next (makers (sym sorted i) (sym sorted' i)))))
    ∙ ap Some (updates_made old new (makers ses sbs) same)

-- what is made of an addition
pub addition_made : (old new : Passing) (kept : List Kept) (words : List WordLeak) (draws : List Draw) (es ses : List Entry) (ns sns : List (List ℕ))
    → first_of as_entry (length (filter is_entry words)) draws ≡ Some es → numbers_added kept words ≡ Some ns
    → ses ≡ by_bytes (λ entry. entry.label) es → sns ≡ by_bytes (λ number. number) ns
    → then_updates new [] ≡ then_updates old ((λ q. AddFrame q ses sns) ∷ [])
    → made_onto old.texts kept old.next (AddLeak words) draws ≡ Some (new.texts, new.next)
addition_made old new kept words draws es ses ns sns one two sorted sorted' same =
    let told : List FrameText → List (List ℕ) × ℕ = λ frames. (old.texts ++ bytes_of [] frames, old.next + length frames) in
    let label : Entry → List ℕ = λ entry. entry.label in
    let own : List ℕ → List ℕ = λ number. number in
    ap (λ o. option_map told (option_and_then (λ entries. option_map (λ numbers. AddFrame old.next (by_bytes label entries) (by_bytes own numbers) ∷ []) (numbers_added kept words)) o)) one
    ∙ ap (λ o. option_map told (option_map (λ numbers. AddFrame old.next (by_bytes label es) (by_bytes own numbers) ∷ []) o)) two
    ∙ (λ i. Some (told (AddFrame old.next (sym sorted i) (sym sorted' i) ∷ [])))
    ∙ ap Some (updates_made old new ((λ q. AddFrame q ses sns) ∷ []) same)

-- what is made of a deletion
pub deletion_made : (old new : Passing) (kept : List Kept) (words : List WordLeak) (draws : List Draw) (ns sns : List (List ℕ))
    → numbers_deleted kept words draws ≡ Some ns → sns ≡ by_bytes (λ number. number) ns
    → then_updates new [] ≡ then_updates old ((λ q. DeleteFrame q sns) ∷ [])
    → made_onto old.texts kept old.next (DeleteLeak words) draws ≡ Some (new.texts, new.next)
deletion_made old new kept words draws ns sns one sorted same =
    let told : List FrameText → List (List ℕ) × ℕ = λ frames. (old.texts ++ bytes_of [] frames, old.next + length frames) in
    let own : List ℕ → List ℕ = λ number. number in
    ap (λ o. option_map told (option_map (λ numbers. DeleteFrame old.next (by_bytes own numbers) ∷ []) o)) one
    ∙ (λ i. Some (told (DeleteFrame old.next (sym sorted i) ∷ [])))
    ∙ ap Some (updates_made old new ((λ q. DeleteFrame q sns) ∷ []) same)
