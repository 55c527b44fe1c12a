-- Frames with their replies: of some frames and then others, and how many searches are among the frames of an item.
use Rattle.std.proofs.Common.{◌≡◌, ℕ, ◌+◌, ◌*◌, ◌≤◌, List, [], ◌∷◌, ◌++◌, length, map, drop, filter, Option, Some, None, refl, sym, ap, ◌∙◌, arith, append_assoc}
use Rattle.std.specs.Prelude.{option_map}
use Rattle.std.proofs.lemmas.Option.{none-some, same_Some, option_and_then_some}
use Rattle.list_packing.specs.Parts.{parts}
use Rattle.sse_frames.specs.Exchange.{Asked, ForNext, ForTook, ForAnswer, asked, expected, first_answer, answers_behind, exchange, answers_to, searches, Sent, Received}
use Rattle.sse_frames.specs.Frames.{Entry, FrameText, SetupEnd, AddFrame, DeleteFrame, SearchFrame}
use Rattle.sse_frames.specs.Order.{by_bytes}
use Rattle.sse_frames.specs.SentParts.{numbered, setup_frames}
use Rattle.sse_simulator.specs.Leaks.{Leak, SetupLeak, AddLeak, DeleteLeak, SearchLeak, Draw}
use Rattle.sse_simulator.specs.Simulator.{Kept, as_entry, as_block, first_of, is_entry, numbers_added, numbers_deleted, token_shown, answer_of, frames_simulated}
use Rattle.two_level.specs.Shape.{Shape}
use Rattle.leakage_frames.proofs.UpdateLaws.{asked-part_frame, setup_frames-sorted}
use Rattle.leakage_frames.specs.MadeFrames.{part_frame, part_frames, setup_makers}
use Rattle.leakage_frames.specs.declared.drawn.Section.{Section}
use Rattle.leakage_frames.specs.declared.drawn.Section.TheVariants as sections

-- Some frames and then others.

first_of_more : (asks : Asked) (xs ys : List (List ℕ)) → answers_to asks ≤ length xs → expected (first_answer (xs ++ ys)) asks ≡ expected (first_answer xs) asks
first_of_more ForNext xs ys enough = refl
first_of_more (ForTook q) xs ys enough = refl
first_of_more ForAnswer [] ys enough = absurd (omega (arith, enough))
first_of_more ForAnswer (ids ∷ xs) ys enough = refl

behind_of_more : (asks : Asked) (xs ys : List (List ℕ)) → answers_to asks ≤ length xs → answers_behind asks (xs ++ ys) ≡ answers_behind asks xs ++ ys
behind_of_more ForNext xs ys enough = refl
behind_of_more (ForTook q) xs ys enough = refl
behind_of_more ForAnswer [] ys enough = absurd (omega (arith, enough))
behind_of_more ForAnswer (ids ∷ xs) ys enough = refl

length-answers_behind : (asks : Asked) (xs : List (List ℕ)) → answers_to asks ≤ length xs → length (answers_behind asks xs) + answers_to asks ≡ length xs
length-answers_behind ForNext xs enough = omega arith
length-answers_behind (ForTook q) xs enough = omega arith
length-answers_behind ForAnswer [] enough = absurd (omega (arith, enough))
length-answers_behind ForAnswer (ids ∷ xs) enough = omega arith

-- the first frames take the first answers, and the others those after
pub exchange-append : (frames more : List FrameText) (xs ys : List (List ℕ)) → length xs ≡ searches frames → exchange (xs ++ ys) (frames ++ more) ≡ exchange xs frames ++ exchange ys more
exchange-append [] more [] ys count = refl
exchange-append [] more (ids ∷ xs) ys count = absurd (omega (arith, count))
exchange-append (frame ∷ frames) more xs ys count =
    let asks = asked frame in
    let here : answers_to asks ≤ length xs = omega (arith, count) in
    let left : length (answers_behind asks xs) ≡ searches frames = omega (arith, count, length-answers_behind asks xs here) in
    (λ i. Sent frame ∷ map Received (first_of_more asks xs ys here i) ++ exchange (behind_of_more asks xs ys here i) (frames ++ more))
    ∙ (λ i. Sent frame ∷ map Received (expected (first_answer xs) asks) ++ exchange-append frames more (answers_behind asks xs) ys left i)
    ∙ ap (λ rest. Sent frame ∷ rest) (sym (append_assoc (map Received (expected (first_answer xs) asks)) (exchange (answers_behind asks xs) frames) (exchange ys more)))

pub searches-append : (xs ys : List FrameText) → searches (xs ++ ys) ≡ searches xs + searches ys
searches-append [] ys = omega arith
searches-append (frame ∷ xs) ys = omega (arith, searches-append xs ys)

-- Searches among the frames of an item.

searches-parts : (section : Section) (width : ℕ) (ps : List (List Entry)) (rest : List (ℕ → FrameText)) → ((q : ℕ) → searches (numbered q rest) ≡ 0)
    → (q : ℕ) → searches (numbered q (map (part_frame section width) ps ++ rest)) ≡ 0
searches-parts section width [] rest none q = none q
searches-parts section width (p ∷ ps) rest none q =
    let here : answers_to (asked (part_frame section width p q)) ≡ 0 = ap answers_to (asked-part_frame section width p q) in
    omega (arith, here, searches-parts section width ps rest none (q + 1))

searches-setup : (q : ℕ) (shape : Shape) (entries blocks : List Entry) → searches (setup_frames q shape entries blocks) ≡ 0
searches-setup q shape entries blocks =
    let es : List Entry = by_bytes (λ entry. entry.label) entries in
    let bs : List Entry = by_bytes (λ block. block.label) blocks in
    let first : List (ℕ → FrameText) = part_frames sections.Entries (1 + 8 * shape.b) 1024 es in
    let second : List (ℕ → FrameText) = part_frames sections.Blocks (8 * shape.big) 256 bs in
    let last : List (ℕ → FrameText) = (λ n. SetupEnd n) ∷ [] in
    let none : (n : ℕ) → searches (numbered n last) ≡ 0 = λ n. omega arith in
    let behind : searches (numbered (q + 1) (first ++ (second ++ last))) ≡ 0 =
    searches-parts sections.Entries (1 + 8 * shape.b) (parts 1024 es) (second ++ last) (λ n. searches-parts sections.Blocks (8 * shape.big) (parts 256 bs) last none n) (q + 1) in
    let all : searches (numbered q (setup_makers shape.b shape.big es bs)) ≡ 0 =
    omega (arith, ap (λ fs. searches (numbered (q + 1) fs)) (append_assoc first second last), behind) in
    ap searches (setup_frames-sorted q shape.b shape.big entries blocks) ∙ all

made_from : {A B P : Type 0} (f : A → B) (o : Option A) (y : B) → option_map f o ≡ Some y → ((x : A) → f x ≡ y → P) → P
made_from f None y is go = absurd (none-some y is)
made_from f (Some x) y is go = go x (same_Some (f x) y is)

-- as many as the answers that it shows
pub searches-simulated : (kept : List Kept) (q : ℕ) (leak : Leak) (draws : List Draw) (frames : List FrameText)
    → frames_simulated kept q leak draws ≡ Some frames → searches frames ≡ length (answer_of leak)
searches-simulated kept q (SetupLeak shape words blocks) draws frames is =
    option_and_then_some (λ entries. option_map (λ sealed. setup_frames q shape entries sealed) (first_of as_block blocks (drop words draws))) (first_of as_entry words draws) frames is
    (λ entries one rest. made_from (λ sealed. setup_frames q shape entries sealed) (first_of as_block blocks (drop words draws)) frames rest
    (λ sealed same. ap searches (sym same) ∙ searches-setup q shape entries sealed))
searches-simulated kept q (AddLeak words) draws frames is =
    let made : List Entry → List (List ℕ) → List FrameText = λ entries numbers. AddFrame q (by_bytes (λ entry. entry.label) entries) (by_bytes (λ number. number) numbers) ∷ [] in
    option_and_then_some (λ entries. option_map (made entries) (numbers_added kept words)) (first_of as_entry (length (filter is_entry words)) draws) frames is
    (λ entries one rest. made_from (made entries) (numbers_added kept words) frames rest (λ numbers same. ap searches (sym same)))
searches-simulated kept q (DeleteLeak words) draws frames is =
    made_from (λ numbers. DeleteFrame q (by_bytes (λ number. number) numbers) ∷ []) (numbers_deleted kept words draws) frames is (λ numbers same. ap searches (sym same))
searches-simulated kept q (SearchLeak earlier home listed found) draws frames is =
    made_from (λ token. SearchFrame token ∷ []) (token_shown kept earlier draws) frames is (λ token same. ap searches (sym same))
