-- What is spelled so has no fault.
use Rattle.std.proofs.Common.{◌≡◌, ℕ, ◌+◌, ◌*◌, ◌-◌, ◌%◌, ◌≤◌, true, List, [], ◌∷◌, ◌++◌, length, drop, None, Ok, refl, sym, ap, ◌∙◌, length-append, arith}
use Rattle.std.specs.Int.{w16, w32}
use Rattle.std.specs.List.{flat_map}
use Rattle.std.proofs.lemmas.Bool.{and_from, le-leb, eq-eqb}
use Rattle.std.proofs.lemmas.List.{append-nil, drop-drop, drop_at}
use Rattle.sse_frames.specs.Frames.{Entry, FrameText, Hello, SetupBegin, SetupDict, SetupArray, SetupEnd, AddFrame, DeleteFrame, SearchFrame, entry_bytes, joined, body_of, frame_bytes, InGrammar, IsSetupDict, IsSetupArray, IsAdd, IsDelete, IsCellWidth, IsBlockWidth}
use Rattle.sse_frames.specs.Fields.{Field, number_at, bytes_field, range_field, cell_width_field, is_cell_width, block_width_field, is_block_width, entry_fields, block_fields, number_fields, end_field, first_fault}
use Rattle.sse_frames.specs.Tables.{number_field, setup_dict_fields, setup_array_fields, add_fields, delete_fields, frame_fields}
use Rattle.sse_frames.specs.ReadOutcomes.{fault_in, or_fault, outcome, frame_outcome}
use Rattle.sse_frames.proofs.Stands.{stands_then, no_fault-append, range_stands, end_stands, entries_no_fault, blocks_no_fault, numbers_no_fault}
use Rattle.sse_frames.proofs.InFront.{front-spelled}
use Rattle.sse_frames.proofs.Joined.{sizes_of, length-joined}
use Rattle.sse_frames.proofs.FrameBytesLaws.{back16, back32, length-body_of, length-entry_bytes}

is_cell : (width : ℕ) → IsCellWidth width → is_cell_width width ≡ true
is_cell width cell =
    let low : 9 ≤ width = omega (arith, cell.1, cell.3) in
    let high : width ≤ 513 = omega (arith, cell.2, cell.3) in
    let rest : width % 8 ≡ 1 = omega (arith, cell.3) in
    and_from _ _ (le-leb _ _ low) (and_from _ _ (le-leb _ _ high) (eq-eqb _ _ rest))

dict_no_fault : (q width : ℕ) (entries : List Entry) (body : List ℕ) → IsSetupDict q width entries → body ≡ body_of (SetupDict q width entries)
    → number_at w32 1 body ≡ q → number_at w16 5 body ≡ width → number_at w16 7 body ≡ length entries
    → first_fault (setup_dict_fields (number_at w16 5 body) (number_at w16 7 body)) body ≡ None
dict_no_fault q width entries body is body_is q_is w_is n_is =
    let rest : drop 9 body ≡ flat_map entry_bytes entries ++ [] = ap (drop 9) body_is ∙ sym (append-nil (flat_map entry_bytes entries)) in
    let long : length body ≡ length (body_of (SetupDict q width entries)) = ap length body_is in
    let end : length body ≡ 9 + length entries * (16 + width) = omega (arith, long, length-entry_bytes width entries is.each) in
    let nine : 9 ≤ length body = omega arith in
    let cell : (cell_width_field 5).stands body ≡ true = and_from _ _ (le-leb _ _ (omega arith)) (ap is_cell_width w_is ∙ is_cell width is.cell) in
    let listed = entries_no_fault true width entries 9 body [] rest is.each is.rises (λ f. absurd cc) in
    let ends = stands_then (end_field (9 + length entries * (16 + width))) [] body (end_stands (9 + length entries * (16 + width)) body end) refl in
    let tail = entry_fields true width (length entries) 9 ++ end_field (9 + length entries * (16 + width)) ∷ [] in
    let all : first_fault (setup_dict_fields width (length entries)) body ≡ None =
    stands_then number_field (cell_width_field 5 ∷ range_field w16 1 1024 7 ∷ tail) body (range_stands w32 0 0xfffffffe 1 q body (omega arith) q_is (omega arith) (omega (arith, is.number)))
    (stands_then (cell_width_field 5) (range_field w16 1 1024 7 ∷ tail) body cell
    (stands_then (range_field w16 1 1024 7) tail body (range_stands w16 1 1024 7 (length entries) body (omega arith) n_is is.count.0 is.count.1)
    (no_fault-append (entry_fields true width (length entries) 9) (end_field (9 + length entries * (16 + width)) ∷ []) body listed ends))) in
    ap (λ (w : ℕ). first_fault (setup_dict_fields w (number_at w16 7 body)) body) w_is ∙ ap (λ (n : ℕ). first_fault (setup_dict_fields width n) body) n_is ∙ all

is_block : (width : ℕ) → IsBlockWidth width → is_block_width width ≡ true
is_block width block =
    let low : 8 ≤ width = omega (arith, block.1, block.3) in
    let high : width ≤ 2048 = omega (arith, block.2, block.3) in
    let rest : width % 8 ≡ 0 = omega (arith, block.3) in
    and_from _ _ (le-leb _ _ low) (and_from _ _ (le-leb _ _ high) (eq-eqb _ _ rest))

array_no_fault : (q width : ℕ) (blocks : List (List ℕ)) (body : List ℕ) → IsSetupArray q width blocks → body ≡ body_of (SetupArray q width blocks)
    → number_at w32 1 body ≡ q → number_at w16 5 body ≡ width → number_at w16 7 body ≡ length blocks
    → first_fault (setup_array_fields (number_at w16 5 body) (number_at w16 7 body)) body ≡ None
array_no_fault q width blocks body is body_is q_is w_is n_is =
    let rest : drop 9 body ≡ joined blocks ++ [] = ap (drop 9) body_is ∙ sym (append-nil (joined blocks)) in
    let long : length body ≡ length (body_of (SetupArray q width blocks)) = ap length body_is in
    let end : length body ≡ 9 + length blocks * width = omega (arith, long, length-joined width blocks (sizes_of width blocks is.each)) in
    let nine : 9 ≤ length body = omega arith in
    let block : (block_width_field 5).stands body ≡ true = and_from _ _ (le-leb _ _ (omega arith)) (ap is_block_width w_is ∙ is_block width is.block) in
    let listed = blocks_no_fault width blocks 9 body [] (omega (arith, is.block.1, is.block.3)) rest is.each in
    let ends = stands_then (end_field (9 + length blocks * width)) [] body (end_stands (9 + length blocks * width) body end) refl in
    let tail = block_fields width (length blocks) 9 ++ end_field (9 + length blocks * width) ∷ [] in
    let all : first_fault (setup_array_fields width (length blocks)) body ≡ None =
    stands_then number_field (block_width_field 5 ∷ range_field w16 1 256 7 ∷ tail) body (range_stands w32 0 0xfffffffe 1 q body (omega arith) q_is (omega arith) (omega (arith, is.number)))
    (stands_then (block_width_field 5) (range_field w16 1 256 7 ∷ tail) body block
    (stands_then (range_field w16 1 256 7) tail body (range_stands w16 1 256 7 (length blocks) body (omega arith) n_is is.count.0 is.count.1)
    (no_fault-append (block_fields width (length blocks) 9) (end_field (9 + length blocks * width) ∷ []) body listed ends))) in
    ap (λ (w : ℕ). first_fault (setup_array_fields w (number_at w16 7 body)) body) w_is ∙ ap (λ (n : ℕ). first_fault (setup_array_fields width n) body) n_is ∙ all

-- the fields after the number of an addition of so many entries and revocation numbers
abbrev added_fields : (e r : ℕ) → List Field
added_fields e r = entry_fields true 8 e 9 ++ (number_fields true r (9 + e * 24) ++ end_field (9 + e * 24 + r * 16) ∷ [])

add_no_fault : (q : ℕ) (entries : List Entry) (numbers : List (List ℕ)) (body : List ℕ) → IsAdd q entries numbers → body ≡ body_of (AddFrame q entries numbers)
    → number_at w32 1 body ≡ q → number_at w16 5 body ≡ length entries → number_at w16 7 body ≡ length numbers
    → first_fault (add_fields (number_at w16 5 body) (number_at w16 7 body)) body ≡ None
add_no_fault q entries numbers body is body_is q_is e_is r_is =
    let e = length entries in
    let r = length numbers in
    let rest : drop 9 body ≡ flat_map entry_bytes entries ++ joined numbers = ap (drop 9) body_is in
    let entries_len = length-entry_bytes 8 entries is.each in
    let long : length body ≡ length (body_of (AddFrame q entries numbers)) = ap length body_is in
    let end : length body ≡ 9 + e * 24 + r * 16 =
    omega (arith, long, length-append (flat_map entry_bytes entries) (joined numbers), entries_len, length-joined 16 numbers (sizes_of 16 numbers is.each_number)) in
    let nine : 9 ≤ length body = omega arith in
    let behind : drop (9 + e * 24) body ≡ joined numbers ++ [] =
    sym (drop-drop (e * 24) 9 body) ∙ ap (drop (e * 24)) rest ∙ drop_at (flat_map entry_bytes entries) (joined numbers) (e * 24) entries_len ∙ sym (append-nil (joined numbers)) in
    let listed = entries_no_fault true 8 entries 9 body (joined numbers) rest is.each is.rises (λ f. absurd cc) in
    let numbered = numbers_no_fault true numbers (9 + e * 24) body [] behind is.each_number is.numbers_rise (λ f. absurd cc) in
    let ends = stands_then (end_field (9 + e * 24 + r * 16)) [] body (end_stands (9 + e * 24 + r * 16) body end) refl in
    let all : first_fault (add_fields e r) body ≡ None =
    stands_then number_field (range_field w16 0 4096 5 ∷ range_field w16 0 (4096 - e) 7 ∷ added_fields e r) body (range_stands w32 0 0xfffffffe 1 q body (omega arith) q_is (omega arith) (omega (arith, is.number)))
    (stands_then (range_field w16 0 4096 5) (range_field w16 0 (4096 - e) 7 ∷ added_fields e r) body (range_stands w16 0 4096 5 e body (omega arith) e_is (omega arith) (omega (arith, is.count)))
    (stands_then (range_field w16 0 (4096 - e) 7) (added_fields e r) body (range_stands w16 0 (4096 - e) 7 r body (omega arith) r_is (omega arith) (omega (arith, is.count)))
    (no_fault-append (entry_fields true 8 e 9) (number_fields true r (9 + e * 24) ++ end_field (9 + e * 24 + r * 16) ∷ []) body listed
    (no_fault-append (number_fields true r (9 + e * 24)) (end_field (9 + e * 24 + r * 16) ∷ []) body numbered ends)))) in
    ap (λ (n : ℕ). first_fault (add_fields n (number_at w16 7 body)) body) e_is ∙ ap (λ (n : ℕ). first_fault (add_fields e n) body) r_is ∙ all

delete_no_fault : (q : ℕ) (numbers : List (List ℕ)) (body : List ℕ) → IsDelete q numbers → body ≡ body_of (DeleteFrame q numbers)
    → number_at w32 1 body ≡ q → number_at w16 5 body ≡ length numbers → first_fault (delete_fields (number_at w16 5 body)) body ≡ None
delete_no_fault q numbers body is body_is q_is r_is =
    let r = length numbers in
    let rest : drop 7 body ≡ joined numbers ++ [] = ap (drop 7) body_is ∙ sym (append-nil (joined numbers)) in
    let long : length body ≡ length (body_of (DeleteFrame q numbers)) = ap length body_is in
    let end : length body ≡ 7 + r * 16 = omega (arith, long, length-joined 16 numbers (sizes_of 16 numbers is.each_number)) in
    let seven : 7 ≤ length body = omega arith in
    let numbered = numbers_no_fault true numbers 7 body [] rest is.each_number is.numbers_rise (λ f. absurd cc) in
    let ends = stands_then (end_field (7 + r * 16)) [] body (end_stands (7 + r * 16) body end) refl in
    let tail = number_fields true r 7 ++ end_field (7 + r * 16) ∷ [] in
    let all : first_fault (delete_fields r) body ≡ None =
    stands_then number_field (range_field w16 0 4096 5 ∷ tail) body (range_stands w32 0 0xfffffffe 1 q body (omega arith) q_is (omega arith) (omega (arith, is.number)))
    (stands_then (range_field w16 0 4096 5) tail body (range_stands w16 0 4096 5 r body (omega arith) r_is (omega arith) is.count)
    (no_fault-append (number_fields true r 7) (end_field (7 + r * 16) ∷ []) body numbered ends)) in
    ap (λ (n : ℕ). first_fault (delete_fields n) body) r_is ∙ all

-- the body of a frame of the grammar has no fault
pub fault_in-body_of : (frame : FrameText) → InGrammar frame → fault_in (frame_fields (body_of frame)) (body_of frame) ≡ None
unfolding number_at
fault_in-body_of Hello is = refl
fault_in-body_of (SetupBegin q b big m a) is =
    let body = body_of (SetupBegin q b big m a) in
    stands_then number_field (range_field w16 1 64 5 ∷ range_field w16 1 256 7 ∷ range_field w32 0 0x100000 9 ∷ range_field w32 0 0x100000 13 ∷ end_field 17 ∷ []) body
    (range_stands w32 0 0xfffffffe 1 q body (omega arith) (back32 q (omega (arith, is.number))) (omega arith) (omega (arith, is.number)))
    (stands_then (range_field w16 1 64 5) (range_field w16 1 256 7 ∷ range_field w32 0 0x100000 9 ∷ range_field w32 0 0x100000 13 ∷ end_field 17 ∷ []) body
    (range_stands w16 1 64 5 b body (omega arith) (back16 b (omega (arith, is.cell.1))) is.cell.0 is.cell.1)
    (stands_then (range_field w16 1 256 7) (range_field w32 0 0x100000 9 ∷ range_field w32 0 0x100000 13 ∷ end_field 17 ∷ []) body
    (range_stands w16 1 256 7 big body (omega arith) (back16 big (omega (arith, is.block.1))) is.block.0 is.block.1)
    (stands_then (range_field w32 0 0x100000 9) (range_field w32 0 0x100000 13 ∷ end_field 17 ∷ []) body
    (range_stands w32 0 0x100000 9 m body (omega arith) (back32 m (omega (arith, is.words))) (omega arith) is.words)
    (stands_then (range_field w32 0 0x100000 13) (end_field 17 ∷ []) body
    (range_stands w32 0 0x100000 13 a body (omega arith) (back32 a (omega (arith, is.blocks))) (omega arith) is.blocks)
    refl))))
fault_in-body_of (SetupDict q width entries) is =
    dict_no_fault q width entries (body_of (SetupDict q width entries)) is refl
    (back32 q (omega (arith, is.number))) (back16 width (omega (arith, is.cell.2, is.cell.3))) (back16 (length entries) (omega (arith, is.count.1)))
fault_in-body_of (SetupArray q width blocks) is =
    array_no_fault q width blocks (body_of (SetupArray q width blocks)) is refl
    (back32 q (omega (arith, is.number))) (back16 width (omega (arith, is.block.2, is.block.3))) (back16 (length blocks) (omega (arith, is.count.1)))
fault_in-body_of (SetupEnd q) is =
    stands_then number_field (end_field 5 ∷ []) (body_of (SetupEnd q)) (range_stands w32 0 0xfffffffe 1 q (body_of (SetupEnd q)) (omega arith) (back32 q (omega (arith, is))) (omega arith) (omega (arith, is))) refl
fault_in-body_of (AddFrame q entries numbers) is =
    add_no_fault q entries numbers (body_of (AddFrame q entries numbers)) is refl
    (back32 q (omega (arith, is.number))) (back16 (length entries) (omega (arith, is.count))) (back16 (length numbers) (omega (arith, is.count)))
fault_in-body_of (DeleteFrame q numbers) is =
    delete_no_fault q numbers (body_of (DeleteFrame q numbers)) is refl (back32 q (omega (arith, is.number))) (back16 (length numbers) (omega (arith, is.count)))
fault_in-body_of (SearchFrame token) is =
    let end : length (body_of (SearchFrame token)) ≡ 161 = omega (arith, is.size_is) in
    stands_then (bytes_field 160 1) (end_field 161 ∷ []) (body_of (SearchFrame token)) (le-leb _ _ (omega (arith, end)))
    (stands_then (end_field 161) [] (body_of (SearchFrame token)) (end_stands 161 (body_of (SearchFrame token)) end) refl)

-- bytes that begin with a frame of the grammar are read
pub frame_outcome-frame_bytes : (frame : FrameText) (rest : List ℕ) → InGrammar frame → frame_outcome (frame_bytes frame ++ rest) ≡ Ok true
frame_outcome-frame_bytes frame rest is =
    let len = length-body_of frame is in
    ap (outcome frame_fields) (front-spelled 0x100000 (body_of frame) rest len.some (omega (arith, len.most)) (omega arith))
    ∙ ap or_fault (fault_in-body_of frame is)
