-- The bodies whose fields stand are those of the frames that are read from them.
use Rattle.std.proofs.Common.{◌≡◌, ℕ, ◌≤◌, true, List, [], ◌∷◌, ◌++◌, length, get_or, drop, ap, ◌∙◌, arith}
use Rattle.std.specs.Int.{w16, w32}
use Rattle.std.specs.Prelude.{◌/◌, ◌%◌, ◌&&◌, ◌==◌, nat_le}
use Rattle.std.proofs.lemmas.Bool.{leb-true, eqb-true, and_parts}
use Rattle.sse_frames.specs.Frames.{be16, be32, IsCellWidth, IsBlockWidth, SetupBegin, SetupEnd, SearchFrame, body_of}
use Rattle.sse_frames.specs.Fields.{bytes_at, number_at, is_cell_width, is_block_width}
use Rattle.sse_frames.proofs.Cut.{AreBytes, then16, then32, then_kind, at_end, all_at}

pub setup_end_body : (body : List ℕ) → AreBytes body → get_or body 0 0 ≡ 5 → length body ≡ 5 → body ≡ body_of (SetupEnd (number_at w32 1 body))
setup_end_body body bytes kind end =
    then_kind 5 body _ kind (omega (arith, end)) (then32 1 body [] bytes (omega (arith, end)) (at_end 5 body end))

pub search_body : (body : List ℕ) → get_or body 0 0 ≡ 8 → length body ≡ 161 → body ≡ body_of (SearchFrame (bytes_at 1 160 body))
search_body body kind end = then_kind 8 body _ kind (omega (arith, end)) (all_at 1 160 body end)

pub setup_begin_body : (body : List ℕ) → AreBytes body → get_or body 0 0 ≡ 2 → length body ≡ 17
    → body ≡ body_of (SetupBegin (number_at w32 1 body) (number_at w16 5 body) (number_at w16 7 body) (number_at w32 9 body) (number_at w32 13 body))
setup_begin_body body bytes kind end =
    then_kind 2 body _ kind (omega (arith, end))
    (then32 1 body _ bytes (omega (arith, end))
    (then16 5 body _ bytes (omega (arith, end))
    (then16 7 body _ bytes (omega (arith, end))
    (then32 9 body _ bytes (omega (arith, end))
    (then32 13 body [] bytes (omega (arith, end)) (at_end 17 body end))))))

pub is_cell : (width : ℕ) → is_cell_width width ≡ true → IsCellWidth width
is_cell width is =
    let a = and_parts (nat_le 9 width) (nat_le width 513 && ((width % 8) == 1)) is in
    let b = and_parts (nat_le width 513) ((width % 8) == 1) a.1 in
    let low : 9 ≤ width = leb-true _ _ a.0 in
    let high : width ≤ 513 = leb-true _ _ b.0 in
    let rest : width % 8 ≡ 1 = eqb-true _ _ b.1 in
    (width / 8, (omega arith), (omega arith), (omega arith))

pub is_block : (width : ℕ) → is_block_width width ≡ true → IsBlockWidth width
is_block width is =
    let a = and_parts (nat_le 8 width) (nat_le width 2048 && ((width % 8) == 0)) is in
    let b = and_parts (nat_le width 2048) ((width % 8) == 0) a.1 in
    let low : 8 ≤ width = leb-true _ _ a.0 in
    let high : width ≤ 2048 = leb-true _ _ b.0 in
    let rest : width % 8 ≡ 0 = eqb-true _ _ b.1 in
    (width / 8, (omega arith), (omega arith), (omega arith))

-- a body with a number, two numbers of two bytes, and a rest
pub two_counts_body : (kind : ℕ) (body : List ℕ) → AreBytes body → get_or body 0 0 ≡ kind → 9 ≤ length body → (m n : ℕ) → number_at w16 5 body ≡ m → number_at w16 7 body ≡ n
    → (rest : List ℕ) → drop 9 body ≡ rest → body ≡ kind ∷ be32 (number_at w32 1 body) ++ be16 m ++ be16 n ++ rest
two_counts_body kind body bytes is inside m n m_is n_is rest after =
    then_kind kind body _ is (omega arith)
    (then32 1 body _ bytes (omega arith)
    (then16 5 body _ bytes (omega arith)
    (then16 7 body rest bytes inside after)))
    ∙ ap (λ (v : ℕ). kind ∷ be32 (number_at w32 1 body) ++ be16 v ++ be16 (number_at w16 7 body) ++ rest) m_is
    ∙ ap (λ (v : ℕ). kind ∷ be32 (number_at w32 1 body) ++ be16 m ++ be16 v ++ rest) n_is

-- a body with a number, a number of two bytes, and a rest
pub one_count_body : (kind : ℕ) (body : List ℕ) → AreBytes body → get_or body 0 0 ≡ kind → 7 ≤ length body → (n : ℕ) → number_at w16 5 body ≡ n
    → (rest : List ℕ) → drop 7 body ≡ rest → body ≡ kind ∷ be32 (number_at w32 1 body) ++ be16 n ++ rest
one_count_body kind body bytes is inside n n_is rest after =
    then_kind kind body _ is (omega arith)
    (then32 1 body _ bytes (omega arith)
    (then16 5 body rest bytes inside after))
    ∙ ap (λ (v : ℕ). kind ∷ be32 (number_at w32 1 body) ++ be16 v ++ rest) n_is
