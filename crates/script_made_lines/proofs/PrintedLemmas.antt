-- The first line of a text, cut off.
use Rattle.std.proofs.Common.{◌≡◌, ℕ, ◌+◌, ◌<◌, ◌==◌, List, ◌∷◌, length, take, drop, sym, ap, ◌∙◌}
use Rattle.std.specs.List.{position_or_len}
use Rattle.std.proofs.lemmas.List.{drop-drop}
use Rattle.sse_script.specs.TextLines.{lines_of}
use Rattle.sse_script.proofs.TextLinesLemmas.{lines_of-first}

drop-more : {A : Type 0} (n : ℕ) (xs : List A) → drop (n + 1) xs ≡ drop 1 (drop n xs)
drop-more n xs = sym (drop-drop 1 n xs)

-- a cut where the first line ends: what stands in front, and what stands behind the end
pub record FirstLine (text line end : List ℕ) : Type 0 where
  pub n : ℕ
  pub place : n ≡ position_or_len (λ b. b == 10) text
  pub front : line ≡ take n text
  pub back : end ≡ drop n text

pub lines_of-cut : (text line end : List ℕ) → 0 < length text → FirstLine text line end → lines_of text ≡ line ∷ lines_of (drop 1 end)
lines_of-cut text line end some cut =
    lines_of-first text some
    ∙ ap (λ n. take n text ∷ lines_of (drop (n + 1) text)) (sym cut.place)
    ∙ ap (λ (rest : List ℕ). take cut.n text ∷ lines_of rest) (drop-more cut.n text ∙ ap (drop 1) (sym cut.back))
    ∙ ap (λ (first : List ℕ). first ∷ lines_of (drop 1 end)) (sym cut.front)
