use Rattle.std.proofs.Common.{◌≡◌, ℕ, ◌+◌, ◌*◌, ◌%◌, ◌<◌, List, [], ◌∷◌, ◌++◌, map, append_assoc, sym, ap, ◌∙◌, arith}
use Rattle.std.specs.Prelude.{codes, decimal}
use Rattle.std.specs.List.{range_with_len}
use Rattle.std.proofs.lemmas.List.{append-nil}
use Rattle.std.proofs.lemmas.List.Concat.{flat_map-append}
use Rattle.std.proofs.lemmas.List.FromFn.{map-range_with_len_more}
use Rattle.script_made_lines.specs.Buffer.{shared_text}
use Rattle.script_made_lines.specs.Lines.{words_text}
use Rattle.script_made_lines.specs.Words.{shared_word}
use Rattle.script_made_lines.proofs.line_buffer.push_shared.Goals as goal

-- one word more
shared_text-more : (seed i j : ℕ) → shared_text seed i (j + 1) ≡ shared_text seed i j ++ (codes " w" ++ decimal ((i + seed + 17 * j) % 1000))
shared_text-more seed i j =
    ap words_text (map-range_with_len_more (shared_word seed i) 0 j j (omega arith))
    ∙ flat_map-append (λ word. 32 ∷ word) (map (shared_word seed i) (range_with_len 0 j)) (shared_word seed i j ∷ [])
    ∙ ap (λ (rest : List ℕ). shared_text seed i j ++ rest) (append-nil (32 ∷ shared_word seed i j))

pub loop-j-preserved : goal.loop-j-preserved
loop-j-preserved c =
    let seed = c.args.seed in
    let id = c.args.id in
    let j = c.loop-j.j in
    let small : (id + c.from.result + 17 * j) % 1000 < 1000 = omega arith in
    let front = c.args.buffer.now.bytes in
    let word = codes " w" ++ decimal ((id + seed + 17 * j) % 1000) in (
      c.push_numbered.ensures.text
          ∙ ap (λ (s : ℕ). c.loop-j.buffer.bytes ++ (codes " w" ++ decimal ((id + s + 17 * j) % 1000))) c.from.ensures
          ∙ ap (λ (line : List ℕ). line ++ word) c.loop-j.invariant.0
          ∙ append_assoc front (shared_text seed id j) word
          ∙ ap (λ (rest : List ℕ). front ++ rest) (sym (shared_text-more seed id j)),
      omega (arith, c.loop-j.invariant.1, c.push_numbered.ensures.three small),
    )
