use Rattle.std.proofs.Common.{◌≡◌, ◌≤◌, ℕ, zero, suc, List, [], ◌∷◌, length, map, slice_index_or, ap, sym, ◌∙◌, arith}
use Rattle.std.specs.List.{All}
use Rattle.std.proofs.lemmas.List.Elements.{All-head, All-tail}
use Rattle.sha2.specs.Sha256.{compress, digest_bytes}
use Rattle.sha256_lanes.specs.Lanes.{lane}
use Rattle.hmac_lanes.specs.LaneKeys.{padded, vectors_in}
use Rattle.hmac_lanes.proofs.TwoBlocks.{code_of}
use Rattle.hmac_lanes.proofs.lane_keys.LaneKeys.codes.Goals as goal
use denote.Bor.{Bor}

-- of texts that all fit, what stands at a place fits
within : (texts : List (Bor (List ℕ))) (j : ℕ) → All (λ text. length text.now ≤ 55) texts → length (slice_index_or (map (λ text. text.now) texts) j []) ≤ 55
within [] j all = omega arith
within (text ∷ texts) zero all = All-head (λ (text : Bor (List ℕ)). length text.now ≤ 55) text texts all
within (text ∷ texts) (suc j) all = within texts j (All-tail (λ (text : Bor (List ℕ)). length text.now ≤ 55) text texts all)

pub returns : goal.returns
returns c j key below at =
    let text = slice_index_or (map (λ text. text.now) c.args.texts.now) j [] in
    let inner = lane j (vectors_in c.args.self.now.inner) in
    let outer = lane j (vectors_in c.args.self.now.outer) in
    let inside : slice_index_or c.digests-inside.result j [] ≡ digest_bytes (compress inner (padded text)) 8 =
    c.digests-inside.ensures j below ∙ ap (λ h. digest_bytes h 8) (c.behind.ensures j below
    ∙ ap (λ h. compress (lane j h) (slice_index_or c.text_blocks.result j [])) c.vectors.ensures ∙ ap (compress inner) (c.text_blocks.ensures j below)) in
    c.digests.ensures j below ∙ ap (λ h. digest_bytes h 8) (c.behind-2.ensures j below
    ∙ ap (λ h. compress (lane j h) (slice_index_or c.digest_blocks.result j [])) c.vectors-2.ensures ∙ ap (compress outer) (c.digest_blocks.ensures j below ∙ ap padded inside))
    ∙ code_of key text inner outer (within c.args.texts.now j c.requires) at.inner at.outer
