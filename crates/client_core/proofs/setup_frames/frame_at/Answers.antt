use Rattle.std.proofs.Common.{◌≡◌, ◌+◌, ◌-◌, ◌*◌, ◌<◌, ℕ, suc, get_or, sym, ap, ◌∙◌, arith}
use Rattle.std.specs.Int.{div_ceil}
use Rattle.sse_frames.specs.Frames.{SetupBegin, SetupEnd}
use Rattle.sse_frames.specs.FrameViews.{entries_in, items_in}
use Rattle.client_core.proofs.FramesAt.{begin_at, dict_at, array_at, end_at}
use Rattle.client_core.proofs.IndexCounts.{words_held, blocks_held}
use Rattle.client_core.specs.Setup.{index_frames}
use Rattle.client_core.proofs.setup_frames.frame_at.Goals as goal

pub returns-then-place-eq0-clause-seen : goal.returns-then-place-eq0-clause-seen
returns-then-place-eq0-clause-seen c =
    let index = c.args.index.now in
    let zero : 0 ≡ c.args.place = omega (arith, c.if-place-eq0.true) in
    (λ i. SetupBegin c.args.q (c.b.ensures i) (c.big.ensures i) (c.words.ensures.count i) (c.blocks-then-place-eq0.ensures.count i))
    ∙ sym (begin_at index.b index.big index.words index.blocks (entries_in (1 + 8 * index.b) index.entries) (items_in (8 * index.big) index.array) (words_held index c.dictionary_frames-dictionary.ensures.limits) (blocks_held index c.dictionary_frames-dictionary.ensures.limits) (λ n. SetupEnd n) c.args.q)
    ∙ ap (λ k. get_or (index_frames index) k (λ n. SetupEnd n) c.args.q) zero

pub returns-then-place-dictionary-clause-seen : goal.returns-then-place-dictionary-clause-seen
returns-then-place-dictionary-clause-seen c =
    let index = c.args.index.now in
    let k : ℕ = c.args.place - 1 in
    let at : suc k ≡ c.args.place = omega (arith, c.if-place-eq0.false) in
    let within : k < div_ceil index.words 1024 = omega (arith, at, c.if-place-dictionary.true, c.dictionary_frames-dictionary.ensures.count) in
    c.entries_at.ensures.seen
    ∙ sym (dict_at index.b index.big index.words index.blocks (entries_in (1 + 8 * index.b) index.entries) (items_in (8 * index.big) index.array) (words_held index c.dictionary_frames-dictionary.ensures.limits) (blocks_held index c.dictionary_frames-dictionary.ensures.limits) (λ n. SetupEnd n) c.args.q k within)
    ∙ ap (λ k. get_or (index_frames index) k (λ n. SetupEnd n) c.args.q) at

pub returns-then-place-dictionary-2-clause-seen : goal.returns-then-place-dictionary-2-clause-seen
returns-then-place-dictionary-2-clause-seen c =
    let index = c.args.index.now in
    let d : ℕ = c.dictionary_frames-dictionary.result in
    let k : ℕ = c.args.place - 1 - d in
    let at : suc (div_ceil index.words 1024 + k) ≡ c.args.place = omega (arith, c.if-place-eq0.false, c.if-place-dictionary.false, c.dictionary_frames-dictionary.ensures.count) in
    let within : k < div_ceil index.blocks 256 = omega (arith, at, c.if-place-dictionary-2.true, c.dictionary_frames-dictionary.ensures.count, c.array_frames.ensures.count) in
    c.blocks_at.ensures.seen
    ∙ sym (array_at index.b index.big index.words index.blocks (entries_in (1 + 8 * index.b) index.entries) (items_in (8 * index.big) index.array) (words_held index c.dictionary_frames-dictionary.ensures.limits) (blocks_held index c.dictionary_frames-dictionary.ensures.limits) (λ n. SetupEnd n) c.args.q k within)
    ∙ ap (λ k. get_or (index_frames index) k (λ n. SetupEnd n) c.args.q) at

pub returns-clause-seen : goal.returns-clause-seen
returns-clause-seen c =
    let index = c.args.index.now in
    let at : suc (div_ceil index.words 1024 + div_ceil index.blocks 256) ≡ c.args.place =
    omega (arith, c.requires.place, c.if-place-dictionary-2.false, c.dictionary_frames-dictionary.ensures.count, c.array_frames.ensures.count) in
    sym (end_at index.b index.big index.words index.blocks (entries_in (1 + 8 * index.b) index.entries) (items_in (8 * index.big) index.array) (words_held index c.dictionary_frames-dictionary.ensures.limits) (blocks_held index c.dictionary_frames-dictionary.ensures.limits) (λ n. SetupEnd n) c.args.q)
    ∙ ap (λ k. get_or (index_frames index) k (λ n. SetupEnd n) c.args.q) at
