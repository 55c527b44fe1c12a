use Rattle.std.proofs.Common.{◌≡◌, [], Some, length, sym, ap, subst, ◌∙◌, arith}
use Rattle.std.specs.Int.{div_ceil}
use Rattle.std.proofs.lemmas.List.{append-nil}
use Rattle.client_registry.proofs.HistoryLaws.{IsKept-begun}
use Rattle.client_registry.proofs.SizedLaws.{IsSized-setup, accepted_frames}
use Rattle.client_registry.specs.Acceptance.{size_refusal}
use Rattle.client_registry.specs.Documents.{all_words, first_seen}
use Rattle.client_registry.specs.Histories.{commands_in, frames_in}
use Rattle.client_registry.specs.Run.{Run, From, at_first}
use Rattle.client_registry.specs.Setup.{Setup, setup_with}
use Rattle.leakage_history.specs.HashedEpochs.{epochs_in}
use Rattle.leakage_history.specs.HashedRun.{HashedRun, run_of}
use Rattle.script_history.specs.Reads.{IsCountable, words_in}
use Rattle.script_history.proofs.numbered_history.NumberedHistory.begin.Goals as goal

pub setup_frames-frames-requires : goal.setup_frames-frames-requires
setup_frames-frames-requires c =
    let s = setup_with c.args.docs.documents c.args.size.now.shape.b c.args.size.now.shape.big c.args.size.now.pad in
    omega (arith, accepted_frames s c.requires.accepted c.words-limits.ensures.valid, ap (λ n. div_ceil n 1024) c.requires.padded_words, ap (λ n. div_ceil n 256) c.requires.padded_blocks)

pub of-requires : goal.of-requires
of-requires c =
    let docs = c.args.docs.documents in
    let pad = c.args.size.now.pad in
    ap (λ (h : HashedRun). size_refusal h.setup) c.in_ok-history.ensures ∙ (λ i. size_refusal (setup_with docs (c.b-b.ensures.b i) (c.big-big.ensures.big i) pad)) ∙ c.requires.accepted

pub invariant_of-result : goal.invariant_of-result
invariant_of-result c =
    let docs = c.args.docs.documents in
    let pad = c.args.size.now.pad in
    let s : Setup = setup_with docs c.args.size.now.shape.b c.args.size.now.shape.big pad in
    let alone : Run = record { setup = s; later = [] } in
    let run : run_of c.in_ok-history.history ≡ alone = ap run_of c.in_ok-history.ensures ∙ (λ i. record { setup = setup_with docs (c.b-b.ensures.b i) (c.big-big.ensures.big i) pad; later = [] }) in
    let same : epochs_in c.of.result ≡ From at_first alone = ap epochs_in c.of.ensures ∙ ap (From at_first) run in
    let sized = IsSized-setup s c.words-limits.ensures.valid c.requires.accepted in
    record {
      counted = subst (λ es. IsCountable (Some es)) (sym same) (record { kept = IsKept-begun s c.words-limits.ensures.valid c.requires.accepted; commands = omega arith; words = sized.words });
      frames = omega (arith, c.setup_frames-frames.ensures, ap (λ es. frames_in (Some es)) same, ap (λ n. div_ceil n 1024) c.requires.padded_words, ap (λ n. div_ceil n 256) c.requires.padded_blocks);
      commands = omega (arith, ap (λ es. commands_in (Some es)) same);
      named = omega (arith, ap (λ es. length (words_in (Some es))) same, ap (λ words. length (first_seen words)) (append-nil (all_words docs)), c.requires.words);
    }
