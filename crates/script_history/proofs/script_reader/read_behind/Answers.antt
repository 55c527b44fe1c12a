use Rattle.std.proofs.Common.{◌≡◌, ◌+◌, inr, refl, sym, ap, ◌∙◌, subst}
use Rattle.std.specs.Prelude.{IfSome, Some, false, option_map}
use Rattle.keyed_fn.specs.KeyFormulas.{plain_key}
use Rattle.keyed_fn.specs.KeyedFn.{keyed_fn}
use Rattle.leakage_history.specs.HashedEpochs.{epochs_in}
use Rattle.word_keys.specs.HashNumbers.{numbers_of_key}
use Rattle.def_script_meaning.specs.Outcome.{opened}
use Rattle.script_history.specs.Reads.{Stopped, Whole, ReadsFrom}
use Rattle.script_history.specs.Stages.{keys_at}
use Rattle.script_history.specs.Turns.{history_at}
use Rattle.script_history.specs.TwoScripts.{first_left}
use Rattle.script_history.specs.UsedKeys.{mark_when}
use Rattle.script_run_texts.specs.declared.stop_cause.StopCause.TheVariants as stops
use Rattle.sse_script.specs.Shown.{NoMemory}
use Rattle.sse_script.specs.TextLines.{lines_left}
use Rattle.script_history.proofs.ReadingGoesOn.{first_end-stopped, reads-reading}
use Rattle.script_history.proofs.LinesTaken.{hashed_at-keys}
use Rattle.script_history.proofs.script_reader.read_behind.Goals as goal

pub returns-in_err-progress-clause-reads : goal.returns-in_err-progress-clause-reads
returns-in_err-progress-clause-reads g c =
    let place = opened (mark_when c.args.compared (keyed_fn g.K.Keyed.prf g.K.Keyed.pad)) c.args.key in
    let left = first_left (lines_left c.args.input.now.pending (g.S.Source.remaining c.args.source.now)) in
    let written = g.W.Sink.written c.args.sink.now in
    first_end-stopped (λ end. ReadsFrom place (c.args.input.now.number + 1) left false written written end) c.from_residual.result stops.Memory c.from_residual.ensures.1
    (reads-reading place (c.args.input.now.number + 1) false written left (Stopped (Some NoMemory)) (inr refl))

pub returns-in-Ok-clause-reads : goal.returns-in-Ok-clause-reads
returns-in-Ok-clause-reads g c =
    let read = c.first_script.result.script in
    let last = c.in-Ok.last.progress in
    let number = c.read_lines.new.input.number in
    let place = opened (mark_when c.args.compared (keyed_fn g.K.Keyed.prf g.K.Keyed.pad)) c.args.key in
    let left = first_left (lines_left c.args.input.now.pending (g.S.Source.remaining c.args.source.now)) in
    let same : Whole c.args.key (history_at last.standing.stage) last.refused number ≡ Whole read.key (option_map epochs_in read.history) read.refused read.next =
    sym ((λ i. Whole (c.first_script.ensures.key i) (option_map epochs_in (c.first_script.ensures.history i)) (c.first_script.ensures.refused i) (c.first_script.ensures.next i)) ∙ ap (Whole c.args.key (history_at last.standing.stage) last.refused) c.number.ensures) in
    subst (λ end. ReadsFrom place (c.args.input.now.number + 1) left false (g.W.Sink.written c.args.sink.now) (g.W.Sink.written c.read_lines.new.sink) end) same
    (subst (λ b. ReadsFrom place (c.args.input.now.number + 1) left b (g.W.Sink.written c.args.sink.now) (g.W.Sink.written c.read_lines.new.sink) (Whole c.args.key (history_at last.standing.stage) last.refused number)) c.in_ok-progress.ensures.refused (c.in-Ok.ensures.reads place c.in_ok-progress.ensures.stands))

pub returns-in-Ok-clause-hashed : goal.returns-in-Ok-clause-hashed
returns-in-Ok-clause-hashed g c =
    let f = keyed_fn g.K.Keyed.prf g.K.Keyed.pad in
    let read = c.first_script.result.script in
    let stage = c.in-Ok.last.progress.standing.stage in
    let under : keys_at stage ≡ numbers_of_key (plain_key f read.key 13) =
    c.in-Ok.ensures.hashed c.in_ok-progress.ensures.hashed ∙ c.hash_keys-keys.ensures ∙ ap (λ k. numbers_of_key (plain_key f k 13)) (sym c.first_script.ensures.key) in
    subst (λ o. IfSome o (λ h. h.last.keys ≡ numbers_of_key (plain_key f read.key 13))) (sym c.first_script.ensures.history) (hashed_at-keys stage _ under)
