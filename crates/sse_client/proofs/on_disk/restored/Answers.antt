use Rattle.std.proofs.Common.{◌≡◌, ℕ, ◌+◌, [], Option, List, ap, sym, subst, ◌∙◌}
use Rattle.script_run_texts.specs.declared.journal_stop.JournalStop.TheVariants as journals
use Rattle.keyed_fn.specs.KeyFormulas.{mark_of}
use Rattle.keyed_fn.specs.KeyedFn.{keyed_fn}
use Rattle.script_run_texts.specs.declared.input_stop.InputStop.TheVariants as inputs
use Rattle.def_script_meaning.specs.Exchange.{Told}
use Rattle.sse_script.specs.TextLines.{lines_left}
use Rattle.sse_client.proofs.RunsOnDisk.{found_from_start, goes_on-unread, goes_on-unrestored, holds_on, missing_from_start, restores, unrestored, unrestored-fresh}
use Rattle.sse_client.proofs.TranscriptsJoined.{IfErr-from}
use Rattle.client_journal.specs.DiskRuns.{kept_on}
use Rattle.sse_client.specs.Known.{Known, Knows}
use Rattle.sse_client.specs.ResumedRun.{GoesOnTo, Restores}
use Rattle.sse_client.specs.KeyLines.{FindsKey}
use Rattle.sse_client.specs.OnDisk.{held_stop, seen_with}
use Rattle.sse_client.specs.Stages.{hash_keys_under}
use Rattle.sse_client.specs.declared.on_disk.HeldUp.{HeldUp}
use Rattle.sse_client.specs.declared.on_disk.HeldUp.TheVariants as held
use Rattle.sse_client.proofs.on_disk.restored.Goals as goal

pub returns-in_err-input-clause-stopped : goal.returns-in_err-input-clause-stopped
returns-in_err-input-clause-stopped g c =
    let f = keyed_fn g.K.Keyed.prf g.K.Keyed.pad in
    let left = lines_left [] (g.S.Source.remaining c.args.source.now) in
    let content = g.D.Disk.content c.args.disk.now in
    IfErr-from c.from_residual.result (held.Input inputs.Memory) (λ (s : HeldUp). (told : Told) (written : Option (List ℕ)) → GoesOnTo f left (seen_with told content written) (seen_with told content written) (held_stop s)) c.from_residual.ensures.1
    (λ told written. goes_on-unread f left (seen_with told content written) inputs.Memory (λ n e. absurd (cc)))

pub returns-in_err-key-clause-stopped : goal.returns-in_err-key-clause-stopped
returns-in_err-key-clause-stopped g c =
    let f = keyed_fn g.K.Keyed.prf g.K.Keyed.pad in
    let remaining = g.S.Source.remaining c.args.source.now in
    let left = lines_left [] remaining in
    let content = g.D.Disk.content c.args.disk.now in
    let stop = c.in_err-key.field-0.0 in
    IfErr-from c.from_residual-in_err-key.result (held.Input stop) (λ (s : HeldUp). (told : Told) (written : Option (List ℕ)) → GoesOnTo f left (seen_with told content written) (seen_with told content written) (held_stop s)) c.from_residual-in_err-key.ensures.1
    (λ told written. goes_on-unread f left (seen_with told content written) stop (λ n e.
    missing_from_start c.in_ok-input.input.number c.in_ok-input.input.pending remaining c.in_ok-input.ensures.number c.in_ok-input.ensures.pending n (c.in_err-key.ensures.missing n (search e))))

pub returns-in_err-rebuilt-clause-stopped : goal.returns-in_err-rebuilt-clause-stopped
returns-in_err-rebuilt-clause-stopped g c =
    let f = keyed_fn g.K.Keyed.prf g.K.Keyed.pad in
    let remaining = g.S.Source.remaining c.args.source.now in
    let left = lines_left [] remaining in
    let content = g.D.Disk.content c.args.disk.now in
    let key = c.in_ok-key.key in
    let stop = c.in_err-rebuilt.field-0.0 in
    let next = c.key_line.new.input.number + 1 in
    let behind = lines_left c.key_line.new.input.pending (g.S.Source.remaining c.key_line.new.source) in
    IfErr-from c.from_residual-in_err-rebuilt.result (held.Records stop) (λ (s : HeldUp). (told : Told) (written : Option (List ℕ)) → GoesOnTo f left (seen_with told content written) (seen_with told content written) (held_stop s)) c.from_residual-in_err-rebuilt.ensures.1
    (λ told written. goes_on-unrestored f left (seen_with told content written) key next behind stop
    (found_from_start c.in_ok-input.input.number c.in_ok-input.input.pending remaining c.in_ok-input.ensures.number c.in_ok-input.ensures.pending key next behind c.in_ok-key.ensures.found)
    (unrestored f key c.args.journal.now content (g.D.Disk.images c.args.disk.now) c.requires.holds stop (λ n e payloads of. c.in_err-rebuilt.ensures.bad n (search e) payloads of)
    (λ e payloads of. c.in_err-rebuilt.ensures.wrong (search e) payloads of) (λ payloads of e. c.in_err-rebuilt.ensures.no_journal payloads of (search e)) (λ e. c.in_err-rebuilt.ensures.never_has_records (search e))))

pub returns-in-Recorded-clause-restored : goal.returns-in-Recorded-clause-restored
returns-in-Recorded-clause-restored g c =
    let f = keyed_fn g.K.Keyed.prf g.K.Keyed.pad in
    let r = c.in_ok-rebuilt.rebuilt in
    let client = c.in-Recorded.client in
    let key = c.in_ok-key.key in
    let content = g.D.Disk.content c.args.disk.now in
    let w = c.in_ok-rebuilt.ensures.rebuilt in
    let same : client.key ≡ key = c.in-Recorded.ensures.key ∙ c.in_ok-rebuilt.ensures.key in
    subst (λ k. (known : Known) × Restores f k (kept_on content) known × Knows f k known client.state) (sym same)
    (restores f key c.args.journal.now content (g.D.Disk.images c.args.disk.now) c.requires.holds r client w (c.in-Recorded.ensures.restored (mark_of f key) w.payloads w.finished))

pub returns-in-Recorded-clause-found : goal.returns-in-Recorded-clause-found
returns-in-Recorded-clause-found g c =
    let remaining = g.S.Source.remaining c.args.source.now in
    let next = c.key_line.new.input.number + 1 in
    let behind = lines_left c.key_line.new.input.pending (g.S.Source.remaining c.key_line.new.source) in
    let same : c.in-Recorded.client.key ≡ c.in_ok-key.key = c.in-Recorded.ensures.key ∙ c.in_ok-rebuilt.ensures.key in
    subst (λ key. FindsKey 1 (lines_left [] remaining) key next behind) (sym same)
    (found_from_start c.in_ok-input.input.number c.in_ok-input.input.pending remaining c.in_ok-input.ensures.number c.in_ok-input.ensures.pending c.in_ok-key.key next behind c.in_ok-key.ensures.found)

pub returns-in-Recorded-clause-hashed : goal.returns-in-Recorded-clause-hashed
returns-in-Recorded-clause-hashed g c =
    let f = keyed_fn g.K.Keyed.prf g.K.Keyed.pad in
    let w = c.in_ok-rebuilt.ensures.rebuilt in
    let same : c.in-Recorded.client.key ≡ c.in_ok-key.key = c.in-Recorded.ensures.key ∙ c.in_ok-rebuilt.ensures.key in
    c.in-Recorded.ensures.hash_keys (mark_of f c.in_ok-key.key) w.payloads w.finished ∙ c.in_ok-rebuilt.ensures.hash_keys ∙ ap (hash_keys_under f) (sym same)

pub returns-in-Recorded-clause-holds : goal.returns-in-Recorded-clause-holds
returns-in-Recorded-clause-holds g c =
    holds_on c.args.journal.now (g.D.Disk.content c.args.disk.now) (g.D.Disk.content c.rebuild.new.disk) (g.D.Disk.images c.args.disk.now) (g.D.Disk.images c.rebuild.new.disk) c.rebuild.ensures.kept c.rebuild.ensures.holds c.requires.holds

pub returns-clause-stopped : goal.returns-clause-stopped
returns-clause-stopped g c = λ told written.
    let f = keyed_fn g.K.Keyed.prf g.K.Keyed.pad in
    let remaining = g.S.Source.remaining c.args.source.now in
    let content = g.D.Disk.content c.args.disk.now in
    let key = c.in_ok-key.key in
    let next = c.key_line.new.input.number + 1 in
    let behind = lines_left c.key_line.new.input.pending (g.S.Source.remaining c.key_line.new.source) in
    let w = c.in_ok-rebuilt.ensures.rebuilt in
    goes_on-unrestored f (lines_left [] remaining) (seen_with told content written) key next behind journals.NoJournal
    (found_from_start c.in_ok-input.input.number c.in_ok-input.input.pending remaining c.in_ok-input.ensures.number c.in_ok-input.ensures.pending key next behind c.in_ok-key.ensures.found)
    (unrestored-fresh f key c.args.journal.now content (g.D.Disk.images c.args.disk.now) c.requires.holds c.in_ok-rebuilt.rebuilt c.in-Fresh.field-0 w (c.in-Fresh.ensures.restored (mark_of f key) w.payloads w.finished) c.requires.some)

pub returns-clause-holds : goal.returns-clause-holds
returns-clause-holds g c =
    holds_on c.args.journal.now (g.D.Disk.content c.args.disk.now) (g.D.Disk.content c.rebuild.new.disk) (g.D.Disk.images c.args.disk.now) (g.D.Disk.images c.rebuild.new.disk) c.rebuild.ensures.kept c.rebuild.ensures.holds c.requires.holds
