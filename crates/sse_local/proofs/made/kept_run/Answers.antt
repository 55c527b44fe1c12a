use Rattle.std.proofs.Common.{◌≡◌, ◌≢◌, Some, map, refl, subst, arith}
use Rattle.std.specs.Prelude.{string_bytes}
use Rattle.keyed_fn.specs.KeyedFn.{keyed_fn}
use Rattle.script_made_lines.specs.Script.{made_text}
use Rattle.script_run_texts.specs.Words.{RunOn, disk_mode_of}
use Rattle.sse_client.specs.InProcess.{PrintsAsMeant, RunsInProcess}
use Rattle.client_journal.specs.Shows.{prints}
use Rattle.sse_client.proofs.InProcess.{prints_as_meant}
use Rattle.sse_local.proofs.Asked.{disk_mode_of-run}
use Rattle.sse_local.proofs.Summed.{known-is, made-status}
use Rattle.sse_local.proofs.made.kept_run.Goals as goal

pub returns-clause-runs : goal.returns-clause-runs
returns-clause-runs g c =
    let f = keyed_fn g.K.Keyed.prf g.K.Keyed.pad in
    let ran = c.run_in_process-status in
    let before = prints (Some c.new-printed.result.bytes.items) 0 c.new-printed.result.shortages in
    let after = prints (Some ran.new.sink.bytes.items) 0 ran.new.sink.shortages in
    let asked : disk_mode_of (map (λ word. string_bytes word) c.as_slice.result.now) ≡ Some RunOn =
    disk_mode_of-run (λ word. string_bytes word) c.as_slice.result.now c.in_ok-words.words.items c.in_ok-from_str.field-0 c.as_slice.ensures.value c.in_ok-words.ensures.items c.in_ok-from_str.ensures.ok in
    let run : RunsInProcess f (made_text c.args.made.seed c.args.made.documents) before after ran.result =
    known-is (λ bytes. RunsInProcess f bytes before after ran.result) _ (made_text c.args.made.seed c.args.made.documents) c.new-script.ensures.content (ran.ensures.run asked) in
    record { sink = before; sink' = after; empty = c.new-printed.ensures.content; has = refl; runs = run }

pub returns-clause-headline : goal.returns-clause-headline
returns-clause-headline g c =
    let f = keyed_fn g.K.Keyed.prf g.K.Keyed.pad in
    let ran = c.run_in_process-status in
    let before = prints (Some c.new-printed.result.bytes.items) 0 c.new-printed.result.shortages in
    let after = prints (Some ran.new.sink.bytes.items) 0 ran.new.sink.shortages in
    let asked : disk_mode_of (map (λ word. string_bytes word) c.as_slice.result.now) ≡ Some RunOn =
    disk_mode_of-run (λ word. string_bytes word) c.as_slice.result.now c.in_ok-words.words.items c.in_ok-from_str.field-0 c.as_slice.ensures.value c.in_ok-words.ensures.items c.in_ok-from_str.ensures.ok in
    let run : RunsInProcess f (made_text c.args.made.seed c.args.made.documents) before after ran.result =
    known-is (λ bytes. RunsInProcess f bytes before after ran.result) _ (made_text c.args.made.seed c.args.made.documents) c.new-script.ensures.content (ran.ensures.run asked) in
    let tells = ran.ensures.devices.tells in
    let source : ran.result ≢ 3 = λ e. let rose = tells.source_failed e in omega (arith, rose) in
    let sink : ran.result ≢ 4 = λ e. let rose = tells.sink_failed e in omega (arith, rose) in
    λ memory. subst (λ old. PrintsAsMeant f (made_text c.args.made.seed c.args.made.documents) old (Some ran.new.sink.bytes.items) ran.result) c.new-printed.ensures.content
    (prints_as_meant f (made_text c.args.made.seed c.args.made.documents) before after ran.result source sink memory run)

pub returns-clause-known : goal.returns-clause-known
returns-clause-known g c =
    let f = keyed_fn g.K.Keyed.prf g.K.Keyed.pad in
    let ran = c.run_in_process-status in
    let before = prints (Some c.new-printed.result.bytes.items) 0 c.new-printed.result.shortages in
    let after = prints (Some ran.new.sink.bytes.items) 0 ran.new.sink.shortages in
    let asked : disk_mode_of (map (λ word. string_bytes word) c.as_slice.result.now) ≡ Some RunOn =
    disk_mode_of-run (λ word. string_bytes word) c.as_slice.result.now c.in_ok-words.words.items c.in_ok-from_str.field-0 c.as_slice.ensures.value c.in_ok-words.ensures.items c.in_ok-from_str.ensures.ok in
    let run : RunsInProcess f (made_text c.args.made.seed c.args.made.documents) before after ran.result =
    known-is (λ bytes. RunsInProcess f bytes before after ran.result) _ (made_text c.args.made.seed c.args.made.documents) c.new-script.ensures.content (ran.ensures.run asked) in
    let tells = ran.ensures.devices.tells in
    let source : ran.result ≢ 3 = λ e. let rose = tells.source_failed e in omega (arith, rose) in
    let sink : ran.result ≢ 4 = λ e. let rose = tells.sink_failed e in omega (arith, rose) in
    made-status f c.args.made.seed c.args.made.documents c.requires.few before after ran.result run (ran.ensures.known asked).0 source sink (ran.ensures.known asked).1 (ran.ensures.known asked).2
