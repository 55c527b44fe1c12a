use Rattle.std.proofs.Common.{◌≡◌, ◌∙◌, ap, arith, inl, inr, map, ℕ, List, Option, None, Some, refl}
use Rattle.std.specs.Prelude.{IfSome, string_bytes}
use Rattle.keyed_fn.specs.KeyedFn.{KeyedFn, IsKeyedFn, keyed_fn}
use Rattle.outside_memory_disk.specs.SteadyDisk.{began_of, changes_on, file_of, images_of}
use Rattle.script_run_texts.specs.Words as asks
use Rattle.def_script_meaning.specs.Headline.{IsOverHonest, IsUndisturbed}
use Rattle.sse_client.proofs.FirstFrames.{nothing}
use Rattle.sse_client.proofs.ResumedRuns.{for_all}
use Rattle.sse_client.proofs.LentLink.{all_honest, same_file, same_start}
use Rattle.sse_client.proofs.OverStore.{begins, begun_over, goes_on, gone_on_over, over, supposing, unopened_status}
use Rattle.sse_client.proofs.WholeRun.{IfSome-then}
use Rattle.client_journal.specs.Shows.{SinkShows, prints}
use Rattle.sse_link.specs.LinkStates.{LinkState}
use Rattle.sse_outside.proofs.DiskLaws.{reads_now}
use Rattle.sse_client.proofs.over_store.run_over_store.Goals as goal

pub returns-clause-other : goal.returns-clause-other
returns-clause-other g c = λ asked. c.run_on_disk-run.ensures.other asked

pub returns-clause-devices : goal.returns-clause-devices
returns-clause-devices g c =
    let d = c.run_on_disk-run.ensures.devices in
    record { tells = d.tells; began = refl; line = d.line }

pub returns-clause-known : goal.returns-clause-known
returns-clause-known g c =
    let tells = c.run_on_disk-run.ensures.devices.tells in
    (c.run_on_disk-run.ensures.known, λ e. omega (arith, tells.link_failed e), λ e. omega (arith, tells.disk_failed e))

pub returns-clause-begun : goal.returns-clause-begun
returns-clause-begun g c = λ asked.
    let f = keyed_fn g.K.Keyed.prf g.K.Keyed.pad in
    let laws : IsKeyedFn f = record {
      prf_length = g.met.K.Keyed.prf_length;
      prf_bytes = g.met.K.Keyed.prf_bytes;
      pad_length = g.met.K.Keyed.pad_length;
      pad_bytes = g.met.K.Keyed.pad_bytes;
      pad_prefix = g.met.K.Keyed.pad_prefix;
    } in
    let remaining = g.S.Source.remaining c.args.source.now in
    let sink = c.args.sink.now in
    let sink' = c.run_on_disk-run.new.sink in
    let disk = c.run_on_disk-run.result.1 in
    let status = c.run_on_disk-run.result.0 in
    let tells = c.run_on_disk-run.ensures.devices.tells in
    let did = c.run_on_disk-run.ensures.begun asked in
    record {
      on_disk = did;
      both = λ source sound memory.
          let calm : IsUndisturbed status = record { source = source; sink = sound; link = λ e. omega (arith, tells.link_failed e); disk = λ e. omega (arith, tells.disk_failed e); memory = memory } in
          elim did.begun [
            | inl was ↦ for_all remaining _ (λ bytes none expects free. elim (unopened_status (file_of c.args.disk) was.0.stop none was.0.why) [ inl e ↦ absurd (calm.disk (was.0.status_is ∙ e)) | inr e ↦ absurd (memory (was.0.status_is ∙ e)) ])
            | inr keeps ↦
                IfSome-then remaining _ _ (λ bytes has.
                begins f laws c.args.link.now c.run_on_disk-run.new.link c.run_on_disk-run.ensures.devices.began c.transcript-before.ensures.known c.transcript-behind.ensures.known c.transcript-before.ensures.honest c.transcript-behind.ensures.honest
                c.transcript-before.ensures.stored c.transcript-behind.ensures.stored bytes (file_of c.args.disk)
                (prints (g.W.Sink.written sink) (g.W.Sink.faults sink) (g.W.Sink.shortages sink)) (prints (g.W.Sink.written sink') (g.W.Sink.faults sink') (g.W.Sink.shortages sink')) status
                keeps.kept (file_of disk) (images_of disk) (reads_now (began_of disk) (changes_on disk) (file_of disk) disk.file.replayed) keeps.leaves (keeps.exact calm.disk memory).1 has calm) keeps.has
          ];
    }

pub returns-clause-more : goal.returns-clause-more
returns-clause-more g c = λ asked.
    let f = keyed_fn g.K.Keyed.prf g.K.Keyed.pad in
    let laws : IsKeyedFn f = record {
      prf_length = g.met.K.Keyed.prf_length;
      prf_bytes = g.met.K.Keyed.prf_bytes;
      pad_length = g.met.K.Keyed.pad_length;
      pad_bytes = g.met.K.Keyed.pad_bytes;
      pad_prefix = g.met.K.Keyed.pad_prefix;
    } in
    let remaining = g.S.Source.remaining c.args.source.now in
    let sink = c.args.sink.now in
    let sink' = c.run_on_disk-run.new.sink in
    let disk = c.run_on_disk-run.result.1 in
    let status = c.run_on_disk-run.result.0 in
    let tells = c.run_on_disk-run.ensures.devices.tells in
    let did = c.run_on_disk-run.ensures.more asked in
    record {
      on_disk = did;
      both = λ source sound memory.
          let calm : IsUndisturbed status = record { source = source; sink = sound; link = λ e. omega (arith, tells.link_failed e); disk = λ e. omega (arith, tells.disk_failed e); memory = memory } in
          supposing remaining _ (λ some. let keeps = did.accepted some calm.disk memory in (keeps.kept, keeps.leaves, keeps.has)) (λ bytes kept leaves has some.
          goes_on f laws c.args.link.now c.run_on_disk-run.new.link c.run_on_disk-run.ensures.devices.began c.transcript-before.ensures.known c.transcript-behind.ensures.known c.transcript-before.ensures.honest c.transcript-behind.ensures.honest
          c.transcript-before.ensures.stored c.transcript-behind.ensures.stored bytes (file_of c.args.disk)
          (prints (g.W.Sink.written sink) (g.W.Sink.faults sink) (g.W.Sink.shortages sink)) (prints (g.W.Sink.written sink') (g.W.Sink.faults sink') (g.W.Sink.shortages sink')) status
          kept (file_of disk) (images_of disk) (reads_now (began_of disk) (changes_on disk) (file_of disk) disk.file.replayed) leaves ((did.accepted some calm.disk memory).exact calm.disk memory).1 has calm some);
    }

pub returns-clause-store : goal.returns-clause-store
returns-clause-store g c = record {
  over = by (asks.disk_mode_of (map (λ word. string_bytes word) c.args.words.now)) refl;
  honest = all_honest f old new c.run_on_disk-run.ensures.devices.began c.transcript-before.ensures.known c.transcript-before.ensures.honest c.transcript-behind.ensures.honest;
  stored = c.transcript-behind.ensures.stored;
  began = (
    same_start f old new c.run_on_disk-run.ensures.devices.began c.transcript-before.ensures.known c.transcript-before.ensures.honest c.transcript-behind.ensures.honest,
    same_file f old new c.run_on_disk-run.ensures.devices.began c.transcript-before.ensures.known c.transcript-before.ensures.honest c.transcript-behind.ensures.honest,
  );
}
  where
    f : KeyedFn
    f = keyed_fn g.K.Keyed.prf g.K.Keyed.pad

    laws : IsKeyedFn f
    laws = record {
      prf_length = g.met.K.Keyed.prf_length;
      prf_bytes = g.met.K.Keyed.prf_bytes;
      pad_length = g.met.K.Keyed.pad_length;
      pad_bytes = g.met.K.Keyed.pad_bytes;
      pad_prefix = g.met.K.Keyed.pad_prefix;
    }

    old : LinkState
    old = c.args.link.now

    new : LinkState
    new = c.run_on_disk-run.new.link

    remaining : Option (List ℕ)
    remaining = g.S.Source.remaining c.args.source.now

    sink : SinkShows
    sink = prints (g.W.Sink.written c.args.sink.now) (g.W.Sink.faults c.args.sink.now) (g.W.Sink.shortages c.args.sink.now)

    sink' : SinkShows
    sink' = prints (g.W.Sink.written c.run_on_disk-run.new.sink) (g.W.Sink.faults c.run_on_disk-run.new.sink) (g.W.Sink.shortages c.run_on_disk-run.new.sink)

    silent : Some new.events ≡ Some old.events → IfSome remaining (λ bytes. IsOverHonest f old.state (Some old.events) (Some new.events) new.state)
    silent same =
        for_all remaining _ (λ bytes.
        over f laws old new c.run_on_disk-run.ensures.devices.began c.transcript-before.ensures.known c.transcript-behind.ensures.known c.transcript-before.ensures.honest c.transcript-behind.ensures.honest
        c.transcript-before.ensures.stored c.transcript-behind.ensures.stored (nothing (Some old.events) (Some new.events) same))

    by : (mode : Option asks.DiskMode) → asks.disk_mode_of (map (λ word. string_bytes word) c.args.words.now) ≡ mode → IfSome remaining (λ bytes. IsOverHonest f old.state (Some old.events) (Some new.events) new.state)
    by None none = silent (ap (λ (t : LinkState). Some t.events) (c.run_on_disk-run.ensures.other none).unsent)
    by (Some asks.RunOn) asked = elim (c.run_on_disk-run.ensures.begun asked).begun [
      | inl was ↦ silent was.0.unsent
      | inr keeps ↦
          IfSome-then remaining _ _ (λ bytes has.
          begun_over f laws old new c.run_on_disk-run.ensures.devices.began c.transcript-before.ensures.known c.transcript-behind.ensures.known c.transcript-before.ensures.honest c.transcript-behind.ensures.honest
          c.transcript-before.ensures.stored c.transcript-behind.ensures.stored bytes (file_of c.args.disk) sink sink' c.run_on_disk-run.result.0 keeps.kept has) keeps.has
    ]
    by (Some asks.More) asked = elim (c.run_on_disk-run.ensures.more asked).gone_on [
      | inl was ↦ silent was.0.unsent
      | inr keeps ↦
          IfSome-then remaining _ _ (λ bytes has.
          gone_on_over f laws old new c.run_on_disk-run.ensures.devices.began c.transcript-before.ensures.known c.transcript-behind.ensures.known c.transcript-before.ensures.honest c.transcript-behind.ensures.honest
          c.transcript-before.ensures.stored c.transcript-behind.ensures.stored bytes (file_of c.args.disk) sink sink' c.run_on_disk-run.result.0 keeps.kept has) keeps.has
    ]
