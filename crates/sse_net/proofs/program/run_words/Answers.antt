use Rattle.std.proofs.Common.{map}
use Rattle.std.specs.Prelude.{string_bytes}
use Rattle.sse_net.proofs.Modes.{more_of, run_of}
use Rattle.sse_net.proofs.program.run_words.Goals as goal

pub returns-clause-runs : goal.returns-clause-runs
returns-clause-runs g c =
    let run = c.run_on_disk in
    record {
      begun = λ asks. run.ensures.begun (run_of (map (λ word. string_bytes word) c.args.words.now) asks);
      resumed = λ asks. run.ensures.more (more_of (map (λ word. string_bytes word) c.args.words.now) asks);
      devices = run.ensures.devices;
    }

pub returns-clause-streams : goal.returns-clause-streams
returns-clause-streams g c =
    let tells = c.run_on_disk.ensures.devices.tells in
    record {
      known = c.run_on_disk.ensures.known;
      at_end = tells.at_end;
      source_failed = tells.source_failed;
      source_steady = tells.source_steady;
      sink_failed = tells.sink_failed;
      sink_steady = tells.sink_steady;
    }
