use Rattle.std.proofs.Common.{arith}
use Rattle.sse_client.proofs.in_process.run_on_bytes.Goals as goal

pub returns-clause-known : goal.returns-clause-known
returns-clause-known g c = λ asked.
    let known = c.run_in_process.ensures.known asked in
    let tells = c.run_in_process.ensures.devices.tells in
    (known.0, λ e. let rose = tells.source_failed e in omega (arith, rose), λ e. let rose = tells.sink_failed e in omega (arith, rose), known.1, known.2)
