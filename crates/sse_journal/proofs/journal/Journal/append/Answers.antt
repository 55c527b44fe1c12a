use Rattle.std.proofs.Common.{◌∙◌, ◌∷◌, [], length, ap, arith, length-append}
use Rattle.std.proofs.lemmas.List.Elements.{All-push as all_push}
use Rattle.sse_journal.specs.Files.{front, record_bytes, IsPayload}
use Rattle.sse_journal.proofs.Torn.{front_push}
use Rattle.sse_journal.proofs.WalkSteps.{length-record_bytes}
use Rattle.sse_journal.proofs.journal.Journal.append.Goals as goal

pub returns-in-Ok-clause-added : goal.returns-in-Ok-clause-added
returns-in-Ok-clause-added g c payloads is = record {
  payloads_are = all_push IsPayload payloads c.args.payload.now is.payloads_are c.requires.payload;
  end_is = omega (arith, is.end_is, length-append (front payloads) (record_bytes c.args.payload.now), length-record_bytes c.args.payload.now, ap length (front_push payloads c.args.payload.now));
  records_are = omega (arith, is.records_are, length-append payloads (c.args.payload.now ∷ []));
  settled = c.in-Ok.ensures.added c.args.payload.now payloads c.requires.payload (c.deref.ensures.value ∙ c.frame.ensures.bytes) is.payloads_are is.end_is is.settled;
}
