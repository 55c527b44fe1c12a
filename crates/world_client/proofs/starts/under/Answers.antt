use Rattle.std.proofs.Common.{◌≡◌, ℕ, List, [], ◌∷◌, length, Some, Err, ap, ◌∙◌, arith}
use Rattle.std.proofs.lemmas.List.{length-take}
use Rattle.keyed_fn.specs.KeyFormulas.{mark_of}
use Rattle.keyed_fn.specs.KeyedFn.{keyed_fn}
use Rattle.outside_memory_disk.specs.MemDisk.{file_of, images_of}
use Rattle.sse_journal.specs.JournalView.{IsJournalOf}
use Rattle.world_disks.proofs.Left.{holds_quiet}
use Rattle.world_client.proofs.Started.{made_under, never_bad, never_elsewhere, same_inside}
use Rattle.world_client.specs.Histories.{records_under}
use Rattle.world_client.proofs.starts.under.Goals as goal

pub returns-in-Ok-clause-made : goal.returns-in-Ok-clause-made
returns-in-Ok-clause-made g c = λ first h of holds.
    let f = keyed_fn g.K.Keyed.prf g.K.Keyed.pad in
    let size : (key : List ℕ) → length (mark_of f key) ≡ 16 = λ k. omega (arith, length-take 16 (f.prf k (7 ∷ [])), g.met.K.Keyed.prf_length k (7 ∷ [])) in
    made_under f size first c.args.key h (λ payloads. IsJournalOf payloads c.args.journal.now (Some (file_of c.args.disk.now)) (images_of c.args.disk.now)) c.in-Ok.rebuilt c.of.result of holds.is c.in-Ok.ensures.rebuilt
    (c.of.ensures.key ∙ c.in-Ok.ensures.key) c.of.ensures.restored

pub unreachable-requires-in-BadRecord : goal.unreachable-requires-in-BadRecord
unreachable-requires-in-BadRecord g c =
    let f = keyed_fn g.K.Keyed.prf g.K.Keyed.pad in
    let size : (key : List ℕ) → length (mark_of f key) ≡ 16 = λ k. omega (arith, length-take 16 (f.prf k (7 ∷ [])), g.met.K.Keyed.prf_length k (7 ∷ [])) in
    let first = c.requires.records.0 in
    let h = c.requires.records.1 in
    let payloads = records_under f first h in
    let is = c.requires.records.3.is in
    let failed = c.in-Err.is ∙ ap (λ stop. Err stop) c.in-BadRecord.is in
    never_bad f size first c.args.key h c.in-BadRecord.field-0 c.rebuild.result c.requires.records.2 failed (c.rebuild.ensures.bad c.in-BadRecord.field-0 failed payloads is)
    (λ m epochs opens same. c.rebuild.ensures.accepted payloads m epochs is opens same) (λ elsewhere. c.rebuild.ensures.wrong_refused payloads is elsewhere)

pub returns-in-WrongKey-clause-wrong : goal.returns-in-WrongKey-clause-wrong
returns-in-WrongKey-clause-wrong g c = λ e first h of holds under.
    let f = keyed_fn g.K.Keyed.prf g.K.Keyed.pad in
    let size : (key : List ℕ) → length (mark_of f key) ≡ 16 = λ k. omega (arith, length-take 16 (f.prf k (7 ∷ [])), g.met.K.Keyed.prf_length k (7 ∷ [])) in
    never_elsewhere f size first c.args.key h of under (c.rebuild.ensures.wrong (c.in-Err.is ∙ ap (λ stop. Err stop) c.in-WrongKey.is) (records_under f first h) holds.is)

pub returns-in-WrongKey-clause-holds : goal.returns-in-WrongKey-clause-holds
returns-in-WrongKey-clause-holds g c = λ payloads holds.
    let old = c.args.disk.now in
    let new = c.rebuild.new.disk in
    holds_quiet payloads c.args.journal.now old new (same_inside (file_of new) (file_of old) c.rebuild.ensures.kept) c.rebuild.ensures.images_kept holds
