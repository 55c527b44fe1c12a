use Rattle.std.proofs.Common.{◌≡◌, [], ◌∷◌, ap, subst}
use Rattle.std.specs.Option.{option_map_or}
use Rattle.std.specs.Prelude.{IfSome}
use Rattle.sse_journal.proofs.FileRecords.{takes_at_rest}
use Rattle.sse_journal.specs.AnyMoment.{LeavesOnly}
use Rattle.sse_journal.specs.FileRecords.{records_counted}
use Rattle.sse_journal.specs.Files.{GivesWithOrWithout}
use Rattle.sse_outside.specs.Kept.{with_records}
use Rattle.client_recorder.proofs.KeptRecords.{held-meanwhile, keeps-refused, keeps-taken}
use Rattle.client_recorder.proofs.journal_recorder.JournalRecorderRecorder.keep.Goals as goal

pub returns-in-Ok-clause-keeps_on : goal.returns-in-Ok-clause-keeps_on
returns-in-Ok-clause-keeps_on g c =
    let old = c.args.self.now.disk in
    let new = c.add.new.disk in
    let payload = c.args.payload.items in
    let refused = option_map_or (λ p. p.items ∷ []) c.args.self.now.refused [] in
    let same : c.deref.result.now ≡ payload = c.deref.ensures.value in
    let none = ap (λ r. option_map_or (λ p. p.items ∷ []) r []) c.requires.whole.1 in
    let added : records_counted c.add.new.journal (g.D.Disk.content new) ≡ (with_records (payload ∷ []) (record { records = records_counted c.args.self.now.journal (g.D.Disk.content old); refused = refused })).records =
    subst (λ p. records_counted c.add.new.journal (g.D.Disk.content new) ≡ (with_records (p ∷ []) (record { records = records_counted c.args.self.now.journal (g.D.Disk.content old); refused = refused })).records) same c.in-Ok.ensures.added in
    keeps-taken _ _ _ c.args.self.now _ payload
    (ap (λ records. record { records = records; refused = refused }) added) none
    (held-meanwhile g.D.Disk.moment g.D.Disk.left_since (λ r. r.disk) c.args.self.now _ payload _ (subst (λ p. IfSome (records_counted c.args.self.now.journal (g.D.Disk.content old)) (λ before. LeavesOnly g.D.Disk.moment g.D.Disk.left_since old new (GivesWithOrWithout before p))) same c.add.ensures.meanwhile))
    (takes_at_rest c.add.new.journal (g.D.Disk.content new) (g.D.Disk.images new) (g.D.Disk.left_since new (g.D.Disk.moment new)) c.in-Ok.ensures.takes (g.met.D.Disk.only_now new))

pub returns-in-Err-clause-keeps_on : goal.returns-in-Err-clause-keeps_on
returns-in-Err-clause-keeps_on g c =
    let old = c.args.self.now.disk in
    let new = c.add.new.disk in
    let payload = c.args.payload.items in
    let same : c.deref.result.now ≡ payload = c.deref.ensures.value in
    keeps-refused _ _ _ c.args.self.now _ payload
    (ap (λ records. record { records = records; refused = payload ∷ [] }) c.in-Err.ensures.refused)
    (λ later image left. g.met.D.Disk.counts_now new (g.D.Disk.moment old) image later (g.met.D.Disk.only_now new image left))
    (held-meanwhile g.D.Disk.moment g.D.Disk.left_since (λ r. r.disk) c.args.self.now _ payload _ (subst (λ p. IfSome (records_counted c.args.self.now.journal (g.D.Disk.content old)) (λ before. LeavesOnly g.D.Disk.moment g.D.Disk.left_since old new (GivesWithOrWithout before p))) same c.add.ensures.meanwhile))
