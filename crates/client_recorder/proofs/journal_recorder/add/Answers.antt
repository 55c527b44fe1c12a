use Rattle.std.proofs.Common.{◌≡◌, inl, take, ap, sym, ◌∙◌}
use Rattle.std.specs.Prelude.{[], ◌∷◌, ◌++◌, option_map}
use Rattle.sse_journal.proofs.FileRecords.{counted_all, counted_of, left_now, settled_gives, takes_added, takes_refused, takes_same}
use Rattle.sse_journal.proofs.Moments.{started}
use Rattle.sse_journal.specs.AnyMoment.{LeavesOnly}
use Rattle.sse_journal.specs.FileRecords.{records_counted, records_in_file}
use Rattle.sse_journal.specs.Files.{GivesWithOrWithout}
use Rattle.client_recorder.proofs.KeptRecords.{counted_before}
use Rattle.client_recorder.proofs.journal_recorder.add.Goals as goal

pub returns-then-is_err-clause-meanwhile : goal.returns-then-is_err-clause-meanwhile
returns-then-is_err-clause-meanwhile g c =
    let disk = c.args.disk.now in
    counted_of c.args.journal.now (g.D.Disk.images disk) (g.D.Disk.content disk) (λ payloads. LeavesOnly g.D.Disk.moment g.D.Disk.left_since disk disk (GivesWithOrWithout payloads c.args.payload.now)) c.requires.takes
    (λ payloads is. started g.D.Disk.moment g.D.Disk.left_since disk (GivesWithOrWithout payloads c.args.payload.now) (λ image left. inl (settled_gives payloads c.args.journal.now _ _ is image (g.met.D.Disk.only_now disk image left))))

pub returns-in-Ok-clause-added : goal.returns-in-Ok-clause-added
returns-in-Ok-clause-added g c =
    let r = c.reserve.ensures in
    let takes = takes_same c.args.journal.now c.reserve.new.self _ _ r.end r.records r.broken c.requires.takes in
    let added = takes_added c.reserve.new.self c.args.payload.now _ (g.D.Disk.images c.append.new.disk) _ _ c.append.new.self takes c.append.ensures.told c.in-Ok.ensures.whole c.in-Ok.ensures.added in
    counted_all c.append.new.self (g.D.Disk.images c.append.new.disk) _ added.0
    ∙ added.1
    ∙ ap (option_map (λ all. all ++ c.args.payload.now ∷ [])) (sym (counted_all c.args.journal.now (g.D.Disk.images c.args.disk.now) _ c.requires.takes))

pub returns-in-Ok-clause-meanwhile : goal.returns-in-Ok-clause-meanwhile
returns-in-Ok-clause-meanwhile g c =
    let r = c.reserve.ensures in
    let takes = takes_same c.args.journal.now c.reserve.new.self _ _ r.end r.records r.broken c.requires.takes in
    counted_before c.args.journal.now c.reserve.new.self _ _ _ r.records takes (λ payloads is. c.append.ensures.any_moment payloads takes.unbroken is)

pub returns-in-Err-NoMemory-clause-meanwhile : goal.returns-in-Err-NoMemory-clause-meanwhile
returns-in-Err-NoMemory-clause-meanwhile g c =
    let r = c.reserve.ensures in
    let takes = takes_same c.args.journal.now c.reserve.new.self _ _ r.end r.records r.broken c.requires.takes in
    counted_before c.args.journal.now c.reserve.new.self _ _ _ r.records takes (λ payloads is. c.append.ensures.any_moment payloads takes.unbroken is)

pub returns-in-Err-DiskFault-clause-meanwhile : goal.returns-in-Err-DiskFault-clause-meanwhile
returns-in-Err-DiskFault-clause-meanwhile g c =
    let r = c.reserve.ensures in
    let takes = takes_same c.args.journal.now c.reserve.new.self _ _ r.end r.records r.broken c.requires.takes in
    counted_before c.args.journal.now c.reserve.new.self _ _ _ r.records takes (λ payloads is. c.append.ensures.any_moment payloads takes.unbroken is)

pub returns-in-Err-NoMemory-clause-refused : goal.returns-in-Err-NoMemory-clause-refused
returns-in-Err-NoMemory-clause-refused g c =
    let r = c.reserve.ensures in
    let takes = takes_same c.args.journal.now c.reserve.new.self _ _ r.end r.records r.broken c.requires.takes in
    let same : records_counted c.reserve.new.self (g.D.Disk.content c.args.disk.now) ≡ records_counted c.args.journal.now (g.D.Disk.content c.args.disk.now) = ap (λ n. option_map (λ file. take n (records_in_file file)) (g.D.Disk.content c.args.disk.now)) r.records in
    takes_refused c.reserve.new.self c.args.payload.now _ (g.D.Disk.images c.append.new.disk) _ _ c.append.new.self takes c.append.ensures.told (c.in-Err-NoMemory.ensures.not_counted.1) (g.met.D.Disk.reads_as_image c.append.new.disk)
    (λ payloads is. left_now g.D.Disk.images g.D.Disk.moment g.D.Disk.left_since c.args.disk.now c.append.new.disk (GivesWithOrWithout payloads c.args.payload.now) (g.met.D.Disk.counts_now c.append.new.disk) (c.append.ensures.any_moment payloads takes.unbroken is))
    ∙ same

pub returns-in-Err-DiskFault-clause-refused : goal.returns-in-Err-DiskFault-clause-refused
returns-in-Err-DiskFault-clause-refused g c =
    let r = c.reserve.ensures in
    let takes = takes_same c.args.journal.now c.reserve.new.self _ _ r.end r.records r.broken c.requires.takes in
    let same : records_counted c.reserve.new.self (g.D.Disk.content c.args.disk.now) ≡ records_counted c.args.journal.now (g.D.Disk.content c.args.disk.now) = ap (λ n. option_map (λ file. take n (records_in_file file)) (g.D.Disk.content c.args.disk.now)) r.records in
    takes_refused c.reserve.new.self c.args.payload.now _ (g.D.Disk.images c.append.new.disk) _ _ c.append.new.self takes c.append.ensures.told (c.in-Err-DiskFault.ensures.not_counted.1) (g.met.D.Disk.reads_as_image c.append.new.disk)
    (λ payloads is. left_now g.D.Disk.images g.D.Disk.moment g.D.Disk.left_since c.args.disk.now c.append.new.disk (GivesWithOrWithout payloads c.args.payload.now) (g.met.D.Disk.counts_now c.append.new.disk) (c.append.ensures.any_moment payloads takes.unbroken is))
    ∙ same
