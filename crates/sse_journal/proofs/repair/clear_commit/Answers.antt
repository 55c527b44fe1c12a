use Rattle.std.proofs.Common.{◌∙◌, [], refl}
use Rattle.sse_journal.specs.Files.{Gives}
use Rattle.sse_journal.proofs.Moments.{goes_on}
use Rattle.sse_journal.proofs.Append.{only_synced}
use Rattle.sse_journal.proofs.RepairSteps.{begun_at, unset_gives, images_cleared, content_cleared}
use Rattle.sse_journal.proofs.repair.clear_commit.Goals as goal

pub returns-in_err-write_at-clause-any_moment : goal.returns-in_err-write_at-clause-any_moment
returns-in_err-write_at-clause-any_moment g c payloads commit are ends all =
    let first = begun_at g.D.Disk.content g.D.Disk.images g.D.Disk.moment g.D.Disk.left_since c.args.disk.now _ (Gives payloads) (g.met.D.Disk.only_now c.args.disk.now) all (unset_gives payloads commit [] are (λ _. refl)) in
    let behind = images_cleared g.D.Disk.content g.D.Disk.images payloads commit [] c.args.end ends c.args.disk.now c.write_at.new.self are all c.write_at.ensures.torn in
    let one = goes_on g.D.Disk.moment g.D.Disk.left_since c.args.disk.now c.args.disk.now c.write_at.new.self (Gives payloads) _ first c.write_at.ensures.time behind in
    one

pub returns-in_err-sync-clause-any_moment : goal.returns-in_err-sync-clause-any_moment
returns-in_err-sync-clause-any_moment g c payloads commit are ends all =
    let first = begun_at g.D.Disk.content g.D.Disk.images g.D.Disk.moment g.D.Disk.left_since c.args.disk.now _ (Gives payloads) (g.met.D.Disk.only_now c.args.disk.now) all (unset_gives payloads commit [] are (λ _. refl)) in
    let behind = images_cleared g.D.Disk.content g.D.Disk.images payloads commit [] c.args.end ends c.args.disk.now c.write_at.new.self are all c.write_at.ensures.torn in
    let one = goes_on g.D.Disk.moment g.D.Disk.left_since c.args.disk.now c.args.disk.now c.write_at.new.self (Gives payloads) _ first c.write_at.ensures.time behind in
    goes_on g.D.Disk.moment g.D.Disk.left_since c.args.disk.now c.write_at.new.self c.sync.new.self (Gives payloads) _ one c.sync.ensures.time (λ f left. behind f (c.sync.ensures.images_kept f left))

pub returns-clause-any_moment : goal.returns-clause-any_moment
returns-clause-any_moment g c payloads commit are ends all =
    let first = begun_at g.D.Disk.content g.D.Disk.images g.D.Disk.moment g.D.Disk.left_since c.args.disk.now _ (Gives payloads) (g.met.D.Disk.only_now c.args.disk.now) all (unset_gives payloads commit [] are (λ _. refl)) in
    let behind = images_cleared g.D.Disk.content g.D.Disk.images payloads commit [] c.args.end ends c.args.disk.now c.write_at.new.self are all c.write_at.ensures.torn in
    let one = goes_on g.D.Disk.moment g.D.Disk.left_since c.args.disk.now c.args.disk.now c.write_at.new.self (Gives payloads) _ first c.write_at.ensures.time behind in
    goes_on g.D.Disk.moment g.D.Disk.left_since c.args.disk.now c.write_at.new.self c.sync.new.self (Gives payloads) _ one c.sync.ensures.time (λ f left. behind f (c.sync.ensures.images_kept f left))

pub returns-clause-cleared : goal.returns-clause-cleared
returns-clause-cleared g c payloads commit ends all =
    let reads = content_cleared g.D.Disk.content g.D.Disk.images payloads commit [] c.args.end ends c.args.disk.now c.write_at.new.self all c.in_ok-write_at.ensures.written in
    record {
      reads = c.in_ok-sync.ensures.kept ∙ reads;
      durable = only_synced (g.D.Disk.content c.write_at.new.self) (g.D.Disk.images c.sync.new.self) _ reads c.in_ok-sync.ensures.durable;
    }
