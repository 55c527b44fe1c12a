use Rattle.std.proofs.Common.{◌∙◌}
use Rattle.sse_journal.specs.Files.{Gives}
use Rattle.sse_journal.proofs.Moments.{goes_on}
use Rattle.sse_journal.proofs.Append.{only_synced}
use Rattle.sse_journal.proofs.RepairSteps.{begun_at, unset_gives, images_cut, content_cut}
use Rattle.sse_journal.proofs.repair.cut_tail.Goals as goal

pub returns-in_err-cut-clause-any_moment : goal.returns-in_err-cut-clause-any_moment
returns-in_err-cut-clause-any_moment g c payloads commit tail are not_set ends all =
    let first = begun_at g.D.Disk.content g.D.Disk.images g.D.Disk.moment g.D.Disk.left_since c.args.disk.now _ (Gives payloads) (g.met.D.Disk.only_now c.args.disk.now) all (unset_gives payloads commit tail are (λ is_set. absurd (not_set is_set))) in
    let behind = images_cut g.D.Disk.content g.D.Disk.images payloads commit tail c.args.end ends c.args.disk.now c.cut.new.self are not_set all c.cut.ensures.torn in
    let one = goes_on g.D.Disk.moment g.D.Disk.left_since c.args.disk.now c.args.disk.now c.cut.new.self (Gives payloads) _ first c.cut.ensures.time behind in
    one

pub returns-in_err-sync-clause-any_moment : goal.returns-in_err-sync-clause-any_moment
returns-in_err-sync-clause-any_moment g c payloads commit tail are not_set ends all =
    let first = begun_at g.D.Disk.content g.D.Disk.images g.D.Disk.moment g.D.Disk.left_since c.args.disk.now _ (Gives payloads) (g.met.D.Disk.only_now c.args.disk.now) all (unset_gives payloads commit tail are (λ is_set. absurd (not_set is_set))) in
    let behind = images_cut g.D.Disk.content g.D.Disk.images payloads commit tail c.args.end ends c.args.disk.now c.cut.new.self are not_set all c.cut.ensures.torn in
    let one = goes_on g.D.Disk.moment g.D.Disk.left_since c.args.disk.now c.args.disk.now c.cut.new.self (Gives payloads) _ first c.cut.ensures.time behind in
    goes_on g.D.Disk.moment g.D.Disk.left_since c.args.disk.now c.cut.new.self c.sync.new.self (Gives payloads) _ one c.sync.ensures.time (λ f left. behind f (c.sync.ensures.images_kept f left))

pub returns-clause-any_moment : goal.returns-clause-any_moment
returns-clause-any_moment g c payloads commit tail are not_set ends all =
    let first = begun_at g.D.Disk.content g.D.Disk.images g.D.Disk.moment g.D.Disk.left_since c.args.disk.now _ (Gives payloads) (g.met.D.Disk.only_now c.args.disk.now) all (unset_gives payloads commit tail are (λ is_set. absurd (not_set is_set))) in
    let behind = images_cut g.D.Disk.content g.D.Disk.images payloads commit tail c.args.end ends c.args.disk.now c.cut.new.self are not_set all c.cut.ensures.torn in
    let one = goes_on g.D.Disk.moment g.D.Disk.left_since c.args.disk.now c.args.disk.now c.cut.new.self (Gives payloads) _ first c.cut.ensures.time behind in
    goes_on g.D.Disk.moment g.D.Disk.left_since c.args.disk.now c.cut.new.self c.sync.new.self (Gives payloads) _ one c.sync.ensures.time (λ f left. behind f (c.sync.ensures.images_kept f left))

pub returns-clause-cut : goal.returns-clause-cut
returns-clause-cut g c payloads commit tail ends all =
    let reads = content_cut g.D.Disk.content g.D.Disk.images payloads commit tail c.args.end ends c.args.disk.now c.cut.new.self all c.in_ok-cut.ensures.shortened in
    record {
      reads = c.in_ok-sync.ensures.kept ∙ reads;
      durable = only_synced (g.D.Disk.content c.cut.new.self) (g.D.Disk.images c.sync.new.self) _ reads c.in_ok-sync.ensures.durable;
    }
