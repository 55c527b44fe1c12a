use Rattle.std.proofs.Common.{◌∙◌, inl, refl, []}
use Rattle.sse_journal.specs.Files.{Gives}
use Rattle.sse_journal.proofs.Moments.{goes_on}
use Rattle.sse_journal.proofs.Append.{only_synced}
use Rattle.sse_journal.proofs.RepairSteps.{begun_at, images_magic, content_magic, images_first_commit, content_first_commit}
use Rattle.sse_journal.proofs.repair.new_file.Goals as goal

pub returns-in_err-write_at-clause-any_moment : goal.returns-in_err-write_at-clause-any_moment
returns-in_err-write_at-clause-any_moment g c bytes short all =
    let first = begun_at g.D.Disk.content g.D.Disk.images g.D.Disk.moment g.D.Disk.left_since c.args.disk.now bytes (Gives []) (g.met.D.Disk.only_now c.args.disk.now) all (inl (short, refl)) in
    let behind = images_magic g.D.Disk.content g.D.Disk.images bytes short c.args.disk.now c.write_at.new.self all c.write_at.ensures.torn in
    let one = goes_on g.D.Disk.moment g.D.Disk.left_since c.args.disk.now c.args.disk.now c.write_at.new.self (Gives []) _ first c.write_at.ensures.time behind in
    one

pub returns-in_err-sync-clause-any_moment : goal.returns-in_err-sync-clause-any_moment
returns-in_err-sync-clause-any_moment g c bytes short all =
    let first = begun_at g.D.Disk.content g.D.Disk.images g.D.Disk.moment g.D.Disk.left_since c.args.disk.now bytes (Gives []) (g.met.D.Disk.only_now c.args.disk.now) all (inl (short, refl)) in
    let behind = images_magic g.D.Disk.content g.D.Disk.images bytes short c.args.disk.now c.write_at.new.self all c.write_at.ensures.torn in
    let one = goes_on g.D.Disk.moment g.D.Disk.left_since c.args.disk.now c.args.disk.now c.write_at.new.self (Gives []) _ first c.write_at.ensures.time behind in
    let two = goes_on g.D.Disk.moment g.D.Disk.left_since c.args.disk.now c.write_at.new.self c.sync.new.self (Gives []) _ one c.sync.ensures.time (λ f left. behind f (c.sync.ensures.images_kept f left)) in
    two

pub returns-in_err-write_at-2-clause-any_moment : goal.returns-in_err-write_at-2-clause-any_moment
returns-in_err-write_at-2-clause-any_moment g c bytes short all =
    let first = begun_at g.D.Disk.content g.D.Disk.images g.D.Disk.moment g.D.Disk.left_since c.args.disk.now bytes (Gives []) (g.met.D.Disk.only_now c.args.disk.now) all (inl (short, refl)) in
    let behind = images_magic g.D.Disk.content g.D.Disk.images bytes short c.args.disk.now c.write_at.new.self all c.write_at.ensures.torn in
    let one = goes_on g.D.Disk.moment g.D.Disk.left_since c.args.disk.now c.args.disk.now c.write_at.new.self (Gives []) _ first c.write_at.ensures.time behind in
    let two = goes_on g.D.Disk.moment g.D.Disk.left_since c.args.disk.now c.write_at.new.self c.sync.new.self (Gives []) _ one c.sync.ensures.time (λ f left. behind f (c.sync.ensures.images_kept f left)) in
    let reads = content_magic g.D.Disk.content g.D.Disk.images bytes short c.args.disk.now c.write_at.new.self all c.in_ok-write_at.ensures.written in
    let only = only_synced (g.D.Disk.content c.write_at.new.self) (g.D.Disk.images c.sync.new.self) _ reads c.in_ok-sync.ensures.durable in
    let at = images_first_commit g.D.Disk.content g.D.Disk.images bytes short c.sync.new.self c.write_at-2.new.self only c.write_at-2.ensures.torn in
    let three = goes_on g.D.Disk.moment g.D.Disk.left_since c.args.disk.now c.sync.new.self c.write_at-2.new.self (Gives []) _ two c.write_at-2.ensures.time at in
    three

pub returns-in_err-sync-2-clause-any_moment : goal.returns-in_err-sync-2-clause-any_moment
returns-in_err-sync-2-clause-any_moment g c bytes short all =
    let first = begun_at g.D.Disk.content g.D.Disk.images g.D.Disk.moment g.D.Disk.left_since c.args.disk.now bytes (Gives []) (g.met.D.Disk.only_now c.args.disk.now) all (inl (short, refl)) in
    let behind = images_magic g.D.Disk.content g.D.Disk.images bytes short c.args.disk.now c.write_at.new.self all c.write_at.ensures.torn in
    let one = goes_on g.D.Disk.moment g.D.Disk.left_since c.args.disk.now c.args.disk.now c.write_at.new.self (Gives []) _ first c.write_at.ensures.time behind in
    let two = goes_on g.D.Disk.moment g.D.Disk.left_since c.args.disk.now c.write_at.new.self c.sync.new.self (Gives []) _ one c.sync.ensures.time (λ f left. behind f (c.sync.ensures.images_kept f left)) in
    let reads = content_magic g.D.Disk.content g.D.Disk.images bytes short c.args.disk.now c.write_at.new.self all c.in_ok-write_at.ensures.written in
    let only = only_synced (g.D.Disk.content c.write_at.new.self) (g.D.Disk.images c.sync.new.self) _ reads c.in_ok-sync.ensures.durable in
    let at = images_first_commit g.D.Disk.content g.D.Disk.images bytes short c.sync.new.self c.write_at-2.new.self only c.write_at-2.ensures.torn in
    let three = goes_on g.D.Disk.moment g.D.Disk.left_since c.args.disk.now c.sync.new.self c.write_at-2.new.self (Gives []) _ two c.write_at-2.ensures.time at in
    goes_on g.D.Disk.moment g.D.Disk.left_since c.args.disk.now c.write_at-2.new.self c.sync-2.new.self (Gives []) _ three c.sync-2.ensures.time (λ f left. at f (c.sync-2.ensures.images_kept f left))

pub returns-clause-any_moment : goal.returns-clause-any_moment
returns-clause-any_moment g c bytes short all =
    let first = begun_at g.D.Disk.content g.D.Disk.images g.D.Disk.moment g.D.Disk.left_since c.args.disk.now bytes (Gives []) (g.met.D.Disk.only_now c.args.disk.now) all (inl (short, refl)) in
    let behind = images_magic g.D.Disk.content g.D.Disk.images bytes short c.args.disk.now c.write_at.new.self all c.write_at.ensures.torn in
    let one = goes_on g.D.Disk.moment g.D.Disk.left_since c.args.disk.now c.args.disk.now c.write_at.new.self (Gives []) _ first c.write_at.ensures.time behind in
    let two = goes_on g.D.Disk.moment g.D.Disk.left_since c.args.disk.now c.write_at.new.self c.sync.new.self (Gives []) _ one c.sync.ensures.time (λ f left. behind f (c.sync.ensures.images_kept f left)) in
    let reads = content_magic g.D.Disk.content g.D.Disk.images bytes short c.args.disk.now c.write_at.new.self all c.in_ok-write_at.ensures.written in
    let only = only_synced (g.D.Disk.content c.write_at.new.self) (g.D.Disk.images c.sync.new.self) _ reads c.in_ok-sync.ensures.durable in
    let at = images_first_commit g.D.Disk.content g.D.Disk.images bytes short c.sync.new.self c.write_at-2.new.self only c.write_at-2.ensures.torn in
    let three = goes_on g.D.Disk.moment g.D.Disk.left_since c.args.disk.now c.sync.new.self c.write_at-2.new.self (Gives []) _ two c.write_at-2.ensures.time at in
    goes_on g.D.Disk.moment g.D.Disk.left_since c.args.disk.now c.write_at-2.new.self c.sync-2.new.self (Gives []) _ three c.sync-2.ensures.time (λ f left. at f (c.sync-2.ensures.images_kept f left))

pub returns-clause-made : goal.returns-clause-made
returns-clause-made g c bytes short all =
    let reads = content_magic g.D.Disk.content g.D.Disk.images bytes short c.args.disk.now c.write_at.new.self all c.in_ok-write_at.ensures.written in
    let with_commit = content_first_commit g.D.Disk.content g.D.Disk.images bytes short c.sync.new.self c.write_at-2.new.self (c.in_ok-sync.ensures.kept ∙ reads) c.in_ok-write_at-2.ensures.written in
    record {
      reads = c.in_ok-sync-2.ensures.kept ∙ with_commit;
      durable = only_synced (g.D.Disk.content c.write_at-2.new.self) (g.D.Disk.images c.sync-2.new.self) _ with_commit c.in_ok-sync-2.ensures.durable;
    }
