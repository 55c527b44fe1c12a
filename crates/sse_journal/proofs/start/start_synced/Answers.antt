use Rattle.std.proofs.Common.{◌≡◌, inr, ◌<◌, [], List, ℕ, length, inl, refl, sym, ap, subst, arith}
use Rattle.std.specs.Prelude.{Err}
use Rattle.sse_journal.specs.Holds.{IsAllOf}
use Rattle.sse_journal.specs.Walks.{IsWalked, IsNoRecordAt}
use Rattle.sse_journal.specs.declared.start_fault.StartFault.TheVariants.{NotAJournal}
use Rattle.sse_journal.proofs.WalkSteps.{length-front_nil}
use Rattle.sse_journal.proofs.StartSteps.{told_of, walked_gives, still, quiet_from, quiet_on, walk_quiet, repaired}
use Rattle.sse_journal.proofs.RefusedFiles.{no_journal_gives, no_journal_long}
use Rattle.sse_journal.proofs.start.start_synced.Goals as goal

pub returns-in_err-new_file-clause-any_moment : goal.returns-in_err-new_file-clause-any_moment
returns-in_err-new_file-clause-any_moment g c bytes all =
    let one = quiet_on g.D.Disk.content g.D.Disk.images g.D.Disk.moment g.D.Disk.left_since bytes c.args.disk.now c.args.disk.now c.len.new.self (quiet_from g.D.Disk.content g.D.Disk.images g.D.Disk.moment g.D.Disk.left_since bytes c.args.disk.now (g.met.D.Disk.only_now c.args.disk.now) all) all c.len.ensures.images_kept c.len.ensures.time in
    let read = still g.D.Disk.content g.D.Disk.images g.D.Disk.moment g.D.Disk.left_since bytes c.args.disk.now c.len.new.self all c.len.ensures.kept c.len.ensures.images_kept in
    let size = told_of (g.D.Disk.content c.args.disk.now) bytes (λ b. c.in_ok-size.size ≡ length b) all.reads c.in_ok-size.ensures.size in
    let short : length bytes < 9 = omega (arith, size, c.if-size-lt9.true) in
    repaired g.D.Disk.content g.D.Disk.images g.D.Disk.moment g.D.Disk.left_since bytes c.args.disk.now c.len.new.self c.new_file.new.disk [] (inl (short, refl)) one (c.new_file.ensures.any_moment bytes short read)

pub returns-then-size-lt9-clause-any_moment : goal.returns-then-size-lt9-clause-any_moment
returns-then-size-lt9-clause-any_moment g c bytes all =
    let one = quiet_on g.D.Disk.content g.D.Disk.images g.D.Disk.moment g.D.Disk.left_since bytes c.args.disk.now c.args.disk.now c.len.new.self (quiet_from g.D.Disk.content g.D.Disk.images g.D.Disk.moment g.D.Disk.left_since bytes c.args.disk.now (g.met.D.Disk.only_now c.args.disk.now) all) all c.len.ensures.images_kept c.len.ensures.time in
    let read = still g.D.Disk.content g.D.Disk.images g.D.Disk.moment g.D.Disk.left_since bytes c.args.disk.now c.len.new.self all c.len.ensures.kept c.len.ensures.images_kept in
    let size = told_of (g.D.Disk.content c.args.disk.now) bytes (λ b. c.in_ok-size.size ≡ length b) all.reads c.in_ok-size.ensures.size in
    let short : length bytes < 9 = omega (arith, size, c.if-size-lt9.true) in
    repaired g.D.Disk.content g.D.Disk.images g.D.Disk.moment g.D.Disk.left_since bytes c.args.disk.now c.len.new.self c.new_file.new.disk [] (inl (short, refl)) one (c.new_file.ensures.any_moment bytes short read)

pub returns-in_err-tidy-clause-any_moment : goal.returns-in_err-tidy-clause-any_moment
returns-in_err-tidy-clause-any_moment g c bytes all =
    let one = quiet_on g.D.Disk.content g.D.Disk.images g.D.Disk.moment g.D.Disk.left_since bytes c.args.disk.now c.args.disk.now c.len.new.self (quiet_from g.D.Disk.content g.D.Disk.images g.D.Disk.moment g.D.Disk.left_since bytes c.args.disk.now (g.met.D.Disk.only_now c.args.disk.now) all) all c.len.ensures.images_kept c.len.ensures.time in
    let read = still g.D.Disk.content g.D.Disk.images g.D.Disk.moment g.D.Disk.left_since bytes c.args.disk.now c.len.new.self all c.len.ensures.kept c.len.ensures.images_kept in
    let size = told_of (g.D.Disk.content c.args.disk.now) bytes (λ b. c.in_ok-size.size ≡ length b) all.reads c.in_ok-size.ensures.size in
    let two = quiet_on g.D.Disk.content g.D.Disk.images g.D.Disk.moment g.D.Disk.left_since bytes c.args.disk.now c.len.new.self c.begins.new.disk one read c.begins.ensures.images_kept c.begins.ensures.time in
    let begun = still g.D.Disk.content g.D.Disk.images g.D.Disk.moment g.D.Disk.left_since bytes c.len.new.self c.begins.new.disk read c.begins.ensures.kept c.begins.ensures.images_kept in
    let three = walk_quiet g.D.Disk.content g.D.Disk.images g.D.Disk.moment g.D.Disk.left_since bytes c.args.disk.now c.begins.new.disk c.walk.new.disk two begun c.walk.ensures.quiet in
    let walked = still g.D.Disk.content g.D.Disk.images g.D.Disk.moment g.D.Disk.left_since bytes c.begins.new.disk c.walk.new.disk begun c.walk.ensures.kept c.walk.ensures.images_kept in
    let w = told_of (g.D.Disk.content c.begins.new.disk) bytes (λ b. IsWalked b c.in-Ok.w.end c.in-Ok.w.records c.in-Ok.w.commit) begun.reads c.in-Ok.ensures.found in
    let all_of = subst (λ (b : List ℕ). IsAllOf b (g.D.Disk.content c.walk.new.disk) (g.D.Disk.images c.walk.new.disk)) w.are walked in
    repaired g.D.Disk.content g.D.Disk.images g.D.Disk.moment g.D.Disk.left_since bytes c.args.disk.now c.walk.new.disk c.tidy.new.disk w.payloads (walked_gives bytes _ _ _ w) three (c.tidy.ensures.any_moment w.payloads w.tail w.payloads_are w.unset w.at_is all_of)

pub returns-clause-any_moment : goal.returns-clause-any_moment
returns-clause-any_moment g c bytes all =
    let one = quiet_on g.D.Disk.content g.D.Disk.images g.D.Disk.moment g.D.Disk.left_since bytes c.args.disk.now c.args.disk.now c.len.new.self (quiet_from g.D.Disk.content g.D.Disk.images g.D.Disk.moment g.D.Disk.left_since bytes c.args.disk.now (g.met.D.Disk.only_now c.args.disk.now) all) all c.len.ensures.images_kept c.len.ensures.time in
    let read = still g.D.Disk.content g.D.Disk.images g.D.Disk.moment g.D.Disk.left_since bytes c.args.disk.now c.len.new.self all c.len.ensures.kept c.len.ensures.images_kept in
    let size = told_of (g.D.Disk.content c.args.disk.now) bytes (λ b. c.in_ok-size.size ≡ length b) all.reads c.in_ok-size.ensures.size in
    let two = quiet_on g.D.Disk.content g.D.Disk.images g.D.Disk.moment g.D.Disk.left_since bytes c.args.disk.now c.len.new.self c.begins.new.disk one read c.begins.ensures.images_kept c.begins.ensures.time in
    let begun = still g.D.Disk.content g.D.Disk.images g.D.Disk.moment g.D.Disk.left_since bytes c.len.new.self c.begins.new.disk read c.begins.ensures.kept c.begins.ensures.images_kept in
    let three = walk_quiet g.D.Disk.content g.D.Disk.images g.D.Disk.moment g.D.Disk.left_since bytes c.args.disk.now c.begins.new.disk c.walk.new.disk two begun c.walk.ensures.quiet in
    let walked = still g.D.Disk.content g.D.Disk.images g.D.Disk.moment g.D.Disk.left_since bytes c.begins.new.disk c.walk.new.disk begun c.walk.ensures.kept c.walk.ensures.images_kept in
    let w = told_of (g.D.Disk.content c.begins.new.disk) bytes (λ b. IsWalked b c.in-Ok.w.end c.in-Ok.w.records c.in-Ok.w.commit) begun.reads c.in-Ok.ensures.found in
    let all_of = subst (λ (b : List ℕ). IsAllOf b (g.D.Disk.content c.walk.new.disk) (g.D.Disk.images c.walk.new.disk)) w.are walked in
    repaired g.D.Disk.content g.D.Disk.images g.D.Disk.moment g.D.Disk.left_since bytes c.args.disk.now c.walk.new.disk c.tidy.new.disk w.payloads (walked_gives bytes _ _ _ w) three (c.tidy.ensures.any_moment w.payloads w.tail w.payloads_are w.unset w.at_is all_of)

pub returns-then-size-lt9-clause-started : goal.returns-then-size-lt9-clause-started
returns-then-size-lt9-clause-started g c bytes all =
    let read = still g.D.Disk.content g.D.Disk.images g.D.Disk.moment g.D.Disk.left_since bytes c.args.disk.now c.len.new.self all c.len.ensures.kept c.len.ensures.images_kept in
    let size = told_of (g.D.Disk.content c.args.disk.now) bytes (λ b. c.in_ok-size.size ≡ length b) all.reads c.in_ok-size.ensures.size in
    let short : length bytes < 9 = omega (arith, size, c.if-size-lt9.true) in
    record {
      payloads = [];
      gives = inl (short, refl);
      payloads_are = λ k p lt. absurd (omega (arith, lt));
      end_is = sym length-front_nil;
      records_are = refl;
      settled = c.in_ok-new_file.ensures.made bytes short read;
    }

pub returns-in-Err-clause-no_journal_at : goal.returns-in-Err-clause-no_journal_at
returns-in-Err-clause-no_journal_at g c place same bytes all =
    let is : c.in-Err.fault ≡ NotAJournal place = cc in
    let read = still g.D.Disk.content g.D.Disk.images g.D.Disk.moment g.D.Disk.left_since bytes c.args.disk.now c.len.new.self all c.len.ensures.kept c.len.ensures.images_kept in
    let begun = still g.D.Disk.content g.D.Disk.images g.D.Disk.moment g.D.Disk.left_since bytes c.len.new.self c.begins.new.disk read c.begins.ensures.kept c.begins.ensures.images_kept in
    inr (told_of (g.D.Disk.content c.begins.new.disk) bytes (λ b. IsNoRecordAt b place) begun.reads (c.in-Err.ensures.no_journal place (ap Err is)))

pub returns-in_err-new_file-clause-not_memory : goal.returns-in_err-new_file-clause-not_memory
returns-in_err-new_file-clause-not_memory g c memory bytes place all no_journal =
    let size = told_of (g.D.Disk.content c.args.disk.now) bytes (λ b. c.in_ok-size.size ≡ length b) all.reads c.in_ok-size.ensures.size in
    no_journal_long bytes place no_journal (omega (arith, size, c.if-size-lt9.true))

pub returns-in_err-tidy-clause-not_memory : goal.returns-in_err-tidy-clause-not_memory
returns-in_err-tidy-clause-not_memory g c memory bytes place all no_journal =
    let read = still g.D.Disk.content g.D.Disk.images g.D.Disk.moment g.D.Disk.left_since bytes c.args.disk.now c.len.new.self all c.len.ensures.kept c.len.ensures.images_kept in
    let begun = still g.D.Disk.content g.D.Disk.images g.D.Disk.moment g.D.Disk.left_since bytes c.len.new.self c.begins.new.disk read c.begins.ensures.kept c.begins.ensures.images_kept in
    let w = told_of (g.D.Disk.content c.begins.new.disk) bytes (λ b. IsWalked b c.in-Ok.w.end c.in-Ok.w.records c.in-Ok.w.commit) begun.reads c.in-Ok.ensures.found in
    no_journal_gives bytes place no_journal w.payloads (walked_gives bytes _ _ _ w)
