use Rattle.std.specs.Prelude.{IfSome, Option}
use Rattle.std.proofs.Common.{◌∙◌, ◌+◌, ◌≤◌, ◌∷◌, [], List, ℕ, length, sym, subst}
use Rattle.sse_journal.specs.Files.{GivesWithOrWithout}
use Rattle.sse_journal.proofs.Moments.{goes_on}
use Rattle.sse_journal.proofs.Append.{begun, images_behind, content_behind, images_at, content_at, only_synced, long_behind, no_shorter_behind}
use Rattle.sse_journal.proofs.append_steps.append_at.Goals as goal

pub returns-in_err-write_at-clause-any_moment : goal.returns-in_err-write_at-clause-any_moment
returns-in_err-write_at-clause-any_moment g c payload payloads is body_is are ends settled =
    let P = (GivesWithOrWithout payloads payload) in
    let first = begun g.D.Disk.content g.D.Disk.images g.D.Disk.moment g.D.Disk.left_since payloads payload are is c.args.end ends c.args.body.now body_is c.args.disk.now (g.met.D.Disk.only_now c.args.disk.now) settled in
    let behind = images_behind g.D.Disk.content g.D.Disk.images g.D.Disk.moment g.D.Disk.left_since payloads payload are is c.args.end ends c.args.body.now body_is c.args.disk.now c.write_at.new.self settled c.write_at.ensures.torn in
    let one = goes_on g.D.Disk.moment g.D.Disk.left_since c.args.disk.now c.args.disk.now c.write_at.new.self P _ first c.write_at.ensures.time behind in
    one

pub returns-in_err-sync-clause-any_moment : goal.returns-in_err-sync-clause-any_moment
returns-in_err-sync-clause-any_moment g c payload payloads is body_is are ends settled =
    let P = (GivesWithOrWithout payloads payload) in
    let first = begun g.D.Disk.content g.D.Disk.images g.D.Disk.moment g.D.Disk.left_since payloads payload are is c.args.end ends c.args.body.now body_is c.args.disk.now (g.met.D.Disk.only_now c.args.disk.now) settled in
    let behind = images_behind g.D.Disk.content g.D.Disk.images g.D.Disk.moment g.D.Disk.left_since payloads payload are is c.args.end ends c.args.body.now body_is c.args.disk.now c.write_at.new.self settled c.write_at.ensures.torn in
    let one = goes_on g.D.Disk.moment g.D.Disk.left_since c.args.disk.now c.args.disk.now c.write_at.new.self P _ first c.write_at.ensures.time behind in
    let two = goes_on g.D.Disk.moment g.D.Disk.left_since c.args.disk.now c.write_at.new.self c.sync.new.self P _ one c.sync.ensures.time (λ f left. behind f (c.sync.ensures.images_kept f left)) in
    two

pub returns-in_err-write_at-2-clause-any_moment : goal.returns-in_err-write_at-2-clause-any_moment
returns-in_err-write_at-2-clause-any_moment g c payload payloads is body_is are ends settled =
    let P = (GivesWithOrWithout payloads payload) in
    let first = begun g.D.Disk.content g.D.Disk.images g.D.Disk.moment g.D.Disk.left_since payloads payload are is c.args.end ends c.args.body.now body_is c.args.disk.now (g.met.D.Disk.only_now c.args.disk.now) settled in
    let behind = images_behind g.D.Disk.content g.D.Disk.images g.D.Disk.moment g.D.Disk.left_since payloads payload are is c.args.end ends c.args.body.now body_is c.args.disk.now c.write_at.new.self settled c.write_at.ensures.torn in
    let one = goes_on g.D.Disk.moment g.D.Disk.left_since c.args.disk.now c.args.disk.now c.write_at.new.self P _ first c.write_at.ensures.time behind in
    let two = goes_on g.D.Disk.moment g.D.Disk.left_since c.args.disk.now c.write_at.new.self c.sync.new.self P _ one c.sync.ensures.time (λ f left. behind f (c.sync.ensures.images_kept f left)) in
    let staged_is = content_behind g.D.Disk.content g.D.Disk.images g.D.Disk.moment g.D.Disk.left_since payloads payload are is c.args.end ends c.args.body.now body_is c.args.disk.now c.write_at.new.self settled c.in_ok-write_at.ensures.written in
    let only = only_synced (g.D.Disk.content c.write_at.new.self) (g.D.Disk.images c.sync.new.self) _ staged_is c.in_ok-sync.ensures.durable in
    let at = images_at g.D.Disk.content g.D.Disk.images g.D.Disk.moment g.D.Disk.left_since payloads payload are is c.args.end ends c.args.body.now body_is c.sync.new.self c.write_at-2.new.self only c.write_at-2.ensures.torn in
    let three = goes_on g.D.Disk.moment g.D.Disk.left_since c.args.disk.now c.sync.new.self c.write_at-2.new.self P _ two c.write_at-2.ensures.time at in
    three

pub returns-in_err-sync-2-clause-any_moment : goal.returns-in_err-sync-2-clause-any_moment
returns-in_err-sync-2-clause-any_moment g c payload payloads is body_is are ends settled =
    let P = (GivesWithOrWithout payloads payload) in
    let first = begun g.D.Disk.content g.D.Disk.images g.D.Disk.moment g.D.Disk.left_since payloads payload are is c.args.end ends c.args.body.now body_is c.args.disk.now (g.met.D.Disk.only_now c.args.disk.now) settled in
    let behind = images_behind g.D.Disk.content g.D.Disk.images g.D.Disk.moment g.D.Disk.left_since payloads payload are is c.args.end ends c.args.body.now body_is c.args.disk.now c.write_at.new.self settled c.write_at.ensures.torn in
    let one = goes_on g.D.Disk.moment g.D.Disk.left_since c.args.disk.now c.args.disk.now c.write_at.new.self P _ first c.write_at.ensures.time behind in
    let two = goes_on g.D.Disk.moment g.D.Disk.left_since c.args.disk.now c.write_at.new.self c.sync.new.self P _ one c.sync.ensures.time (λ f left. behind f (c.sync.ensures.images_kept f left)) in
    let staged_is = content_behind g.D.Disk.content g.D.Disk.images g.D.Disk.moment g.D.Disk.left_since payloads payload are is c.args.end ends c.args.body.now body_is c.args.disk.now c.write_at.new.self settled c.in_ok-write_at.ensures.written in
    let only = only_synced (g.D.Disk.content c.write_at.new.self) (g.D.Disk.images c.sync.new.self) _ staged_is c.in_ok-sync.ensures.durable in
    let at = images_at g.D.Disk.content g.D.Disk.images g.D.Disk.moment g.D.Disk.left_since payloads payload are is c.args.end ends c.args.body.now body_is c.sync.new.self c.write_at-2.new.self only c.write_at-2.ensures.torn in
    let three = goes_on g.D.Disk.moment g.D.Disk.left_since c.args.disk.now c.sync.new.self c.write_at-2.new.self P _ two c.write_at-2.ensures.time at in
    let four = goes_on g.D.Disk.moment g.D.Disk.left_since c.args.disk.now c.write_at-2.new.self c.sync-2.new.self P _ three c.sync-2.ensures.time (λ f left. at f (c.sync-2.ensures.images_kept f left)) in
    four

pub returns-clause-any_moment : goal.returns-clause-any_moment
returns-clause-any_moment g c payload payloads is body_is are ends settled =
    let P = (GivesWithOrWithout payloads payload) in
    let first = begun g.D.Disk.content g.D.Disk.images g.D.Disk.moment g.D.Disk.left_since payloads payload are is c.args.end ends c.args.body.now body_is c.args.disk.now (g.met.D.Disk.only_now c.args.disk.now) settled in
    let behind = images_behind g.D.Disk.content g.D.Disk.images g.D.Disk.moment g.D.Disk.left_since payloads payload are is c.args.end ends c.args.body.now body_is c.args.disk.now c.write_at.new.self settled c.write_at.ensures.torn in
    let one = goes_on g.D.Disk.moment g.D.Disk.left_since c.args.disk.now c.args.disk.now c.write_at.new.self P _ first c.write_at.ensures.time behind in
    let two = goes_on g.D.Disk.moment g.D.Disk.left_since c.args.disk.now c.write_at.new.self c.sync.new.self P _ one c.sync.ensures.time (λ f left. behind f (c.sync.ensures.images_kept f left)) in
    let staged_is = content_behind g.D.Disk.content g.D.Disk.images g.D.Disk.moment g.D.Disk.left_since payloads payload are is c.args.end ends c.args.body.now body_is c.args.disk.now c.write_at.new.self settled c.in_ok-write_at.ensures.written in
    let only = only_synced (g.D.Disk.content c.write_at.new.self) (g.D.Disk.images c.sync.new.self) _ staged_is c.in_ok-sync.ensures.durable in
    let at = images_at g.D.Disk.content g.D.Disk.images g.D.Disk.moment g.D.Disk.left_since payloads payload are is c.args.end ends c.args.body.now body_is c.sync.new.self c.write_at-2.new.self only c.write_at-2.ensures.torn in
    let three = goes_on g.D.Disk.moment g.D.Disk.left_since c.args.disk.now c.sync.new.self c.write_at-2.new.self P _ two c.write_at-2.ensures.time at in
    let four = goes_on g.D.Disk.moment g.D.Disk.left_since c.args.disk.now c.write_at-2.new.self c.sync-2.new.self P _ three c.sync-2.ensures.time (λ f left. at f (c.sync-2.ensures.images_kept f left)) in
    four

pub returns-clause-added : goal.returns-clause-added
returns-clause-added g c payload payloads is body_is are ends settled =
    let staged_is = content_behind g.D.Disk.content g.D.Disk.images g.D.Disk.moment g.D.Disk.left_since payloads payload are is c.args.end ends c.args.body.now body_is c.args.disk.now c.write_at.new.self settled c.in_ok-write_at.ensures.written in
    let reads = content_at g.D.Disk.content g.D.Disk.images g.D.Disk.moment g.D.Disk.left_since payloads payload are is c.args.end ends c.args.body.now body_is c.sync.new.self c.write_at-2.new.self (c.in_ok-sync.ensures.kept ∙ staged_is) c.in_ok-write_at-2.ensures.written in
    record {
      reads = c.in_ok-sync-2.ensures.kept ∙ reads;
      durable = only_synced (g.D.Disk.content c.write_at-2.new.self) (g.D.Disk.images c.sync-2.new.self) _ reads c.in_ok-sync-2.ensures.durable;
    }

pub returns-clause-within : goal.returns-clause-within
returns-clause-within g c =
    let begun = subst (λ (o : Option (List ℕ)). IfSome o (λ f. c.args.end + 1 + length c.args.body.now ≤ length f)) (sym c.in_ok-write_at.ensures.written) (long_behind (g.D.Disk.content c.args.disk.now) (c.args.end + 1) c.args.body.now c.requires.within) in
    let synced = subst (λ (o : Option (List ℕ)). IfSome o (λ f. c.args.end + 1 + length c.args.body.now ≤ length f)) (sym c.in_ok-sync.ensures.kept) begun in
    let set = subst (λ (o : Option (List ℕ)). IfSome o (λ f. c.args.end + 1 + length c.args.body.now ≤ length f)) (sym c.in_ok-write_at-2.ensures.written) (no_shorter_behind (g.D.Disk.content c.sync.new.self) c.args.end (c.args.end + 1 + length c.args.body.now) (1 ∷ []) synced) in
    subst (λ (o : Option (List ℕ)). IfSome o (λ f. c.args.end + 1 + length c.args.body.now ≤ length f)) (sym c.in_ok-sync-2.ensures.kept) set
