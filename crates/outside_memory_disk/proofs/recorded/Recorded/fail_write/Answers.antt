use Rattle.std.proofs.Common.{◌≡◌, List, ℕ, length, refl, subst, rules}
use Rattle.sse_outside.specs.Images.{Torn}
use Rattle.sse_outside.specs.Changes.{FailedToWrite, IsImage}
use Rattle.outside_memory_disk.specs.DiskCalls.{changes_of}
use Rattle.outside_memory_disk.proofs.Behind.{image_back, elapses_more}
use Rattle.outside_memory_disk.proofs.Replayed.{replayed_kept}
use Rattle.outside_memory_disk.proofs.recorded.Recorded.fail_write.Goals as goal

pub invariant_of-self-clause-replayed : goal.invariant_of-self-clause-replayed
invariant_of-self-clause-replayed c = replayed_kept c.note.result c.args.self.now.first.items c.args.self.now.bytes.items (changes_of c.args.self.now.calls.items) (changes_of c.note.new.calls.items) (FailedToWrite c.args.at c.in_ok-kept.kept.items) c.args.self.now.replayed (λ file. refl) c.note.ensures.ok c.note.ensures.err

pub returns-clause-torn : goal.returns-clause-torn
returns-clause-torn c =
    let same : length c.in_ok-kept.kept.items ≡ length c.args.bytes.now = search rules in
    λ image is. subst (λ (n : ℕ). (d : List ℕ) × IsImage c.args.self.now.first.items (changes_of c.args.self.now.calls.items) d × Torn c.args.at n d image) same
    (image_back c.args.self.now.first.items (changes_of c.args.self.now.calls.items) (changes_of c.note.new.calls.items) (FailedToWrite c.args.at c.in_ok-kept.kept.items) c.in_ok-note.ensures.ok image is)

pub returns-clause-time : goal.returns-clause-time
returns-clause-time c = elapses_more c.args.self.now.first.items (changes_of c.args.self.now.calls.items) (changes_of c.note.new.calls.items) (FailedToWrite c.args.at c.in_ok-kept.kept.items) c.in_ok-note.ensures.ok
