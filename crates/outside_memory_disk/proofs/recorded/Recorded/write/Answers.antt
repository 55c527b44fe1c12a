use Rattle.std.proofs.Common.{◌≡◌, ◌∙◌, List, ℕ, length, ap, sym, subst, rules}
use Rattle.sse_outside.specs.Images.{overwritten, Torn}
use Rattle.sse_outside.specs.Changes.{Wrote, IsImage}
use Rattle.outside_memory_disk.specs.DiskCalls.{changes_of}
use Rattle.outside_memory_disk.proofs.Behind.{image_back, elapses_more}
use Rattle.outside_memory_disk.proofs.Replayed.{replayed_more}
use Rattle.outside_memory_disk.proofs.recorded.Recorded.write.Goals as goal

pub invariant_of-self-2-clause-replayed : goal.invariant_of-self-2-clause-replayed
invariant_of-self-2-clause-replayed c =
    let same : c.in_ok-kept.kept.items ≡ c.args.bytes.now = search rules in
    replayed_more c.args.self.now.first.items c.args.self.now.bytes.items c.overwrite.new.file.items (changes_of c.args.self.now.calls.items) (changes_of c.note.new.calls.items) (Wrote c.args.at c.in_ok-kept.kept.items) c.args.self.now.replayed c.in_ok-note.ensures.ok
    (c.overwrite.ensures ∙ ap (λ (file : List ℕ). overwritten c.args.at c.args.bytes.now file) c.in_ok-reserve.ensures.items ∙ ap (λ (bytes : List ℕ). overwritten c.args.at bytes c.args.self.now.bytes.items) (sym same))

pub returns-clause-torn : goal.returns-clause-torn
returns-clause-torn c =
    let same : length c.in_ok-kept.kept.items ≡ length c.args.bytes.now = search rules in
    λ image is. subst (λ (n : ℕ). (d : List ℕ) × IsImage c.args.self.now.first.items (changes_of c.args.self.now.calls.items) d × Torn c.args.at n d image) same
    (image_back c.args.self.now.first.items (changes_of c.args.self.now.calls.items) (changes_of c.note.new.calls.items) (Wrote c.args.at c.in_ok-kept.kept.items) c.in_ok-note.ensures.ok image is)

pub returns-clause-time : goal.returns-clause-time
returns-clause-time c = elapses_more c.args.self.now.first.items (changes_of c.args.self.now.calls.items) (changes_of c.note.new.calls.items) (Wrote c.args.at c.in_ok-kept.kept.items) c.in_ok-note.ensures.ok
