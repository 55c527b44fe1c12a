use Rattle.std.proofs.Common.{refl}
use Rattle.sse_outside.specs.Changes.{FailedToCut}
use Rattle.outside_memory_disk.specs.DiskCalls.{changes_of}
use Rattle.outside_memory_disk.proofs.Behind.{image_back, elapses_more}
use Rattle.outside_memory_disk.proofs.Replayed.{replayed_kept}
use Rattle.outside_memory_disk.proofs.recorded.Recorded.fail_cut.Goals as goal

pub invariant_of-self-clause-replayed : goal.invariant_of-self-clause-replayed
invariant_of-self-clause-replayed c = replayed_kept c.note.result c.args.self.now.first.items c.args.self.now.bytes.items (changes_of c.args.self.now.calls.items) (changes_of c.note.new.calls.items) (FailedToCut c.args.len) c.args.self.now.replayed (λ file. refl) c.note.ensures.ok c.note.ensures.err

pub returns-clause-torn : goal.returns-clause-torn
returns-clause-torn c = image_back c.args.self.now.first.items (changes_of c.args.self.now.calls.items) (changes_of c.note.new.calls.items) (FailedToCut c.args.len) c.in_ok-note.ensures.ok

pub returns-clause-time : goal.returns-clause-time
returns-clause-time c = elapses_more c.args.self.now.first.items (changes_of c.args.self.now.calls.items) (changes_of c.note.new.calls.items) (FailedToCut c.args.len) c.in_ok-note.ensures.ok
