use Rattle.sse_outside.specs.Changes.{CutTo}
use Rattle.outside_memory_disk.specs.DiskCalls.{changes_of}
use Rattle.outside_memory_disk.proofs.Behind.{image_back, elapses_more}
use Rattle.outside_memory_disk.proofs.Replayed.{replayed_more}
use Rattle.outside_memory_disk.proofs.recorded.Recorded.cut.Goals as goal

pub invariant_of-self-2-clause-replayed : goal.invariant_of-self-2-clause-replayed
invariant_of-self-2-clause-replayed c = replayed_more c.args.self.now.first.items c.args.self.now.bytes.items c.truncate.new.self.items (changes_of c.args.self.now.calls.items) (changes_of c.note.new.calls.items) (CutTo c.args.len) c.args.self.now.replayed c.in_ok-note.ensures.ok c.truncate.ensures.items

pub returns-clause-torn : goal.returns-clause-torn
returns-clause-torn c = image_back c.args.self.now.first.items (changes_of c.args.self.now.calls.items) (changes_of c.note.new.calls.items) (CutTo c.args.len) c.in_ok-note.ensures.ok

pub returns-clause-time : goal.returns-clause-time
returns-clause-time c = elapses_more c.args.self.now.first.items (changes_of c.args.self.now.calls.items) (changes_of c.note.new.calls.items) (CutTo c.args.len) c.in_ok-note.ensures.ok
