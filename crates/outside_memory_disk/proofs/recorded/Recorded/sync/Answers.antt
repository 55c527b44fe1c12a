use Rattle.std.proofs.Common.{refl}
use Rattle.sse_outside.specs.Changes.{Synced}
use Rattle.outside_memory_disk.specs.DiskCalls.{changes_of}
use Rattle.outside_memory_disk.proofs.Behind.{elapses_more, only_synced, no_other}
use Rattle.outside_memory_disk.proofs.Replayed.{replayed_kept}
use Rattle.outside_memory_disk.proofs.recorded.Recorded.sync.Goals as goal

pub invariant_of-self-clause-replayed : goal.invariant_of-self-clause-replayed
invariant_of-self-clause-replayed c = replayed_kept c.note.result c.args.self.now.first.items c.args.self.now.bytes.items (changes_of c.args.self.now.calls.items) (changes_of c.note.new.calls.items) Synced c.args.self.now.replayed (λ file. refl) c.note.ensures.ok c.note.ensures.err

pub returns-clause-durable : goal.returns-clause-durable
returns-clause-durable c image is = only_synced c.args.self.now.first.items (changes_of c.args.self.now.calls.items) (changes_of c.note.new.calls.items) c.in_ok-note.ensures.ok c.args.self.now.bytes.items image c.args.self.now.replayed is

pub returns-clause-images_kept : goal.returns-clause-images_kept
returns-clause-images_kept c = no_other c.args.self.now.first.items (changes_of c.args.self.now.calls.items) (changes_of c.note.new.calls.items) c.in_ok-note.ensures.ok

pub returns-clause-time : goal.returns-clause-time
returns-clause-time c = elapses_more c.args.self.now.first.items (changes_of c.args.self.now.calls.items) (changes_of c.note.new.calls.items) Synced c.in_ok-note.ensures.ok
