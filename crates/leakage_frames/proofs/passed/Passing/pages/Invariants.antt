use Rattle.std.proofs.Common.{◌≡◌, ◌++◌, map, drop}
use Rattle.list_packing.specs.Parts.{parts}
use Rattle.sse_frames.specs.Replies.{reply_bytes}
use Rattle.leakage_frames.proofs.PageLaws.{paged}
use Rattle.leakage_frames.proofs.passed.Passing.pages.Given as goal

abbrev pub invariant-loop-i : goal.invariant-loop-i
invariant-loop-i l = record {
  texts : l.self.texts ++ map reply_bytes (paged (drop l.i (parts 8192 l.ids))) ≡ l.fn.self.texts ++ map reply_bytes (paged (parts 8192 l.ids));
  next : l.self.next ≡ l.fn.self.next;
}
