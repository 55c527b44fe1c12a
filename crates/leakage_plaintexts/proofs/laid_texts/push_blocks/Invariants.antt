use Rattle.std.proofs.Common.{◌≡◌, ◌++◌}
use Rattle.index_setup.specs.SizeOf.{setup_sized}
use Rattle.leakage_plaintexts.proofs.ListWalk.{blocks_left, Left}
use Rattle.leakage_plaintexts.proofs.laid_texts.push_blocks.Given as goal

-- the words from w on are left
abbrev pub invariant-loop-w : goal.invariant-loop-w
invariant-loop-w l = record {
  left : Left (setup_sized l.docs.documents l.size) l.fn.ranks l.w l.ids l.ranks;
  texts : l.texts ++ blocks_left (setup_sized l.docs.documents l.size) l.fn.ranks l.w ≡ l.fn.texts ++ blocks_left (setup_sized l.docs.documents l.size) l.fn.ranks 0;
}
