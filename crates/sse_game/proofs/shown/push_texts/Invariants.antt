use Rattle.std.proofs.Common.{◌≡◌, ◌++◌, take}
use Rattle.sse_game.proofs.shown.push_texts.Given as goal

abbrev pub invariant-loop-text : goal.invariant-loop-text
invariant-loop-text l = l.seen ≡ l.initial.seen ++ take l.text-index l.texts
