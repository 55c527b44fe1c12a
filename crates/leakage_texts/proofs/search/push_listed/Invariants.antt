use Rattle.std.proofs.Common.{◌≡◌, ◌++◌, map, take, string_bytes}
use Rattle.std.specs.Prelude.{flat_map}
use Rattle.leakage_frames.specs.Views.{listed_view}
use Rattle.leakage_texts.specs.LeakTexts.{pair_text}
use Rattle.leakage_texts.proofs.search.push_listed.Given as goal

abbrev pub invariant-loop-pair : goal.invariant-loop-pair
invariant-loop-pair l = string_bytes l.line ≡ string_bytes l.initial.line ++ flat_map pair_text (take l.pair-index (map listed_view l.listed))
