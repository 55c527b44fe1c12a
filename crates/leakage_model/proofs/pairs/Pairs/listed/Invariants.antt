use Rattle.std.proofs.Common.{◌≡◌, map, take}
use Rattle.leakage_frames.specs.Views.{listed_view}
use Rattle.leakage_model.proofs.pairs.Pairs.listed.Given as goal

abbrev pub invariant-loop-place : goal.invariant-loop-place
invariant-loop-place l = map listed_view l.listed ≡ take l.place l.self
