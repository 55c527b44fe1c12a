use Rattle.std.proofs.Common.{◌≡◌, filter, map, not, take}
use Rattle.leakage_model.proofs.pairs.Pairs.found.Given as goal

abbrev pub invariant-loop-place : goal.invariant-loop-place
invariant-loop-place l = l.found ≡ map (λ p. p.id) (filter (λ p. not p.revoked) (take l.place l.self))
