use Rattle.std.proofs.Common.{◌≡◌, None, List, ℕ, map, take}
use Rattle.std.specs.BTreeSet.{contains_by}
use Rattle.std.specs.Cmp.Lexicographic.{slice_cmp}
use Rattle.std.specs.List.{list_any}
use Rattle.std.specs.Ordering.{nat_cmp}
use Rattle.std.specs.Str.{bytes_eq}
use Rattle.client_registry.specs.DocumentRule.{first_repeat as least_repeat}
use Rattle.client_registry.specs.WordBytes.{word_bytes as bytes_of}
use Rattle.client_registry.proofs.document.first_in_set.Given as goal
use denote.Bor.{Bor}

abbrev pub invariant-loop-position : goal.invariant-loop-position
invariant-loop-position l = record {
  clear : least_repeat (map bytes_of (take l.position l.words)) ≡ None;
  seen : (q : Bor (List ℕ)) → contains_by (λ (k : Bor (List ℕ)). slice_cmp nat_cmp q.now k.now) l.seen ≡ list_any (bytes_eq q.now) (map bytes_of (take l.position l.words));
}
