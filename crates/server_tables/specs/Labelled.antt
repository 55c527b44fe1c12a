-- Values by their labels.
use Rattle.std.specs.Prelude.{ℕ, List}
use Rattle.std.specs.Ordering.{nat_cmp}
use Rattle.std.specs.Cmp.Lexicographic.{slice_cmp}
use Rattle.std.specs.Coded.{Coded, coded_list, coded_ℕ}
use Rattle.std.specs.FinMap as map

-- from labels to values; a label is compared byte by byte
abbrev pub Labelled : Type 0 → Type 0
Labelled V = map.FinMap (slice_cmp nat_cmp) V

abbrev pub bytes_code : Coded (List ℕ)
bytes_code = coded_list coded_ℕ

abbrev pub labelled_code : {V : Type 0} → Coded V → Coded (Labelled V)
labelled_code code = map.code bytes_code code
