-- The contents of tables, as a value.
use Rattle.std.specs.Prelude.{ℕ, List, [], refl}
use Rattle.std.specs.Ordering.{nat_cmp}
use Rattle.std.specs.Cmp.Lexicographic.{slice_cmp}
use Rattle.std.specs.Coded.{Coded, code_by, coded×, coded_list}
use Rattle.std.specs.FinMap as map
use Rattle.std.specs.FinSet as set
use Rattle.server_tables.specs.Labelled.{Labelled, labelled_code, bytes_code}

-- cells by their labels, both as bytes
abbrev pub CellMap : Type 0
CellMap = Labelled (List ℕ)

-- numbers of 16 bytes
abbrev pub NumberSet : Type 0
NumberSet = set.FinSet (slice_cmp nat_cmp)

pub record Contents : Type 0 where
  -- from list labels to encrypted cells, and the encrypted blocks by their places
  pub dictionary : CellMap
  pub array : List (List ℕ)
  -- from addition labels to encrypted identifiers, and the numbers of what was deleted
  pub additions : CellMap
  pub revoked : NumberSet

-- of nothing
abbrev pub no_contents : Contents
no_contents = record { dictionary = map.empty; array = []; additions = map.empty; revoked = set.empty }

-- the code by which a proof tells contents apart
abbrev pub contents_code : Coded Contents
contents_code =
    code_by (CellMap × (List (List ℕ) × (CellMap × NumberSet))) (coded× (labelled_code bytes_code) (coded× (coded_list bytes_code) (coded× (labelled_code bytes_code) (set.code bytes_code)))) (λ c. (c.dictionary, (c.array, (c.additions, c.revoked)))) (λ p. record { dictionary = p.0; array = p.1.0; additions = p.1.1.0; revoked = p.1.1.1 }) (λ _. refl)
