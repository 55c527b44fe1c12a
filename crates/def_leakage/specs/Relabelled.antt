-- A table relabelled from one run to another of equal leakage: each name of the other run gets the value of the first run's name at the same place.
-- A pad is shifted so that it covers the other plaintext by the same bytes.
use Rattle.std.specs.Prelude.{List, [], ◌∷◌, ◌++◌, map, flat_map, zip, ℕ, Option, None, Some, if◌then◌else◌}
use Rattle.client_registry.specs.Run.{Run, Offsets}
use Rattle.keyed_fn.specs.Xored.{xored}
use Rattle.def_leakage.specs.DrawnValues.{Drawing, ForEntry, ForBlock, ForNumber, ForToken, drawings}
use Rattle.sse_model.specs.Drawn.{probed}
use Rattle.sse_model.specs.Names.{Name, Table, same_name}
use Rattle.sse_model.specs.Positions.{Position, block_positions, ranks_of}
use Rattle.sse_model.specs.Wire.{labels_in}

-- a name whose value is used, and the plaintext that the value covers where the name is a pad that is drawn
pub record Use : Type 0 where
  pub name : Name
  pub text : Option (List ℕ)

abbrev pub bare : Name → Use
bare n = record { name = n; text = None }

-- of an encrypted text its label or tag, then its pad with the plaintext under these ranks
abbrev pub uses_at : (ranks : List ℕ) → Position → List Use
uses_at ranks p = bare p.label ∷ record { name = p.pad; text = Some (p.clear ranks) } ∷ []

abbrev pub uses_in : (ranks : List ℕ) → Drawing → List Use
uses_in ranks (ForEntry p) = uses_at ranks p
uses_in ranks (ForBlock p) = uses_at ranks p
uses_in ranks (ForNumber n) = bare n ∷ []
uses_in ranks (ForToken n) = bare n ∷ []

-- all that a run draws, the setup's blocks having these ranks, then all that a server looks up for it, repeats included
abbrev pub uses : Offsets → Run → (ranks : List ℕ) → List Use
uses o run ranks = flat_map (flat_map (uses_in ranks)) (drawings o run) ++ map bare (flat_map (λ ns. ns) (probed o run))

-- a value that stands for another name: a pad is shifted from the plaintext that it covers to the one that it is to cover
abbrev pub shifted : (value : List ℕ) → (text other : Option (List ℕ)) → List ℕ
shifted value None other = value
shifted value (Some text) None = value
shifted value (Some text) (Some other) = xored (xored value text) other

-- of a use in the one run and the use at its place in the other: the value of the one's name, for the other's
abbrev pub value_for : Table → Use → Use → List ℕ
value_for t one other = shifted (t one.name) one.text other.text

-- the value of a name by the first place at which the other run uses it
abbrev pub value_among : Table → List (Use × Use) → Table
value_among t [] n = []
value_among t (pair ∷ pairs) n = if same_name n pair.1.name then value_for t pair.0 pair.1 else value_among t pairs n

-- the table for the other run. No tag is a pad, so the tags of both runs, and with them the ranks, are the first run's
abbrev pub relabelled : Offsets → (run other : Run) → Table → Table
relabelled o run other t =
    let ranks = ranks_of (labels_in t (block_positions o.epoch run.setup)) in
    value_among t (zip (uses o run ranks) (uses o other ranks))
