-- Records put one after another where they last, as in a journal on a disk: those that were taken, and one that was refused.
use Rattle.std.specs.Prelude.{ℕ, List, ◌++◌, Option, option_map}

-- the records that were taken, in order, where they are told; and one that was refused, which a crash may leave behind them or not
pub record Kept : Type 0 where
  pub records : Option (List (List ℕ))
  pub refused : List (List ℕ)

-- with these records taken behind those of before
abbrev pub with_records : List (List ℕ) → Kept → Kept
with_records more kept = record { records = option_map (λ all. all ++ more) kept.records; refused = kept.refused }

-- with these records refused
abbrev pub with_refused : List (List ℕ) → Kept → Kept
with_refused refused kept = record { records = kept.records; refused = refused }
