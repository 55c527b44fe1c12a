-- The meaning of the fields of the trail of a word.
use Rattle.std.specs.Prelude.{option_map}
use Rattle.leakage_model.specs.Pairs.{home_view}
use Rattle.leakage_model.specs.WordFacts.{WordFacts}
use Rattle.leakage_model.specs.declared.word_trail.WordTrail.TheInside.{Inside}

-- what contracts see of it
abbrev pub word_of : Inside → WordFacts
word_of w = record { search = w.search; home = option_map home_view w.home; listed = w.pairs }
