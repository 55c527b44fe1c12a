-- The meaning of the fields of an index.
use Rattle.index_setup.specs.Built.{Built}
use Rattle.index_setup.specs.declared.index.Index.TheInside.{Inside}

abbrev pub index_of : Inside → Built
index_of i = record {
  b = i.b;
  big = i.big;
  pad = i.pad;
  words = i.words;
  blocks = i.blocks;
  own_words = i.own_words;
  own_blocks = i.own_blocks;
  entries = i.entries.items;
  array = i.array.items;
}
