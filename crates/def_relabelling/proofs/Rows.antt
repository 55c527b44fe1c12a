-- Tables of short runs relabelled, computed under the toy function and the key of 32 zero bytes.
use Rattle.std.proofs.Common.{◌≡◌, ◌≢◌, ℕ, not, List, [], ◌∷◌, ◌++◌, length, map, filter, refl, ap, arith}
use Rattle.std.specs.Prelude.{Option, Some, None, bytes_eq, flat_map, replicate, sum, take, zip}
use Rattle.client_registry.specs.Command.{Command, Add, Delete, Search}
use Rattle.client_registry.specs.Document.{Document}
use Rattle.client_registry.specs.Run.{Run, at_first}
use Rattle.client_registry.specs.Setup.{setup_of}
use Rattle.keyed_fn.specs.KeyedFn.{keyed_fn}
use Rattle.keyed_fn.specs.Toy.{toy_prf, toy_pad}
use Rattle.def_leakage.specs.CommandLeaks.{leak}
use Rattle.def_leakage.specs.Relabelled.{Use, uses, relabelled}
use Rattle.sse_model.specs.Drawn.{drawn, probed}
use Rattle.sse_model.specs.Histories.{table_of}
use Rattle.sse_model.specs.Names.{Name, name, ListPad, PlusPad, Table}
use Rattle.sse_model.specs.Positions.{block_positions, ranks_of}
use Rattle.sse_model.specs.Transcript.{transcript}
use Rattle.sse_model.specs.Wire.{labels_in, wire}
use Rattle.sse_simulator.specs.Leaks.{Home, Leak, SetupLeak, AddLeak, DeleteLeak, SearchLeak}

abbrev doc : ℕ → List (List ℕ) → Document
doc id words = record { id = id; words = words }

abbrev run_of : List Document → List Command → Run
run_of docs later = record { setup = setup_of docs 2 2; later = later }

abbrev a : List ℕ
a = 0x61 ∷ []

abbrev b : List ℕ
b = 0x62 ∷ []

abbrev c : List ℕ
c = 0x63 ∷ []

abbrev x : List ℕ
x = 0x78 ∷ []

abbrev y : List ℕ
y = 0x79 ∷ []

abbrev z : List ℕ
z = 0x7a ∷ []

abbrev zero_table : Run → Table
zero_table run = table_of (keyed_fn toy_prf toy_pad) (λ epoch. replicate 32 0) run

-- the bytes of all values at the names that a run draws or that are looked up for it, added up
abbrev total : Table → Run → ℕ
total t run = sum (flat_map t (flat_map (λ ns. ns) (drawn at_first run ++ probed at_first run)))

-- the names of the other run that get another value than the name at their place has
abbrev names_shifted : (run other : Run) → List Name
names_shifted run other =
    let t = zero_table run in
    let ranks = ranks_of (labels_in t (block_positions 0 run.setup)) in
    map (λ (pair : Use × Use). pair.1.name)
    (filter (λ pair. not (bytes_eq (relabelled at_first run other t pair.1.name) (t pair.0.name))) (zip (uses at_first run ranks) (uses at_first other ranks)))

-- Two setups of two words each, and a search of a third word: no list is opened.

abbrev two_documents : Run
two_documents = run_of (doc 1 (a ∷ b ∷ []) ∷ doc 2 (a ∷ []) ∷ []) (Search z ∷ [])

abbrev one_document : Run
one_document = run_of (doc 7 (x ∷ y ∷ []) ∷ []) (Search z ∷ [])

setups_leak_the_same : leak at_first two_documents ≡ leak at_first one_document
setups_leak_the_same = refl

setups_send_the_same : wire (relabelled at_first two_documents one_document (zero_table two_documents)) at_first one_document ≡ wire (zero_table two_documents) at_first two_documents
setups_send_the_same = refl

-- both cells are shifted, and nothing else
cells_shifted : names_shifted two_documents one_document ≡ name 0 x ListPad 0 ∷ name 0 y ListPad 0 ∷ []
cells_shifted = refl

relabelled_total : total (relabelled at_first two_documents one_document (zero_table two_documents)) one_document ≡ 29252
relabelled_total = refl

-- as it was the table has another sum
own_total : total (zero_table two_documents) two_documents ≡ 29258
own_total = refl

-- with a document more the list of `a` takes a block, and the leakages differ
three_documents : leak at_first (run_of (doc 1 (a ∷ b ∷ []) ∷ doc 2 (a ∷ []) ∷ doc 3 (a ∷ []) ∷ []) (Search z ∷ [])) ≢ leak at_first one_document
three_documents e = absurd (let differ = ap leaked_blocks e in omega (arith, differ))
  where
    leaked_blocks : List Leak → ℕ
    leaked_blocks [] = 0
    leaked_blocks (SetupLeak shape words blocks ∷ leaks) = blocks
    leaked_blocks (AddLeak words ∷ leaks) = 0
    leaked_blocks (DeleteLeak words ∷ leaks) = 0
    leaked_blocks (SearchLeak earlier home listed found ∷ leaks) = 0

-- A word that is searched, one that isn't, additions of both, a deletion, and the search again. Words differ, and so do identifiers of
-- documents whose words aren't searched.

abbrev searched_run : Run
searched_run = run_of (doc 1 (a ∷ b ∷ []) ∷ doc 2 (a ∷ []) ∷ doc 3 (a ∷ []) ∷ []) (Search a ∷ Add (doc 5 (b ∷ c ∷ [])) ∷ Add (doc 6 (a ∷ [])) ∷ Delete 5 ∷ Delete 2 ∷ Search a ∷ [])

abbrev other_run : Run
other_run = run_of (doc 1 (x ∷ []) ∷ doc 2 (x ∷ []) ∷ doc 3 (x ∷ y ∷ []) ∷ []) (Search x ∷ Add (doc 9 (y ∷ z ∷ [])) ∷ Add (doc 6 (x ∷ [])) ∷ Delete 9 ∷ Delete 2 ∷ Search x ∷ [])

runs_leak_the_same : leak at_first searched_run ≡ leak at_first other_run
runs_leak_the_same = refl

all_that_passes : transcript (relabelled at_first searched_run other_run (zero_table searched_run)) at_first other_run ≡ transcript (zero_table searched_run) at_first searched_run
all_that_passes = refl

-- the pads of the cell of `y` and of the additions of 9 are shifted: no search opens those. Cell, blocks and addition of `x` are opened, and keep
-- their pads
unopened_shifted : names_shifted searched_run other_run ≡ name 0 y ListPad 0 ∷ name 0 y PlusPad 0 ∷ name 0 z PlusPad 0 ∷ []
unopened_shifted = refl

-- relabelled to the other run and back, all values are as they were
back_again :
    let t = zero_table searched_run in
    let names = flat_map (λ ns. ns) (drawn at_first searched_run ++ probed at_first searched_run) in
    map (relabelled at_first other_run searched_run (relabelled at_first searched_run other_run t)) names ≡ map t names
back_again = refl

-- The shorter of two leakages may be the front of the other: then no two tables make the wires equal.

abbrev searched_once : Run
searched_once = run_of (doc 1 (a ∷ []) ∷ []) (Search a ∷ [])

abbrev searched_twice : Run
searched_twice = run_of (doc 1 (a ∷ []) ∷ []) (Search a ∷ Search a ∷ [])

front_leaks_the_same : take 2 (leak at_first searched_twice) ≡ leak at_first searched_once
front_leaks_the_same = refl

front_sends_less : (t u : Table) → wire t at_first searched_twice ≢ wire u at_first searched_once
front_sends_less t u e = absurd (let differ : 3 ≡ 2 = ap length e in omega (arith, differ))

-- The words of a document in another order: the leakages differ, and the frames don't.

abbrev in_order : Run
in_order = run_of (doc 1 (a ∷ b ∷ []) ∷ doc 2 (a ∷ []) ∷ []) (Add (doc 5 (b ∷ c ∷ [])) ∷ Search b ∷ Delete 1 ∷ [])

abbrev out_of_order : Run
out_of_order = run_of (doc 1 (b ∷ a ∷ []) ∷ doc 2 (a ∷ []) ∷ []) (Add (doc 5 (c ∷ b ∷ [])) ∷ Search b ∷ Delete 1 ∷ [])

order_leaks : leak at_first in_order ≢ leak at_first out_of_order
order_leaks e = absurd (let differ = ap entry_searched e in omega (arith, differ))
  where
    entry_of : Option Home → ℕ
    entry_of None = 2
    entry_of (Some home) = home.entry

    entry_searched : List Leak → ℕ
    entry_searched [] = 2
    entry_searched (SetupLeak shape words blocks ∷ leaks) = entry_searched leaks
    entry_searched (AddLeak words ∷ leaks) = entry_searched leaks
    entry_searched (DeleteLeak words ∷ leaks) = entry_searched leaks
    entry_searched (SearchLeak earlier home listed found ∷ leaks) = entry_of home

order_sends_the_same : wire (zero_table in_order) at_first out_of_order ≡ wire (zero_table in_order) at_first in_order
order_sends_the_same = refl
