-- Short runs compared, computed under the toy function and the key of 32 zero bytes.
use Rattle.std.proofs.Common.{◌≡◌, ◌≢◌, ℕ, List, [], ◌∷◌, refl, sym, ap, arith, is_some, Some, None}
use Rattle.std.specs.Prelude.{Option, replicate}
use Rattle.std.proofs.lemmas.Bool.{true≢false}
use Rattle.client_registry.specs.Command.{Command, Add, Delete, Search}
use Rattle.client_registry.specs.Document.{Document}
use Rattle.client_registry.specs.Run.{Run, at_first}
use Rattle.client_registry.specs.Setup.{setup_with}
use Rattle.keyed_fn.specs.KeyedFn.{keyed_fn}
use Rattle.keyed_fn.specs.Toy.{toy_prf, toy_pad}
use Rattle.def_comparison.specs.Sums.{value_sum, sums}
use Rattle.def_comparison.specs.UsedNames.{all_names}
use Rattle.def_leakage.specs.Relabelled.{relabelled}
use Rattle.sse_model.specs.Histories.{table_of}
use Rattle.sse_model.specs.Names.{Table}
use Rattle.sse_simulator.specs.Leaks.{Leak, SetupLeak, AddLeak, DeleteLeak, SearchLeak}
use Rattle.def_relabelling.specs.Comparison.{LeakTheSame, LeaksDiffer, IsComparison}

abbrev doc : ℕ → List (List ℕ) → Document
doc id words = record { id = id; words = words }

abbrev run_of : ℕ → List Document → List Command → Run
run_of pad docs later = record { setup = setup_with docs 2 2 pad; later = later }

abbrev a : List ℕ
a = 0x61 ∷ []

abbrev b : List ℕ
b = 0x62 ∷ []

abbrev c : List ℕ
c = 0x63 ∷ []

abbrev x : List ℕ
x = 0x78 ∷ []

abbrev y : List ℕ
y = 0x79 ∷ []

abbrev z : List ℕ
z = 0x7a ∷ []

abbrev zero_table : Run → Table
zero_table run = table_of (keyed_fn toy_prf toy_pad) (λ epoch. replicate 32 0) run

-- two words each, and a search of a third

abbrev two_documents : Run
two_documents = run_of 1 (doc 1 (a ∷ b ∷ []) ∷ doc 2 (a ∷ []) ∷ []) (Search z ∷ [])

abbrev one_document : Run
one_document = run_of 1 (doc 7 (x ∷ y ∷ []) ∷ []) (Search z ∷ [])

they_leak_the_same : IsComparison (zero_table two_documents) at_first two_documents one_document (LeakTheSame (record { frames = 5; bytes = 279; values = 29252 }))
they_leak_the_same = (refl, refl)

-- without relabelling the values have another sum
own_sums : sums (zero_table two_documents) at_first two_documents ≡ record { frames = 5; bytes = 279; values = 29258 }
own_sums = refl

-- three words and one, each filled up to four

abbrev three_words : Run
three_words = run_of 4 (doc 1 (a ∷ b ∷ c ∷ []) ∷ []) (Search z ∷ [])

abbrev one_word : Run
one_word = run_of 4 (doc 6 (x ∷ []) ∷ []) (Search z ∷ [])

with_dummies : IsComparison (zero_table three_words) at_first three_words one_word (LeakTheSame (record { frames = 5; bytes = 345; values = 36876 }))
with_dummies = (refl, refl)

-- searches of a word before and behind additions and deletions: names are drawn and looked up, and looked up again

abbrev searched_run : Run
searched_run = run_of 1 (doc 1 (a ∷ b ∷ []) ∷ doc 2 (a ∷ []) ∷ doc 3 (a ∷ []) ∷ []) (Search a ∷ Add (doc 5 (b ∷ c ∷ [])) ∷ Add (doc 6 (a ∷ [])) ∷ Delete 5 ∷ Delete 2 ∷ Search a ∷ [])

abbrev other_run : Run
other_run = run_of 1 (doc 1 (x ∷ []) ∷ doc 2 (x ∷ []) ∷ doc 3 (x ∷ y ∷ []) ∷ []) (Search x ∷ Add (doc 9 (y ∷ z ∷ [])) ∷ Add (doc 6 (x ∷ [])) ∷ Delete 9 ∷ Delete 2 ∷ Search x ∷ [])

with_searches : IsComparison (zero_table searched_run) at_first searched_run other_run (LeakTheSame (record { frames = 11; bytes = 657; values = 96252 }))
with_searches = (refl, refl)

-- names that are looked up again are added up once: with repeats the sum is another
with_repeats : value_sum (relabelled at_first searched_run other_run (zero_table searched_run)) (all_names at_first other_run) ≢ 96252
with_repeats e = absurd (omega (arith, e))

-- a document more, and a list takes two blocks: the setups leak something else

abbrev three_documents : Run
three_documents = run_of 1 (doc 1 (a ∷ b ∷ []) ∷ doc 2 (a ∷ []) ∷ doc 3 (a ∷ []) ∷ []) (Search z ∷ [])

abbrev blocks_told : Option Leak → ℕ
blocks_told None = 0
blocks_told (Some (SetupLeak shape words blocks)) = blocks
blocks_told (Some (AddLeak words)) = 0
blocks_told (Some (DeleteLeak words)) = 0
blocks_told (Some (SearchLeak earlier home listed found)) = 0

setups_differ : IsComparison (zero_table three_documents) at_first three_documents one_document (LeaksDiffer 0)
setups_differ = record { before = refl; there = λ e. absurd (let differ : 2 ≡ 0 = ap blocks_told e in omega (arith, differ)) }

-- without dummies three words and one are told apart at the setup
abbrev entries_told : Option Leak → ℕ
entries_told None = 0
entries_told (Some (SetupLeak shape words blocks)) = words
entries_told (Some (AddLeak words)) = 0
entries_told (Some (DeleteLeak words)) = 0
entries_told (Some (SearchLeak earlier home listed found)) = 0

without_dummies : IsComparison (zero_table three_words) at_first (run_of 1 (doc 1 (a ∷ b ∷ c ∷ []) ∷ []) (Search z ∷ [])) (run_of 1 (doc 6 (x ∷ []) ∷ []) (Search z ∷ [])) (LeaksDiffer 0)
without_dummies = record { before = refl; there = λ e. absurd (let differ : 3 ≡ 1 = ap entries_told e in omega (arith, differ)) }

-- one search and two: they differ where the shorter has ended
shorter : IsComparison (zero_table one_document) at_first one_document (run_of 1 (doc 7 (x ∷ y ∷ []) ∷ []) (Search z ∷ Search z ∷ [])) (LeaksDiffer 2)
shorter = record { before = refl; there = λ e. true≢false (sym (ap is_some e)) }
