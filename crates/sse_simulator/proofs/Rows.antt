-- The simulator on worked items, and on items that name what isn't there, computed.
use Rattle.std.proofs.Common.{◌≡◌, ℕ, List, [], ◌∷◌, refl, Some, None}
use Rattle.std.specs.Prelude.{Option}
use Rattle.two_level.specs.Shape.{Shape}
use Rattle.sse_frames.specs.Frames.{Entry, SetupBegin, SetupDict, SetupArray, SetupEnd, AddFrame, DeleteFrame, SearchFrame}
use Rattle.sse_simulator.specs.Leaks.{Sent, NewEntry, Fresh, Again, WordLeak, Leak, SetupLeak, AddLeak, DeleteLeak, SearchLeak, EntryDraw, BlockDraw, NumberDraw, TokenDraw}
use Rattle.sse_simulator.specs.Simulator.{Kept, Nothing, Numbers, Token, frames_simulated, sim_at_first, simulated_from}

abbrev one : Shape
one = record { b = 1; big = 1 }

abbrev entry : ℕ → ℕ → Entry
entry label text = record { label = label ∷ []; text = text ∷ [] }

abbrev word : Sent → WordLeak
word sent = record { sent = sent; seen = None }

abbrev again : ℕ → ℕ → WordLeak
again command place = word (Again (record { command = command; place = place }))

abbrev search : Option ℕ → Leak
search earlier = SearchLeak earlier None [] []

-- what was kept of a setup, of a deletion whose first number was sent before, and of a search
abbrev kept : List Kept
kept = Nothing ∷ Numbers (None ∷ Some (9 ∷ []) ∷ []) ∷ Token (7 ∷ []) ∷ []

-- Items as they are.

a_setup_by_label_and_by_tag : frames_simulated [] 0 (SetupLeak one 2 2) (EntryDraw (entry 5 1) ∷ EntryDraw (entry 3 2) ∷ BlockDraw (entry 8 3) ∷ BlockDraw (entry 6 4) ∷ [])
    ≡ Some (SetupBegin 0 1 1 2 2 ∷ SetupDict 1 9 (entry 3 2 ∷ entry 5 1 ∷ []) ∷ SetupArray 2 8 ((4 ∷ []) ∷ (3 ∷ []) ∷ []) ∷ SetupEnd 3 ∷ [])
a_setup_by_label_and_by_tag = refl

an_addition_by_label_with_the_number_of_a_deletion : frames_simulated kept 6 (AddLeak (word NewEntry ∷ again 1 1 ∷ word NewEntry ∷ [])) (EntryDraw (entry 5 1) ∷ EntryDraw (entry 3 2) ∷ [])
    ≡ Some (AddFrame 6 (entry 3 2 ∷ entry 5 1 ∷ []) ((9 ∷ []) ∷ []) ∷ [])
an_addition_by_label_with_the_number_of_a_deletion = refl

a_deletion_by_number : frames_simulated kept 6 (DeleteLeak (again 1 1 ∷ word Fresh ∷ word Fresh ∷ [])) (NumberDraw (8 ∷ []) ∷ NumberDraw (4 ∷ []) ∷ [])
    ≡ Some (DeleteFrame 6 ((4 ∷ []) ∷ (8 ∷ []) ∷ (9 ∷ []) ∷ []) ∷ [])
a_deletion_by_number = refl

the_token_of_the_first_search : frames_simulated kept 6 (search (Some 2)) [] ≡ Some (SearchFrame (7 ∷ []) ∷ [])
the_token_of_the_first_search = refl

draws_behind_those_that_are_taken : frames_simulated kept 6 (search None) (TokenDraw (5 ∷ []) ∷ NumberDraw (4 ∷ []) ∷ []) ≡ Some (SearchFrame (5 ∷ []) ∷ [])
draws_behind_those_that_are_taken = refl

-- each update frame has the next number, and a number that was drawn is found by its command and place
commands_in_a_row : simulated_from sim_at_first
    (SetupLeak one 0 0 ∷ DeleteLeak (word Fresh ∷ word Fresh ∷ []) ∷ search None ∷ AddLeak (again 1 0 ∷ []) ∷ search (Some 2) ∷ [])
    ([] ∷ (NumberDraw (8 ∷ []) ∷ NumberDraw (4 ∷ []) ∷ []) ∷ (TokenDraw (5 ∷ []) ∷ []) ∷ [] ∷ [] ∷ [])
    ≡ Some ((SetupBegin 0 1 1 0 0 ∷ SetupEnd 1 ∷ []) ∷ (DeleteFrame 2 ((4 ∷ []) ∷ (8 ∷ []) ∷ []) ∷ []) ∷ (SearchFrame (5 ∷ []) ∷ []) ∷ (AddFrame 3 [] ((8 ∷ []) ∷ []) ∷ []) ∷ (SearchFrame (5 ∷ []) ∷ []) ∷ [])
commands_in_a_row = refl

-- Items that name a command, a place or a draw that isn't there.

no_such_command : frames_simulated kept 6 (AddLeak (again 3 0 ∷ [])) [] ≡ None
no_such_command = refl

a_command_without_numbers : frames_simulated kept 6 (AddLeak (again 2 0 ∷ [])) [] ≡ None
a_command_without_numbers = refl

no_such_place : frames_simulated kept 6 (DeleteLeak (again 1 2 ∷ [])) [] ≡ None
no_such_place = refl

a_place_without_a_number : frames_simulated kept 6 (DeleteLeak (again 1 0 ∷ [])) [] ≡ None
a_place_without_a_number = refl

no_such_search : frames_simulated kept 6 (search (Some 3)) [] ≡ None
no_such_search = refl

a_command_without_a_token : frames_simulated kept 6 (search (Some 1)) (TokenDraw (5 ∷ []) ∷ []) ≡ None
a_command_without_a_token = refl

no_token_is_drawn : frames_simulated kept 6 (search None) [] ≡ None
no_token_is_drawn = refl

a_number_is_no_token : frames_simulated kept 6 (search None) (NumberDraw (5 ∷ []) ∷ []) ≡ None
a_number_is_no_token = refl

a_token_is_no_number : frames_simulated kept 6 (DeleteLeak (word Fresh ∷ [])) (TokenDraw (5 ∷ []) ∷ []) ≡ None
a_token_is_no_number = refl

a_number_too_few : frames_simulated kept 6 (DeleteLeak (word Fresh ∷ word Fresh ∷ [])) (NumberDraw (5 ∷ []) ∷ []) ≡ None
a_number_too_few = refl

a_block_is_no_entry : frames_simulated kept 6 (AddLeak (word NewEntry ∷ [])) (BlockDraw (entry 5 1) ∷ []) ≡ None
a_block_is_no_entry = refl

an_entry_too_few : frames_simulated [] 0 (SetupLeak one 2 0) (EntryDraw (entry 5 1) ∷ []) ≡ None
an_entry_too_few = refl

an_entry_is_no_block : frames_simulated [] 0 (SetupLeak one 1 1) (EntryDraw (entry 5 1) ∷ EntryDraw (entry 6 1) ∷ []) ≡ None
an_entry_is_no_block = refl

a_block_too_few : frames_simulated [] 0 (SetupLeak one 1 1) (EntryDraw (entry 5 1) ∷ []) ≡ None
a_block_too_few = refl

leakage_longer_than_the_draws : simulated_from sim_at_first (SetupLeak one 0 0 ∷ search None ∷ []) ([] ∷ []) ≡ None
leakage_longer_than_the_draws = refl

-- an item that names a later command makes nothing of all
a_later_command : simulated_from sim_at_first (SetupLeak one 0 0 ∷ search (Some 2) ∷ search None ∷ []) ([] ∷ [] ∷ (TokenDraw (5 ∷ []) ∷ []) ∷ []) ≡ None
a_later_command = refl
