-- Rows that the definitions compute, with values from a program of its own. Words are given by their bytes.
use Rattle.std.proofs.Common.{◌≡◌, ℕ, zero, suc, ◌+◌, true, false, List, [], ◌∷◌, None, Some, refl}
use Rattle.client_registry.specs.Acceptance.{blocks_of, frames_needed, index_bytes, is_pad, padded, padded_words, padded_blocks, size_refusal}
use Rattle.client_registry.specs.Command.{Command, Add, Delete}
use Rattle.client_registry.specs.Document.{Document}
use Rattle.client_registry.specs.Documents.{words_of, list_lengths}
use Rattle.client_registry.specs.FirstClash.{first_clash}
use Rattle.client_registry.specs.Live.{added_list, counter, matching_ids, shown}
use Rattle.client_registry.specs.Setup.{Setup, setup_of, setup_with}
use Rattle.client_registry.specs.Sized.{is_accepted}
use Rattle.client_registry.specs.declared.faults.SizeFault.TheVariants.{BadParameter, ListTooLong}

abbrev a : List ℕ
a = 97 ∷ []

abbrev b : List ℕ
b = 98 ∷ []

abbrev c : List ℕ
c = 99 ∷ []

abbrev doc : ℕ → List (List ℕ) → Document
doc id words = record { id = id; words = words }

-- documents n, n - 1, .. 1 of the word a
abbrev of_a : ℕ → List Document
of_a zero = []
of_a (suc n) = doc (n + 1) (a ∷ []) ∷ of_a n

-- two documents of three words: their numbers, and how many documents hold each
numbered_words : words_of (doc 3 (b ∷ a ∷ []) ∷ doc 9 (a ∷ c ∷ []) ∷ []) ≡ b ∷ a ∷ c ∷ []
numbered_words = refl

lists_by_number : list_lengths (doc 3 (b ∷ a ∷ []) ∷ doc 9 (a ∷ c ∷ []) ∷ []) ≡ 1 ∷ 2 ∷ 1 ∷ []
lists_by_number = refl

-- one word in n documents, two numbers in a cell and in a block
blocks_of_2 : blocks_of (setup_of (of_a 2) 2 2) ≡ 0
blocks_of_2 = refl

blocks_of_3 : blocks_of (setup_of (of_a 3) 2 2) ≡ 2
blocks_of_3 = refl

blocks_of_4 : blocks_of (setup_of (of_a 4) 2 2) ≡ 2
blocks_of_4 = refl

blocks_of_5 : blocks_of (setup_of (of_a 5) 2 2) ≡ 5
blocks_of_5 = refl

blocks_of_8 : blocks_of (setup_of (of_a 8) 2 2) ≡ 6
blocks_of_8 = refl

a_list_of_9 : size_refusal (setup_of (of_a 9) 2 2) ≡ Some (ListTooLong 0 9)
a_list_of_9 = refl

a_list_of_8 : size_refusal (setup_of (of_a 8) 2 2) ≡ None
a_list_of_8 = refl

a_list_of_8_bytes : index_bytes (setup_of (of_a 8) 2 2) ≡ 129
a_list_of_8_bytes = refl

a_list_of_8_frames : frames_needed (setup_of (of_a 8) 2 2) ≡ 4
a_list_of_8_frames = refl

both_parameters : size_refusal (setup_of [] 0 257) ≡ Some (BadParameter 0 0)
both_parameters = refl

-- counts rounded up to a multiple of Q, of which 0 is one
padded_counts : padded 4 0 ∷ padded 4 1 ∷ padded 4 4 ∷ padded 4 5 ∷ padded 1 5 ∷ padded 4096 1 ∷ [] ≡ 0 ∷ 4 ∷ 4 ∷ 8 ∷ 5 ∷ 4096 ∷ []
padded_counts = refl

powers : is_pad 0 ∷ is_pad 1 ∷ is_pad 2 ∷ is_pad 3 ∷ is_pad 4096 ∷ is_pad 4097 ∷ is_pad 8192 ∷ [] ≡ false ∷ true ∷ true ∷ false ∷ true ∷ false ∷ false ∷ []
powers = refl

-- Q is looked at after b and B
q_of_3 : size_refusal (setup_with (of_a 1) 1 1 3) ≡ Some (BadParameter 2 3)
q_of_3 = refl

q_of_0 : size_refusal (setup_with (of_a 1) 1 1 0) ≡ Some (BadParameter 2 0)
q_of_0 = refl

b_before_q : size_refusal (setup_with (of_a 1) 65 1 3) ≡ Some (BadParameter 0 65)
b_before_q = refl

big_before_q : size_refusal (setup_with (of_a 1) 1 257 3) ≡ Some (BadParameter 1 257)
big_before_q = refl

q_before_lists : size_refusal (setup_with (of_a 9) 2 2 8192) ≡ Some (BadParameter 2 8192)
q_before_lists = refl

-- the entry of one word and its 6 blocks among 4 and 8
padded_size : padded_words (setup_with (of_a 8) 2 2 4) ∷ padded_blocks (setup_with (of_a 8) 2 2 4) ∷ index_bytes (setup_with (of_a 8) 2 2 4) ∷ [] ≡ 4 ∷ 8 ∷ 260 ∷ []
padded_size = refl

-- equal labels of words 0 and 1, then equal tags of blocks 1 and 2, under the weighed sum
equal_labels : first_clash ((236 ∷ 238 ∷ 240 ∷ 242 ∷ 244 ∷ 246 ∷ 248 ∷ 250 ∷ 252 ∷ 254 ∷ 0 ∷ 2 ∷ 4 ∷ 6 ∷ 8 ∷ 10 ∷ []) ∷ (236 ∷ 238 ∷ 240 ∷ 242 ∷ 244 ∷ 246 ∷ 248 ∷ 250 ∷ 252 ∷ 254 ∷ 0 ∷ 2 ∷ 4 ∷ 6 ∷ 8 ∷ 10 ∷ []) ∷ []) ≡ Some (0, 1)
equal_labels = refl

equal_tags : first_clash ((200 ∷ 202 ∷ 204 ∷ 206 ∷ 208 ∷ 210 ∷ 212 ∷ 214 ∷ 216 ∷ 218 ∷ 220 ∷ 222 ∷ 224 ∷ 226 ∷ 228 ∷ 230 ∷ []) ∷ (208 ∷ 210 ∷ 212 ∷ 214 ∷ 216 ∷ 218 ∷ 220 ∷ 222 ∷ 224 ∷ 226 ∷ 228 ∷ 230 ∷ 232 ∷ 234 ∷ 236 ∷ 238 ∷ []) ∷ (208 ∷ 210 ∷ 212 ∷ 214 ∷ 216 ∷ 218 ∷ 220 ∷ 222 ∷ 224 ∷ 226 ∷ 228 ∷ 230 ∷ 232 ∷ 234 ∷ 236 ∷ 238 ∷ []) ∷ (216 ∷ 218 ∷ 220 ∷ 222 ∷ 224 ∷ 226 ∷ 228 ∷ 230 ∷ 232 ∷ 234 ∷ 236 ∷ 238 ∷ 240 ∷ 242 ∷ 244 ∷ 246 ∷ []) ∷ []) ≡ Some (1, 2)
equal_tags = refl

-- the least second place decides, then the least first
of_two_clashes : first_clash (a ∷ b ∷ c ∷ b ∷ a ∷ []) ≡ Some (1, 3)
of_two_clashes = refl

of_three_equal : first_clash (c ∷ a ∷ a ∷ a ∷ []) ≡ Some (1, 2)
of_three_equal = refl

no_clash : first_clash (a ∷ b ∷ c ∷ []) ≡ None
no_clash = refl

-- added, deleted, added again with one word more
abbrev added_again : List Command
added_again = Add (doc 5 (a ∷ [])) ∷ Delete 5 ∷ Add (doc 5 (a ∷ c ∷ [])) ∷ []

abbrev of_one : Setup
of_one = setup_of (doc 1 (a ∷ []) ∷ []) 1 1

again_found : matching_ids of_one added_again a ≡ 1 ∷ 5 ∷ []
again_found = refl

again_shown : shown of_one added_again a ≡ 1 ∷ 5 ∷ []
again_shown = refl

again_added : added_list of_one added_again c ≡ 5 ∷ []
again_added = refl

again_counters : counter of_one added_again a ∷ counter of_one added_again c ∷ counter of_one added_again b ∷ [] ≡ 1 ∷ 1 ∷ 0 ∷ []
again_counters = refl

deleted_shown : shown of_one (Add (doc 5 (a ∷ [])) ∷ Delete 5 ∷ []) a ≡ 1 ∷ []
deleted_shown = refl

-- a live identifier isn't added, another one is
abbrev of_five : Setup
of_five = setup_of (doc 5 (a ∷ []) ∷ []) 1 1

live_refused : is_accepted of_five [] (Add (doc 5 (a ∷ []))) ≡ false
live_refused = refl

other_accepted : is_accepted of_five [] (Add (doc 6 (a ∷ []))) ≡ true
other_accepted = refl

other_counters : counter of_five [] a ∷ counter of_five (Add (doc 6 (a ∷ [])) ∷ []) a ∷ [] ≡ 0 ∷ 1 ∷ []
other_counters = refl

other_found : matching_ids of_five (Add (doc 6 (a ∷ [])) ∷ []) a ≡ 5 ∷ 6 ∷ []
other_found = refl

-- deleted, and added again without the word
found_without : matching_ids of_five (Delete 5 ∷ Add (doc 5 (c ∷ [])) ∷ []) a ≡ []
found_without = refl

found_with_other : matching_ids of_five (Delete 5 ∷ Add (doc 5 (c ∷ [])) ∷ []) c ≡ 5 ∷ []
found_with_other = refl

-- documents of no word bring no pair
abbrev empty_document : List Command
empty_document = Add (doc 2 []) ∷ Delete 2 ∷ Add (doc 3 (a ∷ [])) ∷ []

empty_found : matching_ids of_one empty_document a ≡ 1 ∷ 3 ∷ []
empty_found = refl

empty_counter : counter of_one empty_document a ≡ 1
empty_counter = refl

-- identifiers that come falling are found rising
rising : matching_ids (setup_of (doc 9 (a ∷ []) ∷ doc 3 (a ∷ b ∷ []) ∷ []) 4 4) [] a ≡ 3 ∷ 9 ∷ []
rising = refl
