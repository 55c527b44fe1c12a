-- Server and client agree on a short run under the toy function and the key of 32 zero bytes.
use Rattle.std.proofs.Common.{◌≡◌, ℕ, zero, suc, ◌+◌, ◌%◌, List, [], ◌∷◌, ◌++◌, true, None, Some, refl, ap, ◌∙◌, arith}
use Rattle.std.specs.Prelude.{replicate}
use Rattle.std.specs.List.{IsDistinct}
use Rattle.std.specs.Str.{is_utf8, chars}
use Rattle.std.specs.Str.Lossy.{utf8_valid_len}
use Rattle.std.proofs.lemmas.List.Elements.{All-nil, All-cons}
use Rattle.std.specs.FinMap as map
use Rattle.std.specs.FinSet as set
use Rattle.keyed_fn.specs.KeyedFn.{KeyedFn, keyed_fn, IsKeyedFn}
use Rattle.keyed_fn.specs.Toy.{toy_prf, toy_pad}
use Rattle.keyed_fn.specs.ToyLaws.{length-toy_prf, All-toy_prf, length-toy_pad, All-toy_pad, take-toy_pad}
use Rattle.client_registry.specs.DocumentRule.{IsDocument}
use Rattle.client_registry.specs.Setup.{setup_of}
use Rattle.client_registry.specs.Command.{Add, Delete, Search}
use Rattle.client_registry.specs.Run.{Run, Offsets, at_first}
use Rattle.client_registry.specs.Sized.{IsHistory, IsSizedCommand}
use Rattle.client_registry.specs.WordRule.{word_refusal}
use Rattle.sse_frames.specs.Replies.{Took, Page, BadList}
use Rattle.sse_model.proofs.CollisionTest.{IsCollisionFree-from_test}
use Rattle.sse_model.specs.Drawn.{IsCollisionFree}
use Rattle.sse_model.specs.Names.{Table, table}
use Rattle.sse_frames.specs.Frames.{Entry, FrameText, SetupBegin, SetupDict, SetupEnd, AddFrame, DeleteFrame, SearchFrame}
use Rattle.server_core.specs.State as server
use Rattle.server_core.specs.State.{ServerState}
use Rattle.server_core.specs.Step.{taken, steps}
use Rattle.def_agreement.proofs.Agreement.{server_agrees}
use Rattle.def_agreement.proofs.TakenFrames.{steps-taken}
use Rattle.def_agreement.specs.Agreement.{frames_fed, fed, Agrees}
use Rattle.def_agreement.specs.TakenFrames.{AreInOrder}
use Rattle.server_core.specs.Refusal.{in_place, clash}
use Rattle.server_core.specs.Search.{search_result}
use Rattle.search_token.specs.TokenKeys.{keys_of_bytes}
use Rattle.sse_frames.specs.SentParts.{pages}
use Rattle.std.specs.Option.{option_map_or}
use lib.Utf8.{encode}

abbrev toy : KeyedFn
toy = keyed_fn toy_prf toy_pad

-- a server that has taken nothing
abbrev empty : ServerState
empty = server.at_first

-- document 1 with the word `a`, then searches for `a` and `c`
abbrev short : Run
short = record {
  setup = setup_of (record { id = 1; words = (0x61 ∷ []) ∷ [] } ∷ []) 1 1;
  later = Search (0x61 ∷ []) ∷ Search (0x63 ∷ []) ∷ [];
}

abbrev values : Table
values = table toy short.setup.shape (λ epoch. replicate 32 0)

-- three frames are acknowledged, then `a` is found in document 1 and `c` in none
replies_of_short : (fed toy empty values at_first short).1 ≡ (Took 0 ∷ []) ∷ (Took 1 ∷ []) ∷ (Took 2 ∷ []) ∷ (Page true (1 ∷ []) ∷ []) ∷ (Page true [] ∷ []) ∷ []
replies_of_short = simp (map.gets, set.members)

-- what the law supposes of a run holds of this one

toy_laws : IsKeyedFn toy
toy_laws = record { prf_length = length-toy_prf; prf_bytes = All-toy_prf; pad_length = length-toy_pad; pad_bytes = All-toy_pad; pad_prefix = take-toy_pad }

short_document : IsDocument (record { id = 1; words = (0x61 ∷ []) ∷ [] })
unfolding utf8_valid_len is_utf8 chars encode
short_document = record {
  some = omega arith;
  fits = omega arith;
  accepted = refl;
  are_words = All-cons (λ word. word_refusal word ≡ None) (0x61 ∷ []) [] refl (All-nil (λ word. word_refusal word ≡ None));
}

short_is_history : IsHistory short
unfolding IsDistinct utf8_valid_len is_utf8 chars encode
short_is_history = record {
  collected = record {
    documents = omega arith;
    pairs = omega arith;
    different = (tt, tt);
    are_documents = All-cons IsDocument (record { id = 1; words = (0x61 ∷ []) ∷ [] }) [] short_document (All-nil IsDocument);
  };
  setup = refl;
  each = All-cons IsSizedCommand (Search (0x61 ∷ [])) (Search (0x63 ∷ []) ∷ []) refl (All-cons IsSizedCommand (Search (0x63 ∷ [])) [] refl (All-nil IsSizedCommand));
  accepted = refl;
}

short_is_free : IsCollisionFree values at_first short
short_is_free = IsCollisionFree-from_test values at_first short refl

short_agrees : Agrees toy empty values at_first short
short_agrees = server_agrees toy (λ epoch. replicate 32 0) at_first short empty toy_laws short_is_history short_is_free (record { next = refl; stage = refl })

-- and from another state, whose next update has the number 7 and whose tables aren't empty
abbrev from_7 : Offsets
from_7 = record { epoch = 0; command = 0; frame = 7 }

abbrev full : ServerState
full = record empty {
  next = 7;
  words = 5;
  blocks = 2;
  shape = record { b = 3; big = 9 };
  dictionary = map.insert map.empty (replicate 16 1) (replicate 25 2);
  array = replicate 72 3 ∷ [];
  additions = map.insert map.empty (replicate 16 4) (replicate 8 5);
  revoked = set.insert set.empty (replicate 16 6);
}

short_agrees_from_7 : Agrees toy full values from_7 short
short_agrees_from_7 = server_agrees toy (λ epoch. replicate 32 0) from_7 short full toy_laws short_is_history (IsCollisionFree-from_test values from_7 short refl) (record { next = refl; stage = refl })

-- its acknowledgements are of 7, 8 and 9, and the answers are the same
replies_from_7 : (fed toy full values from_7 short).1 ≡ (Took 7 ∷ []) ∷ (Took 8 ∷ []) ∷ (Took 9 ∷ []) ∷ (Page true (1 ∷ []) ∷ []) ∷ (Page true [] ∷ []) ∷ []
replies_from_7 = short_agrees_from_7.replies

-- Updates.

abbrev a : List ℕ
a = 0x61 ∷ []

abbrev c : List ℕ
c = 0x63 ∷ []

-- document 1 with the word `a`; then document 5 with `a` is added, deleted, and added again with `a` and `c`
abbrev renewed : Run
renewed = record {
  setup = setup_of (record { id = 1; words = a ∷ [] } ∷ []) 1 1;
  later = Add (record { id = 5; words = a ∷ [] }) ∷ Delete 5 ∷ Add (record { id = 5; words = a ∷ c ∷ [] }) ∷ Search a ∷ [];
}

-- so many bytes, each so far above the one before it
abbrev apart : (by n first : ℕ) → List ℕ
apart by zero first = []
apart by (suc n) first = first ∷ apart by n ((first + by) % 256)

-- its frames
abbrev entry : Entry
entry = record { label = apart 2 16 0xc3; text = apart 1 8 0xc4 ++ 0xcd ∷ [] }

abbrev addition : Entry
addition = record { label = apart 2 16 0xc5; text = apart 1 7 0xc6 ++ 0xc8 ∷ [] }

abbrev other_addition : Entry
other_addition = record { label = apart 2 16 0xc9; text = apart 1 7 0xca ++ 0xd4 ∷ [] }

abbrev number : List ℕ
number = apart 2 16 0xef

abbrev token : List ℕ
token = apart 1 32 0xc3 ++ apart 1 32 0xc4 ++ apart 1 32 0xc5 ++ apart 1 32 0xc6 ++ apart 1 32 0xc7

abbrev frames : List FrameText
frames =
    SetupBegin 0 1 1 1 0 ∷ SetupDict 1 9 (entry ∷ []) ∷ SetupEnd 2 ∷ AddFrame 3 (addition ∷ []) [] ∷ DeleteFrame 4 (number ∷ []) ∷
    AddFrame 5 (other_addition ∷ []) (number ∷ []) ∷ SearchFrame token ∷ []

frames_of_renewed : frames_fed values at_first renewed ≡ frames
frames_of_renewed = refl

-- the states of a server that takes them
abbrev begun : ServerState
begun = taken empty (SetupBegin 0 1 1 1 0)

abbrev filled : ServerState
filled = taken begun (SetupDict 1 9 (entry ∷ []))

abbrev whole : ServerState
whole = taken filled (SetupEnd 2)

abbrev added : ServerState
added = taken whole (AddFrame 3 (addition ∷ []) [])

abbrev deleted : ServerState
deleted = taken added (DeleteFrame 4 (number ∷ []))

abbrev added_again : ServerState
added_again = taken deleted (AddFrame 5 (other_addition ∷ []) (number ∷ []))

-- each is in order after those before it
renewed_in_order : AreInOrder empty frames
renewed_in_order = (
  record { next = refl; stage = refl; clash = refl },
  (
    record { next = refl; stage = dict_fits; clash = dict_is_new },
    (
      record { next = refl; stage = end_fits; clash = refl },
      (
        record { next = refl; stage = refl; clash = addition_is_new },
        (
          record { next = refl; stage = refl; clash = number_is_new },
          (
            record { next = refl; stage = refl; clash = addition_and_number },
            (record { next = refl; stage = refl; clash = refl }, tt),
          ),
        ),
      ),
    ),
  ),
)
  where
    dict_fits : in_place begun (SetupDict 1 9 (entry ∷ [])) ≡ true
    dict_fits = simp (map.gets)

    dict_is_new : clash begun (SetupDict 1 9 (entry ∷ [])) ≡ None
    dict_is_new = simp (map.gets)

    end_fits : in_place filled (SetupEnd 2) ≡ true
    end_fits = simp (map.gets)

    addition_is_new : clash whole (AddFrame 3 (addition ∷ []) []) ≡ None
    addition_is_new = simp (map.gets)

    number_is_new : clash added (DeleteFrame 4 (number ∷ [])) ≡ None
    number_is_new = simp (set.members)

    addition_and_number : clash deleted (AddFrame 5 (other_addition ∷ []) (number ∷ [])) ≡ None
    addition_and_number = simp (map.gets, set.members)

-- `a` is found in both documents
found_row : search_result toy added_again (keys_of_bytes token) ≡ Some (1 ∷ 5 ∷ [])
found_row = simp (map.gets, set.members)

-- so six update frames are acknowledged, and the search is answered by both
replies_of_renewed : (fed toy empty values at_first renewed).1
    ≡ (Took 0 ∷ []) ∷ (Took 1 ∷ []) ∷ (Took 2 ∷ []) ∷ (Took 3 ∷ []) ∷ (Took 4 ∷ []) ∷ (Took 5 ∷ []) ∷ (Page true (1 ∷ 5 ∷ []) ∷ []) ∷ []
replies_of_renewed =
    ap (λ fs. (steps toy empty fs).1) frames_of_renewed
    ∙ ap (λ r. r.1) (steps-taken toy empty frames renewed_in_order)
    ∙ ap (λ ids. (Took 0 ∷ []) ∷ (Took 1 ∷ []) ∷ (Took 2 ∷ []) ∷ (Took 3 ∷ []) ∷ (Took 4 ∷ []) ∷ (Took 5 ∷ []) ∷ option_map_or pages ids (BadList ∷ []) ∷ []) found_row

-- what the law supposes of the values holds of this run
renewed_is_free : IsCollisionFree values at_first renewed
renewed_is_free = IsCollisionFree-from_test values at_first renewed refl
