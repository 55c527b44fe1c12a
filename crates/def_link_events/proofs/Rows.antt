-- Rows: a transcript that is honest, and five that aren't.
use Rattle.std.proofs.Common.{◌≡◌, inl, ℕ, List, [], ◌∷◌, slice_index, refl, sym, ap, ◌∙◌, arith, lit<, lit≤}
use Rattle.std.proofs.lemmas.Bool.{true≢false}
use Rattle.keyed_fn.specs.KeyedFn.{KeyedFn, keyed_fn}
use Rattle.keyed_fn.specs.Toy.{toy_prf, toy_pad}
use Rattle.sse_frames.specs.Frames.{Hello, SetupBegin, SearchFrame, IsBytes, InGrammar, frame_bytes}
use Rattle.server_core.specs.State.{ServerState, at_first}
use Rattle.server_core.specs.Step.{step}
use Rattle.def_link_events.specs.Events.{Sent, Received}
use Rattle.def_link_events.specs.Served.{Served, IsHonest}
use Rattle.def_link_events.specs.declared.mark.Mark.TheVariants.{Stepped, LackedMemory, StoreFailed}
use Rattle.def_link_events.proofs.Honest.{Serves-step, Serves-frame}

abbrev toy : KeyedFn
toy = keyed_fn toy_prf toy_pad

-- Hello and its reply Next(0)
abbrev hello : List ℕ
hello = 0 ∷ 0 ∷ 0 ∷ 1 ∷ 1 ∷ []

abbrev next : List ℕ
next = 0 ∷ 0 ∷ 0 ∷ 5 ∷ 0x81 ∷ 0 ∷ 0 ∷ 0 ∷ 0 ∷ []

-- the first frame of a setup of one word with cells of one identifier, and its reply Took(0)
abbrev begin : List ℕ
begin = 0 ∷ 0 ∷ 0 ∷ 17 ∷ 2 ∷ 0 ∷ 0 ∷ 0 ∷ 0 ∷ 0 ∷ 1 ∷ 0 ∷ 1 ∷ 0 ∷ 0 ∷ 0 ∷ 1 ∷ 0 ∷ 0 ∷ 0 ∷ 0 ∷ []

abbrev took : List ℕ
took = 0 ∷ 0 ∷ 0 ∷ 5 ∷ 0x82 ∷ 0 ∷ 0 ∷ 0 ∷ 0 ∷ []

-- the reply to the second Hello is lost
honest_row : IsHonest toy at_first (Sent hello Stepped ∷ Received next ∷ Sent hello Stepped ∷ Sent begin Stepped ∷ Received took ∷ []) (step toy at_first (SetupBegin 0 1 1 1 0)).0
honest_row =
    let first : Served = record { state = at_first; due = next ∷ [] } in
    let second : Served = record { state = (step toy at_first (SetupBegin 0 1 1 1 0)).0; due = took ∷ [] } in
    (first, Serves-step toy at_first Hello tt, ([], refl, (first, Serves-step toy at_first Hello tt, (second, Serves-step toy at_first (SetupBegin 0 1 1 1 0) begins, ([], refl, (refl, inl refl))))))
  where
    begins : InGrammar (SetupBegin 0 1 1 1 0)
    begins = record {
      number = lit< tt;
      cell = (lit≤ tt, lit≤ tt);
      block = (lit≤ tt, lit≤ tt);
      words = lit≤ tt;
      blocks = lit≤ tt;
    }

-- the kind byte of the first reply
abbrev kind_of : List (List ℕ) → ℕ
kind_of [] = 0
kind_of (reply ∷ later) = slice_index reply 4

-- Took(0) is no reply to Hello
other_row : (after : ServerState) → IsHonest toy at_first (Sent hello Stepped ∷ Received took ∷ []) after → ⊥
other_row after served =
    let stepped = Serves-frame toy at_first Hello Stepped served.0 tt served.1 in
    not_same (ap kind_of (sym served.2.1 ∙ stepped.replies_are))
  where
    not_same : ◌≡◌ {A = ℕ} 0x82 0x81 → ⊥
    not_same same = omega arith

-- and Hello never lacks memory
lacking_row : (after : ServerState) → IsHonest toy at_first (Sent hello LackedMemory ∷ []) after → ⊥
lacking_row after served = true≢false (sym (Serves-frame toy at_first Hello LackedMemory served.0 tt served.1).update)

-- nor does a search
lacking_search_row : (token : List ℕ) (after : ServerState) → IsBytes 160 token → IsHonest toy at_first (Sent (frame_bytes (SearchFrame token)) LackedMemory ∷ []) after → ⊥
lacking_search_row token after size served = true≢false (sym (Serves-frame toy at_first (SearchFrame token) LackedMemory served.0 size served.1).update)

-- neither of them touches the disk
failing_row : (after : ServerState) → IsHonest toy at_first (Sent hello StoreFailed ∷ []) after → ⊥
failing_row after served = true≢false (sym (Serves-frame toy at_first Hello StoreFailed served.0 tt served.1).update)

failing_search_row : (token : List ℕ) (after : ServerState) → IsBytes 160 token → IsHonest toy at_first (Sent (frame_bytes (SearchFrame token)) StoreFailed ∷ []) after → ⊥
failing_search_row token after size served = true≢false (sym (Serves-frame toy at_first (SearchFrame token) StoreFailed served.0 size served.1).update)
