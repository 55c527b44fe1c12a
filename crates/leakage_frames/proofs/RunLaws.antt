-- Items in a row: what passes for one more, and the first that names what isn't there.
use Rattle.std.proofs.Common.{◌≡◌, ℕ, zero, suc, ◌+◌, ◌<◌, List, [], ◌∷◌, ◌++◌, length, map, take, drop, get_or, Option, Some, None, Result, Ok, Err, OnOk, refl, sym, ap, ◌∙◌, arith, add-one, append_assoc}
use Rattle.std.specs.Prelude.{flat_map, option_map, is_some}
use Rattle.std.specs.List.{slice_get}
use Rattle.std.specs.Option.{option_and_then}
use Rattle.std.proofs.lemmas.Option.{none-some, some_pair_parts, slice_get_within, get_or_from_slice_get}
use Rattle.std.proofs.lemmas.Grind.{flat_map-append}
use Rattle.std.proofs.lemmas.List.{append-nil, length-append, map-append, map_push, take_all, take-append-drop, take-map, take_more}
use Rattle.sse_frames.specs.Exchange.{exchange, greeting, searches}
use Rattle.sse_frames.specs.Frames.{FrameText}
use Rattle.sse_simulator.specs.Leaks.{Leak, Draw}
use Rattle.sse_simulator.specs.Simulator.{Kept, before, kept_of, answer_of, frames_simulated, Sim, sim_at_first, sim_after, simulated_from, simulated}
use Rattle.leakage_frames.proofs.ExchangeLaws.{exchange-append, searches-append, searches-simulated}
use Rattle.leakage_frames.proofs.Gathered.{ahead-before}
use Rattle.leakage_frames.specs.MadeFrames.{ahead, numbers_taken, made_onto, HasRun}
use Rattle.leakage_frames.specs.Steps.{passed_bytes, bytes_of, bytes_simulated, IsFirstBad}

-- the frames of an item, by what is made of it
frames_made : {P : Type 0} (texts : List (List ℕ)) (kept : List Kept) (q : ℕ) (leak : Leak) (draws : List Draw) (after : List (List ℕ)) (next : ℕ)
    → made_onto texts kept q leak draws ≡ Some (after, next)
    → ((frames : List FrameText) → frames_simulated kept q leak draws ≡ Some frames → texts ++ bytes_of (answer_of leak) frames ≡ after → q + numbers_taken leak frames ≡ next → P) → P
frames_made {P = P} texts kept q leak draws after next is go = by (frames_simulated kept q leak draws) refl is
  where
    by : (o : Option (List FrameText)) → frames_simulated kept q leak draws ≡ o
        → option_map {U = List (List ℕ) × ℕ} (λ frames. (texts ++ bytes_of (answer_of leak) frames, q + numbers_taken leak frames)) o ≡ Some (after, next) → P
    by None found same = absurd (none-some (after, next) same)
    by (Some frames) found same =
        let parts = some_pair_parts (texts ++ bytes_of (answer_of leak) frames) after (q + numbers_taken leak frames) next same in
        go frames found parts.0 parts.1

-- what follows from both clauses of a call
pub on_ok_both : {T E P Q R : Type 0} (r : Result T E) → OnOk r P → OnOk r Q → (P → Q → R) → OnOk r R
on_ok_both (Ok x) p q go = go p q
on_ok_both (Err e) p q go = tt

-- the front of a list with the element at its end
pub taken : {A B : Type 0} (view : A → B) (xs : List A) (k : ℕ) (x : A) → k < length xs → x ≡ get_or xs k x → take (suc k) (map view xs) ≡ take k (map view xs) ++ view x ∷ []
taken view xs k x within is =
    ap (λ (n : ℕ). take n (map view xs)) (sym (add-one k)) ∙ take-map view (k + 1) xs
    ∙ ap (map view) (take_more xs k x within ∙ ap (λ y. take k xs ++ y ∷ []) (sym is))
    ∙ map_push view (take k xs) x
    ∙ ap (λ ys. ys ++ view x ∷ []) (sym (take-map view k xs))

-- the same of the element that a lookup gives
pub taken_at : {A B : Type 0} (view : A → B) (xs : List A) (k : ℕ) (x : A) → slice_get xs k ≡ Some x → take (suc k) (map view xs) ≡ take k (map view xs) ++ view x ∷ []
taken_at view xs k x is = taken view xs k x (slice_get_within xs k x is) (sym (get_or_from_slice_get xs k x x is))

-- nothing is behind a place where there is no element
pub drop_none : {A : Type 0} (xs : List A) (k : ℕ) → slice_get xs k ≡ None → drop k xs ≡ []
drop_none [] zero is = refl
drop_none [] (suc k) is = refl
drop_none (x ∷ xs) zero is = absurd (none-some x (sym is))
drop_none (x ∷ xs) (suc k) is = drop_none xs k is

-- the element at a place is the first from there on
pub drop_head : {A : Type 0} (xs : List A) (k : ℕ) (x y : A) (ys : List A) → slice_get xs k ≡ Some x → drop k xs ≡ y ∷ ys → x ≡ y
drop_head [] k x y ys at is = absurd (none-some x at)
drop_head (z ∷ zs) zero x y ys at is = cc
drop_head (z ∷ zs) (suc k) x y ys at is = drop_head zs k x y ys at is

module _ (leaks : List Leak) (drawn : List (List Draw)) (k : ℕ) (leak : Leak) (draws : List Draw)
    (here : take (suc k) leaks ≡ take k leaks ++ leak ∷ []) (there : take (suc k) drawn ≡ take k drawn ++ draws ∷ []) where
  abbrev answers : List (List ℕ)
  answers = flat_map answer_of (take k leaks)

  more_answers : flat_map answer_of (take (suc k) leaks) ≡ answers ++ answer_of leak
  more_answers =
      ap (flat_map answer_of) here ∙ flat_map-append answer_of (take k leaks) (leak ∷ [])
      ∙ ap (λ (own : List (List ℕ)). answers ++ own) (append-nil (answer_of leak))

  more_frames : (all : List (List FrameText)) (frames : List FrameText) → flat_map (λ fs. fs) (all ++ frames ∷ []) ≡ flat_map (λ fs. fs) all ++ frames
  more_frames all frames = flat_map-append (λ fs. fs) all (frames ∷ []) ∙ ap (λ (own : List FrameText). flat_map (λ fs. fs) all ++ own) (append-nil frames)

  -- one item more
  pub HasRun-push : (texts after : List (List ℕ)) (sim : Sim) (next : ℕ) (kept : List Kept) → HasRun k leaks drawn texts sim
      → made_onto texts sim.kept sim.next leak draws ≡ Some (after, next) → kept ≡ sim.kept ++ kept_of leak draws ∷ []
      → HasRun (suc k) leaks drawn after (record { kept = kept; next = next })
  HasRun-push texts after sim next kept run is more =
      frames_made texts sim.kept sim.next leak draws after next is (λ frames found bytes number.
      let all = run.frames in
      let later_sim : Sim = record { kept = kept; next = next } in
      let same : sim_after sim leak draws frames ≡ later_sim = λ i. record { kept = sym more i; next = number i } in
      let one : searches frames ≡ length (answer_of leak) = searches-simulated sim.kept sim.next leak draws frames found in
      record {
        frames = all ++ frames ∷ [];
        goes = λ rest others.
            (λ i. simulated_from sim_at_first (front_more here rest i) (front_more' there others i))
            ∙ run.goes (leak ∷ rest) (draws ∷ others)
            ∙ ap (λ o. ahead all (option_and_then (λ fs. before (Some fs) (simulated_from (sim_after sim leak draws fs) rest others)) o)) found
            ∙ sym (ahead-before all frames (simulated_from (sim_after sim leak draws frames) rest others))
            ∙ ap (λ s. ahead (all ++ frames ∷ []) (simulated_from s rest others)) same;
        count =
            ap length more_answers ∙ length-append answers (answer_of leak)
            ∙ omega (arith, run.count, one, searches-append (flat_map (λ fs. fs) all) frames, ap searches (more_frames all frames));
        passed =
            sym bytes
            ∙ ap (λ (front : List (List ℕ)). front ++ bytes_of (answer_of leak) frames) run.passed
            ∙ append_assoc (map passed_bytes (greeting 0)) (map passed_bytes (exchange answers (flat_map (λ fs. fs) all))) (bytes_of (answer_of leak) frames)
            ∙ ap (λ (rest : List (List ℕ)). map passed_bytes (greeting 0) ++ rest)
            (sym (map-append passed_bytes (exchange answers (flat_map (λ fs. fs) all)) (exchange (answer_of leak) frames))
            ∙ ap (map passed_bytes) (sym (exchange-append (flat_map (λ fs. fs) all) frames answers (answer_of leak) run.count))
            ∙ (λ i. map passed_bytes (exchange (sym more_answers i) (sym (more_frames all frames) i))));
      })
    where
      front_more : take (suc k) leaks ≡ take k leaks ++ leak ∷ [] → (rest : List Leak) → take (suc k) leaks ++ rest ≡ take k leaks ++ leak ∷ rest
      front_more e rest = ap (λ (front : List Leak). front ++ rest) e ∙ append_assoc (take k leaks) (leak ∷ []) rest

      front_more' : take (suc k) drawn ≡ take k drawn ++ draws ∷ [] → (others : List (List Draw)) → take (suc k) drawn ++ others ≡ take k drawn ++ draws ∷ others
      front_more' e others = ap (λ (front : List (List Draw)). front ++ others) e ∙ append_assoc (take k drawn) (draws ∷ []) others

-- what is simulated of all, from what is simulated of their frames
pub whole : (leaks : List Leak) (drawn : List (List Draw)) (frames : List (List FrameText)) → simulated_from sim_at_first leaks drawn ≡ Some frames
    → simulated leaks drawn ≡ Some (greeting 0 ++ exchange (flat_map answer_of leaks) (flat_map (λ fs. fs) frames))
whole leaks drawn frames is = ap (option_map (λ fs. greeting 0 ++ exchange (flat_map answer_of leaks) (flat_map (λ f. f) fs))) is

pub front_simulated : (leaks : List Leak) (drawn : List (List Draw)) (k : ℕ) (texts : List (List ℕ)) (sim : Sim) (run : HasRun k leaks drawn texts sim)
    → simulated_from sim_at_first (take k leaks) drawn ≡ Some run.frames
front_simulated leaks drawn k texts sim run =
    (λ i. simulated_from sim_at_first (sym (append-nil (take k leaks)) i) (sym (take-append-drop k drawn) i))
    ∙ run.goes [] (drop k drawn)
    ∙ ap Some (append-nil run.frames)

-- the run of all of them
pub HasRun-all : (leaks : List Leak) (drawn : List (List Draw)) (texts : List (List ℕ)) (sim : Sim) (k : ℕ) → k ≡ length leaks → HasRun k leaks drawn texts sim → bytes_simulated leaks drawn ≡ Some texts
HasRun-all leaks drawn texts sim k end run =
    let all : take k leaks ≡ leaks = take_all k leaks (omega (arith, end)) in
    let frames = flat_map (λ fs. fs) run.frames in
    ap (option_map (map passed_bytes))
    (ap (λ ls. simulated ls drawn) (sym all) ∙ whole (take k leaks) drawn run.frames (front_simulated leaks drawn k texts sim run))
    ∙ ap Some (map-append passed_bytes (greeting 0) (exchange (flat_map answer_of (take k leaks)) frames) ∙ sym run.passed)

-- an item that has no draws beside it, or of which nothing is made
pub IsFirstBad-here : (leaks : List Leak) (drawn : List (List Draw)) (texts : List (List ℕ)) (sim : Sim) (k : ℕ) (leak : Leak) → k < length leaks
    → take (suc k) leaks ≡ take k leaks ++ leak ∷ [] → HasRun k leaks drawn texts sim
    → ((draws : List Draw) (others : List (List Draw)) → drop k drawn ≡ draws ∷ others → frames_simulated sim.kept sim.next leak draws ≡ None)
    → IsFirstBad k leaks drawn
IsFirstBad-here leaks drawn texts sim k leak within here run none = record {
  within = within;
  made = ap is_some (whole (take k leaks) drawn run.frames (front_simulated leaks drawn k texts sim run));
  here =
      ap (λ (n : ℕ). simulated (take n leaks) drawn) (add-one k)
      ∙ ap (option_map (λ fs. greeting 0 ++ exchange (flat_map answer_of (take (suc k) leaks)) (flat_map (λ f. f) fs)))
      ((λ i. simulated_from sim_at_first (here i) (sym (take-append-drop k drawn) i))
      ∙ run.goes (leak ∷ []) (drop k drawn)
      ∙ ap (ahead run.frames) (by (drop k drawn) refl));
}
  where
    by : (others : List (List Draw)) → drop k drawn ≡ others → simulated_from sim (leak ∷ []) others ≡ None
    by [] is = refl
    by (draws ∷ others) is =
        ap (option_and_then (λ fs. before (Some fs) (simulated_from (sim_after sim leak draws fs) [] others))) (none draws others is)
