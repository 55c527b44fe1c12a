-- Which item is the first that names what isn't there: nothing is made of it, whatever memory there is.
use Rattle.std.proofs.Common.{◌≡◌, ℕ, suc, ◌+◌, ◌<◌, ◌≤◌, Bool, true, false, List, [], ◌∷◌, ◌++◌, length, map, take, drop, Option, Some, None, Result, Ok, Err, refl, sym, ap, subst, ◌∙◌, arith}
use Rattle.std.specs.Prelude.{◌↔◌, flat_map, option_map, is_some}
use Rattle.std.specs.Option.{option_and_then}
use Rattle.std.proofs.lemmas.Option.{none-some}
use Rattle.std.proofs.lemmas.List.{append-nil, length-map, length-take-le, take-append-drop, take-take, take_all}
use Rattle.sse_frames.specs.Exchange.{exchange, greeting}
use Rattle.sse_frames.specs.Frames.{FrameText}
use Rattle.sse_simulator.specs.Leaks.{Leak, Draw}
use Rattle.sse_simulator.specs.Simulator.{Kept, before, kept_of, answer_of, frames_simulated, Sim, sim_at_first, sim_after, simulated_from, simulated}
use Rattle.leakage_frames.proofs.AbsentLaws.{kept_each-push}
use Rattle.leakage_frames.proofs.RunLaws.{HasRun-push, IsFirstBad-here, front_simulated, whole}
use Rattle.leakage_frames.specs.MadeFrames.{ahead, CanRun, kept_each, kept_view, numbers_taken}
use Rattle.leakage_frames.specs.Steps.{bytes_of, bytes_simulated, passed_bytes, step, IsFirstBad}
use Rattle.leakage_frames.specs.declared.fault.SimFault.{SimFault}
use Rattle.leakage_frames.specs.declared.fault.SimFault.TheVariants.{BadLeak, NoMemory}
use Rattle.leakage_frames.specs.declared.kept.Kept as kepts

-- Where nothing is made of the items of a front, nothing is made of all.

before_none : {A : Type 0} (x : A) (o : Option (List A)) → before (Some x) o ≡ None → o ≡ None
before_none x None is = refl
before_none x (Some xs) is = absurd (none-some (x ∷ xs) (sym is))

map_none : {A B : Type 0} (f : A → B) (o : Option A) → option_map f o ≡ None → o ≡ None
map_none f None is = refl
map_none f (Some x) is = absurd (none-some (f x) (sym is))

none_behind : {A : Type 0} (short long : A → Option (List A)) → ((a : A) → short a ≡ None → long a ≡ None) → (o : Option A)
    → option_and_then (λ a. before (Some a) (short a)) o ≡ None → option_and_then (λ a. before (Some a) (long a)) o ≡ None
none_behind short long none None is = refl
none_behind short long none (Some a) is = ap (before (Some a)) (none a (before_none a (short a) is))

none_longer : (sim : Sim) (xs ys : List Leak) (drawn : List (List Draw)) → simulated_from sim xs drawn ≡ None → simulated_from sim (xs ++ ys) drawn ≡ None
none_longer sim [] ys drawn is = absurd (none-some [] (sym is))
none_longer sim (leak ∷ xs) ys [] is = refl
none_longer sim (leak ∷ xs) ys (draws ∷ drawn) is =
    none_behind (λ frames. simulated_from (sim_after sim leak draws frames) xs drawn) (λ frames. simulated_from (sim_after sim leak draws frames) (xs ++ ys) drawn)
    (λ frames. none_longer (sim_after sim leak draws frames) xs ys drawn) (frames_simulated sim.kept sim.next leak draws) is

-- of the first m, of the first n and of all
pub none_later : (leaks : List Leak) (drawn : List (List Draw)) (m n : ℕ) → m ≤ n → simulated (take m leaks) drawn ≡ None → simulated (take n leaks) drawn ≡ None
none_later leaks drawn m n within is =
    let front : List Leak = take m leaks in
    let rest : List Leak = drop m (take n leaks) in
    let parted : front ++ rest ≡ take n leaks = ap (λ ls. ls ++ rest) (sym (take-take m n leaks within)) ∙ take-append-drop m (take n leaks) in
    let none : simulated_from sim_at_first front drawn ≡ None =
    map_none (λ fs. greeting 0 ++ exchange (flat_map answer_of front) (flat_map (λ f. f) fs)) (simulated_from sim_at_first front drawn) is in
    ap (λ ls. simulated ls drawn) (sym parted)
    ∙ ap (option_map (λ fs. greeting 0 ++ exchange (flat_map answer_of (front ++ rest)) (flat_map (λ f. f) fs))) (none_longer sim_at_first front rest drawn none)

pub bad_none : (command : ℕ) (leaks : List Leak) (drawn : List (List Draw)) → IsFirstBad command leaks drawn → bytes_simulated leaks drawn ≡ None
bad_none command leaks drawn bad =
    ap (option_map (map passed_bytes))
    (ap (λ ls. simulated ls drawn) (sym (take_all (length leaks) leaks (omega arith)))
    ∙ none_later leaks drawn (command + 1) (length leaks) (omega (arith, bad.within)) bad.here)

-- an item is the first in one place
one_before : (j k : ℕ) (leaks : List Leak) (drawn : List (List Draw)) → IsFirstBad j leaks drawn → IsFirstBad k leaks drawn → j < k → ⊥
one_before j k leaks drawn first second less =
    no_some (sym (ap is_some (none_later leaks drawn (j + 1) k (omega (arith, less)) first.here)) ∙ second.made)
  where
    no_some : is_some {T = ℕ} None ≡ true → ⊥
    no_some is = cc

pub bad_once : (j k : ℕ) (leaks : List Leak) (drawn : List (List Draw)) → IsFirstBad j leaks drawn → IsFirstBad k leaks drawn → j ≡ k
bad_once j k leaks drawn first second = omega (arith, one_before j k leaks drawn first second, one_before k j leaks drawn second first)

-- What can be run.

ahead-nil : {A : Type 0} (o : Option (List A)) → o ≡ ahead [] o
ahead-nil None = refl
ahead-nil (Some xs) = refl

pub CanRun-zero : (leaks : List Leak) (drawn : List (List Draw)) → CanRun 0 leaks drawn
CanRun-zero leaks drawn = record {
  texts = map passed_bytes (greeting 0);
  sim = sim_at_first;
  run = record {
    frames = [];
    goes = λ rest others. ahead-nil (simulated_from sim_at_first rest others);
    count = refl;
    passed = sym (append-nil (map passed_bytes (greeting 0)));
  };
  kept = refl;
}

module _ (leaks : List Leak) (drawn : List (List Draw)) (k : ℕ) (leak : Leak) (draws : List Draw)
    (within : k < length leaks) (inside : k < length drawn)
    (here : take (suc k) leaks ≡ take k leaks ++ leak ∷ []) (there : take (suc k) drawn ≡ take k drawn ++ draws ∷ []) where
  same_length : length (take k leaks) ≡ length (take k drawn)
  same_length = length-take-le k leaks (omega (arith, within)) ∙ sym (length-take-le k drawn (omega (arith, inside)))

  kept_more : kept_each (take k leaks) (take k drawn) ++ kept_of leak draws ∷ [] ≡ kept_each (take (suc k) leaks) (take (suc k) drawn)
  kept_more = sym (kept_each-push (take k leaks) (take k drawn) leak draws same_length) ∙ (λ i. kept_each (sym here i) (sym there i))

  -- one item more
  pub CanRun-push : ((q : ℕ) → is_some (frames_simulated (kept_each (take k leaks) (take k drawn)) q leak draws) ≡ true) → CanRun k leaks drawn → CanRun (suc k) leaks drawn
  CanRun-push made can = by (frames_simulated can.sim.kept can.sim.next leak draws) refl
    where
      by : (o : Option (List FrameText)) → frames_simulated can.sim.kept can.sim.next leak draws ≡ o → CanRun (suc k) leaks drawn
      by None is =
          absurd (no_some (ap is_some (sym is ∙ ap (λ kept. frames_simulated kept can.sim.next leak draws) can.kept) ∙ made can.sim.next))
        where
          no_some : false ≡ true → ⊥
          no_some same = cc
      by (Some frames) is =
          let texts : List (List ℕ) = can.texts ++ bytes_of (answer_of leak) frames in
          let next : ℕ = can.sim.next + numbers_taken leak frames in
          let kept : List Kept = can.sim.kept ++ kept_of leak draws ∷ [] in
          record {
            texts = texts;
            sim = record { kept = kept; next = next };
            run = HasRun-push leaks drawn k leak draws here there can.texts texts can.sim next kept can.run
                (ap (option_map {U = List (List ℕ) × ℕ} (λ fs. (can.texts ++ bytes_of (answer_of leak) fs, can.sim.next + numbers_taken leak fs))) is) refl;
            kept = ap (λ ks. ks ++ kept_of leak draws ∷ []) can.kept ∙ kept_more;
          }

-- the first item of which nothing is made
pub bad_here : (leaks : List Leak) (drawn : List (List Draw)) (k : ℕ) (leak : Leak) → k < length leaks → take (suc k) leaks ≡ take k leaks ++ leak ∷ []
    → ((draws : List Draw) (others : List (List Draw)) (q : ℕ) → drop k drawn ≡ draws ∷ others → is_some (frames_simulated (kept_each (take k leaks) (take k drawn)) q leak draws) ≡ false)
    → CanRun k leaks drawn → IsFirstBad k leaks drawn
bad_here leaks drawn k leak within here none can =
    IsFirstBad-here leaks drawn can.texts can.sim k leak within here can.run
    (λ draws others is. is_none (frames_simulated can.sim.kept can.sim.next leak draws)
    (ap (λ kept. is_some (frames_simulated kept can.sim.next leak draws)) can.kept ∙ none draws others can.sim.next is))
  where
    is_none : {A : Type 0} (o : Option A) → is_some o ≡ false → o ≡ None
    is_none None is = refl
    is_none (Some x) is = cc

-- where all can be run, no item is bad
pub none_bad : (leaks : List Leak) (drawn : List (List Draw)) (k command : ℕ) → k ≡ length leaks → CanRun k leaks drawn → IsFirstBad command leaks drawn → ⊥
none_bad leaks drawn k command end can bad =
    none-some _ (sym (none_later leaks drawn (command + 1) k (omega (arith, bad.within, end)) bad.here)
    ∙ whole (take k leaks) drawn can.run.frames (front_simulated leaks drawn k can.texts can.sim can.run))

-- What is told of it.

command_of : SimFault → ℕ
command_of (BadLeak command) = command
command_of NoMemory = 0

err_of : {T : Type 0} → Result T SimFault → SimFault
err_of (Ok x) = NoMemory
err_of (Err fault) = fault

is_memory : SimFault → Bool
is_memory (BadLeak command) = false
is_memory NoMemory = true

is_ok : {T : Type 0} → Result T SimFault → Bool
is_ok (Ok x) = true
is_ok (Err fault) = false

true_false : true ≡ false → ⊥
true_false same = cc

-- that item and no other
pub fault_here : (k : ℕ) (leaks : List Leak) (drawn : List (List Draw)) → IsFirstBad k leaks drawn → (command : ℕ) → (BadLeak k ≡ BadLeak command) ↔ IsFirstBad command leaks drawn
unfolding command_of
fault_here k leaks drawn bad command =
    (λ same. subst (λ (n : ℕ). IsFirstBad n leaks drawn) (ap command_of same) bad, λ other. ap BadLeak (bad_once k command leaks drawn bad other))

-- none, where all can be run
pub no_fault : (leaks : List Leak) (drawn : List (List Draw)) (k : ℕ) → k ≡ length leaks → CanRun k leaks drawn → (command : ℕ) → (NoMemory ≡ BadLeak command) ↔ IsFirstBad command leaks drawn
unfolding is_memory
no_fault leaks drawn k end can command = (λ same. absurd (true_false (ap is_memory same)), λ bad. absurd (none_bad leaks drawn k command end can bad))

-- nor where all was made
pub made_whole : {T : Type 0} (x : T) (leaks : List Leak) (drawn : List (List Draw)) (texts : List (List ℕ)) → bytes_simulated leaks drawn ≡ Some texts
    → (command : ℕ) → (◌≡◌ {A = Result T SimFault} (Ok x) (Err (BadLeak command))) ↔ IsFirstBad command leaks drawn
unfolding is_ok
made_whole x leaks drawn texts made command =
    (λ same. absurd (true_false (ap is_ok same)), λ bad. absurd (none-some texts (sym (bad_none command leaks drawn bad) ∙ made)))

pub fault_told : {T : Type 0} (fault : SimFault) (P : ℕ → Type 0) → ((command : ℕ) → (fault ≡ BadLeak command) ↔ P command)
    → (command : ℕ) → (◌≡◌ {A = Result T SimFault} (Err fault) (Err (BadLeak command))) ↔ P command
unfolding err_of
fault_told fault P told command = (λ same. (told command).0 (ap err_of same), λ p. ap Err ((told command).1 p))

-- of one item
pub step_told : {T : Type 0} (sim : Sim) (stored : List kepts.Kept) (leak : Leak) (draws : List Draw) (fault : SimFault) → sim.kept ≡ map kept_view stored
    → ((q command : ℕ) → (fault ≡ BadLeak command) ↔ ((frames_simulated (map kept_view stored) q leak draws ≡ None) × (command ≡ length stored)))
    → (command : ℕ) → (◌≡◌ {A = Result T SimFault} (Err fault) (Err (BadLeak command))) ↔ ((step sim leak draws ≡ None) × (command ≡ length sim.kept))
step_told sim stored leak draws fault is told =
    let shown : List FrameText → List (List ℕ) × Sim = λ frames. (bytes_of (answer_of leak) frames, sim_after sim leak draws frames) in
    let count : length sim.kept ≡ length stored = ap (λ (ks : List Kept). length ks) is ∙ length-map stored kept_view in
    fault_told fault (λ command. (step sim leak draws ≡ None) × (command ≡ length sim.kept))
    (λ command. (
      λ same. let both = (told sim.next command).0 same in
          (ap (option_map shown) (ap (λ ks. frames_simulated ks sim.next leak draws) is ∙ both.0), both.1 ∙ sym count),
      λ none. (told sim.next command).1
          (ap (λ ks. frames_simulated ks sim.next leak draws) (sym is) ∙ map_none shown (frames_simulated sim.kept sim.next leak draws) none.0, none.1 ∙ count),
    ))
