-- What passes for a history is made of its leakage and its draws, command by command.
use Rattle.std.proofs.Common.{◌≡◌, ℕ, suc, ◌+◌, List, [], ◌∷◌, ◌++◌, length, map, take, Option, Some, None, refl, sym, ap, ◌∙◌, subst, arith}
use Rattle.std.specs.Option.{option_and_then}
use Rattle.std.specs.Prelude.{◌≢◌, flat_map, option_map}
use Rattle.std.proofs.lemmas.List.{length-append, take-append-le, take_all}
use Rattle.std.proofs.lemmas.Option.{none-some, some_pair_parts}
use Rattle.client_registry.specs.Histories.{IsKept, IsWhole}
use Rattle.client_registry.specs.Run.{History}
use Rattle.def_duel.specs.Turns.{texts_of}
use Rattle.def_leakage.proofs.Sessions.{session_is_simulated}
use Rattle.def_leakage.specs.Histories.{leak_in, draws_in}
use Rattle.keyed_fn.specs.KeyedFn.{KeyedFn}
use Rattle.leakage_frames.proofs.RunLaws.{HasRun-all, HasRun-push}
use Rattle.leakage_frames.specs.MadeFrames.{HasRun, ahead, numbers_taken}
use Rattle.leakage_frames.specs.Steps.{bytes_of, bytes_simulated, passed_bytes, step}
use Rattle.sse_frames.specs.Exchange.{exchange, greeting}
use Rattle.sse_frames.specs.Frames.{FrameText}
use Rattle.sse_model.specs.Transcript.{session}
use Rattle.sse_simulator.specs.Leaks.{Draw, Leak}
use Rattle.sse_simulator.specs.Simulator.{Sim, answer_of, before, frames_simulated, kept_of, sim_after, sim_at_first, simulated_from}
use Rattle.sse_game.specs.Passing.{HasPassed, HasShown}
use Rattle.sse_game.specs.declared.shown.Shown.{Shown}

inside : {A : Type 0} (x y : A) → Some x ≡ Some y → x ≡ y
inside x y e = cc

-- The greeting.

ahead-none : {A : Type 0} (o : Option (List A)) → o ≡ ahead [] o
ahead-none None = refl
ahead-none (Some xs) = refl

pub passed-begun : (f : KeyedFn) (key : List ℕ) (shown : Shown) → bytes_simulated [] [] ≡ Some shown.seen → shown.sim ≡ sim_at_first → HasPassed f key None shown
passed-begun f key shown made first = record {
  level = refl;
  run = record {
    frames = [];
    goes = λ rest others. ahead-none (simulated_from sim_at_first rest others) ∙ ap (λ s. ahead [] (simulated_from s rest others)) (sym first);
    count = refl;
    passed = inside shown.seen (map passed_bytes (greeting 0)) (sym made);
  };
}

-- A run of items is a run of the first of more.
run-longer : (k : ℕ) (leaks more : List Leak) (drawn others : List (List Draw)) (texts : List (List ℕ)) (sim : Sim) → take k leaks ≡ take k more → take k drawn ≡ take k others
    → HasRun k leaks drawn texts sim → HasRun k more others texts sim
run-longer k leaks more drawn others texts sim same same2 run = record {
  frames = run.frames;
  goes = λ rest next. (λ i. simulated_from sim_at_first (sym same i ++ rest) (sym same2 i ++ next)) ∙ run.goes rest next;
  count = ap (λ ls. length (flat_map answer_of ls)) (sym same) ∙ run.count;
  passed = run.passed ∙ ap (λ ls. map passed_bytes (greeting 0) ++ map passed_bytes (exchange (flat_map answer_of ls) (flat_map (λ fs. fs) run.frames))) same;
}

-- the front of a list with an item behind it
front : {A : Type 0} (xs ys : List A) (x : A) (n : ℕ) → ys ≡ xs ++ x ∷ [] → n ≡ length xs → take n ys ≡ xs
front xs ys x n is count = ap (take n) is ∙ take-append-le n xs (x ∷ []) (omega (arith, count)) ∙ take_all n xs (omega (arith, count))

ends : {A : Type 0} (xs ys : List A) (x : A) (n : ℕ) → ys ≡ xs ++ x ∷ [] → n ≡ length xs → take (suc n) ys ≡ take n ys ++ x ∷ []
ends xs ys x n is count =
    ap (take (suc n)) is ∙ take_all (suc n) (xs ++ x ∷ []) (omega (arith, count, length-append xs (x ∷ []))) ∙ ap (λ zs. zs ++ x ∷ []) (sym (front xs ys x n is count))

-- One command more.

module _ (f : KeyedFn) (key : List ℕ) (h after : History) (old : Shown) (leak : Leak) (own : List Draw) (passed : HasPassed f key h old)
    (leaks : leak_in after ≡ leak_in h ++ leak ∷ []) (drawn : draws_in f key after ≡ draws_in f key h ++ own ∷ []) where
  abbrev count : ℕ
  count = length (leak_in h)

  longer : HasRun count (leak_in after) (draws_in f key after) old.seen old.sim
  longer =
      run-longer count (leak_in h) (leak_in after) (draws_in f key h) (draws_in f key after) old.seen old.sim
      (take_all count (leak_in h) (omega arith) ∙ sym (front (leak_in h) (leak_in after) leak count leaks refl))
      (take_all count (draws_in f key h) (omega (arith, passed.level)) ∙ sym (front (draws_in f key h) (draws_in f key after) own count drawn (sym passed.level)))
      passed.run

  -- what is made of it, after the texts so far
  onto : (more : List (List ℕ)) (sim : Sim) (o : Option (List FrameText))
      → option_map {U = List (List ℕ) × Sim} (λ frames. (bytes_of (answer_of leak) frames, sim_after old.sim leak own frames)) o ≡ Some (more, sim)
      → (option_map {U = List (List ℕ) × ℕ} (λ frames. (old.seen ++ bytes_of (answer_of leak) frames, old.sim.next + numbers_taken leak frames)) o ≡ Some (old.seen ++ more, sim.next))
      × (sim.kept ≡ old.sim.kept ++ kept_of leak own ∷ [])
  onto more sim None e = absurd (none-some (more, sim) e)
  onto more sim (Some frames) e =
      let parts = some_pair_parts (bytes_of (answer_of leak) frames) more (sim_after old.sim leak own frames) sim e in
      ((λ i. Some (old.seen ++ parts.0 i, (parts.1 i).next)), sym (ap (λ (s : Sim). s.kept) parts.1))

  pub passed-more : (new : Shown) → HasShown leak own old new → HasPassed f key after new
  passed-more new has =
      let made = onto has.more new.sim (frames_simulated old.sim.kept old.sim.next leak own) has.made in
      let run : HasRun (suc count) (leak_in after) (draws_in f key after) (old.seen ++ has.more) new.sim =
      HasRun-push (leak_in after) (draws_in f key after) count leak own (ends (leak_in h) (leak_in after) leak count leaks refl) (ends (draws_in f key h) (draws_in f key after) own count drawn (sym passed.level))
      old.seen (old.seen ++ has.more) old.sim new.sim.next new.sim.kept longer made.0 made.1 in
      let number : suc count ≡ length (leak_in after) = omega (arith, ap length leaks, length-append (leak_in h) (leak ∷ [])) in
      record {
        level = omega (arith, passed.level, ap length leaks, ap length drawn, length-append (leak_in h) (leak ∷ []), length-append (draws_in f key h) (own ∷ []));
        run =
            subst (λ texts. HasRun (length (leak_in after)) (leak_in after) (draws_in f key after) texts new.sim) (sym has.seen)
            (subst (λ n. HasRun n (leak_in after) (draws_in f key after) (old.seen ++ has.more) new.sim) number run);
      }

  -- something is made of it
  pub passed-some : IsWhole after → IsKept after → step old.sim leak own ≢ None
  passed-some whole kept none = by (frames_simulated old.sim.kept old.sim.next leak own) refl none
    where
      all : simulated_from sim_at_first (leak_in after) (draws_in f key after) ≡ ahead longer.frames (simulated_from old.sim (leak ∷ []) (own ∷ []))
      all =
          (λ i. simulated_from sim_at_first
          ((leaks ∙ ap (λ xs. xs ++ leak ∷ []) (sym (front (leak_in h) (leak_in after) leak count leaks refl))) i)
          ((drawn ∙ ap (λ xs. xs ++ own ∷ []) (sym (front (draws_in f key h) (draws_in f key after) own count drawn (sym passed.level)))) i))
          ∙ longer.goes (leak ∷ []) (own ∷ [])

      by : (o : Option (List FrameText)) → frames_simulated old.sim.kept old.sim.next leak own ≡ o
          → option_map {U = List (List ℕ) × Sim} (λ frames. (bytes_of (answer_of leak) frames, sim_after old.sim leak own frames)) o ≡ None → ⊥
      by None is e =
          let nothing : simulated_from old.sim (leak ∷ []) (own ∷ []) ≡ None = ap (λ o. option_and_then (λ fs. before (Some fs) (simulated_from (sim_after old.sim leak own fs) [] [])) o) is in
          let made = ap (option_map (λ frames. greeting sim_at_first.next ++ exchange (flat_map answer_of (leak_in after)) (flat_map (λ fs. fs) frames))) (all ∙ ap (ahead longer.frames) nothing) in
          none-some (session f key after) (sym made ∙ session_is_simulated f key after whole kept)
      by (Some frames) is e = none-some (bytes_of (answer_of leak) frames, sim_after old.sim leak own frames) (sym e)

-- they are the texts of the history
pub passed-is : (f : KeyedFn) (key : List ℕ) (h : History) (shown : Shown) → IsWhole h → IsKept h → HasPassed f key h shown → shown.seen ≡ texts_of f key h
passed-is f key h shown whole kept passed =
    inside shown.seen (texts_of f key h)
    (sym (HasRun-all (leak_in h) (draws_in f key h) shown.seen shown.sim (length (leak_in h)) refl passed.run)
    ∙ ap (option_map (map passed_bytes)) (session_is_simulated f key h whole kept))
