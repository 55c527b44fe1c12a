-- What is simulated of the first commands is the first of what is simulated of all.
use Rattle.std.proofs.Common.{◌≡◌, ℕ, zero, suc, List, [], ◌∷◌, take, refl, ap, ◌∙◌, Some, None}
use Rattle.std.specs.Prelude.{Option}
use Rattle.std.specs.Option.{option_and_then}
use Rattle.sse_frames.specs.Frames.{FrameText}
use Rattle.sse_simulator.specs.Leaks.{Leak, Draw}
use Rattle.sse_simulator.specs.Simulator.{before, frames_simulated, Sim, sim_after, simulated_from}

none_is_some : {A B : Type 0} (x : A) → None ≡ Some x → B
none_is_some x e = absurd (let never : None ≡ Some x = e in cc)

inside : {A : Type 0} (x y : A) → Some x ≡ Some y → x ≡ y
inside x y e = cc

-- Promise P146, also here
-- for all leakage and draws of which something is made
pub take-simulated_from : (n : ℕ) (sim : Sim) (leaks : List Leak) (drawn : List (List Draw)) (frames : List (List FrameText))
    → simulated_from sim leaks drawn ≡ Some frames → simulated_from sim (take n leaks) (take n drawn) ≡ Some (take n frames)
take-simulated_from zero sim leaks drawn frames e = refl
take-simulated_from (suc n) sim [] drawn frames e = ap (λ fs. Some (take (suc n) fs)) (inside [] frames e)
take-simulated_from (suc n) sim (leak ∷ leaks) [] frames e = none_is_some frames e
take-simulated_from (suc n) sim (leak ∷ leaks) (draws ∷ drawn) frames e =
    by (λ next rest is. take-simulated_from n next leaks drawn rest is) (frames_simulated sim.kept sim.next leak draws) e
  where
    by : ((next : Sim) (rest : List (List FrameText)) → simulated_from next leaks drawn ≡ Some rest → simulated_from next (take n leaks) (take n drawn) ≡ Some (take n rest))
        → (made : Option (List FrameText))
        → option_and_then (λ fs. before (Some fs) (simulated_from (sim_after sim leak draws fs) leaks drawn)) made ≡ Some frames
        → option_and_then (λ fs. before (Some fs) (simulated_from (sim_after sim leak draws fs) (take n leaks) (take n drawn))) made ≡ Some (take (suc n) frames)
    by had None is = none_is_some frames is
    by had (Some fs) is = rest (simulated_from (sim_after sim leak draws fs) leaks drawn) refl is
      where
        rest : (others : Option (List (List FrameText))) → simulated_from (sim_after sim leak draws fs) leaks drawn ≡ others → before (Some fs) others ≡ Some frames
            → before (Some fs) (simulated_from (sim_after sim leak draws fs) (take n leaks) (take n drawn)) ≡ Some (take (suc n) frames)
        rest None same is = none_is_some frames is
        rest (Some others) same is =
            ap (before (Some fs)) (had (sim_after sim leak draws fs) others same) ∙ ap (λ all. Some (take (suc n) all)) (inside (fs ∷ others) frames is)
