-- Two runs of equal leakage, command beside command.
use Rattle.std.proofs.Common.{◌≡◌, List, [], ◌∷◌, ◌++◌, length, refl, sym, ap, ◌∙◌, arith, append_assoc}
use Rattle.std.proofs.lemmas.List.{length-append}
use Rattle.client_registry.specs.Command.{Command}
use Rattle.client_registry.specs.Over.{over}
use Rattle.client_registry.specs.Run.{Run, Offsets}
use Rattle.def_leakage.specs.CommandLeaks.{leak_of_setup, leak_by, leak}
use Rattle.def_relabelling.proofs.Pairs.{heads, tails}
use Rattle.def_relabelling.specs.Paired.{Paired}

-- two commands at the same place of the two runs, with those before and after them
pub record Beside (o : Offsets) (run other : Run) (past past2 : List Command) (c c2 : Command) : Type 0 where
  pub rest : List Command
  pub rest2 : List Command
  pub parts : run.later ≡ past ++ c ∷ rest
  pub parts2 : other.later ≡ past2 ++ c2 ∷ rest2
  pub even : length past ≡ length past2
  pub same : leak_by o run.setup past c ≡ leak_by o other.setup past2 c2
  pub rests : over (leak_by o run.setup) (past ++ c ∷ []) rest ≡ over (leak_by o other.setup) (past2 ++ c2 ∷ []) rest2

module _ (o : Offsets) (run other : Run) (leaks : leak o run ≡ leak o other) where
  pub same_setup : leak_of_setup o.epoch run.setup ≡ leak_of_setup o.epoch other.setup
  same_setup = heads (leak_of_setup o.epoch run.setup) (leak_of_setup o.epoch other.setup) (over (leak_by o run.setup) [] run.later) (over (leak_by o other.setup) [] other.later) leaks

  pub same_later : over (leak_by o run.setup) [] run.later ≡ over (leak_by o other.setup) [] other.later
  same_later = tails (leak_of_setup o.epoch run.setup) (leak_of_setup o.epoch other.setup) (over (leak_by o run.setup) [] run.later) (over (leak_by o other.setup) [] other.later) leaks

  -- what is so of any two commands at one place is so of all
  pub paired-over : {A B : Type 0} (R : A → B → Type 0) (f : List Command → Command → A) (g : List Command → Command → B)
      → ((past past2 : List Command) (c c2 : Command) → Beside o run other past past2 c c2 → R (f past c) (g past2 c2))
      → Paired R (over f [] run.later) (over g [] other.later)
  paired-over R f g each = go [] [] run.later other.later refl refl refl same_later
    where
      go : (past past2 later later2 : List Command) → run.later ≡ past ++ later → other.later ≡ past2 ++ later2 → length past ≡ length past2
          → over (leak_by o run.setup) past later ≡ over (leak_by o other.setup) past2 later2 → Paired R (over f past later) (over g past2 later2)
      go past past2 [] [] parts parts2 even same = tt
      go past past2 [] (y ∷ ys) parts parts2 even same = absurd (omega (arith, ap length same))
      go past past2 (x ∷ xs) [] parts parts2 even same = absurd (omega (arith, ap length same))
      go past past2 (x ∷ xs) (y ∷ ys) parts parts2 even same =
          let rests = tails (leak_by o run.setup past x) (leak_by o other.setup past2 y) (over (leak_by o run.setup) (past ++ x ∷ []) xs) (over (leak_by o other.setup) (past2 ++ y ∷ []) ys) same in (
            each past past2 x y (record {
              rest = xs;
              rest2 = ys;
              parts = parts;
              parts2 = parts2;
              even = even;
              same = heads (leak_by o run.setup past x) (leak_by o other.setup past2 y) (over (leak_by o run.setup) (past ++ x ∷ []) xs) (over (leak_by o other.setup) (past2 ++ y ∷ []) ys) same;
              rests = rests;
            }),
            go (past ++ x ∷ []) (past2 ++ y ∷ []) xs ys (parts ∙ sym (append_assoc past (x ∷ []) xs)) (parts2 ∙ sym (append_assoc past2 (y ∷ []) ys))
                (let longer : length (past ++ x ∷ []) ≡ length (past2 ++ y ∷ []) = omega (arith, even, length-append past (x ∷ []), length-append past2 (y ∷ [])) in longer)
                rests,
          )
