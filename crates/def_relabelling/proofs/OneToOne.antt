-- The tables for a run and those for another run of equal leakage go together one to one.
use Rattle.std.proofs.Common.{◌≡◌, List, [], ◌∷◌, ◌++◌, refl, sym, ap, ◌∙◌, subst}
use Rattle.std.specs.Prelude.{Contains, flat_map, zip, if◌then◌else◌}
use Rattle.std.specs.List.{AllByRecursion}
use Rattle.std.proofs.lemmas.List.Elements.{Contains-append_left, Contains-append_right}
use Rattle.client_registry.specs.Over.{over}
use Rattle.client_registry.specs.Run.{Run, Offsets}
use Rattle.client_registry.specs.Sized.{IsHistory}
use Rattle.def_leakage.specs.CommandLeaks.{leak}
use Rattle.def_leakage.specs.Relabelled.{Use, uses, shifted, value_among, relabelled}
use Rattle.sse_model.proofs.Members.{Contains-head, Contains-flat_map, Contains-map, AllByRecursion-from_members}
use Rattle.sse_model.specs.Drawn.{names_of, drawn_by, probed}
use Rattle.sse_model.specs.Names.{Name, Table, same_name}
use Rattle.sse_model.specs.Positions.{Position, entry_positions, block_positions, ranks_of}
use Rattle.sse_model.specs.Wire.{labels_in}
use Rattle.def_relabelling.proofs.KeptValues.{names_used, relabelled_back}
use Rattle.def_relabelling.proofs.SizedValues.{sized_there}
use Rattle.def_relabelling.specs.Tables.{IsTableFor, AgreeOn}

-- Tables that agree.

same_labels : (t u : Table) (ps : List Position) → AllByRecursion (λ p. t p.label ≡ u p.label) ps → labels_in t ps ≡ labels_in u ps
same_labels t u [] all = refl
same_labels t u (p ∷ ps) all = λ i. all.0 i ∷ same_labels t u ps all.1 i

same_values : (t u : Table) (us vs : List Use) (n : Name) → AllByRecursion (λ (x : Use). t x.name ≡ u x.name) us → value_among t (zip us vs) n ≡ value_among u (zip us vs) n
same_values t u [] vs n all = refl
same_values t u (x ∷ us) [] n all = refl
same_values t u (x ∷ us) (y ∷ vs) n all = λ i. if same_name n y.name then shifted (all.0 i) x.text y.text else same_values t u us vs n all.1 i

module _ (o : Offsets) (run other : Run) (t u : Table) (agree : AgreeOn o run t u) where
  same_ranks : ranks_of (labels_in t (block_positions o.epoch run.setup)) ≡ ranks_of (labels_in u (block_positions o.epoch run.setup))
  same_ranks =
      let entries = names_of (entry_positions o.epoch run.setup) in
      let blocks = names_of (block_positions o.epoch run.setup) in
      let behind = flat_map (λ ns. ns) (over (drawn_by o.epoch run.setup) [] run.later ++ probed o run) in
      ap ranks_of
      (same_labels t u (block_positions o.epoch run.setup)
      (AllByRecursion-from_members (λ p. t p.label ≡ u p.label) (block_positions o.epoch run.setup)
      (λ p within. agree p.label
      (Contains-append_left (entries ++ blocks) behind p.label
      (Contains-append_right entries blocks p.label
      (Contains-flat_map (λ (q : Position). q.label ∷ q.pad ∷ []) (block_positions o.epoch run.setup) p p.label within (Contains-head p.label (p.pad ∷ []))))))))

  -- a relabelled table depends on no values but those at the names of the run
  pub relabelled-agree : (n : Name) → relabelled o run other t n ≡ relabelled o run other u n
  relabelled-agree n =
      let ranks = ranks_of (labels_in u (block_positions o.epoch run.setup)) in
      ap (λ rs. value_among t (zip (uses o run rs) (uses o other rs)) n) same_ranks
      ∙ same_values t u (uses o run ranks) (uses o other ranks) n
      (AllByRecursion-from_members (λ (x : Use). t x.name ≡ u x.name) (uses o run ranks)
      (λ x within. agree x.name (subst (λ ns. Contains ns x.name) (names_used o run ranks) (Contains-map (λ (y : Use). y.name) (uses o run ranks) x within))))

-- Two runs of equal leakage.

module _ (o : Offsets) (run other : Run) (history : IsHistory run) (history2 : IsHistory other) (leaks : leak o run ≡ leak o other) where
  -- Promise P152, also here
  -- tables for the run that make one table for the other are one at the names of the run
  pub relabelled-injective : (t u : Table) → IsTableFor t o run → IsTableFor u o run → AgreeOn o other (relabelled o run other t) (relabelled o run other u) → AgreeOn o run t u
  relabelled-injective t u values values2 agree = λ n within.
      sym (relabelled_back o run other t history history2 leaks values n within)
      ∙ relabelled-agree o other run (relabelled o run other t) (relabelled o run other u) agree n
      ∙ relabelled_back o run other u history history2 leaks values2 n within

  -- Promise P152, also here
  -- and each table for the other is made of a table for the run
  pub relabelled-onto : (u : Table) → IsTableFor u o other → (t : Table) × IsTableFor t o run × AgreeOn o other (relabelled o run other t) u
  relabelled-onto u values = (
    relabelled o other run u,
    sized_there o other run u history2 history (sym leaks) values,
    relabelled_back o other run u history2 history (sym leaks) values,
  )
