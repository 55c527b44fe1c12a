-- What is counted of two runs of equal leakage: equally many frames and bytes, and the values for the uses at the places of their names.
use Rattle.std.proofs.Common.{◌≡◌, ◌%◌, ◌^◌, List, [], ◌∷◌, ◌++◌, length, refl, sym, ap, ◌∙◌}
use Rattle.std.specs.Prelude.{Contains, flat_map, sum, sum_by, zip}
use Rattle.std.proofs.lemmas.List.Folds.{flat_map-map}
use Rattle.client_registry.specs.Run.{Run, Offsets}
use Rattle.client_registry.specs.Sized.{IsHistory}
use Rattle.def_comparison.specs.Sums.{session_frames, value_sum, sums}
use Rattle.def_comparison.specs.UsedNames.{names}
use Rattle.sse_frames.specs.Frames.{Hello, frame_bytes}
use Rattle.def_leakage.specs.CommandLeaks.{leak}
use Rattle.def_leakage.specs.Relabelled.{Use, uses, value_for, relabelled}
use Rattle.sse_model.specs.Drawn.{drawn}
use Rattle.sse_model.specs.Names.{Name, Table}
use Rattle.sse_model.specs.Values.{IsValue}
use Rattle.def_relabelling.proofs.KeptValues.{first_ranks}
use Rattle.def_relabelling.proofs.OwnValues.{IsOwn}
use Rattle.def_relabelling.proofs.SameDraws.{wire_relabelled}
use Rattle.def_relabelling.specs.Paired.{Paired}
use Rattle.def_relabelling.proofs.NamesBeside.{names_of_first_uses, values_at_places}
use Rattle.def_relabelling.specs.FirstUses.{first_uses, sum_in_step}

-- values of the second names, where each is that for its place
values_of_pairs : (m t : Table) (us vs : List Use) → Paired (IsOwn m t) us vs → flat_map (λ (v : Use). m v.name) vs ≡ flat_map (λ (pair : Use × Use). value_for t pair.0 pair.1) (zip us vs)
values_of_pairs m t [] [] own = refl
values_of_pairs m t [] (v ∷ vs) own = absurd own
values_of_pairs m t (u ∷ us) [] own = absurd own
values_of_pairs m t (u ∷ us) (v ∷ vs) own = λ i. own.0 i ++ values_of_pairs m t us vs own.1 i

module _ (o : Offsets) (run other : Run) (t : Table) (history : IsHistory run) (history2 : IsHistory other) (leaks : leak o run ≡ leak o other) where
  -- the values of the relabelled table are added up by going over the names of the two runs in step
  pub values_relabelled : value_sum (relabelled o run other t) (names o other) ≡ sum_in_step t o run other
  values_relabelled =
      let ranks = first_ranks o run other t history history2 leaks in
      let m = relabelled o run other t in
      let vs = first_uses (uses o other ranks) in
      ap (λ values. sum values % 2 ^ 64)
      (ap (flat_map m) (sym (names_of_first_uses o other ranks))
      ∙ flat_map-map m (λ (v : Use). v.name) vs
      ∙ values_of_pairs m t (first_uses (uses o run ranks)) vs (values_at_places o run other history history2 leaks t))

  module _ (values : (n : Name) → Contains (flat_map (λ ns. ns) (drawn o run)) n → IsValue run.setup.shape t n) where
    -- the same frames are sent, Hello first
    pub frames_relabelled : session_frames (relabelled o run other t) o other ≡ session_frames t o run
    frames_relabelled = ap (λ frames. Hello ∷ flat_map (λ fs. fs) frames) (wire_relabelled o run other t history2 leaks history values)

    -- Promise P47, also here
    -- so there are as many, and of as many bytes, as for the first run under its own table
    pub sums_relabelled : sums (relabelled o run other t) o other ≡ record {
      frames = (sums t o run).frames;
      bytes = (sums t o run).bytes;
      values = sum_in_step t o run other;
    }
    sums_relabelled = λ i. record {
      frames = length (frames_relabelled i);
      bytes = sum_by (λ frame. length (frame_bytes frame)) (frames_relabelled i);
      values = values_relabelled i;
    }
