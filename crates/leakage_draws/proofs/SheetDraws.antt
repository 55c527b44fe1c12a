-- What a history draws depends on the values of the names that it draws alone.
use Rattle.std.proofs.Common.{◌≡◌, ℕ, List, [], ◌∷◌, ◌++◌, map, refl, sym, ap, subst, ◌∙◌}
use Rattle.std.specs.Prelude.{Contains, flat_map, unwrap_or}
use Rattle.std.proofs.lemmas.List.Concat.{flat_map-append}
use Rattle.std.proofs.lemmas.List.Elements.{Contains-append_left, Contains-append_right}
use Rattle.std.proofs.lemmas.List.Folds.{flat_map-map}
use Rattle.client_registry.specs.Run.{Run, Offsets}
use Rattle.keyed_fn.specs.Xored.{xored}
use Rattle.leakage_names.specs.Sheets.{Values}
use Rattle.def_comparison.proofs.UsedNames.{Contains-first_names}
use Rattle.def_comparison.specs.UsedNames.{all_names, names}
use Rattle.def_leakage.proofs.Names.{names_drawn}
use Rattle.def_leakage.specs.DrawnValues.{Drawing, ForEntry, ForBlock, ForNumber, ForToken, names_in, draw, drawings, draws}
use Rattle.sse_model.proofs.Members.{Contains-cons, Contains-head}
use Rattle.sse_model.specs.Drawn.{drawn, probed}
use Rattle.sse_model.specs.Names.{Name, Table}
use Rattle.sse_model.specs.Positions.{Position, block_positions, entry_positions, ranks_of}
use Rattle.sse_model.specs.Wire.{labels_in}
use Rattle.sse_simulator.specs.Leaks.{EntryDraw, BlockDraw, NumberDraw, TokenDraw}
use Rattle.leakage_draws.specs.Given.{sheet_table}
use Rattle.leakage_values.specs.SheetOf.{IsSheetOf}

module _ (t u : Table) where
  -- both give each of these names one value
  abbrev Agree : List Name → Type 0
  Agree ns = (n : Name) → Contains ns n → t n ≡ u n

  left : (ns ms : List Name) → Agree (ns ++ ms) → Agree ns
  left ns ms same n within = same n (Contains-append_left ns ms n within)

  right : (ns ms : List Name) → Agree (ns ++ ms) → Agree ms
  right ns ms same n within = same n (Contains-append_right ns ms n within)

  first : (x y : Name) → Agree (x ∷ y ∷ []) → t x ≡ u x
  first x y same = same x (Contains-head x (y ∷ []))

  second : (x y : Name) → Agree (x ∷ y ∷ []) → t y ≡ u y
  second x y same = same y (Contains-cons x (y ∷ []) y (Contains-head y []))

  one_drawn : (ranks : List ℕ) (d : Drawing) → Agree (names_in d) → draw t ranks d ≡ draw u ranks d
  one_drawn ranks (ForEntry p) same = λ i. EntryDraw (record { label = first p.label p.pad same i; text = xored (p.clear ranks) (second p.label p.pad same i) })
  one_drawn ranks (ForBlock p) same = λ i. BlockDraw (record { label = first p.label p.pad same i; text = xored (p.clear ranks) (second p.label p.pad same i) })
  one_drawn ranks (ForNumber n) same = ap (λ value. NumberDraw value) (same n (Contains-head n []))
  one_drawn ranks (ForToken n) same = ap (λ value. TokenDraw value) (same n (Contains-head n []))

  all_drawn : (ranks : List ℕ) (ds : List Drawing) → Agree (flat_map names_in ds) → map (draw t ranks) ds ≡ map (draw u ranks) ds
  all_drawn ranks [] same = refl
  all_drawn ranks (d ∷ ds) same = λ i. one_drawn ranks d (left (names_in d) (flat_map names_in ds) same) i ∷ all_drawn ranks ds (right (names_in d) (flat_map names_in ds) same) i

  lists_drawn : (ranks : List ℕ) (dss : List (List Drawing)) → Agree (flat_map (flat_map names_in) dss) → map (map (draw t ranks)) dss ≡ map (map (draw u ranks)) dss
  lists_drawn ranks [] same = refl
  lists_drawn ranks (ds ∷ dss) same =
      let own = flat_map names_in ds in
      let later = flat_map (flat_map names_in) dss in
      λ i. all_drawn ranks ds (left own later same) i ∷ lists_drawn ranks dss (right own later same) i

  -- the tags of blocks
  same_labels : (ps : List Position) → Agree (flat_map names_in (map ForBlock ps)) → labels_in t ps ≡ labels_in u ps
  same_labels [] same = refl
  same_labels (p ∷ ps) same =
      let later = flat_map names_in (map ForBlock ps) in
      λ i. first p.label p.pad (left (p.label ∷ p.pad ∷ []) later same) i ∷ same_labels ps (right (p.label ∷ p.pad ∷ []) later same) i

  pub same_draws : (o : Offsets) (run : Run) → Agree (flat_map (λ ns. ns) (drawn o run)) → draws t o run ≡ draws u o run
  same_draws o run same =
      let all = drawings o run in
      let entries = map ForEntry (entry_positions o.epoch run.setup) in
      let blocks = map ForBlock (block_positions o.epoch run.setup) in
      let are : flat_map (λ ns. ns) (drawn o run) ≡ flat_map (flat_map names_in) all =
      ap (flat_map (λ ns. ns)) (sym (names_drawn o run)) ∙ flat_map-map (λ ns. ns) (flat_map names_in) all in
      let agree : Agree (flat_map (flat_map names_in) all) = subst Agree are same in
      let setup : Agree (flat_map names_in (entries ++ blocks)) = left (flat_map names_in (entries ++ blocks)) _ agree in
      let own : Agree (flat_map names_in blocks) =
      right (flat_map names_in entries) (flat_map names_in blocks) (subst Agree (flat_map-append names_in entries blocks) setup) in
      ap (λ labels. map (map (draw t (ranks_of labels))) all) (same_labels (block_positions o.epoch run.setup) own)
      ∙ lists_drawn (ranks_of (labels_in u (block_positions o.epoch run.setup))) all agree

-- each drawn name is one of the names of the run
drawn_used : (o : Offsets) (run : Run) (n : Name) → Contains (flat_map (λ ns. ns) (drawn o run)) n → Contains (names o run) n
drawn_used o run n within =
    Contains-first_names (all_names o run) n
    (subst (λ ns. Contains ns n) (sym (flat_map-append (λ ns. ns) (drawn o run) (probed o run)))
    (Contains-append_left (flat_map (λ ns. ns) (drawn o run)) (flat_map (λ ns. ns) (probed o run)) n within))

-- under every table whose values a sheet has, a history draws what it draws under the sheet's own
pub draws-sheet : (values : Values) (words : List (List ℕ)) (o : Offsets) (run : Run) (t : Table) → IsSheetOf values words (names o run) t
    → draws (sheet_table values words) o run ≡ draws t o run
draws-sheet values words o run t is =
    same_draws (sheet_table values words) t o run (λ n within. ap (λ value. unwrap_or value []) (is n (drawn_used o run n within)))
