-- The table relabelled for the first commands of two runs is a restriction of the one relabelled for more of them: at each name that the
-- second run uses in its first commands, both have one value.
use Rattle.std.proofs.Common.{◌≡◌, ℕ, List, [], ◌∷◌, ◌++◌, map, refl, sym, ap, ◌∙◌, subst, inr, None}
use Rattle.std.specs.Prelude.{Contains, flat_map}
use Rattle.std.proofs.lemmas.List.{map-append}
use Rattle.std.proofs.lemmas.List.Concat.{flat_map-append}
use Rattle.client_registry.proofs.OverLaws.{over-append}
use Rattle.client_registry.proofs.SizedLaws.{IsHistory-front}
use Rattle.client_registry.specs.Command.{Command}
use Rattle.client_registry.specs.Over.{over}
use Rattle.client_registry.specs.Run.{Offsets}
use Rattle.client_registry.specs.Setup.{Setup}
use Rattle.client_registry.specs.Sized.{IsHistory}
use Rattle.def_comparison.specs.UsedNames.{all_names}
use Rattle.def_leakage.specs.CommandLeaks.{leak}
use Rattle.def_leakage.specs.DrawnValues.{drawings_of_setup, drawings_by, drawings}
use Rattle.def_leakage.specs.Relabelled.{Use, bare, uses_in, uses, relabelled}
use Rattle.def_relabelling.proofs.KeptValues.{names_used, of_map, alike_uses, values_kept}
use Rattle.def_relabelling.proofs.OwnValues.{IsOwn}
use Rattle.def_relabelling.proofs.Pairs.{paired-append, paired-both, paired-parts, paired-then, paired-weaker, partner_of}
use Rattle.def_relabelling.proofs.SameDrawings.{AreAlike}
use Rattle.def_relabelling.proofs.SameDraws.{drawn_uses, probed_uses, alike_drawn, own_drawn}
use Rattle.def_relabelling.specs.Paired.{Paired}
use Rattle.sse_model.proofs.Counts.{AllByRecursion-each}
use Rattle.sse_model.proofs.Prefixes.{run_of}
use Rattle.sse_model.specs.Drawn.{probed_by, probed}
use Rattle.sse_model.specs.Names.{Name, Table}
use Rattle.sse_model.specs.Positions.{block_positions, ranks_of}
use Rattle.sse_model.specs.Wire.{labels_in}

-- What more commands use comes after.

module _ (o : Offsets) (s : Setup) (xs cs : List Command) where
  abbrev more_drawn : List ℕ → List Use
  more_drawn ranks = flat_map (flat_map (uses_in ranks)) (over (drawings_by o.epoch s) xs cs)

  drawn_uses-append : (ranks : List ℕ) → drawn_uses o (run_of s (xs ++ cs)) ranks ≡ drawn_uses o (run_of s xs) ranks ++ more_drawn ranks
  drawn_uses-append ranks =
      ap (λ rest. flat_map (flat_map (uses_in ranks)) (drawings_of_setup o.epoch s ∷ rest)) (over-append (drawings_by o.epoch s) [] xs cs)
      ∙ flat_map-append (flat_map (uses_in ranks)) (drawings o (run_of s xs)) (over (drawings_by o.epoch s) xs cs)

  abbrev more_probed : List Use
  more_probed = map bare (flat_map (λ ns. ns) (over (probed_by o.epoch s) xs cs))

  probed_uses-append : probed_uses o (run_of s (xs ++ cs)) ≡ probed_uses o (run_of s xs) ++ more_probed
  probed_uses-append =
      let front = probed o (run_of s xs) in
      let more = over (probed_by o.epoch s) xs cs in
      ap (λ rest. map bare (flat_map (λ ns. ns) ([] ∷ rest))) (over-append (probed_by o.epoch s) [] xs cs)
      ∙ ap (map bare) (flat_map-append (λ (ns : List Name). ns) front more)
      ∙ map-append bare (flat_map (λ ns. ns) front) (flat_map (λ ns. ns) more)

-- Two runs that leak the same after their first commands, and after all.

module _ (o : Offsets) (s s2 : Setup) (xs ys cs ds : List Command) (t : Table)
    (history : IsHistory (run_of s (xs ++ cs))) (history2 : IsHistory (run_of s2 (ys ++ ds)))
    (leaks : leak o (run_of s xs) ≡ leak o (run_of s2 ys)) (longer : leak o (run_of s (xs ++ cs)) ≡ leak o (run_of s2 (ys ++ ds))) where
  abbrev part : Table
  part = relabelled o (run_of s xs) (run_of s2 ys) t

  abbrev whole : Table
  whole = relabelled o (run_of s (xs ++ cs)) (run_of s2 (ys ++ ds)) t

  abbrev ranks : List ℕ
  ranks = ranks_of (labels_in t (block_positions o.epoch s))

  first_history : IsHistory (run_of s xs)
  first_history = IsHistory-front s xs cs history

  first_history2 : IsHistory (run_of s2 ys)
  first_history2 = IsHistory-front s2 ys ds history2

  abbrev IsSame : Use → Use → Type 0
  IsSame a b = part b.name ≡ whole b.name

  -- what the first commands draw has in both the value of its own place
  same_drawn : Paired IsSame (drawn_uses o (run_of s xs) ranks) (drawn_uses o (run_of s2 ys) ranks)
  same_drawn =
      let us = drawn_uses o (run_of s xs) ranks in
      let vs = drawn_uses o (run_of s2 ys) ranks in
      let own = own_drawn o (run_of s xs) (run_of s2 ys) t first_history2 leaks in
      let all : Paired (IsOwn whole t) (us ++ more_drawn o s xs cs ranks) (vs ++ more_drawn o s2 ys ds ranks) =
      subst (λ ws. Paired (IsOwn whole t) (us ++ more_drawn o s xs cs ranks) ws) (drawn_uses-append o s2 ys ds ranks)
      (subst (λ ws. Paired (IsOwn whole t) ws (drawn_uses o (run_of s2 (ys ++ ds)) ranks)) (drawn_uses-append o s xs cs ranks)
      (own_drawn o (run_of s (xs ++ cs)) (run_of s2 (ys ++ ds)) t history2 longer)) in
      let front = (paired-parts (IsOwn whole t) AreAlike us (more_drawn o s xs cs ranks) vs (more_drawn o s2 ys ds ranks) (alike_drawn o (run_of s xs) (run_of s2 ys) t first_history2 leaks ranks ranks) all).0 in
      paired-then (λ a b. IsOwn part t a b × IsOwn whole t a b) IsSame us vs (paired-both (IsOwn part t) (IsOwn whole t) us vs own front) (λ a b both. both.0 ∙ sym both.1)

  -- a table gives the second name the value that the first has, where nothing is covered
  abbrev IsBareKept : Table → Use → Use → Type 0
  IsBareKept m a b = a.text ≡ None → m b.name ≡ t a.name

  -- what is looked up for them has in both the value of the name beside it
  same_probed : Paired IsSame (probed_uses o (run_of s xs)) (probed_uses o (run_of s2 ys))
  same_probed =
      let run = run_of s xs in
      let other = run_of s2 ys in
      let run2 = run_of s (xs ++ cs) in
      let other2 = run_of s2 (ys ++ ds) in
      let us = probed_uses o run in
      let vs = probed_uses o other in
      let us2 = us ++ more_probed o s xs cs in
      let vs2 = vs ++ more_probed o s2 ys ds in
      let even : Paired AreAlike us vs = (paired-parts AreAlike AreAlike (drawn_uses o run ranks) us (drawn_uses o other ranks) vs (alike_drawn o run other t first_history2 leaks ranks ranks) (alike_uses o run other t first_history first_history2 leaks ranks)).1 in
      let here : Paired (IsBareKept part) us vs =
      (paired-parts (IsBareKept part) AreAlike (drawn_uses o run ranks) us (drawn_uses o other ranks) vs (alike_drawn o run other t first_history2 leaks ranks ranks)
      (paired-then _ (IsBareKept part) (uses o run ranks) (uses o other ranks) (values_kept o run other t first_history first_history2 leaks) (λ a b kept plain. kept (inr plain)))).1 in
      let all : Paired (IsBareKept whole) (probed_uses o run2) (probed_uses o other2) =
      (paired-parts (IsBareKept whole) AreAlike (drawn_uses o run2 ranks) (probed_uses o run2) (drawn_uses o other2 ranks) (probed_uses o other2) (alike_drawn o run2 other2 t history2 longer ranks ranks)
      (paired-then _ (IsBareKept whole) (uses o run2 ranks) (uses o other2 ranks) (values_kept o run2 other2 t history history2 longer) (λ a b kept plain. kept (inr plain)))).1 in
      let there : Paired (IsBareKept whole) us vs =
      (paired-parts (IsBareKept whole) AreAlike us (more_probed o s xs cs) vs (more_probed o s2 ys ds) even
      (subst (λ ws. Paired (IsBareKept whole) us2 ws) (probed_uses-append o s2 ys ds)
      (subst (λ ws. Paired (IsBareKept whole) ws (probed_uses o other2)) (probed_uses-append o s xs cs) all))).0 in
      paired-weaker (λ a b. IsBareKept part a b × IsBareKept whole a b) IsSame (λ (a : Use). a.text ≡ None) (λ b. Unit {0}) us vs
      (AllByRecursion-each (λ (u : Use). u.text ≡ None) bare (λ n. refl) (flat_map (λ ns. ns) (probed o run)))
      (AllByRecursion-each (λ (u : Use). Unit {0}) bare (λ n. tt) (flat_map (λ ns. ns) (probed o other)))
      (paired-both (IsBareKept part) (IsBareKept whole) us vs here there)
      (λ a b plain unit both. both.0 plain ∙ sym (both.1 plain))

  -- at each name that the second run uses in its first commands
  pub relabelled-first : (n : Name) → Contains (all_names o (run_of s2 ys)) n → part n ≡ whole n
  relabelled-first n within =
      let run = run_of s xs in
      let other = run_of s2 ys in
      let us = uses o run ranks in
      let vs = uses o other ranks in
      let all = paired-append IsSame (drawn_uses o run ranks) (probed_uses o run) (drawn_uses o other ranks) (probed_uses o other) same_drawn same_probed in
      let at = of_map (λ (x : Use). x.name) vs n (subst (λ ns. Contains ns n) (sym (names_used o other ranks)) within) in
      let found = partner_of IsSame us vs all at.0 at.1 in
      subst (λ k. part k ≡ whole k) at.2 found.2
