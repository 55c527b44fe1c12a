-- Of two runs of equal leakage the names, each once, go together place by place: they are of one class, and the relabelled table gives the
-- other run's name at a place the value for the use at that place.
use Rattle.std.proofs.Common.{◌≡◌, ◌⊎◌, inr, ℕ, Bool, true, false, cond, not, List, [], ◌∷◌, map, filter, refl, sym, ap, ◌∙◌, subst, None}
use Rattle.std.specs.Prelude.{flat_map}
use Rattle.std.specs.Bool.{one_answer}
use Rattle.client_registry.specs.Run.{Run, Offsets}
use Rattle.client_registry.specs.Sized.{IsHistory}
use Rattle.def_comparison.specs.UsedNames.{first_names, all_names, names}
use Rattle.def_leakage.specs.CommandLeaks.{leak}
use Rattle.def_leakage.specs.Relabelled.{Use, bare, uses, relabelled}
use Rattle.sse_model.proofs.Counts.{AllByRecursion-each}
use Rattle.sse_model.proofs.Members.{AllByRecursion-from_members}
use Rattle.sse_model.proofs.SameName.{same_name-Decides}
use Rattle.sse_model.specs.Drawn.{probed}
use Rattle.sse_model.specs.Names.{Name, Table, class_of, same_name}
use Rattle.def_relabelling.proofs.CollisionFree.{AreOfOneClass, AreMatched, classes, matched}
use Rattle.def_relabelling.proofs.KeptValues.{first_ranks, is_searched, names_used, values_kept}
use Rattle.def_relabelling.proofs.OwnValues.{IsOwn, names_in_uses}
use Rattle.def_relabelling.proofs.Pairs.{paired-append, paired-both, paired-filter, paired-map, paired-parts, paired-swap, paired-then, paired-weaker}
use Rattle.def_relabelling.proofs.SameDraws.{drawn_uses, probed_uses, alike_drawn, own_drawn}
use Rattle.def_relabelling.proofs.SameDrawings.{AreAlike}
use Rattle.def_relabelling.proofs.Shifts.{bare_same}
use Rattle.def_relabelling.specs.Paired.{Paired}
use Rattle.def_relabelling.specs.FirstUses.{first_uses}

-- Lists.

-- what is so of images is so of items
pub paired-of_map : {A B C D : Type 0} (R : C → D → Type 0) (f : A → C) (g : B → D) (xs : List A) (ys : List B) → Paired R (map f xs) (map g ys) → Paired (λ x y. R (f x) (g y)) xs ys
paired-of_map R f g [] [] all = tt
paired-of_map R f g [] (y ∷ ys) all = absurd all
paired-of_map R f g (x ∷ xs) [] all = absurd all
paired-of_map R f g (x ∷ xs) (y ∷ ys) all = (all.0, paired-of_map R f g xs ys all.1)

-- two uses have one name on both sides, or on neither
abbrev AreTogether : Use → Use → Use → Use → Type 0
AreTogether a b x y = same_name a.name x.name ≡ same_name b.name y.name

-- where names are the same at the same places, the uses that come first with their names stand at the same places
firsts_beside : (R : Use → Use → Type 0) (us vs : List Use) → Paired R us vs → Paired (λ a b. Paired (AreTogether a b) us vs) us vs → Paired R (first_uses us) (first_uses vs)
firsts_beside R [] [] all together = tt
firsts_beside R [] (v ∷ vs) all together = absurd all
firsts_beside R (u ∷ us) [] all together = absurd all
firsts_beside R (u ∷ us) (v ∷ vs) all together =
    let Both = λ (x y : Use). R x y × AreTogether u v x y in
    let rest : Paired Both (first_uses us) (first_uses vs) =
    firsts_beside Both us vs (paired-both R (AreTogether u v) us vs all.1 together.0.1)
    (paired-then (λ a b. Paired (AreTogether a b) (u ∷ us) (v ∷ vs)) (λ a b. Paired (AreTogether a b) us vs) us vs together.1 (λ a b h. h.1)) in (
      all.0,
      paired-then Both R (filter (λ (x : Use). not (same_name u.name x.name)) (first_uses us)) (filter (λ (y : Use). not (same_name v.name y.name)) (first_uses vs))
          (paired-filter Both (λ (x : Use). not (same_name u.name x.name)) (λ (y : Use). not (same_name v.name y.name)) (first_uses us) (first_uses vs) rest (λ x y h. ap not h.1)) (λ x y h. h.0),
    )

filter_named : (n : Name) (us : List Use) → names_in_uses (filter (λ (x : Use). not (same_name n x.name)) us) ≡ filter (λ m. not (same_name n m)) (names_in_uses us)
filter_named n [] = refl
filter_named n (u ∷ us) = by (same_name n u.name) (filter_named n us)
  where
    by : (b : Bool) → names_in_uses (filter (λ (x : Use). not (same_name n x.name)) us) ≡ filter (λ m. not (same_name n m)) (names_in_uses us)
        → names_in_uses (cond (not b) (u ∷ filter (λ (x : Use). not (same_name n x.name)) us) (filter (λ (x : Use). not (same_name n x.name)) us))
        ≡ cond (not b) (u.name ∷ filter (λ m. not (same_name n m)) (names_in_uses us)) (filter (λ m. not (same_name n m)) (names_in_uses us))
    by true rest = rest
    by false rest = ap (λ ns. u.name ∷ ns) rest

first_named : (us : List Use) → names_in_uses (first_uses us) ≡ first_names (names_in_uses us)
first_named [] = refl
first_named (u ∷ us) = ap (λ ns. u.name ∷ ns) (filter_named u.name (first_uses us) ∙ ap (filter (λ m. not (same_name u.name m))) (first_named us))

-- Promise P154, also here
-- the uses that come first with their names have the names of the run
pub names_of_first_uses : (o : Offsets) (run : Run) (ranks : List ℕ) → names_in_uses (first_uses (uses o run ranks)) ≡ names o run
names_of_first_uses o run ranks = first_named (uses o run ranks) ∙ ap first_names (names_used o run ranks)

-- Two runs.

-- names that are one on the one side are one on the other
abbrev AreOneToo : List Name → List Name → Type 0
AreOneToo ns ns2 = Paired (λ n n2. Paired (λ m m2. n ≡ m → n2 ≡ m2) ns ns2) ns ns2

module _ (o : Offsets) (run other : Run) (history : IsHistory run) (history2 : IsHistory other) (leaks : leak o run ≡ leak o other) where
  one_too : AreOneToo (all_names o run) (all_names o other)
  one_too =
      let none = λ (n : Name). [] in
      let ranks = first_ranks o run other none history history2 leaks in
      let us = uses o run ranks in
      let vs = uses o other ranks in
      let named = λ (x : Use). x.name in
      let both : AreOneToo (names_in_uses us) (names_in_uses vs) =
      paired-map (λ n n2. Paired (λ m m2. n ≡ m → n2 ≡ m2) (names_in_uses us) (names_in_uses vs)) named named us vs
      (paired-then (λ a b. Paired (AreMatched a b) us vs) (λ a b. Paired (λ m m2. a.name ≡ m → b.name ≡ m2) (names_in_uses us) (names_in_uses vs)) us vs
      (matched o run other none history history2 leaks)
      (λ a b h. paired-map (λ m m2. a.name ≡ m → b.name ≡ m2) named named us vs h)) in
      subst (λ ns. AreOneToo ns (all_names o other)) (names_used o run ranks) (subst (λ ns. AreOneToo (names_in_uses us) ns) (names_used o other ranks) both)

module _ (o : Offsets) (run other : Run) (history : IsHistory run) (history2 : IsHistory other) (leaks : leak o run ≡ leak o other) where
  names_together : Paired (λ n n2. Paired (λ m m2. same_name n m ≡ same_name n2 m2) (all_names o run) (all_names o other)) (all_names o run) (all_names o other)
  names_together =
      let ns = all_names o run in
      let ns2 = all_names o other in
      let there = one_too o run other history history2 leaks in
      let back : Paired (λ n n2. Paired (λ m m2. n2 ≡ m2 → n ≡ m) ns ns2) ns ns2 =
      paired-swap (λ n2 n. Paired (λ m2 m. n2 ≡ m2 → n ≡ m) ns2 ns) (λ n n2. Paired (λ m m2. n2 ≡ m2 → n ≡ m) ns ns2) ns2 ns (one_too o other run history2 history (sym leaks))
      (λ n2 n h. paired-swap (λ m2 m. n2 ≡ m2 → n ≡ m) (λ m m2. n2 ≡ m2 → n ≡ m) ns2 ns h (λ m2 m k. k)) in
      paired-then (λ n n2. Paired (λ m m2. n ≡ m → n2 ≡ m2) ns ns2 × Paired (λ m m2. n2 ≡ m2 → n ≡ m) ns ns2) (λ n n2. Paired (λ m m2. same_name n m ≡ same_name n2 m2) ns ns2) ns ns2
      (paired-both (λ n n2. Paired (λ m m2. n ≡ m → n2 ≡ m2) ns ns2) (λ n n2. Paired (λ m m2. n2 ≡ m2 → n ≡ m) ns ns2) ns ns2 there back)
      (λ n n2 h. paired-then (λ m m2. (n ≡ m → n2 ≡ m2) × (n2 ≡ m2 → n ≡ m)) (λ m m2. same_name n m ≡ same_name n2 m2) ns ns2
      (paired-both (λ m m2. n ≡ m → n2 ≡ m2) (λ m m2. n2 ≡ m2 → n ≡ m) ns ns2 h.0 h.1)
      (λ m m2 k. one_answer (same_name n m) (same_name n2 m2) (same_name-Decides n m) ((λ e. k.1 ((same_name-Decides n2 m2).0 e)), (λ e. (same_name-Decides n2 m2).1 (k.0 e)))))

  uses_together : (ranks ranks2 : List ℕ) → Paired (λ a b. Paired (AreTogether a b) (uses o run ranks) (uses o other ranks2)) (uses o run ranks) (uses o other ranks2)
  uses_together ranks ranks2 =
      let us = uses o run ranks in
      let vs = uses o other ranks2 in
      let named = λ (x : Use). x.name in
      let Together = λ (ns ns2 : List Name). Paired (λ n n2. Paired (λ m m2. same_name n m ≡ same_name n2 m2) ns ns2) ns ns2 in
      let here : Together (names_in_uses us) (names_in_uses vs) =
      subst (λ ns. Together ns (names_in_uses vs)) (sym (names_used o run ranks)) (subst (Together (all_names o run)) (sym (names_used o other ranks2)) names_together) in
      paired-then (λ a b. Paired (λ m m2. same_name a.name m ≡ same_name b.name m2) (names_in_uses us) (names_in_uses vs)) (λ a b. Paired (AreTogether a b) us vs) us vs
      (paired-of_map (λ n n2. Paired (λ m m2. same_name n m ≡ same_name n2 m2) (names_in_uses us) (names_in_uses vs)) named named us vs here)
      (λ a b h. paired-of_map (λ m m2. same_name a.name m ≡ same_name b.name m2) named named us vs h)

  -- Promise P154, also here
  -- The names of the two runs, each once, are of the same classes place by place; so there are equally many.
  pub names_of_one_class : Paired (λ n n2. class_of n ≡ class_of n2) (names o run) (names o other)
  names_of_one_class =
      let none = λ (n : Name). [] in
      let ranks = first_ranks o run other none history history2 leaks in
      let us = first_uses (uses o run ranks) in
      let vs = first_uses (uses o other ranks) in
      let firsts = firsts_beside AreOfOneClass (uses o run ranks) (uses o other ranks) (classes o run other none history history2 leaks) (uses_together ranks ranks) in
      let OneClass = λ (n n2 : Name). class_of n ≡ class_of n2 in
      let named : Paired OneClass (names_in_uses us) (names_in_uses vs) =
      paired-map OneClass (λ (x : Use). x.name) (λ (x : Use). x.name) us vs (paired-then AreOfOneClass (λ a b. class_of a.name ≡ class_of b.name) us vs firsts (λ a b h. h.class)) in
      subst (λ ns. Paired OneClass ns (names o other)) (names_of_first_uses o run ranks) (subst (Paired OneClass (names_in_uses us)) (names_of_first_uses o other ranks) named)

  module _ (t : Table) where
    -- Promise P155, also here
    -- at each place, repeats included, the relabelled table gives the other run's name the value for the use there
    pub own_everywhere : Paired (IsOwn (relabelled o run other t) t) (uses o run (first_ranks o run other t history history2 leaks)) (uses o other (first_ranks o run other t history history2 leaks))
    own_everywhere =
        let ranks = first_ranks o run other t history history2 leaks in
        let drawn1 = drawn_uses o run ranks in
        let drawn2 = drawn_uses o other ranks in
        let probed1 = probed_uses o run in
        let probed2 = probed_uses o other in
        let Kept = λ (a b : Use). (is_searched run a.name ≡ true) ⊎ (a.text ≡ None) → relabelled o run other t b.name ≡ t a.name in
        let parts = paired-parts Kept AreAlike drawn1 probed1 drawn2 probed2 (alike_drawn o run other t history2 leaks ranks ranks) (values_kept o run other t history history2 leaks) in
        paired-append (IsOwn (relabelled o run other t) t) drawn1 probed1 drawn2 probed2 (own_drawn o run other t history2 leaks)
        (paired-weaker Kept (IsOwn (relabelled o run other t) t) (λ (u : Use). u.text ≡ None) (λ u. Unit {0}) probed1 probed2
        (AllByRecursion-each (λ (u : Use). u.text ≡ None) bare (λ n. refl) (flat_map (λ ns. ns) (probed o run)))
        (AllByRecursion-from_members (λ u. Unit {0}) probed2 (λ u within. tt))
        parts.1
        (λ a b plain unit kept. kept (inr plain) ∙ sym (bare_same t a b plain)))

    -- Promise P154, also here
    -- The relabelled table is the table that gives the other run's names, each once, the values for the uses of the first run's names at the
    -- same places.
    pub values_at_places : Paired (IsOwn (relabelled o run other t) t) (first_uses (uses o run (first_ranks o run other t history history2 leaks))) (first_uses (uses o other (first_ranks o run other t history history2 leaks)))
    values_at_places =
        let ranks = first_ranks o run other t history history2 leaks in
        firsts_beside (IsOwn (relabelled o run other t) t) (uses o run ranks) (uses o other ranks) own_everywhere (uses_together ranks ranks)
