-- What a search opens of two runs of equal leakage: at each place of what they use, a searched word's name is the other's but for the word, its
-- value is the same, and so is the plaintext that a pad covers.
use Rattle.std.proofs.Common.{◌≡◌, ◌⊎◌, inl, ℕ, true, List, refl, sym, ap, None}
use Rattle.client_registry.specs.Run.{Run, Offsets}
use Rattle.client_registry.specs.Sized.{IsHistory}
use Rattle.def_leakage.specs.CommandLeaks.{leak}
use Rattle.def_leakage.specs.Relabelled.{Use, uses, relabelled}
use Rattle.sse_model.specs.Names.{Name, Table, name}
use Rattle.def_relabelling.proofs.KeptValues.{SearchedTogether, is_searched, searched_together, first_ranks, alike_uses, values_kept}
use Rattle.def_relabelling.proofs.Pairs.{paired-both, paired-family, paired-then}
use Rattle.def_relabelling.proofs.Renamed.{uses_renamed}
use Rattle.def_relabelling.proofs.RenamedSetup.{IsRenamed}
use Rattle.def_relabelling.proofs.SameDrawings.{AreAlike}
use Rattle.def_relabelling.specs.Paired.{Paired}
use Rattle.def_relabelling.specs.OpenedAlike.{AreOpenedAlike}

module _ (o : Offsets) (run other : Run) (t : Table) (history : IsHistory run) (history2 : IsHistory other) (leaks : leak o run ≡ leak o other) where
  renamed : Paired (λ a b. (i : (w : List ℕ) × SearchedTogether o run other w) → a.name.word ≡ i.0 → (b.name ≡ name a.name.epoch i.1.w2 a.name.kind a.name.number) × (a.text ≡ b.text))
      (uses o run (first_ranks o run other t history history2 leaks)) (uses o other (first_ranks o run other t history history2 leaks))
  renamed =
      let ranks = first_ranks o run other t history history2 leaks in
      paired-family AreAlike (λ (i : (w : List ℕ) × SearchedTogether o run other w) (a b : Use). IsRenamed i.0 i.1.w2 a b) (uses o run ranks) (uses o other ranks)
      (alike_uses o run other t history history2 leaks ranks)
      (λ i. uses_renamed o run other history history2 leaks ranks i.1.front i.1.front2 i.0 i.1.w2 i.1.search)

  -- Promise P153 (inside): In two histories of equal leakage, a search opens the same under a table and the relabelled one: labels, cells, blocks, additions and numbers.
  --   assumes: equal leakage, kept limits
  -- So for each search the labels that are looked up, the cells, blocks and additions as they are opened, and the numbers that are
  -- compared are the same.
  pub opened_alike : Paired (λ (a b : Use). is_searched run a.name ≡ true → AreOpenedAlike t (relabelled o run other t) a b)
      (uses o run (first_ranks o run other t history history2 leaks)) (uses o other (first_ranks o run other t history history2 leaks))
  opened_alike =
      let ranks = first_ranks o run other t history history2 leaks in
      let us = uses o run ranks in
      let vs = uses o other ranks in
      let m = relabelled o run other t in
      let Renamed = λ (a b : Use). (i : (w : List ℕ) × SearchedTogether o run other w) → a.name.word ≡ i.0 → (b.name ≡ name a.name.epoch i.1.w2 a.name.kind a.name.number) × (a.text ≡ b.text) in
      let Kept = λ (a b : Use). (is_searched run a.name ≡ true) ⊎ (a.text ≡ None) → m b.name ≡ t a.name in
      paired-then (λ a b. Renamed a b × Kept a b) (λ a b. is_searched run a.name ≡ true → AreOpenedAlike t m a b) us vs
      (paired-both Renamed Kept us vs renamed (values_kept o run other t history history2 leaks))
      (λ a b both searched.
      let there = both.0 (a.name.word, searched_together o run other leaks a.name.word searched) refl in
      record {
        epoch = sym (ap (λ (n : Name). n.epoch) there.0);
        kind = sym (ap (λ (n : Name). n.kind) there.0);
        number = sym (ap (λ (n : Name). n.number) there.0);
        value = sym (both.1 (inl searched));
        text = there.1;
      })
