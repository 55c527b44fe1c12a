use Rattle.std.proofs.Common.{ℕ, List, ◌++◌, ◌∷◌, [], length, take, refl, sym, ap, subst, ◌∙◌, arith}
use Rattle.std.specs.Prelude.{option_map}
use Rattle.std.proofs.lemmas.List.{length-map}
use Rattle.client_registry.proofs.LiveListed.{documents_live}
use Rattle.client_registry.specs.IdNumber.{id_number}
use Rattle.client_registry.specs.Numbered.{words_by_number}
use Rattle.client_registry.specs.Registered.{facts, known_words}
use Rattle.client_registry.specs.WordBytes.{word_bytes}
use Rattle.client_registry.specs.declared.numbered.Numbered.{Numbered}
use Rattle.client_live_docs.proofs.Counting.{Counts-added, Counts-next, Counts-none, Counts-same}
use Rattle.client_live_docs.proofs.KeptIds.{kept_ids}
use Rattle.client_live_docs.proofs.Pushing.{take-one_more}
use Rattle.client_live_docs.specs.Counts.{Counts}
use Rattle.client_live_docs.specs.LiveAfter.{ids_among, live_after, command_in}
use Rattle.client_live_docs.proofs.counted.count_live.Goals as goal
use Rattle.client_live_docs.proofs.counted.count_live.Goals.{in-Some, in_default, in-Some-other_live, in_default-other_live}

pub loop-place-init : goal.loop-place-init
loop-place-init c = record {
  counts = elim c.match-added.branch [
    | in-Some w ↦
        let f = facts c.args.registry.now in
        let command = command_in c.args.pending in
        subst (λ k. Counts k (documents_live (live_after f command) (ids_among f command []))) (sym w.counted-is)
        (Counts-added f command w.in-Some.doc.now (length w.words.result.now) _ w.add.new.self
        (sym c.added.ensures ∙ ap (option_map (λ doc. doc.now)) w.in-Some.is)
        (ap length (sym w.words.ensures.words) ∙ length-map w.words.result.now word_bytes)
        refl w.add.ensures.counts)
    | in_default w ↦
        Counts-none (facts c.args.registry.now) (command_in c.args.pending) c.match-added.counted
        (sym c.added.ensures ∙ ap (option_map (λ doc. doc.now)) w.in_default.is) w.counted-is
  ];
  few = elim c.match-added.branch [
    | in-Some w ↦ omega (arith, ap (λ k. k.documents) w.counted-is, w.add.ensures.documents)
    | in_default w ↦ omega (arith, ap (λ k. k.documents) w.counted-is)
  ];
}

pub loop-place-preserved : goal.loop-place-preserved
loop-place-preserved c = record {
  counts =
      let f = facts c.args.registry.now in
      let command = command_in c.args.pending in
      let ids = take c.loop-place.place (kept_ids c.args.registry.now) in
      let id = id_number c.id_at.result in
      let words : Numbered → List (List ℕ) = λ doc. words_by_number (known_words c.args.registry.now) doc.numbers.now in
      subst (λ all. Counts c.match-other_live.counted (documents_live (live_after f command) (ids_among f command all)))
      (sym (take-one_more (kept_ids c.args.registry.now) c.loop-place.place id c.id_at.ensures))
      (elim c.match-other_live.branch [
        | in-Some-other_live w ↦
            subst (λ k. Counts k (documents_live (live_after f command) (ids_among f command (ids ++ id ∷ [])))) (sym w.counted-is)
            (Counts-next f command ids id (words w.in-Some-other_live.doc) (length w.in-Some-other_live.doc.numbers.now) c.loop-place.counted w.add-in-Some-other_live.new.self
            (sym (ap (option_map words) w.in-Some-other_live.is) ∙ c.other_live.ensures.live)
            (length-map w.in-Some-other_live.doc.numbers.now _)
            c.loop-place.invariant.counts w.add-in-Some-other_live.ensures.counts)
        | in_default-other_live w ↦
            subst (λ k. Counts k (documents_live (live_after f command) (ids_among f command (ids ++ id ∷ [])))) (sym w.counted-is)
            (Counts-same f command ids id c.loop-place.counted
            (sym (ap (option_map words) w.in_default-other_live.is) ∙ c.other_live.ensures.live)
            c.loop-place.invariant.counts)
      ]);
  few = elim c.match-other_live.branch [
    | in-Some-other_live w ↦ omega (arith, ap (λ k. k.documents) w.counted-is, w.add-in-Some-other_live.ensures.documents, c.loop-place.invariant.few)
    | in_default-other_live w ↦ omega (arith, ap (λ k. k.documents) w.counted-is, c.loop-place.invariant.few)
  ];
}
