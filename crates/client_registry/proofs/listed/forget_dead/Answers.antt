use Rattle.std.proofs.Common.{◌≡◌, ◌+◌, map, suc, sym, ap, ◌∙◌, arith}
use Rattle.std.proofs.lemmas.List.{length-map}
use Rattle.client_registry.specs.RegistryView.{kept_entry}
use Rattle.client_registry.proofs.RestartedEntries.{restarted_to, restarted_all, length-set, restarted-set}
use Rattle.client_registry.proofs.listed.forget_dead.Goals as goal

pub loop-place-preserved : goal.loop-place-preserved
loop-place-preserved c =
    let es = c.loop-place.documents.entries in
    let i = c.loop-place.place in
    let had = c.loop-place.invariant in
    let next : suc i ≡ i + 1 = omega arith in
    record {
      kept =
          restarted-set es (map kept_entry c.args.documents.now.entries) i c.index_mut.result.now c.keep_live.new.self had.kept (sym c.index_mut.ensures.value) c.keep_live.ensures.live c.keep_live.ensures.numbers
          ∙ ap (λ n. restarted_to n (map kept_entry c.args.documents.now.entries)) next;
      count = length-set es i c.keep_live.new.self ∙ had.count;
      hasher = had.hasher;
    }

pub returns-clause-kept : goal.returns-clause-kept
returns-clause-kept c =
    let had = c.loop-place.invariant in
    had.kept ∙ restarted_all c.loop-place.place (map kept_entry c.args.documents.now.entries)
    (length-map c.args.documents.now.entries kept_entry ∙ omega (arith, had.count, c.len-place-end.ensures.len, c.loop-place-test.false, c.loop-place.auto.place-end))
