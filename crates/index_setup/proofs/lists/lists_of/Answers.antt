use Rattle.std.proofs.Common.{◌≡◌, ℕ, ◌+◌, ◌++◌, length, take, drop, replicate, sym, ap, subst, ◌∙◌, arith}
use Rattle.std.proofs.lemmas.List.{take_all, length-replicate}
use Rattle.client_registry.specs.Documents.{list_lengths}
use Rattle.index_setup.specs.Lists.{lists_among, HoldsLists}
use Rattle.index_setup.proofs.FlatLists.{HoldsLists-none, HoldsLists-all}
use Rattle.index_setup.proofs.WrittenBack.{written_back}
use Rattle.index_setup.proofs.lists.lists_of.Goals as goal

pub loop-i-init : goal.loop-i-init
loop-i-init c =
    let zeros = c.in_ok-ids.ensures.items_if_clones_equal (λ y is. is) in
    record {
      most = omega (arith, ap length zeros, length-replicate {A = ℕ} c.total_of.result 0, c.total_of.ensures.most);
      holds = HoldsLists-none c.args.docs.now.documents c.in_ok-ids.ids.items c.in_ok-next.next.items (zeros ∙ ap (λ n. replicate n 0) c.total_of.ensures.total) c.in_ok-next.ensures;
    }

pub loop-i-preserved : goal.loop-i-preserved
loop-i-preserved c =
    let docs = c.args.docs.now.documents in
    let ids = c.loop-i.ids in
    let next = c.loop-i.next in
    let new_ids = c.add_document.new.ids in
    let new_next = c.add_document.new.next in
    let same_ids : length new_ids ≡ length ids.items = c.add_document.auto.ids ∙ ap length c.deref_mut.ensures.value in
    let same_next : length new_next ≡ length next.items = c.add_document.auto.next ∙ ap length c.deref_mut-in-loop-i.ensures.value in
    let ids_are = written_back new_ids ids.items ids.len ids.ok.0 same_ids in
    let next_are = written_back new_next next.items next.len next.ok.0 same_next in
    record {
      most = omega (arith, ap length ids_are, same_ids, c.loop-i.invariant.most);
      holds =
          subst (λ xs. HoldsLists (list_lengths docs) (lists_among docs (take (c.loop-i.i + 1) docs)) xs (take next.len (new_next ++ drop (length new_next) next.items))) (sym ids_are)
          (subst (HoldsLists (list_lengths docs) (lists_among docs (take (c.loop-i.i + 1) docs)) new_ids) (sym next_are) c.add_document.ensures);
    }

pub returns-clause-lists : goal.returns-clause-lists
returns-clause-lists c =
    let docs = c.args.docs.now.documents in
    HoldsLists-all docs c.loop-i.ids.items c.loop-i.next.items
    (subst (λ among. HoldsLists (list_lengths docs) (lists_among docs among) c.loop-i.ids.items c.loop-i.next.items)
    (take_all c.loop-i.i docs (omega (arith, c.len-i-end.ensures.len, c.loop-i-test.false))) c.loop-i.invariant.holds)
