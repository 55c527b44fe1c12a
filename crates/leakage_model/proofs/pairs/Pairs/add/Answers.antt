use Rattle.std.proofs.Common.{◌≡◌, ◌<◌, ◌++◌, ◌∷◌, [], ℕ, List, Bool, true, false, Some, Ok, Err, length, nat_eq, refl, sym, ap, subst, ◌∙◌}
use Rattle.std.specs.Prelude.{Result, OnErr, OnOk, if◌then◌else◌, slice_get}
use Rattle.std.specs.List.{list_any}
use Rattle.std.proofs.lemmas.List.{append-nil}
use Rattle.std.proofs.lemmas.Option.{slice_get_read, slice_get_within}
use Rattle.indexmap.proofs.MapLemmas.{OnOk-map}
use Rattle.client_registry.specs.IdNumber.{id_number}
use Rattle.leakage_frames.specs.Views.{origin_view}
use Rattle.sse_simulator.specs.Leaks.{ListedLeak}
use Rattle.leakage_model.proofs.BesideLaws.{beside-push, listed-behind, lists-at, lists-behind, lists-with, none-above, other_than, sent-at, stands_there}
use Rattle.leakage_model.specs.Pairs.{pair_with, pairs_beside, pairs_in}
use Rattle.leakage_model.specs.WordFacts.{listed_with, lists, new_pair, sent_among}
use Rattle.leakage_model.proofs.pairs.Pairs.add.Goals as goal

pub returns-then-is_behind : goal.returns-then-is_behind
returns-then-is_behind c =
    let w = c.self.inside in
    let had = c.self.invariant in
    let id = id_number c.args.id in
    let there = origin_view c.args.there in
    let now = c.args.self.now in
    let empty : w.rest.entries ≡ [] = c.if-is_behind.ensures.alone refl in
    let none : list_any (nat_eq id) w.ids.items ≡ false =
    none-above w.ids.items id had.rising (λ some. subst (λ n. n < id) (sym (had.last some)) (c.if-is_behind.ensures.above refl)) in
    let unlisted : lists id now ≡ false =
    ap (lists id) (sym c.self.view_is) ∙ lists-behind w.ids.items w.front.items (pairs_in w.rest.entries) id had.beside none ∙ ap (λ es. lists id (pairs_in es)) empty in
    let alone : pairs_beside w.ids.items w.front.items ≡ now =
    sym (append-nil (pairs_beside w.ids.items w.front.items)) ∙ ap (λ es. pairs_beside w.ids.items w.front.items ++ pairs_in es) (sym empty) ∙ c.self.view_is in
    (λ i. pairs_beside ((c.in_ok-push.ensures.items ∙ ap (λ n. w.ids.items ++ n ∷ []) c.get.ensures.number) i) ((c.push_reserved.ensures.items ∙ ap (λ ps. ps ++ c.listed_pair.result ∷ []) c.reserve.ensures.items) i)
    ++ pairs_in (empty i))
    ∙ append-nil (pairs_beside (w.ids.items ++ id ∷ []) (w.front.items ++ c.listed_pair.result ∷ []))
    ∙ beside-push w.ids.items w.front.items id c.listed_pair.result had.beside
    ∙ (λ i. alone i ++ pair_with id (c.listed_pair.ensures i) ∷ [])
    ∙ ap (λ (b : Bool). if b then sent_among id there false now else now ++ new_pair id there ∷ []) (sym unlisted)

pub index_mut-pair-requires : goal.index_mut-pair-requires
index_mut-pair-requires c =
    let w = c.self.inside in
    let i = c.in-Some.place in
    subst (λ n. i < n) (sym (w.front.ok.0 ∙ c.self.invariant.beside))
    (slice_get_within w.ids.items i (id_number c.args.id)
    (ap (λ ids. slice_get ids i) (sym c.deref.ensures.value) ∙ c.in-Some.ensures.found ∙ ap (λ n. Some n) c.get-2.ensures.number))

pub invariant_of-self-in-None : goal.invariant_of-self-in-None
invariant_of-self-in-None c =
    let w = c.self.inside in
    let had = c.self.invariant in
    let id = id_number c.args.id in
    let there = origin_view c.args.there in
    let none : list_any (nat_eq id) w.ids.items ≡ false =
    (λ i. list_any (nat_eq (sym c.get-2.ensures.number i)) (sym c.deref.ensures.value i)) ∙ c.in-None.ensures.absent in
    record {
      rising = had.rising;
      beside = had.beside;
      last = had.last;
      apart =
          λ x here.
          of_either c.add_pair.result (pairs_in c.add_pair.new.pairs.entries) (listed_with id there (pairs_in w.rest.entries)) (pairs_in w.rest.entries) x
          c.add_pair.ensures.ok c.add_pair.ensures.err
          (lists-with x id there (pairs_in w.rest.entries) (other_than x id w.ids.items here none) (had.apart x here)) (had.apart x here);
    }
  where
    of_either : {T E : Type 0} (r : Result T E) (new more old : List ListedLeak) (x : ℕ) → OnOk r (new ≡ more) → OnErr r (new ≡ old) → lists x more ≡ false → lists x old ≡ false → lists x new ≡ false
    of_either (Ok v) new more old x ok err a b = ap (lists x) ok ∙ a
    of_either (Err v) new more old x ok err a b = ap (lists x) err ∙ b

pub returns-in-Some : goal.returns-in-Some
returns-in-Some c =
    let w = c.self.inside in
    let had = c.self.invariant in
    let id = id_number c.args.id in
    let there = origin_view c.args.there in
    let i = c.in-Some.place in
    let now = c.args.self.now in
    let at = ap (λ ids. slice_get ids i) (sym c.deref.ensures.value) ∙ c.in-Some.ensures.found ∙ ap (λ n. Some n) c.get-2.ensures.number in
    let listed : lists id now ≡ true = ap (lists id) (sym c.self.view_is) ∙ lists-at w.ids.items w.front.items (pairs_in w.rest.entries) id i had.beside at in
    sent-at w.ids.items w.front.items (pairs_in w.rest.entries) id i c.index_mut-pair.result.now c.send.new.self there false had.rising had.beside at
    (slice_get_read w.front.items (length w.ids.items) i c.index_mut-pair.result.now (sym had.beside) (slice_get_within w.ids.items i id at) c.index_mut-pair.ensures.value)
    (record { origin = c.send.ensures.origin; number = c.send.ensures.number; revoked = c.send.ensures.revoked })
    (had.apart id (stands_there w.ids.items i id at))
    ∙ ap (sent_among id there false) c.self.view_is
    ∙ ap (λ (b : Bool). if b then sent_among id there false now else now ++ new_pair id there ∷ []) (sym listed)

pub returns-in-None : goal.returns-in-None
returns-in-None c =
    let w = c.self.inside in
    let id = id_number c.args.id in
    let there = origin_view c.args.there in
    OnOk-map c.add_pair.result _ _
    (λ more.
    ap (λ ps. pairs_beside w.ids.items w.front.items ++ ps) more
    ∙ listed-behind w.ids.items w.front.items (pairs_in w.rest.entries) id c.self.invariant.beside
    ((λ i. list_any (nat_eq (sym c.get-2.ensures.number i)) (sym c.deref.ensures.value i)) ∙ c.in-None.ensures.absent) there
    ∙ ap (listed_with id there) c.self.view_is)
    c.add_pair.ensures.ok
