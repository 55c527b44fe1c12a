use Rattle.std.proofs.Common.{◌++◌, Some, length, nat_eq, sym, ap, ◌∙◌}
use Rattle.std.specs.Prelude.{slice_get}
use Rattle.std.specs.List.{list_any}
use Rattle.std.proofs.lemmas.Option.{slice_get_read, slice_get_within}
use Rattle.client_registry.specs.IdNumber.{id_number}
use Rattle.leakage_frames.specs.Views.{origin_view}
use Rattle.leakage_model.proofs.BesideLaws.{lists-sent, sent-at, sent-behind, stands_there}
use Rattle.leakage_model.specs.Pairs.{pairs_beside, pairs_in}
use Rattle.leakage_model.specs.WordFacts.{lists, sent_among}
use Rattle.leakage_model.proofs.pairs.Pairs.send.Goals as goal

pub invariant_of-self-in-None : goal.invariant_of-self-in-None
invariant_of-self-in-None c =
    let w = c.self.inside in
    let had = c.self.invariant in
    record {
      rising = had.rising;
      beside = had.beside;
      last = had.last;
      apart =
          λ x here.
          ap (lists x) c.send_number.ensures.sent ∙ lists-sent x (id_number c.args.id) (origin_view c.args.there) c.args.revoked (pairs_in w.rest.entries) ∙ had.apart x here;
    }

pub returns-in-Some : goal.returns-in-Some
returns-in-Some c =
    let w = c.self.inside in
    let had = c.self.invariant in
    let id = id_number c.args.id in
    let i = c.in-Some.place in
    let at = ap (λ ids. slice_get ids i) (sym c.deref.ensures.value) ∙ c.in-Some.ensures.found ∙ ap (λ n. Some n) c.get.ensures.number in
    sent-at w.ids.items w.front.items (pairs_in w.rest.entries) id i c.index_mut-pair.result.now c.send.new.self (origin_view c.args.there) c.args.revoked had.rising had.beside at
    (slice_get_read w.front.items (length w.ids.items) i c.index_mut-pair.result.now (sym had.beside) (slice_get_within w.ids.items i id at) c.index_mut-pair.ensures.value)
    (record { origin = c.send.ensures.origin; number = c.send.ensures.number; revoked = c.send.ensures.revoked })
    (had.apart id (stands_there w.ids.items i id at))
    ∙ ap (sent_among id (origin_view c.args.there) c.args.revoked) c.self.view_is

pub returns-in-None : goal.returns-in-None
returns-in-None c =
    let w = c.self.inside in
    let id = id_number c.args.id in
    ap (λ ps. pairs_beside w.ids.items w.front.items ++ ps) c.send_number.ensures.sent
    ∙ sent-behind w.ids.items w.front.items (pairs_in w.rest.entries) id c.self.invariant.beside
    ((λ i. list_any (nat_eq (sym c.get.ensures.number i)) (sym c.deref.ensures.value i)) ∙ c.in-None.ensures.absent) (origin_view c.args.there) c.args.revoked
    ∙ ap (sent_among id (origin_view c.args.there) c.args.revoked) c.self.view_is
