use Rattle.std.proofs.Common.{◌≡◌, ◌+◌, ◌-◌, ◌<◌, Some, length, refl, sym, ap, subst, ◌∙◌, arith}
use Rattle.std.specs.Prelude.{option_map, slice_get}
use Rattle.std.proofs.lemmas.List.{length-append, length-map}
use Rattle.std.proofs.lemmas.Option.{slice_get-map, slice_get_read}
use Rattle.leakage_model.proofs.BesideLaws.{beside-get, get-behind, length-beside}
use Rattle.leakage_model.specs.Pairs.{pair_view, pair_with, pairs_beside, pairs_in}
use Rattle.leakage_model.proofs.pairs.Pairs.at.Goals as goal

pub unwrap-requires : goal.unwrap-requires
unwrap-requires c =
    let w = c.self.inside in
    let front = c.len-front.result in
    let long : length w.ids.items ≡ front = sym (c.len-front.ensures ∙ w.ids.ok.0) in
    let all : length c.args.self.now ≡ length w.ids.items + length w.rest.entries =
    ap length (sym c.self.view_is) ∙ length-append (pairs_beside w.ids.items w.front.items) (pairs_in w.rest.entries)
    ∙ (λ i. length-beside w.ids.items w.front.items c.self.invariant.beside i + length-map w.rest.entries pair_view i) in
    c.get_index.ensures.found.1 (omega (arith, c.requires, long, all, c.if-place-front.false))

pub returns-then-place-front : goal.returns-then-place-front
returns-then-place-front c =
    let w = c.self.inside in
    let i = c.args.place in
    let within : i < length w.ids.items = subst (λ n. i < n) (c.len-front.ensures ∙ w.ids.ok.0) c.if-place-front.true in
    ap (λ ps. slice_get ps i) (sym c.self.view_is)
    ∙ beside-get w.ids.items w.front.items i c.index.result.now c.index-then-place-front.result.now (pairs_in w.rest.entries)
    (slice_get_read w.ids.items (length w.ids.items) i c.index.result.now refl within c.index.ensures)
    (slice_get_read w.front.items (length w.ids.items) i c.index-then-place-front.result.now (sym c.self.invariant.beside) within c.index-then-place-front.ensures)
    ∙ ap (λ p. Some p) (sym c.leak_of.ensures)

pub returns-else-place-front : goal.returns-else-place-front
returns-else-place-front c =
    let w = c.self.inside in
    let i = c.args.place in
    let front = c.len-front.result in
    let long : length (pairs_beside w.ids.items w.front.items) ≡ front = length-beside w.ids.items w.front.items c.self.invariant.beside ∙ sym (c.len-front.ensures ∙ w.ids.ok.0) in
    let at : i ≡ length (pairs_beside w.ids.items w.front.items) + (i - front) = omega (arith, long, c.if-place-front.false) in
    (λ j. slice_get (sym c.self.view_is j) (at j))
    ∙ get-behind (pairs_beside w.ids.items w.front.items) (pairs_in w.rest.entries) (i - front)
    ∙ slice_get-map pair_view w.rest.entries (i - front)
    ∙ ap (option_map pair_view) (sym c.get_index.ensures.entry ∙ ap (option_map (λ p. (p.0.now, p.1.now))) c.unwrap.ensures)
    ∙ ap (λ n. Some (pair_with n c.unwrap.result.1.now)) (sym c.get.ensures.number)
    ∙ ap (λ p. Some p) (sym c.leak_of-else-place-front.ensures)
