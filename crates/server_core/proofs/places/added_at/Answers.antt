use Rattle.std.proofs.Common.{◌≡◌, [], suc, ◌+◌, ◌-◌, Some, sym, ap, ◌∙◌, arith}
use Rattle.std.specs.FinMap as map
use Rattle.std.specs.Int.{w64, from_be_bytes}
use Rattle.std.proofs.lemmas.Bool.{ne_eqb}
use Rattle.keyed_fn.specs.KeyedFn.{keyed_fn}
use Rattle.keyed_fn.specs.KeyFormulas.{plus_label}
use Rattle.two_level.specs.Opened.{joined}
use Rattle.server_core.specs.Search.{added_from}
use Rattle.server_core.proofs.SearchLemmas.{added-more, added-zero, joined-nothing}
use Rattle.server_core.proofs.PlaceLemmas.{front_of_one}
use Rattle.server_core.proofs.places.added_at.Goals as goal

-- an addition that is 0: there is no list
pub returns-then-id-eq0-clause-no_list : goal.returns-then-id-eq0-clause-no_list
returns-then-id-eq0-clause-no_list g c =
    let f = keyed_fn g.K.Keyed.prf g.K.Keyed.pad in
    let keys = c.args.token.now in
    let plus = map.get (g.T.Tables.contents c.args.tables.now).additions in
    let n = map.len (g.T.Tables.contents c.args.tables.now).additions in
    let at = c.args.c in
    let one : n - at ≡ suc (n - (at + 1)) = omega (arith, c.if-c-plus_len.false, c.plus_len.ensures) in
    let label = c.label.ensures ∙ ap (λ key. plus_label f key at) c.requires.labels in
    let there = ap plus (sym label) ∙ sym c.plus.ensures in
    let is = ap (from_be_bytes w64) (sym c.open_plus.ensures) ∙ sym c.from_be_bytes-id.ensures ∙ c.if-id-eq0.true in
    ap (added_from f keys plus at) one ∙ added-zero f keys plus at (n - (at + 1)) c.in-Some.sealed (there ∙ c.in-Some.is) is

pub returns-clause-place : goal.returns-clause-place
returns-clause-place g c =
    let f = keyed_fn g.K.Keyed.prf g.K.Keyed.pad in
    let keys = c.args.token.now in
    let plus = map.get (g.T.Tables.contents c.args.tables.now).additions in
    let n = map.len (g.T.Tables.contents c.args.tables.now).additions in
    let at = c.args.c in
    let id = c.from_be_bytes-id.result in
    let one : n - at ≡ suc (n - (at + 1)) = omega (arith, c.if-c-plus_len.false, c.plus_len.ensures) in
    let label = c.label.ensures ∙ ap (λ key. plus_label f key at) c.requires.labels in
    let there = ap plus (sym label) ∙ sym c.plus.ensures in
    let is = c.from_be_bytes-id.ensures ∙ ap (from_be_bytes w64) c.open_plus.ensures in
    let front = front_of_one c.args.ids.now id (omega (arith, c.told-ids)) in
    let later = added_from f keys plus (at + 1) (n - (at + 1)) in (
      omega arith,
      record {
        ids_then =
            ap (added_from f keys plus at) one
            ∙ sym (joined-nothing (added_from f keys plus at (suc (n - (at + 1)))))
            ∙ added-more f keys plus at (n - (at + 1)) [] c.in-Some.sealed id (there ∙ c.in-Some.is) is (ne_eqb id 0 c.if-id-eq0.false)
            ∙ ap (λ xs. joined (Some xs) later) (sym front);
        in_range = tt;
        nearer = omega (arith, one);
      },
    )
