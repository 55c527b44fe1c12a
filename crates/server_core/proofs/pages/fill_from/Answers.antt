use Rattle.std.proofs.lemmas.Grind.{common_steps}
use Rattle.std.proofs.Common.{◌≡◌, ℕ, Bool, not, ◌+◌, ◌-◌, ◌<◌, ◌≤◌, ◌++◌, length, get_or, [], take, drop, true, Some, sym, ap, subst, ◌∙◌, arith}
use Rattle.std.specs.Prelude.{MatchOption}
use Rattle.std.specs.FinSet as set
use Rattle.std.proofs.lemmas.List.{length-take-le, drop-take}
use Rattle.keyed_fn.specs.KeyedFn.{keyed_fn}
use Rattle.keyed_fn.specs.KeyFormulas.{revocation}
use Rattle.server_core.specs.Search.{unrevoked}
use Rattle.server_core.specs.SearchState.{ids_from, coming}
use Rattle.server_core.specs.OpenedStep.{IsPlace}
use Rattle.server_core.proofs.PassLemmas.{at-drop, com-stops, handed-part, handed-rest, handed-past}
use Rattle.server_core.proofs.pages.fill_from.Goals.{then-skip-place, else-skip-place}
use Rattle.server_core.proofs.pages.fill_from.Goals as goal

pub hand_out-passed-requires-clause-numbers : goal.hand_out-passed-requires-clause-numbers
hand_out-passed-requires-clause-numbers g c = c.loop-numbers.invariant.numbers

-- the page is full inside a place
pub returns-then-start-passed-clause-handed : goal.returns-then-start-passed-clause-handed
returns-then-start-passed-clause-handed g c =
    let f = keyed_fn g.K.Keyed.prf g.K.Keyed.pad in
    let keys = c.args.token.now in
    let held = g.T.Tables.contents c.args.tables.now in
    let spot = c.loop-numbers.spot in
    let start = c.if-skip-place.start in
    let count = c.in-Some.place.count in
    let ids = c.next.new.ids in
    let xs = take count ids in
    let place = subst (λ o. MatchOption o (ids_from f keys held spot ≡ Some []) (λ place. (place.count ≤ 256) × IsPlace f keys held spot (take place.count ids) place.behind)) c.in-Some.is c.in_ok-place.ensures.place in
    let long : length xs ≡ count = length-take-le count ids (omega (arith, place.0, c.next.array_long)) in
    let same : start ≡ c.loop-numbers.skip = elim c.if-skip-place.branch [
      | then-skip-place w ↦ w.start-is
      | else-skip-place w ↦ absurd (omega (arith, w.start-is, c.if-start-passed.true))
    ] in
    let sum : count ≡ start + (count - start) = omega (arith, c.if-start-passed.true) in
    let slice : drop start xs ≡ take (count - start) (drop start ids) = ap (λ n. drop start (take n ids)) sum ∙ drop-take start (count - start) ids in
    let p : ℕ → Bool = λ id. not (set.contains held.revoked (revocation f keys.revocation_key id)) in
    let piece = c.hand_out-passed.ensures.handed ∙ ap (λ l. take c.loop-numbers.count c.loop-numbers.out ++ unrevoked f keys (set.contains held.revoked) (take c.hand_out-passed.result.0 l)) (sym slice) in
    handed-part p (coming f keys held c.args.from c.args.within) (take c.loop-numbers.count c.loop-numbers.out) (take c.hand_out-passed.result.1 c.hand_out-passed.new.out) xs (ids_from f keys held spot) (ids_from f keys held c.in-Some.place.behind) c.loop-numbers.skip c.hand_out-passed.result.0 start c.loop-numbers.invariant.handed place.1.ids_then same (omega (arith, long, c.if-start-passed.true)) piece

pub returns-then-start-passed-clause-more : goal.returns-then-start-passed-clause-more
returns-then-start-passed-clause-more g c _ =
    let f = keyed_fn g.K.Keyed.prf g.K.Keyed.pad in
    let keys = c.args.token.now in
    let held = g.T.Tables.contents c.args.tables.now in
    let spot = c.loop-numbers.spot in
    let start = c.if-skip-place.start in
    let count = c.in-Some.place.count in
    let ids = c.next.new.ids in
    let xs = take count ids in
    let place = subst (λ o. MatchOption o (ids_from f keys held spot ≡ Some []) (λ place. (place.count ≤ 256) × IsPlace f keys held spot (take place.count ids) place.behind)) c.in-Some.is c.in_ok-place.ensures.place in
    let long : length xs ≡ count = length-take-le count ids (omega (arith, place.0, c.next.array_long)) in
    let sum : count ≡ start + (count - start) = omega (arith, c.if-start-passed.true) in
    let slice : drop start xs ≡ take (count - start) (drop start ids) = ap (λ n. drop start (take n ids)) sum ∙ drop-take start (count - start) ids in
    let p : ℕ → Bool = λ id. not (set.contains held.revoked (revocation f keys.revocation_key id)) in
    let q = c.hand_out-passed.result.0 in
    let inside : q < length (take (count - start) (drop start ids)) = omega (arith, ap length slice, long, c.if-start-passed.true, Rattle.std.proofs.lemmas.List.length-drop start xs) in
    let full = c.hand_out-passed.ensures.full inside in
    let this : p (get_or xs (start + q) 0) ≡ true = ap p (sym (at-drop start q xs) ∙ ap (λ l. get_or l q 0) slice) ∙ ap not full.1 in
    (full.0 ∙ sym c.hand_out-passed.ensures.long, com-stops p xs (ids_from f keys held spot) (ids_from f keys held c.in-Some.place.behind) (start + q) place.1.ids_then (omega (arith, long, c.if-start-passed.true)) this)

-- a place is handed out to its end
pub loop-numbers-preserved : goal.loop-numbers-preserved
loop-numbers-preserved g c =
    let f = keyed_fn g.K.Keyed.prf g.K.Keyed.pad in
    let keys = c.args.token.now in
    let held = g.T.Tables.contents c.args.tables.now in
    let spot = c.loop-numbers.spot in
    let start = c.if-skip-place.start in
    let count = c.in-Some.place.count in
    let ids = c.next.new.ids in
    let xs = take count ids in
    let place = subst (λ o. MatchOption o (ids_from f keys held spot ≡ Some []) (λ place. (place.count ≤ 256) × IsPlace f keys held spot (take place.count ids) place.behind)) c.in-Some.is c.in_ok-place.ensures.place in
    let long : length xs ≡ count = length-take-le count ids (omega (arith, place.0, c.next.array_long)) in
    let start_in : start ≤ count = elim c.if-skip-place.branch [ then-skip-place w ↦ omega (arith, w.start-is, w.if-skip-place.true) | else-skip-place w ↦ omega (arith, w.start-is) ] in
    let sum : count ≡ start + (count - start) = omega (arith, start_in) in
    let slice : drop start xs ≡ take (count - start) (drop start ids) = ap (λ n. drop start (take n ids)) sum ∙ drop-take start (count - start) ids in
    let p : ℕ → Bool = λ id. not (set.contains held.revoked (revocation f keys.revocation_key id)) in
    let q = c.hand_out-passed.result.0 in
    let piece = c.hand_out-passed.ensures.handed ∙ ap (λ l. take c.loop-numbers.count c.loop-numbers.out ++ unrevoked f keys (set.contains held.revoked) (take q l)) (sym slice) in
    let whole : start + q ≡ length xs = omega (arith, long, ap length slice, c.hand_out-passed.ensures.passed, c.if-start-passed.false, Rattle.std.proofs.lemmas.List.length-drop start xs) in
    record {
      handed = elim c.if-skip-place.branch [
        | then-skip-place w ↦ handed-rest p (coming f keys held c.args.from c.args.within) (take c.loop-numbers.count c.loop-numbers.out) (take c.hand_out-passed.result.1 c.hand_out-passed.new.out) xs (ids_from f keys held spot) (ids_from f keys held c.in-Some.place.behind) c.loop-numbers.skip q start c.loop-numbers.invariant.handed place.1.ids_then w.start-is whole piece
        | else-skip-place w ↦ handed-past p (coming f keys held c.args.from c.args.within) (take c.loop-numbers.count c.loop-numbers.out) (take c.hand_out-passed.result.1 c.hand_out-passed.new.out) xs (ids_from f keys held spot) (ids_from f keys held c.in-Some.place.behind) c.loop-numbers.skip q start c.loop-numbers.invariant.handed place.1.ids_then (omega (arith, w.start-is, long)) (omega (arith, long, w.if-skip-place.false)) whole piece
      ];
      room = omega (arith, c.hand_out-passed.ensures.room, c.hand_out-passed.ensures.long);
      long = c.hand_out-passed.ensures.long ∙ c.loop-numbers.invariant.long;
      numbers = c.loop-numbers.invariant.numbers;
      labels = c.loop-numbers.invariant.labels;
      range = place.1.in_range;
      kept = c.in_ok-place.ensures.kept;
    }

pub loop-numbers-init : goal.loop-numbers-init
loop-numbers-init g c = grind (arith, common_steps)

pub returns-in_err-place-clause-over : goal.returns-in_err-place-clause-over
returns-in_err-place-clause-over g c = grind (arith, common_steps)

pub returns-clause-over : goal.returns-clause-over
returns-clause-over g c = grind (arith, common_steps)
