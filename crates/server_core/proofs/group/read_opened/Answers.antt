use Rattle.std.proofs.Common.{◌*◌, ◌-◌, ◌≤◌, length, take, drop, Some, sym, ap, ◌∙◌, arith}
use Rattle.std.proofs.lemmas.List.{length-drop, take_all}
use Rattle.list_packing.proofs.NumbersLemmas.{numbers_of-take}
use Rattle.two_level.specs.Opened.{numbers_of, leading}
use Rattle.server_core.proofs.PlaceLemmas.{IsRead-by, pointers_behind-none, nothing_there}
use Rattle.server_core.proofs.group.read_opened.Goals as goal

pub returns-in_default-clause-no_pointers : goal.returns-in_default-clause-no_pointers
returns-in_default-clause-no_pointers c block top =
    let clear = c.args.clear.now in
    let all = take_all (length clear - 1) (drop 1 clear) (omega (arith, length-drop 1 clear)) in
    let none = nothing_there (leading (numbers_of (take (length clear - 1) (drop 1 clear)))) c.in_default.ensures.no_list in
    pointers_behind-none block clear top (omega (arith, c.requires.numbers)) (ap (λ xs. leading (numbers_of xs)) (sym all) ∙ none)

-- the cell's numbers before its zeros
pub returns-clause-read : goal.returns-clause-read
returns-clause-read c =
    let clear = c.args.clear.now in
    let ns = numbers_of (drop 1 clear) in
    let all = take_all (length clear - 1) (drop 1 clear) (omega (arith, length-drop 1 clear)) in
    let n = c.in-Ok.count in
    let fits : 8 * c.from.result ≤ length (drop 1 clear) = omega (arith, ap length all, c.in-Ok.ensures.within, c.from.ensures) in
    let front = ap (λ xs. numbers_of (take (8 * c.from.result) xs)) all ∙ numbers_of-take (drop 1 clear) c.from.result (omega (arith, length-drop 1 clear, c.requires.numbers)) fits ∙ ap (λ n. take n ns) c.from.ensures in
    IsRead-by clear _ (omega (arith, c.requires.numbers)) (omega (arith, c.if-kind-gt2.false)) (ap (λ xs. leading (numbers_of xs)) (sym all) ∙ c.in-Ok.ensures.front ∙ ap (λ xs. Some (take n (numbers_of xs))) all ∙ ap (λ xs. Some xs) (sym (c.numbers_into-count.ensures.numbers ∙ front)))
