use Rattle.std.proofs.Common.{◌≡◌, sym, ap, ◌∙◌, subst, nat_eq}
use Rattle.std.specs.List.{dedup}
use Rattle.std.proofs.lemmas.List.Filters.{dedup_is}
use Rattle.bool_search.specs.Joined.{IsRising, has}
use Rattle.bool_search.proofs.Rising.{has_once, rising_once}
use Rattle.bool_search.proofs.answering.once.Goals as goal

pub returns-clause-rising : goal.returns-clause-rising
returns-clause-rising c =
    let list = c.args.list.now in
    let is : c.dedup.new.self.items ≡ dedup nat_eq list = dedup_is nat_eq c.in_ok-ids.ids.items c.dedup.new.self.items c.dedup.ensures.filtered ∙ ap (dedup nat_eq) c.in_ok-ids.ensures.items in
    subst IsRising (sym is) (rising_once list c.requires)

pub returns-clause-members : goal.returns-clause-members
returns-clause-members c n =
    let list = c.args.list.now in
    let is : c.dedup.new.self.items ≡ dedup nat_eq list = dedup_is nat_eq c.in_ok-ids.ids.items c.dedup.new.self.items c.dedup.ensures.filtered ∙ ap (dedup nat_eq) c.in_ok-ids.ensures.items in
    ap (has n) is ∙ has_once n list
