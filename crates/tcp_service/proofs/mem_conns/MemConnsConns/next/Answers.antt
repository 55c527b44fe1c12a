use Rattle.std.proofs.Common.{Some, [], ◌∷◌, ap, ◌∙◌}
use Rattle.std.specs.Prelude.{reverse}
use Rattle.std.proofs.lemmas.List.{reverse-append}
use Rattle.tcp_service.proofs.OneGiven.{one_given}
use Rattle.tcp_service.proofs.mem_conns.MemConnsConns.next.Goals as goal

-- it is the last of those that waited
pub returns-in-Some-clause-one : goal.returns-in-Some-clause-one
returns-in-Some-clause-one c =
    ap Some (one_given c.args.self.now.all.value.items c.args.self.now.waiting.items c.pop.new.self.items c.in-Some.conn c.args.self.now.in_order c.in-Some.ensures.items)

pub returns-in-Some-clause-first : goal.returns-in-Some-clause-first
returns-in-Some-clause-first c = ap reverse c.in-Some.ensures.items ∙ reverse-append c.pop.new.self.items (c.in-Some.conn ∷ [])
