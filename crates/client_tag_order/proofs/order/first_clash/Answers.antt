use Rattle.std.proofs.Common.{◌≡◌, ◌≢◌, ◌-◌, ◌+◌, false, true, sym, subst, ◌∙◌, arith}
use Rattle.std.proofs.lemmas.Slice.Eq.{bytes_eq-Decides}
use Rattle.client_tag_order.proofs.FoundClash.{at, IsFound, IsFound-all, IsFound-equal, IsFound-apart}
use Rattle.client_tag_order.proofs.InOrder.{key}
use Rattle.client_tag_order.proofs.order.first_clash.Goals as goal
use Rattle.client_tag_order.proofs.order.first_clash.Goals.{then-eq, else-eq}

pub loop-k-init : goal.loop-k-init
loop-k-init c = record { found = λ m low high. absurd (omega arith); most = omega arith }

pub loop-k-preserved : goal.loop-k-preserved
loop-k-preserved c =
    let sorted = c.args.sorted.now in
    let k = c.loop-k.k in
    let first = key (at sorted (k - 1)) in
    let second = key (at sorted k) in
    record {
      found =
          elim c.if-eq.branch [
            | then-eq w ↦
                subst (IsFound sorted (k + 1)) (sym (w.found-is ∙ w.earlier-found.ensures))
                (IsFound-equal sorted k c.loop-k.found (omega arith) ((bytes_eq-Decides first second).0 (sym c.eq.ensures ∙ w.if-eq.true)) c.loop-k.invariant.found)
            | else-eq w ↦
                let apart : first ≢ second = λ same. let wrong : true ≡ false = sym ((bytes_eq-Decides first second).1 same) ∙ sym c.eq.ensures ∙ w.if-eq.false in cc in
                subst (IsFound sorted (k + 1)) (sym w.found-is) (IsFound-apart sorted k c.loop-k.found apart c.loop-k.invariant.found)
          ];
      most = omega arith;
    }

pub returns : goal.returns
returns c = λ tags is. IsFound-all tags c.args.sorted.now c.loop-k.k c.loop-k.found is c.loop-k-test.false c.loop-k.auto.k-end c.loop-k.invariant.most c.loop-k.invariant.found
