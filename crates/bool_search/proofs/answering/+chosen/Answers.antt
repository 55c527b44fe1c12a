use Rattle.std.proofs.Common.{map, sym, subst}
use Rattle.bool_search.specs.Grammar.{tree_of}
use Rattle.bool_search.specs.Joined.{Chooses}
use Rattle.bool_search.specs.declared.node.Node as node
use Rattle.bool_search.proofs.answering.+chosen.Goals as goal

pub returns-in_ok-right-in-And : goal.returns-in_ok-right-in-And
returns-in_ok-right-in-And t c =
    let lists = map (λ list. list.items) c.args.lists.now in
    let left = tree_of c.in-And.left.value in
    let right = tree_of c.in-And.right.value in
    rw c.in-And.is
    (c.both.ensures left right lists
    (subst (Chooses left lists) (sym c.deref-in-And-3.ensures.value) (subst (λ (n : node.Node). Chooses (tree_of n) lists c.in_ok-left-in-And.left.items) c.deref-in-And.ensures c.in_ok-left-in-And.ensures))
    (subst (Chooses right lists) (sym c.deref-in-And-4.ensures.value) (subst (λ (n : node.Node). Chooses (tree_of n) lists c.in_ok-right-in-And.right.items) c.deref-in-And-2.ensures c.in_ok-right-in-And.ensures)))

pub returns-in_ok-right-in-Not : goal.returns-in_ok-right-in-Not
returns-in_ok-right-in-Not t c =
    let lists = map (λ list. list.items) c.args.lists.now in
    let left = tree_of c.in-Not.left.value in
    let right = tree_of c.in-Not.right.value in
    rw c.in-Not.is
    (c.both-in-Not.ensures left right lists
    (subst (Chooses left lists) (sym c.deref-in-Not-3.ensures.value) (subst (λ (n : node.Node). Chooses (tree_of n) lists c.in_ok-left-in-Not.left.items) c.deref-in-Not.ensures c.in_ok-left-in-Not.ensures))
    (subst (Chooses right lists) (sym c.deref-in-Not-4.ensures.value) (subst (λ (n : node.Node). Chooses (tree_of n) lists c.in_ok-right-in-Not.right.items) c.deref-in-Not-2.ensures c.in_ok-right-in-Not.ensures)))

pub returns-in_ok-right-in-Or : goal.returns-in_ok-right-in-Or
returns-in_ok-right-in-Or t c =
    let lists = map (λ list. list.items) c.args.lists.now in
    let left = tree_of c.in-Or.left.value in
    let right = tree_of c.in-Or.right.value in
    rw c.in-Or.is
    (c.both-in-Or.ensures left right lists
    (subst (Chooses left lists) (sym c.deref-in-Or-3.ensures.value) (subst (λ (n : node.Node). Chooses (tree_of n) lists c.in_ok-left-in-Or.left.items) c.deref-in-Or.ensures c.in_ok-left-in-Or.ensures))
    (subst (Chooses right lists) (sym c.deref-in-Or-4.ensures.value) (subst (λ (n : node.Node). Chooses (tree_of n) lists c.in_ok-right-in-Or.right.items) c.deref-in-Or-2.ensures c.in_ok-right-in-Or.ensures)))
