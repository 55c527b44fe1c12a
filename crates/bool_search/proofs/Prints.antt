-- What is printed, and where it stops being the beginning of an expression.
use Rattle.std.proofs.Common.{◌≡◌, ℕ, suc, List, [], ◌∷◌, ◌++◌, length, Some, None, refl, sym, ap, ◌∙◌, subst, arith, append_assoc}
use Rattle.std.specs.Prelude.{Option}
use Rattle.std.proofs.lemmas.List.{append-nil}
use Rattle.bool_search.specs.declared.sign.Sign.{Sign}
use Rattle.bool_search.specs.declared.sign.Sign.TheVariants as sign
use Rattle.bool_search.specs.Grammar.{Tree, Word, Within, And, Not, Or, printed, IsMade}
use Rattle.bool_search.specs.Fronts.{IsNoFactor, IsNoClose}
use Rattle.bool_search.specs.Places.{Stand, Expects, Has, after, IsUnfinished, Refuses, IsStuck, IsOver, IsRead}

-- after a tree an operand has ended, however deep it stands
pub after-printed : (t : Tree) (d : ℕ) (rest : List Sign) → after (Expects d) (printed t ++ rest) ≡ after (Has d) rest
after-printed (Word number) d rest = refl
after-printed (Within t) d rest =
    ap (after (Expects (suc d))) (append_assoc (printed t) (sign.Close ∷ []) rest) ∙ after-printed t (suc d) (sign.Close ∷ rest)
after-printed (And l r) d rest =
    ap (after (Expects d)) (append_assoc (printed l) (sign.And ∷ printed r) rest) ∙ after-printed l d (sign.And ∷ printed r ++ rest) ∙ after-printed r d rest
after-printed (Not l r) d rest =
    ap (after (Expects d)) (append_assoc (printed l) (sign.Not ∷ printed r) rest) ∙ after-printed l d (sign.Not ∷ printed r ++ rest) ∙ after-printed r d rest
after-printed (Or l r) d rest =
    ap (after (Expects d)) (append_assoc (printed l) (sign.Or ∷ printed r) rest) ∙ after-printed l d (sign.Or ∷ printed r ++ rest) ∙ after-printed r d rest

-- a factor is a term, and a term an expression
pub factor-term : (t : Tree) → IsMade 0 t → IsMade 1 t
factor-term (Word number) made = made
factor-term (Within t) made = made
factor-term (And l r) made = absurd (omega (arith, made.0))
factor-term (Not l r) made = absurd (omega (arith, made.0))
factor-term (Or l r) made = absurd (omega (arith, made.0))

pub term-expression : (t : Tree) → IsMade 1 t → IsMade 2 t
term-expression (Word number) made = made
term-expression (Within t) made = made
term-expression (And l r) made = (omega arith, made.1, made.2)
term-expression (Not l r) made = (omega arith, made.1, made.2)
term-expression (Or l r) made = absurd (omega (arith, made.0))

-- a tree, and the signs after it
pub record Joined (rank : ℕ) (signs : List Sign) (tree : Tree) (rest : List Sign) : Type 0 where
  pub made : IsMade rank tree
  pub signs_are : signs ≡ printed tree ++ rest

-- Where it stops.

pub stuck-term : (signs : List Sign) (left : ℕ) → IsStuck 0 signs left → IsStuck 1 signs left
stuck-term signs left s = record {
  front = s.front;
  behind = s.behind;
  parts = s.parts;
  count = s.count;
  begun = record { tree = s.begun.tree; made = factor-term s.begun.tree s.begun.made; more = s.begun.more; begins = s.begun.begins };
  refused = s.refused;
}

pub stuck-expression : (signs : List Sign) (left : ℕ) → IsStuck 1 signs left → IsStuck 2 signs left
stuck-expression signs left s = record {
  front = s.front;
  behind = s.behind;
  parts = s.parts;
  count = s.count;
  begun = record { tree = s.begun.tree; made = term-expression s.begun.tree s.begun.made; more = s.begun.more; begins = s.begun.begins };
  refused = s.refused;
}

-- after a tree and a sign that joins another one to it
refused-behind : (op : Sign) → ((d : ℕ) (more : List Sign) → after (Has d) (op ∷ more) ≡ after (Expects d) more)
    → (tree : Tree) (front behind : List Sign) (d : ℕ) → Refuses d front behind → Refuses d (printed tree ++ op ∷ front) behind
refused-behind op passes tree front [] d refused = subst (IsUnfinished d) (sym (after-printed tree d (op ∷ front) ∙ passes d front)) refused
refused-behind op passes tree front (x ∷ behind) d refused =
    ap (after (Expects d)) (append_assoc (printed tree) (op ∷ front) (x ∷ [])) ∙ after-printed tree d (op ∷ front ++ x ∷ []) ∙ passes d (front ++ x ∷ []) ∙ refused

stuck-behind : (op : Sign) (join : Tree → Tree → Tree) → ((l r : Tree) → printed (join l r) ≡ printed l ++ op ∷ printed r)
    → ((d : ℕ) (more : List Sign) → after (Has d) (op ∷ more) ≡ after (Expects d) more)
    → (rank low : ℕ) (tree : Tree) → ((t : Tree) → IsMade low t → IsMade rank (join tree t))
    → (signs behind : List Sign) (left : ℕ) → signs ≡ printed tree ++ op ∷ behind → IsStuck low behind left → IsStuck rank signs left
stuck-behind op join prints passes rank low tree joined signs behind left are s = record {
  front = printed tree ++ op ∷ s.front;
  behind = s.behind;
  parts = are ∙ ap (λ more. printed tree ++ op ∷ more) s.parts ∙ sym (append_assoc (printed tree) (op ∷ s.front) s.behind);
  count = s.count;
  begun = record {
    tree = join tree s.begun.tree;
    made = joined s.begun.tree s.begun.made;
    more = s.begun.more;
    begins = prints tree s.begun.tree ∙ ap (λ more. printed tree ++ op ∷ more) s.begun.begins ∙ sym (append_assoc (printed tree) (op ∷ s.front) s.begun.more);
  };
  refused = λ d. refused-behind op passes tree s.front s.behind d (s.refused d);
}

pub stuck-and : (signs : List Sign) (tree : Tree) (behind : List Sign) (left : ℕ) → Joined 1 signs tree (sign.And ∷ behind) → IsStuck 0 behind left → IsStuck 1 signs left
stuck-and signs tree behind left j s =
    stuck-behind sign.And And (λ l r. refl) (λ d more. refl) 1 0 tree (λ t made. (omega arith, j.made, made)) signs behind left j.signs_are s

pub stuck-not : (signs : List Sign) (tree : Tree) (behind : List Sign) (left : ℕ) → Joined 1 signs tree (sign.Not ∷ behind) → IsStuck 0 behind left → IsStuck 1 signs left
stuck-not signs tree behind left j s =
    stuck-behind sign.Not Not (λ l r. refl) (λ d more. refl) 1 0 tree (λ t made. (omega arith, j.made, made)) signs behind left j.signs_are s

pub stuck-or : (signs : List Sign) (tree : Tree) (behind : List Sign) (left : ℕ) → Joined 2 signs tree (sign.Or ∷ behind) → IsStuck 1 behind left → IsStuck 2 signs left
stuck-or signs tree behind left j s =
    stuck-behind sign.Or Or (λ l r. refl) (λ d more. refl) 2 1 tree (λ t made. (omega arith, j.made, made)) signs behind left j.signs_are s

-- in parentheses
unfinished-less : (d : ℕ) (stand : Option Stand) → IsUnfinished (suc d) stand → IsUnfinished d stand
unfinished-less d None are = are
unfinished-less d (Some (Expects deep)) are = are
unfinished-less d (Some (Has deep)) are = omega (arith, are)

refused-within : (front behind : List Sign) (d : ℕ) → Refuses (suc d) front behind → Refuses d (sign.Open ∷ front) behind
refused-within front [] d refused = unfinished-less d (after (Expects (suc d)) front) refused
refused-within front (x ∷ behind) d refused = refused

pub stuck-within : (signs : List Sign) (left : ℕ) → IsStuck 2 signs left → IsStuck 0 (sign.Open ∷ signs) left
stuck-within signs left s = record {
  front = sign.Open ∷ s.front;
  behind = s.behind;
  parts = ap (λ more. sign.Open ∷ more) s.parts;
  count = s.count;
  begun = record {
    tree = Within s.begun.tree;
    made = s.begun.made;
    more = s.begun.more ++ sign.Close ∷ [];
    begins = ap (λ more. sign.Open ∷ more ++ sign.Close ∷ []) s.begun.begins ∙ ap (λ more. sign.Open ∷ more) (append_assoc s.front s.begun.more (sign.Close ∷ []));
  };
  refused = λ d. refused-within s.front s.behind d (s.refused (suc d));
}

refused-open : (tree : Tree) (rest : List Sign) (d : ℕ) → IsOver 2 rest → IsNoClose rest → Refuses d (sign.Open ∷ printed tree) rest
refused-open tree [] d over none = subst (IsUnfinished d) (sym (ap (after (Expects (suc d))) (sym (append-nil (printed tree))) ∙ after-printed tree (suc d) [])) (omega arith)
refused-open tree (sign.And ∷ rest) d over none = absurd (omega (arith, over))
refused-open tree (sign.Not ∷ rest) d over none = absurd (omega (arith, over))
refused-open tree (sign.Or ∷ rest) d over none = absurd (omega (arith, over))
refused-open tree (sign.Close ∷ rest) d over none = absurd none
refused-open tree (sign.Operand number ∷ rest) d over none = after-printed tree (suc d) (sign.Operand number ∷ [])
refused-open tree (sign.Open ∷ rest) d over none = after-printed tree (suc d) (sign.Open ∷ [])
refused-open tree (sign.Other ∷ rest) d over none = after-printed tree (suc d) (sign.Other ∷ [])

pub stuck-open : (signs : List Sign) (tree : Tree) (rest : List Sign) → IsRead 2 signs tree rest → IsNoClose rest → IsStuck 0 (sign.Open ∷ signs) (length rest)
stuck-open signs tree rest r none = record {
  front = sign.Open ∷ printed tree;
  behind = rest;
  parts = ap (λ more. sign.Open ∷ more) r.signs_are;
  count = refl;
  begun = record { tree = Within tree; made = r.made; more = sign.Close ∷ []; begins = refl };
  refused = λ d. refused-open tree rest d r.over none;
}

refused-first : (signs : List Sign) (d : ℕ) → IsNoFactor signs → Refuses d [] signs
refused-first [] d none = none
refused-first (sign.And ∷ rest) d none = refl
refused-first (sign.Not ∷ rest) d none = refl
refused-first (sign.Or ∷ rest) d none = refl
refused-first (sign.Close ∷ rest) d none = refl
refused-first (sign.Operand number ∷ rest) d none = absurd none
refused-first (sign.Open ∷ rest) d none = absurd none
refused-first (sign.Other ∷ rest) d none = refl

pub stuck-first : (signs : List Sign) → IsNoFactor signs → IsStuck 0 signs (length signs)
stuck-first signs none = record {
  front = [];
  behind = signs;
  parts = refl;
  count = refl;
  begun = record { tree = Word 0; made = tt; more = sign.Operand 0 ∷ []; begins = refl };
  refused = λ d. refused-first signs d none;
}
