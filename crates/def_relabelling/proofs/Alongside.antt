-- A place in two runs of equal leakage stands before a search, at it, or after it, in both alike.
use Rattle.std.proofs.Common.{◌≡◌, suc, ◌+◌, List, [], ◌∷◌, ◌++◌, length, refl, sym, ap, ◌∙◌, arith}
use Rattle.std.proofs.lemmas.List.{length-append}
use Rattle.client_registry.specs.Command.{Command}
use Rattle.client_registry.specs.Run.{Run, Offsets}
use Rattle.def_relabelling.proofs.Beside.{Beside}
use Rattle.def_relabelling.proofs.Pairs.{heads, tails}

-- where one place of a list stands against another
data Against {A : Type 0} (front : List A) (s : A) (past : List A) (c : A) : Type 0 where
  IsBefore : (mid : List A) → front ≡ past ++ c ∷ mid → Against front s past c
  IsAt : front ≡ past → c ≡ s → Against front s past c
  IsBehind : (mid : List A) → past ≡ front ++ s ∷ mid → Against front s past c

against : {A : Type 0} (front : List A) (s : A) (later past : List A) (c : A) (rest : List A) → front ++ s ∷ later ≡ past ++ c ∷ rest → Against front s past c
against [] s later [] c rest e = IsAt refl (sym (heads s c later rest e))
against [] s later (x ∷ past) c rest e = IsBehind past (ap (λ y. y ∷ past) (sym (heads s x later (past ++ c ∷ rest) e)))
against (x ∷ front) s later [] c rest e = IsBefore front (ap (λ y. y ∷ front) (heads x c (front ++ s ∷ later) rest e))
against {A} (x ∷ front) s later (y ∷ past) c rest e = by (against front s later past c rest (tails x y (front ++ s ∷ later) (past ++ c ∷ rest) e))
  where
    same : x ≡ y
    same = heads x y (front ++ s ∷ later) (past ++ c ∷ rest) e

    by : Against front s past c → Against (x ∷ front) s (y ∷ past) c
    by (IsBefore mid p) = IsBefore mid (λ i. same i ∷ p i)
    by (IsAt p q) = IsAt (λ i. same i ∷ p i) q
    by (IsBehind mid p) = IsBehind mid (λ i. sym same i ∷ p i)

-- the same in both runs
pub data Alongside (front front2 : List Command) (s s2 : Command) (past past2 : List Command) (c c2 : Command) : Type 0 where
  Before : (mid mid2 : List Command) → front ≡ past ++ c ∷ mid → front2 ≡ past2 ++ c2 ∷ mid2 → Alongside front front2 s s2 past past2 c c2
  At : c ≡ s → c2 ≡ s2 → Alongside front front2 s s2 past past2 c c2
  Behind : (mid mid2 : List Command) → past ≡ front ++ s ∷ mid → past2 ≡ front2 ++ s2 ∷ mid2 → Alongside front front2 s s2 past past2 c c2

pub alongside : (o : Offsets) (run other : Run) (front front2 past past2 : List Command) (s s2 c c2 : Command)
    → Beside o run other front front2 s s2 → Beside o run other past past2 c c2 → Alongside front front2 s s2 past past2 c c2
alongside o run other front front2 past past2 s s2 c c2 a b =
    by (against front s a.rest past c b.rest (sym a.parts ∙ b.parts)) (against front2 s2 a.rest2 past2 c2 b.rest2 (sym a.parts2 ∙ b.parts2))
  where
    sizes : length front ≡ length front2
    sizes = a.even

    sizes2 : length past ≡ length past2
    sizes2 = b.even

    longer : (xs ys : List Command) (y : Command) (mid : List Command) → xs ≡ ys ++ y ∷ mid → length xs ≡ length ys + suc (length mid)
    longer xs ys y mid e = ap length e ∙ length-append ys (y ∷ mid)

    by : Against front s past c → Against front2 s2 past2 c2 → Alongside front front2 s s2 past past2 c c2
    by (IsBefore mid p) (IsBefore mid2 q) = Before mid mid2 p q
    by (IsAt p p2) (IsAt q q2) = At p2 q2
    by (IsBehind mid p) (IsBehind mid2 q) = Behind mid mid2 p q
    by (IsBefore mid p) (IsAt q q2) = absurd (let x = longer front past c mid p in let y : length front2 ≡ length past2 = ap length q in omega (arith, x, y, sizes, sizes2))
    by (IsBefore mid p) (IsBehind mid2 q) = absurd (let x = longer front past c mid p in let y = longer past2 front2 s2 mid2 q in omega (arith, x, y, sizes, sizes2))
    by (IsAt p p2) (IsBefore mid2 q) = absurd (let x : length front ≡ length past = ap length p in let y = longer front2 past2 c2 mid2 q in omega (arith, x, y, sizes, sizes2))
    by (IsAt p p2) (IsBehind mid2 q) = absurd (let x : length front ≡ length past = ap length p in let y = longer past2 front2 s2 mid2 q in omega (arith, x, y, sizes, sizes2))
    by (IsBehind mid p) (IsBefore mid2 q) = absurd (let x = longer past front s mid p in let y = longer front2 past2 c2 mid2 q in omega (arith, x, y, sizes, sizes2))
    by (IsBehind mid p) (IsAt q q2) = absurd (let x = longer past front s mid p in let y : length front2 ≡ length past2 = ap length q in omega (arith, x, y, sizes, sizes2))
