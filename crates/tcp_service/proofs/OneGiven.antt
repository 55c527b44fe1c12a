-- Connections in memory, when one more is given.
use Rattle.std.proofs.Common.{◌≡◌, List, [], ◌∷◌, ◌++◌, length, take, drop, sym, ap, subst, ◌∙◌, append_assoc}
use Rattle.std.specs.Prelude.{reverse}
use Rattle.std.proofs.Math.Seq.{take-append_seam, drop-append_seam}
use Rattle.std.proofs.lemmas.List.{reverse-append, take-append-drop}
use Rattle.tcp_service.specs.Scripts.{IsMade, AreMade}
use Rattle.tcp_service.specs.QueuedConns.{MemConn}
use Rattle.tcp_service.specs.declared.script.Script.{Script}

-- all of them, by those that waited before the last one of these was given
split_at_last : {A : Type 0} (all waiting front : List A) (one : A) → take (length waiting) all ≡ waiting → waiting ≡ front ++ one ∷ []
    → all ≡ front ++ one ∷ drop (length waiting) all
split_at_last all waiting front one is last =
    sym (take-append-drop (length waiting) all) ∙ ap (λ l. l ++ drop (length waiting) all) (is ∙ last) ∙ append_assoc front (one ∷ []) (drop (length waiting) all)

-- the others are still the first of all
pub front_kept : {A : Type 0} (all waiting front : List A) (one : A) → take (length waiting) all ≡ waiting → waiting ≡ front ++ one ∷ [] → take (length front) all ≡ front
front_kept all waiting front one is last = ap (take (length front)) (split_at_last all waiting front one is last) ∙ take-append_seam front (one ∷ drop (length waiting) all)

-- and this one was given last
pub one_given : {A : Type 0} (all waiting front : List A) (one : A) → take (length waiting) all ≡ waiting → waiting ≡ front ++ one ∷ []
    → reverse (drop (length front) all) ≡ reverse (drop (length waiting) all) ++ one ∷ []
one_given all waiting front one is last =
    ap (λ l. reverse (drop (length front) l)) (split_at_last all waiting front one is last)
    ∙ ap reverse (drop-append_seam front (one ∷ drop (length waiting) all))
    ∙ reverse-append (one ∷ []) (drop (length waiting) all)

-- the others, by the one that was given
pub behind_one : {A : Type 0} (all waiting front : List A) (one : A) → take (length waiting) all ≡ waiting → waiting ≡ front ++ one ∷ []
    → drop (length front) all ≡ one ∷ drop (length waiting) all
behind_one all waiting front one is last = ap (drop (length front)) (split_at_last all waiting front one is last) ∙ drop-append_seam front (one ∷ drop (length waiting) all)

-- one more connection for one more script
pub AreMade-more : (conns : List MemConn) (conn : MemConn) (all waiting front : List Script) (script : Script) → take (length waiting) all ≡ waiting → waiting ≡ front ++ script ∷ []
    → AreMade (reverse conns) (drop (length waiting) all) → IsMade conn script → AreMade (reverse (conns ++ conn ∷ [])) (drop (length front) all)
AreMade-more conns conn all waiting front script is last made one =
    subst (λ cs. AreMade cs (drop (length front) all)) (sym (reverse-append conns (conn ∷ [])))
    (subst (λ ss. AreMade (conn ∷ reverse conns) ss) (sym (behind_one all waiting front script is last)) (one, made))
