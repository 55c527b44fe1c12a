-- The key line is read: each empty line before it leaves it where it is.
use Rattle.std.proofs.Common.{◌≡◌, ℕ, ◌+◌, List, [], ◌∷◌, None, Some, refl, sym, ap, ◌∙◌, subst}
use Rattle.std.specs.Prelude.{Option, IfSome}
use Rattle.sse_script.specs.TextLines.{TakesLine}
use Rattle.vault_script.specs.VaultLines.{VaultLineText}
use Rattle.doc_vault.specs.NextLines.{ReadsAs}
use Rattle.doc_vault.specs.Openings.{FindsKey, MissesKey, KeyFound, KeyMissing, VaultOpening, opened_by, opening}

-- the script opens to what the lines that are left open to
abbrev pub OpensAlike : (first : ℕ) → Option (List (List ℕ)) → (number : ℕ) → Option (List (List ℕ)) → Type 0
OpensAlike first all number left = IfSome all (λ lines. (rest : List (List ℕ)) × (left ≡ Some rest) × (opening first lines ≡ opening number rest))

pub opens-alike : (n : ℕ) (left : Option (List (List ℕ))) → OpensAlike n left n left
opens-alike n None = tt
opens-alike n (Some lines) = (lines, refl, refl)

-- a line that is taken is the first of those that were left
taken_first : (left behind : Option (List (List ℕ))) (text : List ℕ) (rest : List (List ℕ)) → TakesLine left behind text → left ≡ Some rest → (others : List (List ℕ)) × (behind ≡ Some others) × (rest ≡ text ∷ others)
taken_first left None text rest taken is = absurd (let no : None ≡ Some rest = sym taken ∙ is in cc)
taken_first left (Some others) text rest taken is = (others, refl, let same : Some (text ∷ others) ≡ Some rest = sym taken ∙ is in cc)

module _ (first number : ℕ) (left : Option (List (List ℕ))) where
  -- no line is left
  pub misses-end : (all : Option (List (List ℕ))) → OpensAlike first all number left → IfSome left (λ lines. lines ≡ []) → MissesKey first all number
  misses-end None same none = tt
  misses-end (Some lines) same none =
      let empty : same.0 ≡ [] = subst (λ l. IfSome l (λ lines. lines ≡ [])) same.1 none in
      same.2 ∙ ap (λ rest. opening number rest) empty

  module _ (behind : Option (List (List ℕ))) (said : Option VaultLineText) (reads : ReadsAs left behind said) where
    -- what the script opens to, by the line that was read
    by_line : (all : Option (List (List ℕ))) → OpensAlike first all number left
        → IfSome all (λ lines. (rest : List (List ℕ)) × (behind ≡ Some rest) × (opening first lines ≡ opened_by number said rest (opening (number + 1) rest)))
    by_line None same = tt
    by_line (Some lines) same =
        let t = taken_first left behind reads.line same.0 reads.takes same.1 in
        (t.0, t.1, same.2 ∙ ap (λ rest. opening number rest) t.2 ∙ ap (λ l. opened_by number l t.0 (opening (number + 1) t.0)) reads.reads)

    -- an empty line
    pub opens-empty : (all : Option (List (List ℕ))) → OpensAlike first all number left → ((rest : List (List ℕ)) (after : VaultOpening) → opened_by number said rest after ≡ after) → OpensAlike first all (number + 1) behind
    opens-empty None same is = tt
    opens-empty (Some lines) same is = let b = by_line (Some lines) same in (b.0, b.1, b.2 ∙ is b.0 _)

    -- the key line
    pub finds-key : (all : Option (List (List ℕ))) → OpensAlike first all number left → (key : List ℕ) → ((rest : List (List ℕ)) (after : VaultOpening) → opened_by number said rest after ≡ KeyFound key number rest)
        → FindsKey first all key number behind
    finds-key None same key is = tt
    finds-key (Some lines) same key is = let b = by_line (Some lines) same in (b.0, b.1, b.2 ∙ is b.0 _)

    -- any other line
    pub misses-line : (all : Option (List (List ℕ))) → OpensAlike first all number left → ((rest : List (List ℕ)) (after : VaultOpening) → opened_by number said rest after ≡ KeyMissing number) → MissesKey first all number
    misses-line None same is = tt
    misses-line (Some lines) same is = let b = by_line (Some lines) same in b.2 ∙ is b.0 _
