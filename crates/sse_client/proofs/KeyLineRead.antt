-- The key line is read: each empty line before it leaves it where it is.
use Rattle.std.proofs.Common.{◌≡◌, ℕ, ◌+◌, List, [], ◌∷◌, None, Some, refl, sym, ap, ◌∙◌, subst}
use Rattle.std.specs.Prelude.{Option, IfSome}
use Rattle.sse_script.specs.TextLines.{TakesLine}
use Rattle.def_script_meaning.proofs.Steps.{IsBadFirst}
use Rattle.def_script_meaning.specs.Lines.{Line, Empty, Key, Command, line_in, lines_in}
use Rattle.sse_client.specs.KeyLines.{Missing, key_line, FindsKey}

-- the key line of the whole is that of what is left
abbrev pub HasSameKey : (first : ℕ) → Option (List (List ℕ)) → (number : ℕ) → Option (List (List ℕ)) → Type 0
HasSameKey first all number left = IfSome all (λ texts. (rest : List (List ℕ)) × (left ≡ Some rest) × (key_line first (lines_in texts) ≡ key_line number (lines_in rest)))

pub HasSameKey-start : (n : ℕ) (left : Option (List (List ℕ))) → HasSameKey n left n left
HasSameKey-start n None = tt
HasSameKey-start n (Some texts) = (texts, refl, refl)

-- where a line is taken, it is the first of what was left
taken_first : (left behind : Option (List (List ℕ))) (text : List ℕ) (rest : List (List ℕ)) → TakesLine left behind text → left ≡ Some rest → (others : List (List ℕ)) × (behind ≡ Some others) × (rest ≡ text ∷ others)
taken_first left None text rest taken is = absurd (let no : None ≡ Some rest = sym taken ∙ is in cc)
taken_first left (Some others) text rest taken is = (others, refl, let same : Some (text ∷ others) ≡ Some rest = sym taken ∙ is in cc)

bad_missing : (item : Option Line) (number : ℕ) (lines : List (Option Line)) → IsBadFirst item → key_line number (item ∷ lines) ≡ Missing number
bad_missing None number lines bad = refl
bad_missing (Some Empty) number lines bad = absurd bad
bad_missing (Some (Key key)) number lines bad = absurd bad
bad_missing (Some (Command line)) number lines bad = refl

module _ (first : ℕ) (number : ℕ) (left : Option (List (List ℕ))) where
  -- no line is left
  pub missing-end : (all : Option (List (List ℕ))) → HasSameKey first all number left → IfSome left (λ lines. lines ≡ []) → IfSome all (λ texts. key_line first (lines_in texts) ≡ Missing number)
  missing-end None same none = tt
  missing-end (Some texts) same none =
      let empty : same.0 ≡ [] = subst (λ l. IfSome l (λ lines. lines ≡ [])) same.1 none in
      same.2 ∙ ap (λ rest. key_line number (lines_in rest)) empty

  module _ (behind : Option (List (List ℕ))) (text : List ℕ) (taken : TakesLine left behind text) where
    -- an empty line
    pub HasSameKey-empty : (all : Option (List (List ℕ))) → HasSameKey first all number left → line_in text ≡ Some Empty → HasSameKey first all (number + 1) behind
    HasSameKey-empty None same reads = tt
    HasSameKey-empty (Some texts) same reads =
        let t = taken_first left behind text same.0 taken same.1 in
        (t.0, t.1, same.2 ∙ ap (λ rest. key_line number (lines_in rest)) t.2 ∙ ap (λ item. key_line number (item ∷ lines_in t.0)) reads)

    -- the key line
    pub FindsKey-read : (all : Option (List (List ℕ))) → HasSameKey first all number left → (key : List ℕ) → line_in text ≡ Some (Key key) → FindsKey first all key (number + 1) behind
    FindsKey-read None same key reads = tt
    FindsKey-read (Some texts) same key reads =
        let t = taken_first left behind text same.0 taken same.1 in
        (t.0, t.1, same.2 ∙ ap (λ rest. key_line number (lines_in rest)) t.2 ∙ ap (λ item. key_line number (item ∷ lines_in t.0)) reads)

    -- a bad line, or a command before the key line
    pub missing-bad : (all : Option (List (List ℕ))) → HasSameKey first all number left → IsBadFirst (line_in text) → IfSome all (λ texts. key_line first (lines_in texts) ≡ Missing number)
    missing-bad None same bad = tt
    missing-bad (Some texts) same bad =
        let t = taken_first left behind text same.0 taken same.1 in
        same.2 ∙ ap (λ rest. key_line number (lines_in rest)) t.2 ∙ bad_missing (line_in text) number (lines_in t.0) bad
