-- The script of a restore, as its lines are read.
use Rattle.std.proofs.Common.{◌≡◌, ℕ, ◌+◌, List, [], None, Some, Ok, Err, sym, ap, ◌∙◌, subst}
use Rattle.std.specs.Prelude.{Option, IfSome, Result, Bool}
use Rattle.std.specs.Result.{IsErrAnd}
use Rattle.script_run_texts.specs.declared.input_stop.InputStop.{InputStop}
use Rattle.script_run_texts.specs.declared.input_stop.InputStop.TheVariants as inputs
use Rattle.sse_script.specs.TextLines.{lines_left}
use Rattle.vault_script.specs.VaultLines.{VaultLineText, EmptyLine}
use Rattle.doc_vault.specs.Openings.{FindsKey, MissesKey}
use Rattle.vault_restore.specs.KeyScripts.{BadLineAt, IsGone, KeyAlone, KeyScript, LeavesKeyScript, MakesKeyScript, SkipsEmpty, after_key, after_line, opened_script}

-- a line that is gone: what the lines make, by what those after it make
line_makes : (key : List ℕ) (number : ℕ) (left behind : Option (List (List ℕ))) (said : Option VaultLineText) (made : KeyScript) → IsGone left behind said
    → IfSome behind (λ rest. after_line number said (after_key key (number + 1) rest) ≡ made) → LeavesKeyScript key number left made
line_makes key number left None said made gone makes = subst (λ (l : Option (List (List ℕ))). LeavesKeyScript key number l made) (sym gone.takes) tt
line_makes key number left (Some rest) said made gone makes =
    subst (λ (l : Option (List (List ℕ))). LeavesKeyScript key number l made) (sym gone.takes)
    (ap (λ (l : Option VaultLineText). after_line number l (after_key key (number + 1) rest)) gone.reads ∙ makes)

-- it was empty
pub skipped : (number : ℕ) (left behind : Option (List (List ℕ))) → IsGone left behind (Some EmptyLine) → (key : List ℕ) (made : KeyScript) → LeavesKeyScript key (number + 1) behind made → LeavesKeyScript key number left made
skipped number left behind gone key made makes = line_makes key number left behind (Some EmptyLine) made gone makes

-- it may not stand there
pub stopped_at : (number n : ℕ) (left behind : Option (List (List ℕ))) (result : Result Bool InputStop) → SkipsEmpty number left behind result → result ≡ Err (inputs.Line n) → (key : List ℕ) → LeavesKeyScript key number left (BadLineAt n)
stopped_at number n left behind result skips e key = by (subst (λ (r : Result Bool InputStop). SkipsEmpty number left behind r) e skips)
  where
    by : SkipsEmpty number left behind (Err (inputs.Line n)) → LeavesKeyScript key number left (BadLineAt n)
    by is = line_makes key number left behind is.1 (BadLineAt n) is.2 (every behind)
      where
        every : (l : Option (List (List ℕ))) → IfSome l (λ rest. after_line number is.1 (after_key key (number + 1) rest) ≡ BadLineAt n)
        every None = tt
        every (Some rest) = is.3 (after_key key (number + 1) rest) ∙ ap BadLineAt (sym is.0)

-- no line is left
pub ended : (key : List ℕ) (number : ℕ) (left : Option (List (List ℕ))) → IfSome left (λ lines. lines ≡ []) → LeavesKeyScript key number left (KeyAlone key)
ended key number None none = tt
ended key number (Some lines) none = ap (after_key key number) none

-- The whole script.

-- it has its key line
pub found_makes : (all left : Option (List (List ℕ))) (key : List ℕ) (number : ℕ) (made : KeyScript) → FindsKey 1 all key number left → LeavesKeyScript key (number + 1) left made → MakesKeyScript all made
found_makes None left key number made finds makes = tt
found_makes (Some lines) left key number made finds makes =
    ap opened_script finds.2 ∙ subst (λ (l : Option (List (List ℕ))). LeavesKeyScript key (number + 1) l made) finds.1 makes

-- it has none
pub missed_makes : (all : Option (List (List ℕ))) (number : ℕ) → MissesKey 1 all number → MakesKeyScript all (BadLineAt number)
missed_makes None number misses = tt
missed_makes (Some lines) number misses = ap opened_script misses

-- no line was read before

pub finds-first : (n : ℕ) (pending : List ℕ) (remaining : Option (List ℕ)) (key : List ℕ) (number : ℕ) (left_over : Option (List (List ℕ))) → n ≡ 0 → pending ≡ [] → FindsKey (n + 1) (lines_left pending remaining) key number left_over
    → FindsKey 1 (lines_left [] remaining) key number left_over
finds-first n pending remaining key number left_over zero none finds =
    subst (λ (m : ℕ). FindsKey (m + 1) (lines_left [] remaining) key number left_over) zero (subst (λ (p : List ℕ). FindsKey (n + 1) (lines_left p remaining) key number left_over) none finds)

pub misses-first : (n : ℕ) (pending : List ℕ) (remaining : Option (List ℕ)) (number : ℕ) → n ≡ 0 → pending ≡ [] → MissesKey (n + 1) (lines_left pending remaining) number → MissesKey 1 (lines_left [] remaining) number
misses-first n pending remaining number zero none misses =
    subst (λ (m : ℕ). MissesKey (m + 1) (lines_left [] remaining) number) zero (subst (λ (p : List ℕ). MissesKey (n + 1) (lines_left p remaining) number) none misses)

-- a call that stopped for this stopped for that

abbrev pub stopped_for : (U : Type 0) → InputStop → Result U InputStop
stopped_for U stop = Err stop

pub stops_for : {T U : Type 0} → (result : Result T InputStop) (at stop : InputStop) → IsErrAnd result (λ why. why ≡ at) → result ≡ Err stop → stopped_for U at ≡ stopped_for U stop
stops_for {T} {U} (Ok done) at stop is e = absurd is
stops_for {T} {U} (Err why) at stop is e = ap (stopped_for U) (sym is ∙ inside T why stop e)
  where
    inside : (T : Type 0) (a b : InputStop) → stopped_for T a ≡ stopped_for T b → a ≡ b
    inside T a b e = cc
