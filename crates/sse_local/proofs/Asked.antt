-- Words that ask for a mode, as each crate reads them.
use Rattle.std.proofs.Common.{◌≡◌, ◌≤◌, ℕ, Bool, true, false, List, [], ◌∷◌, Option, None, Some, map, refl, ap, subst, ◌∙◌}
use Rattle.std.specs.Prelude.{bytes_eq, codes, if◌then◌else◌, ◌&&◌, nat_le}
use Rattle.std.specs.Option.{option_and_then}
use Rattle.std.proofs.lemmas.Bool.{leb-true}
use Rattle.program_words.specs.Modes as modes
use Rattle.program_words.specs.Numbers.{number_of, number_within, within}
use Rattle.script_run_texts.specs.Words as asks

-- A run.

-- the word `run` alone asks for one
pub disk_mode_of-run : {X : Type 0} (bytes : X → List ℕ) (now items : List X) (word : X) → now ≡ items → items ≡ word ∷ [] → bytes word ≡ codes "run" → asks.disk_mode_of (map bytes now) ≡ Some asks.RunOn
disk_mode_of-run bytes now items word same one is = ap (λ words. asks.disk_mode_of (map bytes words)) (same ∙ one) ∙ ap (λ b. asks.disk_mode_of (b ∷ [])) is

-- A made script.

within-most : (low high : ℕ) (o : Option ℕ) (n : ℕ) → option_and_then (within low high) o ≡ Some n → n ≤ high
within-most low high None n e = absurd (cc)
within-most low high (Some m) n e = by (nat_le low m) (nat_le m high) refl e
  where
    by : (above below : Bool) → nat_le m high ≡ below → (if above && below then Some m else None) ≡ Some n → n ≤ high
    by true true most is = let same : m ≡ n = cc in subst (λ k. k ≤ high) same (leb-true m high most)
    by true false most is = absurd (cc)
    by false below most is = absurd (cc)

number_within-most : (low high : ℕ) (word : List ℕ) (n : ℕ) → number_within low high word ≡ Some n → n ≤ high
unfolding number_within
number_within-most low high word n e = within-most low high (number_of word) n e

made_by-documents : (seed documents : Option ℕ) (a b : ℕ) → modes.made_by seed documents ≡ Some (modes.Made a b) → documents ≡ Some b
made_by-documents (Some seed) (Some documents) a b e = cc
made_by-documents (Some seed) None a b e = absurd (cc)
made_by-documents None documents a b e = absurd (cc)

-- words ask for one of at most 10,000 documents
pub made-few : (words : List (List ℕ)) (seed documents : ℕ) → modes.local_mode_of words ≡ Some (modes.Made seed documents) → documents ≤ 10000
made-few [] seed documents e = absurd (cc)
made-few (word ∷ []) seed documents e = absurd (by (bytes_eq word (codes "run")) (bytes_eq word (codes "more")) (bytes_eq word (codes "twin")) e)
  where
    by : (run more twin : Bool)
        → (if run then Some (modes.Script modes.RunOn) else (if more then Some (modes.Script modes.More) else (if twin then Some modes.Twin else None))) ≡ Some (modes.Made seed documents) → ⊥
    by true more twin is = absurd (cc)
    by false true twin is = absurd (cc)
    by false false true is = absurd (cc)
    by false false false is = absurd (cc)
made-few (word ∷ first ∷ []) seed documents e = absurd (cc)
made-few (word ∷ first ∷ second ∷ []) seed documents e = by (bytes_eq word (codes "gen")) e
  where
    by : (gen : Bool) → (if gen then modes.made_by (number_within 0 999999 first) (number_within 1 10000 second) else None) ≡ Some (modes.Made seed documents) → documents ≤ 10000
    by true is = number_within-most 1 10000 second documents (made_by-documents (number_within 0 999999 first) (number_within 1 10000 second) seed documents is)
    by false is = absurd (cc)
made-few (word ∷ first ∷ second ∷ next ∷ words) seed documents e = absurd (cc)
