-- The turns of a duel whose sides leak the same in the end: what was shown at each is the session of the left history, which tells nothing
-- but its leakage, and the relabelled table of a turn is a restriction of that of the end.
use Rattle.std.proofs.Common.{◌≡◌, ℕ, List, [], ◌∷◌, ◌++◌, map, refl, sym, ap, ◌∙◌, subst, Some, None}
use Rattle.std.specs.Prelude.{Option}
use Rattle.def_leakage.specs.Histories.{leak_in}
use Rattle.def_relabelling.specs.Histories.{relabelled_from}
use Rattle.keyed_fn.specs.KeyedFn.{KeyedFn, IsKeyedFn}
use Rattle.leakage_frames.specs.Steps.{passed_bytes}
use Rattle.sse_frames.specs.Exchange.{Passed}
use Rattle.sse_model.specs.Transcript.{session}
use Rattle.def_duel.proofs.TheoremA.{AreKept, level-start, theorem_a, theorem_a_moved}
use Rattle.def_duel.specs.Choices.{Pair, Sides, at_start, played_all}
use Rattle.def_duel.specs.Telling.{AgreeAtNames, TellsNothingElse}
use Rattle.def_duel.specs.Turns.{Turn, answered, sides_after, texts_of, AreShown}

-- the pair of an answer, before these
abbrev pub pair_before : Option Pair → List Pair → List Pair
pair_before None ps = ps
pair_before (Some p) ps = p ∷ ps

-- the pairs that were answered
abbrev pub pairs_of : List Turn → List Pair
pairs_of [] = []
pairs_of (t ∷ ts) = pair_before t.answer (pairs_of ts)

pub pairs_of-append : (ts us : List Turn) → pairs_of (ts ++ us) ≡ pairs_of ts ++ pairs_of us
pairs_of-append [] us = refl
pairs_of-append (t ∷ ts) us = by t.answer (pairs_of-append ts us)
  where
    by : (answer : Option Pair) → pairs_of (ts ++ us) ≡ pairs_of ts ++ pairs_of us → pair_before answer (pairs_of (ts ++ us)) ≡ pair_before answer (pairs_of ts) ++ pairs_of us
    by None e = e
    by (Some p) e = ap (λ rest. p ∷ rest) e

module _ (f : KeyedFn) (key : List ℕ) where
  -- sides after turns are those after their pairs
  pub sides_by_pairs : (s : Sides) (ts : List Turn) → sides_after f key s ts ≡ played_all f key s (pairs_of ts)
  sides_by_pairs s [] = refl
  sides_by_pairs s (t ∷ ts) = by t.answer (sides_by_pairs (answered f key s t.answer) ts)
    where
      by : (answer : Option Pair) → sides_after f key (answered f key s answer) ts ≡ played_all f key (answered f key s answer) (pairs_of ts)
          → sides_after f key (answered f key s answer) ts ≡ played_all f key s (pair_before answer (pairs_of ts))
      by None e = e
      by (Some p) e = e

  -- the turn after the first ones was shown the texts of the left history so far
  pub shown_then : (s : Sides) (ts us : List Turn) (t : Turn) → AreShown f key s (ts ++ t ∷ us) → t.seen ≡ texts_of f key (sides_after f key s ts).left
  shown_then s [] us t are = are.0
  shown_then s (x ∷ xs) us t are = shown_then (answered f key s x.answer) xs us t are.1

-- what a turn is shown is the text of something that tells nothing but the leakage of the left history
pub record IsShownAlone (f : KeyedFn) (key : List ℕ) (now : Sides) (t : Turn) : Type 0 where
  pub passed : List Passed
  pub seen : t.seen ≡ map passed_bytes passed
  pub tells : TellsNothingElse f key now.left now.right passed

module _ (f : KeyedFn) (laws : IsKeyedFn f) (key : List ℕ) (ts us : List Turn) (kept : AreKept (sides_after f key at_start (ts ++ us)))
    (leaks : leak_in (sides_after f key at_start (ts ++ us)).left ≡ leak_in (sides_after f key at_start (ts ++ us)).right) where
  abbrev now : Sides
  now = sides_after f key at_start ts

  abbrev end : Sides
  end = sides_after f key at_start (ts ++ us)

  end_is : end ≡ played_all f key at_start (pairs_of ts ++ pairs_of us)
  end_is = sides_by_pairs f key at_start (ts ++ us) ∙ ap (played_all f key at_start) (pairs_of-append ts us)

  now_is : now ≡ played_all f key at_start (pairs_of ts)
  now_is = sides_by_pairs f key at_start ts

  pub turn_tells : TellsNothingElse f key now.left now.right (session f key now.left)
  turn_tells =
      subst (λ (s : Sides). TellsNothingElse f key s.left s.right (session f key s.left)) (sym now_is)
      (theorem_a f laws key at_start level-start (pairs_of ts) (pairs_of us) (subst AreKept end_is kept)
      (subst (λ (s : Sides). leak_in s.left ≡ leak_in s.right) end_is leaks))

  -- Promise P315, also here
  -- the relabelled table of a turn agrees with that of the end at the names of the right history so far
  pub turn_table_stays : AgreeAtNames now.right (relabelled_from f key now.left now.right) (relabelled_from f key end.left end.right)
  turn_table_stays =
      subst (λ (s : Sides). AgreeAtNames s.right (relabelled_from f key s.left s.right) (relabelled_from f key end.left end.right)) (sym now_is)
      (subst (λ (s : Sides). AgreeAtNames (played_all f key at_start (pairs_of ts)).right (relabelled_from f key (played_all f key at_start (pairs_of ts)).left (played_all f key at_start (pairs_of ts)).right) (relabelled_from f key s.left s.right))
      (sym end_is)
      (theorem_a_moved f laws key at_start level-start (pairs_of ts) (pairs_of us) (subst AreKept end_is kept)
      (subst (λ (s : Sides). leak_in s.left ≡ leak_in s.right) end_is leaks)))

-- Promise P314 (inside): At each turn of a duel whose sides leak the same, what is shown tells nothing but leakage.
--   assumes: keyed function, equal leakage, kept limits; not: That the sides leak the same, which a game tests at each pair.
pub turn_tells_nothing_else : (f : KeyedFn) → IsKeyedFn f → (key : List ℕ) (ts us : List Turn) (t : Turn) → AreShown f key at_start (ts ++ t ∷ us)
    → AreKept (sides_after f key at_start (ts ++ t ∷ us)) → leak_in (sides_after f key at_start (ts ++ t ∷ us)).left ≡ leak_in (sides_after f key at_start (ts ++ t ∷ us)).right
    → IsShownAlone f key (sides_after f key at_start ts) t
turn_tells_nothing_else f laws key ts us t shown kept leaks = record {
  passed = session f key (sides_after f key at_start ts).left;
  seen = shown_then f key at_start ts us t shown;
  tells = turn_tells f laws key ts (t ∷ us) kept leaks;
}
