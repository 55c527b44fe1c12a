-- Numbers that rise within bounds, and documents under such identifiers.
use Rattle.std.proofs.Common.{◌≡◌, ℕ, ◌+◌, ◌<◌, ◌≤◌, ◌||◌, ◌==◌, Bool, true, false, not, List, [], ◌∷◌, ◌++◌, map, filter, nat_lt, refl, ap, ◌∙◌, arith}
use Rattle.std.proofs.lemmas.Bool.{lt-ltb, le-leb, ne_eqb, eq-eqb}
use Rattle.client_registry.specs.Documents.{is_live}
use Rattle.client_registry.specs.Live.{in_order, insert_in_order}
use Rattle.script_game.specs.GameDocuments.{game_document}
use Rattle.script_game.specs.GameRule.{above_100}
use Rattle.script_game.specs.RuleRuns.{IsRisingWithin, live_with}
use Rattle.script_game.specs.declared.game_side.GameSide.{GameSide}

pub wider : (a b c : ℕ) (ns : List ℕ) → b ≤ c → IsRisingWithin a b ns → IsRisingWithin a c ns
wider a b c [] le r = tt
wider a b c (n ∷ ns) le r = (r.0, omega (arith, le, r.1), wider n b c ns le r.2)

pub lower : (a b c : ℕ) (ns : List ℕ) → a ≤ b → IsRisingWithin b c ns → IsRisingWithin a c ns
lower a b c [] le r = tt
lower a b c (n ∷ ns) le r = (omega (arith, le, r.0), r.1, r.2)

pub one_more : (a n : ℕ) (ns : List ℕ) → a < n → IsRisingWithin a n ns → IsRisingWithin a (n + 1) (ns ++ n ∷ [])
one_more a n [] lt r = (lt, omega arith, tt)
one_more a n (m ∷ ms) lt r = (r.0, omega (arith, r.1), one_more m n ms r.1 r.2)

in_order-rising : (a b : ℕ) (ns : List ℕ) → IsRisingWithin a b ns → in_order ns ≡ ns
in_order-rising a b [] r = refl
in_order-rising a b (n ∷ ns) r = ap (insert_in_order n) (in_order-rising n b ns r.2) ∙ first n ns r.2
  where
    first : (n : ℕ) (ns : List ℕ) → IsRisingWithin n b ns → insert_in_order n ns ≡ n ∷ ns
    first n [] r = refl
    first n (m ∷ ms) r = rw (le-leb n m (omega (arith, r.0))) refl

above-all : (a b : ℕ) (ns : List ℕ) → 100 ≤ a → IsRisingWithin a b ns → filter (nat_lt 100) ns ≡ ns
above-all a b [] le r = refl
above-all a b (n ∷ ns) le r = rw (lt-ltb 100 n (omega (arith, le, r.0))) (ap (λ (rest : List ℕ). n ∷ rest) (above-all n b ns (omega (arith, le, r.0)) r.2))

pub above_100-live : (b : ℕ) (added : List ℕ) → IsRisingWithin 100 b added → above_100 (live_with added) ≡ added
above_100-live b added r = ap in_order (above-all 100 b added (omega arith) r) ∙ in_order-rising 100 b added r

module _ (side : GameSide) where
  pub ids-documents : (ns : List ℕ) → map (λ d. d.id) (map (game_document side) ns) ≡ ns
  ids-documents [] = refl
  ids-documents (n ∷ ns) = ap (λ (rest : List ℕ). n ∷ rest) (ids-documents ns)

  -- none has an identifier that isn't above the lower bound
  pub without-lower : (x a b : ℕ) (ns : List ℕ) → x ≤ a → IsRisingWithin a b ns → filter (λ d. not (d.id == x)) (map (game_document side) ns) ≡ map (game_document side) ns
  without-lower x a b [] le r = refl
  without-lower x a b (n ∷ ns) le r =
      rw (ne_eqb n x (λ e. omega (arith, e, le, r.0))) (ap (λ rest. game_document side n ∷ rest) (without-lower x n b ns (omega (arith, le, r.0)) r.2))

  -- nor one that isn't below the upper bound
  pub is_live-upper : (n a b : ℕ) (ns : List ℕ) → b ≤ n → IsRisingWithin a b ns → is_live (map (game_document side) ns) n ≡ false
  is_live-upper n a b [] le r = refl
  is_live-upper n a b (m ∷ ms) le r = rw (ne_eqb n m (λ e. omega (arith, e, le, r.1)), is_live-upper n m b ms le r.2) refl

  pub either_right : (p q : Bool) → q ≡ true → (p || q) ≡ true
  either_right true q e = refl
  either_right false q e = e

  -- the first one above 100 is live
  pub is_live-first : (n : ℕ) (ns : List ℕ) → is_live (map (game_document side) (live_with (n ∷ ns))) n ≡ true
  is_live-first n ns = either_right (n == 1) _ (either_right (n == 2) _ (either_right (n == 3) _ (either_right (n == 4) _ (rw (eq-eqb n n refl) refl))))
