-- A scan of the slots, as its loop goes on.
use Rattle.std.proofs.Common.{◌≡◌, inl, inr, ℕ, zero, suc, ◌+◌, ◌*◌, ◌<◌, ◌≤◌, Bool, true, false, ◌||◌, List, [], ◌∷◌, ◌++◌, length, length-append, None, Some, Ok, Err, refl, sym, ap, ◌∙◌, subst, arith}
use Rattle.std.specs.Prelude.{◌⊎◌, Option, Result, drop}
use Rattle.std.proofs.lemmas.Bool.{cases_order}
use Rattle.std.proofs.lemmas.List.{append-nil, drop-append-le}
use Rattle.std.specs.Result.{IsErrAnd}
use Rattle.keyed_fn.specs.KeyedFn.{KeyedFn}
use Rattle.keyed_fn.specs.VaultFormulas.{VaultSecrets}
use Rattle.vault_script.specs.declared.vault_stop.VaultStop.{VaultStop}
use Rattle.vault_restore.specs.RestoredLines.{RestoredLine, is_forged_line, lines_of_slot}
use Rattle.vault_restore.specs.Restores.{AddsUp, AtEnd, AtNext, ScansOrStops, any_forged, number_stop}
use Rattle.vault_restore.specs.Slots.{last_after, line_of}
use Rattle.vault_restore.specs.Visits.{HasVisited, RestoreSight, StopsAtSlot, Visit, VisitsOrStops, lines_in}
use Rattle.vault_restore.specs.declared.slot.Slot.{Slot}
use Rattle.vault_restore.proofs.VisitLaws.{lines_in-more, visits-more, visits-none}

any_forged-more : (visits : List Visit) (visit : Visit) → any_forged (visits ++ visit ∷ []) ≡ any_forged visits || is_forged_line visit.line
any_forged-more [] visit = by (is_forged_line visit.line)
  where
    by : (b : Bool) → b || false ≡ b
    by true = refl
    by false = refl
any_forged-more (x ∷ xs) visit = ap (λ (b : Bool). is_forged_line x.line || b) (any_forged-more xs visit) ∙ by (is_forged_line x.line)
  where
    by : (b : Bool) → b || (any_forged xs || is_forged_line visit.line) ≡ (b || any_forged xs) || is_forged_line visit.line
    by true = refl
    by false = refl

-- The last slot with a text.

-- so many slots hold all texts, and no fewer do
pub record IsLast (last : ℕ) (visits : List Visit) : Type 0 where
  pub beyond : (k : ℕ) → last ≤ k → lines_in (drop k visits) ≡ []
  pub within : (k : ℕ) → k < last → lines_in (drop k visits) ≡ [] → ⊥

none_past : (visits : List Visit) (k : ℕ) → length visits ≤ k → lines_in (drop k visits) ≡ []
none_past [] zero past = refl
none_past [] (suc k) past = refl
none_past (x ∷ xs) zero past = absurd (omega (arith, past))
none_past (x ∷ xs) (suc k) past = none_past xs k (omega (arith, past))

drop-more : (visits : List Visit) (visit : Visit) (k : ℕ) → k ≤ length visits → lines_in (drop k (visits ++ visit ∷ [])) ≡ lines_in (drop k visits) ++ lines_of_slot visit.line
drop-more visits visit k within = ap lines_in (drop-append-le k visits (visit ∷ []) within) ∙ lines_in-more (drop k visits) visit

last_first : IsLast 0 []
last_first = record { beyond = λ k some. none_past [] k (omega arith); within = λ k few. absurd (omega (arith, few)) }

last_more : (visits : List Visit) (visit : Visit) (last v : ℕ) → v ≡ length visits → last ≤ v → IsLast last visits → IsLast (last_after visit.line last v) (visits ++ visit ∷ [])
last_more visits visit last v count most is = by visit.line refl
  where
    size : length (visits ++ visit ∷ []) ≡ v + 1
    size = length-append visits (visit ∷ []) ∙ omega (arith, count)

    lines_with : (line : Option RestoredLine) → visit.line ≡ line → (k : ℕ) → k ≤ v → lines_in (drop k (visits ++ visit ∷ [])) ≡ lines_in (drop k visits) ++ lines_of_slot line
    lines_with line at k few = drop-more visits visit k (omega (arith, few, count)) ∙ ap (λ (l : Option RestoredLine). lines_in (drop k visits) ++ lines_of_slot l) at

    not_empty : (lines : List RestoredLine) (line : RestoredLine) → lines ++ line ∷ [] ≡ [] → ⊥
    not_empty [] line e = cc
    not_empty (x ∷ xs) line e = cc

    by : (line : Option RestoredLine) → visit.line ≡ line → IsLast (last_after line last v) (visits ++ visit ∷ [])
    by None at = record {
      beyond = λ k some. empty k some (cases_order k v);
      within = λ k few none. is.within k few (sym (append-nil (lines_in (drop k visits))) ∙ sym (lines_with None at k (omega (arith, few, most))) ∙ none);
    }
      where
        empty : (k : ℕ) → last ≤ k → (k ≡ v) ⊎ ((k < v) ⊎ (v < k)) → lines_in (drop k (visits ++ visit ∷ [])) ≡ []
        empty k some (inl same) = lines_with None at k (omega (arith, same)) ∙ append-nil (lines_in (drop k visits)) ∙ is.beyond k some
        empty k some (inr (inl less)) = lines_with None at k (omega (arith, less)) ∙ append-nil (lines_in (drop k visits)) ∙ is.beyond k some
        empty k some (inr (inr more)) = none_past (visits ++ visit ∷ []) k (omega (arith, size, more))
    by (Some line) at = record {
      beyond = λ k some. none_past (visits ++ visit ∷ []) k (omega (arith, size, some));
      within = λ k few none. not_empty (lines_in (drop k visits)) line (sym (lines_with (Some line) at k (omega (arith, few))) ∙ none);
    }

pub few_lines : (line : Option RestoredLine) → length (lines_of_slot line) ≤ 1
few_lines None = omega arith
few_lines (Some line) = omega arith

pub last_within : (line : Option RestoredLine) (last v : ℕ) → last ≤ v → last_after line last v ≤ v + 1
last_within None last v most = omega (arith, most)
last_within (Some line) last v most = omega arith

module _ (f : KeyedFn) (keys : VaultSecrets) where
  -- v slots were fetched: so many hold a text, and none from slot `last` on
  pub record HasScanned (v texts last : ℕ) (old now : RestoreSight) (forged : Bool) : Type 0 where
    pub visits : List Visit
    pub visited : HasVisited f keys visits old now
    pub count : v ≡ length visits
    pub texts_are : texts ≡ length (lines_in visits)
    pub last_is : IsLast last visits
    pub forged_is : forged ≡ any_forged visits

  pub scan-begins : (sight : RestoreSight) → HasScanned 0 0 0 sight sight false
  scan-begins sight = record { visits = []; visited = visits-none f keys sight; count = refl; texts_are = refl; last_is = last_first; forged_is = refl }

  pub scan-more : (v texts last v' texts' last' : ℕ) (slot : Slot) (text : List ℕ) (old mid new : RestoreSight) (forged forged' wrong : Bool) (m : ℕ) → HasScanned v texts last old mid forged → VisitsOrStops f keys v text mid new (Ok slot)
      → last ≤ v → v' ≡ v + 1 → m ≡ length (lines_of_slot (line_of slot (v + 1) text)) → texts' ≡ texts + m → last' ≡ last_after (line_of slot (v + 1) text) last v → wrong ≡ is_forged_line (line_of slot (v + 1) text) → forged' ≡ forged || wrong
      → HasScanned v' texts' last' old new forged'
  scan-more v texts last v' texts' last' slot text old mid new forged forged' wrong m so visited most next holds more past says either =
      let visit : Visit = record { reply = visited.0; line = line_of slot (v + 1) text } in record {
        visits = so.visits ++ visit ∷ [];
        visited = visits-more f keys v so.visits visit old mid new so.count so.visited visited.1;
        count = next ∙ omega (arith, so.count, length-append so.visits (visit ∷ []));
        texts_are = omega (
          arith,
          more,
          holds,
          so.texts_are,
          ap (λ (l : List RestoredLine). length l) (lines_in-more so.visits visit),
          length-append (lines_in so.visits) (lines_of_slot visit.line),
        );
        last_is = subst (λ (k : ℕ). IsLast k (so.visits ++ visit ∷ [])) (sym past) (last_more so.visits visit last v so.count most so.last_is);
        forged_is =
            either ∙ ap (λ (b : Bool). b || wrong) so.forged_is ∙ ap (λ (b : Bool). any_forged so.visits || b) says
            ∙ sym (any_forged-more so.visits visit);
      }

  pub scan-finished : (n v texts last : ℕ) (old now : RestoreSight) (forged : Bool) → HasScanned v texts last old now forged → v ≡ n → ((puts : ℕ) × (n + texts ≡ 2 * puts) × (last ≤ puts)) → ScansOrStops f keys n old now (Ok forged)
  scan-finished n v texts last old now forged so all fits = record {
    visits = so.visits;
    visited = so.visited;
    all = omega (arith, so.count, all);
    adds_up = record { puts = fits.0; count = omega (arith, fits.1, so.texts_are); beyond = so.last_is.beyond fits.0 fits.2 };
    forged_is = so.forged_is;
  }

  pub scan-unfit : (n v texts last : ℕ) (old now : RestoreSight) (forged : Bool) → HasScanned v texts last old now forged → v ≡ n → ((puts : ℕ) → n + texts ≡ 2 * puts → last ≤ puts → ⊥) → (stop : VaultStop) → stop ≡ number_stop n
      → ScansOrStops f keys n old now (Err stop)
  scan-unfit n v texts last old now forged so all unfit stop is = record {
    visits = so.visits;
    between = now;
    visited = so.visited;
    stops = AtEnd (omega (arith, so.count, all)) (λ adds. not adds (cases_order last adds.puts)) is refl;
  }
    where
      not : (adds : AddsUp n so.visits) → (last ≡ adds.puts) ⊎ ((last < adds.puts) ⊎ (adds.puts < last)) → ⊥
      not adds (inl same) = unfit adds.puts (omega (arith, adds.count, so.texts_are)) (omega (arith, same))
      not adds (inr (inl less)) = unfit adds.puts (omega (arith, adds.count, so.texts_are)) (omega (arith, less))
      not adds (inr (inr more)) = so.last_is.within adds.puts more adds.beyond

  pub scan-stopped : (n v texts last : ℕ) (old mid new : RestoreSight) (forged : Bool) (result : Result Bool VaultStop) (stop : VaultStop) → IsErrAnd result (λ at. at ≡ stop) → HasScanned v texts last old mid forged → v < n
      → StopsAtSlot f keys v mid new stop → ScansOrStops f keys n old new result
  scan-stopped n v texts last old mid new forged (Ok done) stop is so some stops = absurd is
  scan-stopped n v texts last old mid new forged (Err at) stop is so some stops = record {
    visits = so.visits;
    between = mid;
    visited = so.visited;
    stops = AtNext (omega (arith, so.count, some)) (subst (λ (k : ℕ). StopsAtSlot f keys k mid new at) so.count (subst (λ (st : VaultStop). StopsAtSlot f keys v mid new st) (sym is) stops));
  }
