-- The identifiers that are live after an update: each stands once, and no other is live.
use Rattle.std.proofs.Common.{◌≡◌, ℕ, Bool, true, false, cond, ◌||◌, ◌&&◌, List, [], ◌∷◌, ◌++◌, filter, Option, None, Some, is_some, refl, sym, ap, ◌∙◌, append_assoc, append-nil}
use Rattle.std.specs.Prelude.{◌==◌, if◌then◌else◌}
use Rattle.std.proofs.lemmas.Bool.{true≢false}
use Rattle.std.proofs.lemmas.Cmp.{nat_eq_equiv}
use Rattle.std.proofs.lemmas.List.Elements.{filter-append}
use Rattle.client_registry.proofs.LiveListed.{rising, words_live}
use Rattle.client_registry.proofs.LiveLaws.{among}
use Rattle.client_registry.proofs.LiveOnce.{rising_once}
use Rattle.client_registry.proofs.OrderLaws.{AreApart, AreApart-filter, among-filter, among-in_order, IsRising-in_order}
use Rattle.client_registry.specs.Command.{Command, Add, Delete, Search}
use Rattle.client_registry.specs.Document.{Document}
use Rattle.client_registry.specs.Facts.{Facts}
use Rattle.client_registry.specs.Live.{in_order}
use Rattle.client_registry.specs.Registered.{Registered, facts}
use Rattle.client_live_docs.proofs.KeptIds.{dead_outside, kept_ids}
use Rattle.client_live_docs.specs.AreLive.{AreLive}
use Rattle.client_live_docs.specs.LiveAfter.{added_by, added_id, documents_after, ids_among, live_after, live_ids, other_live}

same_there : (x y : Document) → Some x ≡ Some y → x ≡ y
same_there x y e = cc

-- what was live before and isn't touched is live
pub live_other : (f : Facts) (c : Option Command) (id : ℕ) → is_some (other_live f c id) ≡ true → live_after f c id ≡ other_live f c id
live_other f None id some = refl
live_other f (Some (Search word)) id some = refl
live_other f (Some (Add d)) id some = by (id == d.id) some
  where
    by : (b : Bool) → is_some (if b then None else f.live id) ≡ true → (if b then Some d.words else f.live id) ≡ (if b then None else f.live id)
    by true e = absurd (true≢false (sym e))
    by false e = refl
live_other f (Some (Delete other)) id some = refl

-- and so is what the update adds
pub live_added : (f : Facts) (c : Option Command) (d : Document) → added_by c ≡ Some d → live_after f c d.id ≡ Some d.words
live_added f None d adds = absurd (cc)
live_added f (Some (Add e)) d adds =
    let same : e ≡ d = same_there e d adds in
    ap (λ (x : Document). if d.id == x.id then Some x.words else f.live d.id) same
    ∙ ap (λ b. if b then Some d.words else f.live d.id) (nat_eq_equiv.refl d.id)
live_added f (Some (Delete id)) d adds = absurd (cc)
live_added f (Some (Search word)) d adds = absurd (cc)

-- one more entry
ids_among-push : (f : Facts) (c : Option Command) (ids : List ℕ) (id : ℕ) → ids_among f c (ids ++ id ∷ []) ≡ ids_among f c ids ++ cond (is_some (other_live f c id)) (id ∷ []) []
ids_among-push f c ids id =
    ap (λ rest. added_id (added_by c) ++ rest) (filter-append (λ q. is_some (other_live f c q)) ids (id ∷ []))
    ∙ sym (append_assoc (added_id (added_by c)) (filter (λ q. is_some (other_live f c q)) ids) (filter (λ q. is_some (other_live f c q)) (id ∷ [])))

pub ids_among-some : (f : Facts) (c : Option Command) (ids : List ℕ) (id : ℕ) → is_some (other_live f c id) ≡ true → ids_among f c (ids ++ id ∷ []) ≡ ids_among f c ids ++ id ∷ []
ids_among-some f c ids id some = ids_among-push f c ids id ∙ ap (λ b. ids_among f c ids ++ cond b (id ∷ []) []) some

pub ids_among-none : (f : Facts) (c : Option Command) (ids : List ℕ) (id : ℕ) → is_some (other_live f c id) ≡ false → ids_among f c (ids ++ id ∷ []) ≡ ids_among f c ids
ids_among-none f c ids id none = ids_among-push f c ids id ∙ ap (λ b. ids_among f c ids ++ cond b (id ∷ []) []) none ∙ append-nil (ids_among f c ids)

module _ (r : Registered) (apart : AreApart (kept_ids r)) where
  -- each stands once
  live_ids-apart : (c : Option Command) → AreApart (live_ids r c)
  live_ids-apart None = AreApart-filter (λ id. is_some ((facts r).live id)) (kept_ids r) apart
  live_ids-apart (Some (Search word)) = AreApart-filter (λ id. is_some ((facts r).live id)) (kept_ids r) apart
  live_ids-apart (Some (Delete other)) = AreApart-filter (λ id. is_some (other_live (facts r) (Some (Delete other)) id)) (kept_ids r) apart
  live_ids-apart (Some (Add d)) = (
    among-filter (λ id. is_some (other_live (facts r) (Some (Add d)) id)) d.id (kept_ids r)
        ∙ ap (λ b. is_some (if b then None else (facts r).live d.id) && among d.id (kept_ids r)) (nat_eq_equiv.refl d.id),
    AreApart-filter (λ id. is_some (other_live (facts r) (Some (Add d)) id)) (kept_ids r) apart,
  )

  -- one that is live has an entry
  entered : (id : ℕ) → (is_some ((facts r).live id) && among id (kept_ids r)) ≡ is_some ((facts r).live id)
  entered id = by (among id (kept_ids r)) refl
    where
      both : (x : Bool) → (x && true) ≡ x
      both true = refl
      both false = refl

      by : (b : Bool) → among id (kept_ids r) ≡ b → (is_some ((facts r).live id) && among id (kept_ids r)) ≡ is_some ((facts r).live id)
      by true is = ap (λ b. is_some ((facts r).live id) && b) is ∙ both (is_some ((facts r).live id))
      by false is = ap (λ o. is_some o && among id (kept_ids r)) (dead_outside r id is) ∙ ap is_some (sym (dead_outside r id is))

  -- those are live
  live_ids-are : (c : Option Command) (id : ℕ) → among id (live_ids r c) ≡ is_some (live_after (facts r) c id)
  live_ids-are None id = among-filter (λ q. is_some ((facts r).live q)) id (kept_ids r) ∙ entered id
  live_ids-are (Some (Search word)) id = among-filter (λ q. is_some ((facts r).live q)) id (kept_ids r) ∙ entered id
  live_ids-are (Some (Delete other)) id =
      among-filter (λ q. is_some (other_live (facts r) (Some (Delete other)) q)) id (kept_ids r) ∙ by (id == other)
    where
      by : (b : Bool) → (is_some (if b then None else (facts r).live id) && among id (kept_ids r)) ≡ is_some (if b then None else (facts r).live id)
      by true = refl
      by false = entered id
  live_ids-are (Some (Add d)) id =
      (λ i. nat_eq_equiv.symm d.id id i || among-filter (λ q. is_some (other_live (facts r) (Some (Add d)) q)) id (kept_ids r) i)
      ∙ by (id == d.id)
    where
      by : (b : Bool) → (b || (is_some (if b then None else (facts r).live id) && among id (kept_ids r))) ≡ is_some (if b then Some d.words else (facts r).live id)
      by true = refl
      by false = entered id

  -- so the documents by rising identifier are the live ones
  pub documents_after-are_live : (c : Option Command) → AreLive (live_after (facts r) c) (documents_after r c)
  documents_after-are_live c =
      let known = live_after (facts r) c in
      let ids = in_order (live_ids r c) in
      let are : (id : ℕ) → among id ids ≡ is_some (known id) = λ id. among-in_order id (live_ids r c) ∙ live_ids-are c id in
      record {
        rising = rising known ids (IsRising-in_order (live_ids r c) (live_ids-apart c));
        same = λ id. words_live known ids id (λ q there. sym (are q) ∙ there) ∙ ap (λ b. cond b (known id) None) (are id) ∙ kept (known id);
      }
    where
      kept : (o : Option (List (List ℕ))) → cond (is_some o) o None ≡ o
      kept None = refl
      kept (Some words) = refl

  -- and no other documents are
  pub documents_after-once : (c : Option Command) (docs : List Document) → AreLive (live_after (facts r) c) docs → docs ≡ documents_after r c
  documents_after-once c docs are =
      let here = documents_after-are_live c in
      rising_once docs (documents_after r c) are.rising here.rising (λ id. are.same id ∙ sym (here.same id))

  -- an identifier in order is live
  pub live_in_order : (c : Option Command) (id : ℕ) → among id (in_order (live_ids r c)) ≡ true → is_some (live_after (facts r) c id) ≡ true
  live_in_order c id there = sym (live_ids-are c id) ∙ sym (among-in_order id (live_ids r c)) ∙ there
