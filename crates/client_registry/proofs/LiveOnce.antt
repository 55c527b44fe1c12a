-- Documents by rising identifier are one list, in whatever order they were told.
use Rattle.std.proofs.Common.{◌≡◌, ℕ, ◌<◌, ◌≤◌, Bool, true, false, cond, List, [], ◌∷◌, find, None, Some, nat_eq, nat_lt, unwrap_or, refl, sym, ap, ◌∙◌, arith, ltb-false, ltb-true, leb-false, leb-true}
use Rattle.std.specs.Prelude.{◌==◌, nat_le, if◌then◌else◌, option_map}
use Rattle.std.proofs.lemmas.Bool.{eqb-false, or_parts, ne_eqb}
use Rattle.client_registry.proofs.LiveLaws.{among}
use Rattle.client_registry.proofs.OrderLaws.{AreApart}
use Rattle.client_registry.specs.Document.{Document}
use Rattle.client_registry.specs.Epochs.{insert_by_id, by_id}
use Rattle.client_registry.specs.Facts.{words_with_id}
use Rattle.client_registry.proofs.Restarted.{ids_of, among-by_id, words_with_id-by_id}

-- all have greater identifiers than this
abbrev pub AllAbove : ℕ → List Document → Type 0
AllAbove id [] = Unit {0}
AllAbove id (d ∷ ds) = (id < d.id) × AllAbove id ds

-- each has a greater identifier than those before it
abbrev pub Rising : List Document → Type 0
Rising [] = Unit {0}
Rising (d ∷ ds) = AllAbove d.id ds × Rising ds

lower : (a b : ℕ) (ds : List Document) → a ≤ b → AllAbove b ds → AllAbove a ds
lower a b [] le above = tt
lower a b (d ∷ ds) le above = (omega (arith, le, above.0), lower a b ds le above.1)

insert_above : (m : ℕ) (d : Document) (es : List Document) → m < d.id → AllAbove m es → AllAbove m (insert_by_id d es)
insert_above m d [] lt above = (lt, tt)
insert_above m d (e ∷ es) lt above = by (nat_le d.id e.id) (insert_above m d es lt above.1)
  where
    by : (b : Bool) → AllAbove m (insert_by_id d es) → AllAbove m (if b then d ∷ e ∷ es else e ∷ insert_by_id d es)
    by true h = (lt, above)
    by false h = (above.0, h)

-- a number that is no greater, and differs, is less
less : (a b : ℕ) → a ≤ b → nat_eq b a ≡ false → a < b
less a b le other = by (nat_lt a b) refl
  where
    by : (t : Bool) → nat_lt a b ≡ t → a < b
    by true is = ltb-true a b is
    by false is = absurd (eqb-false b a other (omega (arith, le, ltb-false a b is)))

insert_rising : (d : Document) (es : List Document) → among d.id (ids_of es) ≡ false → Rising es → Rising (insert_by_id d es)
insert_rising d [] new rising = (tt, tt)
insert_rising d (e ∷ es) new rising =
    let parts = or_parts (e.id == d.id) (among d.id (ids_of es)) new in
    by (nat_le d.id e.id) refl parts.0 (insert_rising d es parts.1 rising.1)
  where
    by : (b : Bool) → nat_le d.id e.id ≡ b → nat_eq e.id d.id ≡ false → Rising (insert_by_id d es) → Rising (if b then d ∷ e ∷ es else e ∷ insert_by_id d es)
    by true is other h = let lt = less d.id e.id (leb-true d.id e.id is) other in ((lt, lower d.id e.id es (omega (arith, lt)) rising.0), rising)
    by false is other h = (insert_above e.id d es (omega (arith, leb-false d.id e.id is)) rising.0, h)

pub by_id-rising : (docs : List Document) → AreApart (ids_of docs) → Rising (by_id docs)
by_id-rising [] apart = tt
by_id-rising (d ∷ docs) apart = insert_rising d (by_id docs) (among-by_id d.id docs ∙ apart.0) (by_id-rising docs apart.1)

-- none above an identifier has it
none_above : (id m : ℕ) (ds : List Document) → id ≤ m → AllAbove m ds → words_with_id ds id ≡ None
none_above id m [] le above = refl
none_above id m (d ∷ ds) le above =
    ap (λ b. option_map (λ (x : Document). x.words) (cond b (Some d) (find (λ (x : Document). id == x.id) ds))) (ne_eqb id d.id (λ e. omega (arith, le, above.0, e)))
    ∙ none_above id m ds le above.1

here : (d : Document) (ds : List Document) → words_with_id (d ∷ ds) d.id ≡ Some d.words
here d ds = ap (λ b. option_map (λ (x : Document). x.words) (cond b (Some d) (find (λ (x : Document). d.id == x.id) ds))) (Rattle.std.proofs.lemmas.Cmp.nat_eq_equiv.refl d.id)

some_differs : {A : Type 0} (x : A) → Some x ≡ None → ⊥
some_differs x e = cc

-- of lists of the same documents neither begins below the other
not_below : (a : Document) (more : List Document) (b : Document) (bs : List Document) → AllAbove b.id bs → ((id : ℕ) → words_with_id (a ∷ more) id ≡ words_with_id (b ∷ bs) id) → a.id < b.id → ⊥
not_below a more b bs above alike lt = some_differs a.words (sym (here a more) ∙ alike a.id ∙ none_above a.id a.id (b ∷ bs) (omega arith) (lt, lower a.id b.id bs (omega (arith, lt)) above))

-- two rising lists of the same documents are one
pub rising_once : (ds es : List Document) → Rising ds → Rising es → ((id : ℕ) → words_with_id ds id ≡ words_with_id es id) → ds ≡ es
rising_once [] [] rd re same = refl
rising_once [] (e ∷ es) rd re same = absurd (some_differs e.words (sym (here e es) ∙ sym (same e.id)))
rising_once (d ∷ ds) [] rd re same = absurd (some_differs d.words (sym (here d ds) ∙ same d.id))
rising_once (d ∷ ds) (e ∷ es) rd re same = λ i. first i ∷ rising_once ds es rd.1 re.1 rest i
  where
    ids : d.id ≡ e.id
    ids = by (nat_lt d.id e.id) refl (nat_lt e.id d.id) refl
      where
        by : (s : Bool) → nat_lt d.id e.id ≡ s → (t : Bool) → nat_lt e.id d.id ≡ t → d.id ≡ e.id
        by true is t at = absurd (not_below d ds e es re.0 same (ltb-true d.id e.id is))
        by false is true at = absurd (not_below e es d ds rd.0 (λ id. sym (same id)) (ltb-true e.id d.id at))
        by false is false at = omega (arith, ltb-false d.id e.id is, ltb-false e.id d.id at)

    words : d.words ≡ e.words
    words = ap (λ o. unwrap_or o []) (sym (here d ds) ∙ same d.id ∙ ap (words_with_id (e ∷ es)) ids ∙ here e es)

    first : d ≡ e
    first = λ i. record { id = ids i; words = words i }

    rest : (id : ℕ) → words_with_id ds id ≡ words_with_id es id
    rest id = by (nat_le id d.id) refl
      where
        by : (b : Bool) → nat_le id d.id ≡ b → words_with_id ds id ≡ words_with_id es id
        by true is = none_above id d.id ds (leb-true id d.id is) rd.0 ∙ sym (none_above id e.id es (omega (arith, leb-true id d.id is, ids)) re.0)
        by false is =
            let gt = leb-false id d.id is in
            ap (λ b. option_map (λ (x : Document). x.words) (cond b (Some d) (find (λ (x : Document). id == x.id) ds))) (sym (ne_eqb id d.id (λ q. omega (arith, gt, q))))
            ∙ same id
            ∙ ap (λ b. option_map (λ (x : Document). x.words) (cond b (Some e) (find (λ (x : Document). id == x.id) es))) (ne_eqb id e.id (λ q. omega (arith, gt, q, ids)))

-- so documents of which the same are live are the same by rising identifier
pub by_id-same : (ds es : List Document) → AreApart (ids_of ds) → AreApart (ids_of es) → ((id : ℕ) → words_with_id ds id ≡ words_with_id es id) → by_id ds ≡ by_id es
by_id-same ds es apart_d apart_e same =
    rising_once (by_id ds) (by_id es) (by_id-rising ds apart_d) (by_id-rising es apart_e) (λ id. words_with_id-by_id ds id apart_d ∙ same id ∙ sym (words_with_id-by_id es id apart_e))
