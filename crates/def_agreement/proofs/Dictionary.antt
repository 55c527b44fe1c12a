-- What adding entries with new labels makes of a map: each label has its text, the others keep theirs.
use Rattle.std.proofs.Common.{◌≡◌, ◌≢◌, ℕ, ◌+◌, Bool, true, false, cond, List, [], ◌∷◌, ◌++◌, length, Option, Some, None, refl, sym, ap, ◌∙◌, subst, arith, ⊎_elim}
use Rattle.std.specs.Prelude.{Contains}
use Rattle.std.specs.List.{AllByRecursion, position_from}
use Rattle.std.specs.List.Sorted.{IsStrictlySortedBy}
use Rattle.std.specs.Option.{is_some}
use Rattle.std.specs.Ordering.{eq_by_cmp, nat_cmp}
use Rattle.std.specs.declared.cmp.Ordering.TheVariants.{Less, Equal}
use Rattle.std.specs.Cmp.Lexicographic.{slice_cmp}
use Rattle.std.specs.FinMap as finmap
use Rattle.std.proofs.lemmas.Bool.{false_from_ne_true, cond_both}
use Rattle.std.proofs.lemmas.Cmp.{nat_list_cmp_total, tied_itself}
use Rattle.std.proofs.lemmas.Map.Text.{is_eq-slice_cmp}
use Rattle.std.proofs.lemmas.Slice.Eq.{bytes_eq-Decides}
use Rattle.sse_frames.proofs.Sorted.{AllDiffer, All-by_bytes, Rises-by_bytes, key_below}
use Rattle.sse_frames.specs.Frames.{Entry, Rises, labels_of}
use Rattle.sse_frames.specs.Order.{insert_by, by_bytes}
use Rattle.server_tables.specs.Contents.{CellMap}
use Rattle.server_core.specs.Refusal.{first_known}
use Rattle.server_core.specs.Step.{with_entries}
use Rattle.sse_model.proofs.Members.{Contains-head, Contains-cons, Contains-nil, Contains-cases}

-- Looking up after one entry.

apart : (q k : List ℕ) → q ≢ k → eq_by_cmp (slice_cmp nat_cmp) q k ≡ false
apart q k differ = is_eq-slice_cmp q k ∙ false_from_ne_true _ (λ h. differ ((bytes_eq-Decides q k).0 h))

get_same : (m : CellMap) (k text : List ℕ) → finmap.get (finmap.insert m k text) k ≡ Some text
get_same m k text =
    finmap.get-insert nat_list_cmp_total m k text k
    ∙ ap (λ r. cond (Rattle.std.specs.Ordering.is_eq r) (Some text) (finmap.get m k)) (tied_itself nat_list_cmp_total k)

get_other : (m : CellMap) (k text q : List ℕ) → q ≢ k → finmap.get (finmap.insert m k text) q ≡ finmap.get m q
get_other m k text q differ =
    finmap.get-insert nat_list_cmp_total m k text q ∙ ap (λ b. cond b (Some text) (finmap.get m q)) (apart q k differ)

missing_before : (b : Bool) (text : List ℕ) (o : Option (List ℕ)) → cond b (Some text) o ≡ None → o ≡ None
missing_before true text o h = absurd (cc)
missing_before false text o h = h

-- New entries.

-- each label is missing in the map and differs from those before it
abbrev pub AreNew : CellMap → List Entry → Type 0
AreNew m [] = Unit {0}
AreNew m (e ∷ es) = (finmap.get m e.label ≡ None) × AreNew (finmap.insert m e.label e.text) es

-- labels that differ and are missing are new
pub AreNew-missing : (m : CellMap) (es : List Entry) → AllByRecursion (λ e. finmap.get m e.label ≡ None) es → AllDiffer (labels_of es) → AreNew m es
AreNew-missing m [] missing differ = tt
AreNew-missing m (e ∷ es) missing differ = (missing.0, AreNew-missing (finmap.insert m e.label e.text) es (still es missing.1 differ.0) differ.1)
  where
    still : (ys : List Entry) → AllByRecursion (λ y. finmap.get m y.label ≡ None) ys → AllByRecursion (λ k. e.label ≢ k) (labels_of ys)
        → AllByRecursion (λ y. finmap.get (finmap.insert m e.label e.text) y.label ≡ None) ys
    still [] missing differ = tt
    still (y ∷ ys) missing differ = (get_other m e.label e.text y.label (λ same. differ.0 (sym same)) ∙ missing.0, still ys missing.1 differ.1)

all_missing : (es : List Entry) → AllByRecursion (λ e. finmap.get (finmap.empty {X = List ℕ} {R = slice_cmp nat_cmp}) e.label ≡ None) es
all_missing [] = tt
all_missing (e ∷ es) = (finmap.get-empty (slice_cmp nat_cmp) e.label, all_missing es)

-- labels that differ are new to the empty map
pub AreNew-empty : (es : List Entry) → AllDiffer (labels_of es) → AreNew finmap.empty es
AreNew-empty es differ = AreNew-missing finmap.empty es (all_missing es) differ

-- of two lists that are new together, the first is new, and then the second
pub AreNew-parts : (m : CellMap) (xs ys : List Entry) → AreNew m (xs ++ ys) → AreNew m xs × AreNew (with_entries m xs) ys
AreNew-parts m [] ys new = (tt, new)
AreNew-parts m (x ∷ xs) ys new = let rest = AreNew-parts (finmap.insert m x.label x.text) xs ys new.1 in ((new.0, rest.0), rest.1)

-- The first known label among new entries.

abbrev IsWithin : CellMap → CellMap → Type 0
IsWithin m n = (q : List ℕ) → finmap.get n q ≡ None → finmap.get m q ≡ None

none_known : (m n : CellMap) (es : List Entry) (i : ℕ) → IsWithin m n → AreNew n es → position_from (λ e. finmap.contains_key m e.label) i es ≡ None
none_known m n [] i within new = refl
none_known m n (e ∷ es) i within new =
    let unknown : finmap.contains_key m e.label ≡ false = ap is_some (within e.label new.0) in
    ap (λ b. cond b (Some i) (position_from (λ x. finmap.contains_key m x.label) (i + 1) es)) unknown
    ∙ none_known m (finmap.insert n e.label e.text) es (i + 1)
    (λ q h. within q (missing_before _ e.text (finmap.get n q) (sym (finmap.get-insert nat_list_cmp_total n e.label e.text q) ∙ h))) new.1

-- no label of new entries is known
pub first_known-new : (m : CellMap) (es : List Entry) → AreNew m es → first_known m es ≡ None
first_known-new m es new = none_known m m es 0 (λ q h. h) new

-- there are as many more entries
pub len-new : (m : CellMap) (es : List Entry) → AreNew m es → finmap.len (with_entries m es) ≡ finmap.len m + length es
len-new m [] new = omega arith
len-new m (e ∷ es) new =
    let one : finmap.len (finmap.insert m e.label e.text) ≡ finmap.len m + 1 =
    finmap.len-insert nat_list_cmp_total m e.label e.text ∙ ap (λ o. cond (is_some o) (finmap.len m) (finmap.len m + 1)) new.0 in
    len-new (finmap.insert m e.label e.text) es new.1 ∙ omega (arith, one)

-- a label that was there keeps its text
pub get-new_kept : (m : CellMap) (es : List Entry) (q text : List ℕ) → AreNew m es → finmap.get m q ≡ Some text → finmap.get (with_entries m es) q ≡ Some text
get-new_kept m [] q text new there = there
get-new_kept m (e ∷ es) q text new there =
    let differ : q ≢ e.label = λ same. absurd (let both : None ≡ Some text = sym new.0 ∙ ap (finmap.get m) (sym same) ∙ there in cc) in
    get-new_kept (finmap.insert m e.label e.text) es q text new.1 (get_other m e.label e.text q differ ∙ there)

-- a label that no entry has is looked up as before
pub get-with_entries_others : (m : CellMap) (es : List Entry) (q : List ℕ) → AllByRecursion (λ e. q ≢ e.label) es → finmap.get (with_entries m es) q ≡ finmap.get m q
get-with_entries_others m [] q others = refl
get-with_entries_others m (e ∷ es) q others = get-with_entries_others (finmap.insert m e.label e.text) es q others.1 ∙ get_other m e.label e.text q others.0

-- the label of a new entry has the entry's text
pub get-new : (m : CellMap) (es : List Entry) (e : Entry) → AreNew m es → Contains es e → finmap.get (with_entries m es) e.label ≡ Some e.text
get-new m [] e new within = absurd (Contains-nil e within)
get-new m (x ∷ xs) e new within =
    ⊎_elim
    (λ (same : x ≡ e).
    subst (λ (y : Entry). finmap.get (with_entries m (x ∷ xs)) y.label ≡ Some y.text) same
    (get-new_kept (finmap.insert m x.label x.text) xs x.label x.text new.1 (get_same m x.label x.text)))
    (λ rest. get-new (finmap.insert m x.label x.text) xs e new.1 rest) (Contains-cases x xs e within)

-- Sorted entries.

Contains-insert_by : {X : Type 0} (key : X → List ℕ) (x : X) (xs : List X) (y : X) → Contains (x ∷ xs) y → Contains (insert_by key x xs) y
Contains-insert_by key x [] y within = within
Contains-insert_by key x (z ∷ zs) y within =
    cond_both (key_below key z x) (z ∷ insert_by key x zs) (x ∷ z ∷ zs) (λ ys. Contains ys y)
    (λ e.
    ⊎_elim (λ (same : x ≡ y). Contains-cons z (insert_by key x zs) y (Contains-insert_by key x zs y (subst (Contains (x ∷ zs)) same (Contains-head x zs))))
    (λ later.
    ⊎_elim (λ (same : z ≡ y). subst (Contains (z ∷ insert_by key x zs)) same (Contains-head z (insert_by key x zs)))
    (λ rest. Contains-cons z (insert_by key x zs) y (Contains-insert_by key x zs y (Contains-cons x zs y rest))) (Contains-cases z zs y later))
    (Contains-cases x (z ∷ zs) y within))
    (λ e. within)

-- sorting keeps the members
pub Contains-by_bytes : {X : Type 0} (key : X → List ℕ) (xs : List X) (y : X) → Contains xs y → Contains (by_bytes key xs) y
Contains-by_bytes key [] y within = within
Contains-by_bytes key (x ∷ xs) y within =
    Contains-insert_by key x (by_bytes key xs) y
    (⊎_elim (λ (same : x ≡ y). subst (Contains (x ∷ by_bytes key xs)) same (Contains-head x (by_bytes key xs)))
    (λ rest. Contains-cons x (by_bytes key xs) y (Contains-by_bytes key xs y rest)) (Contains-cases x xs y within))

above_differ : (x : List ℕ) (ys : List (List ℕ)) → AllByRecursion (λ y. slice_cmp nat_cmp x y ≡ Less) ys → AllByRecursion (λ y. x ≢ y) ys
above_differ x [] above = tt
above_differ x (y ∷ ys) above = (
  λ same. absurd (let both : Equal ≡ Less = sym (tied_itself nat_list_cmp_total x) ∙ ap (slice_cmp nat_cmp x) same ∙ above.0 in cc),
  above_differ x ys above.1,
)

-- what rises strictly differs
pub AllDiffer-rising : (xs : List (List ℕ)) → Rises xs → AllDiffer xs
unfolding IsStrictlySortedBy
AllDiffer-rising [] rises = tt
AllDiffer-rising (x ∷ xs) rises = (above_differ x xs rises.0, AllDiffer-rising xs rises.1)

-- entries with different labels are new to the empty map in the order of their labels too
pub AreNew-by_bytes : (es : List Entry) → AllDiffer (labels_of es) → AreNew finmap.empty (by_bytes (λ entry. entry.label) es)
AreNew-by_bytes es differ =
    let sorted = by_bytes (λ (entry : Entry). entry.label) es in
    AreNew-empty sorted (AllDiffer-rising (labels_of sorted) (Rises-by_bytes (λ (entry : Entry). entry.label) es differ))

-- in the map of entries with different labels, each label has its entry's text
pub get-by_bytes : (es : List Entry) (e : Entry) → AllDiffer (labels_of es) → Contains es e
    → finmap.get (with_entries finmap.empty (by_bytes (λ entry. entry.label) es)) e.label ≡ Some e.text
get-by_bytes es e differ within =
    let sorted = by_bytes (λ (entry : Entry). entry.label) es in
    get-new finmap.empty sorted e (AreNew-by_bytes es differ) (Contains-by_bytes (λ (entry : Entry). entry.label) es e within)

-- and another label is missing
pub get-by_bytes_missing : (es : List Entry) (q : List ℕ) → AllByRecursion (λ e. q ≢ e.label) es
    → finmap.get (with_entries finmap.empty (by_bytes (λ entry. entry.label) es)) q ≡ None
get-by_bytes_missing es q others =
    get-with_entries_others finmap.empty (by_bytes (λ (entry : Entry). entry.label) es) q
    (All-by_bytes (λ (entry : Entry). entry.label) (λ (e : Entry). q ≢ e.label) es others)
    ∙ finmap.get-empty (slice_cmp nat_cmp) q
