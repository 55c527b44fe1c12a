-- Laws of the server's step.
use Rattle.std.proofs.Common.{◌≡◌, ℕ, ◌+◌, true, false, cond, eqb, List, [], ◌∷◌, ◌++◌, length, Option, Some, None, IsSome, refl, ap, ◌∙◌, arith}
use Rattle.std.specs.Prelude.{if◌then◌else◌}
use Rattle.std.specs.Option.{option_map_or, is_some}
use Rattle.std.specs.List.{All}
use Rattle.std.specs.Ordering.{eq_by_cmp, nat_cmp}
use Rattle.std.specs.Cmp.Lexicographic.{slice_cmp}
use Rattle.std.specs.FinMap as map
use Rattle.std.proofs.lemmas.Bool.{eqb-true, ne_eqb}
use Rattle.std.proofs.lemmas.Cmp.{nat_list_cmp_total, tied_itself}
use Rattle.std.proofs.lemmas.List.Elements.{All-head, All-tail}
use Rattle.keyed_fn.specs.KeyedFn.{KeyedFn}
use Rattle.sse_frames.specs.Frames.{Entry, FrameText, Hello, SetupBegin, SetupDict, SetupArray, SetupEnd, AddFrame, DeleteFrame, SearchFrame, update_number, Rises, labels_of}
use Rattle.sse_frames.specs.Replies.{ReplyText, Number}
use Rattle.server_tables.specs.Contents.{CellMap}
use Rattle.server_core.specs.State.{ServerState}
use Rattle.server_core.specs.Refusal.{first_known, refusal}
use Rattle.server_core.specs.Step.{with_entries, taken, step, steps}
use Rattle.server_core.proofs.EntryLemmas.{none_known_behind}

-- steps join: several frames, and then more
pub steps-append : (f : KeyedFn) (s : ServerState) (xs ys : List FrameText) → steps f s (xs ++ ys) ≡ ((steps f (steps f s xs).0 ys).0, (steps f s xs).1 ++ (steps f (steps f s xs).0 ys).1)
steps-append f s [] ys = refl
steps-append f s (x ∷ xs) ys = ap (λ r. (r.0, (step f s x).1 ∷ r.1)) (steps-append f (step f s x).0 xs ys)

-- a number that was the next one isn't the one after it
passed : (q next : ℕ) (x y : Option ReplyText) → (if eqb q next then x else Some (Number next)) ≡ None → (if eqb q (next + 1) then y else Some (Number (next + 1))) ≡ Some (Number (next + 1))
passed q next x y none =
    elim (eqb q next) as (λ b. eqb q next ≡ b → (if b then x else Some (Number next)) ≡ None → (if eqb q (next + 1) then y else Some (Number (next + 1))) ≡ Some (Number (next + 1))) [
      | true ↦ λ is _. let same = eqb-true q next is in rw (ne_eqb q (next + 1) (λ e. omega (arith, same, e))) refl
      | false ↦ λ is h. cc
    ] refl none

-- an update frame that was taken isn't taken again: the server expects the next number
pub refusal-again : (s : ServerState) (frame : FrameText) → IsSome (update_number frame) → refusal s frame ≡ None → refusal (taken s frame) frame ≡ Some (Number (s.next + 1))
refusal-again s Hello update none = cc
refusal-again s (SetupBegin q b big m a) update none = passed q s.next _ _ none
refusal-again s (SetupDict q width entries) update none = passed q s.next _ _ none
refusal-again s (SetupArray q width blocks) update none = passed q s.next _ _ none
refusal-again s (SetupEnd q) update none = passed q s.next _ _ none
refusal-again s (AddFrame q entries numbers) update none = passed q s.next _ _ none
refusal-again s (DeleteFrame q numbers) update none = passed q s.next _ _ none
refusal-again s (SearchFrame token) update none = cc

pub step-again : (f : KeyedFn) (s : ServerState) (frame : FrameText) → IsSome (update_number frame) → refusal s frame ≡ None → step f (step f s frame).0 frame ≡ (taken s frame, Number (s.next + 1) ∷ [])
step-again f s frame update none = rw none (rw (refusal-again s frame update none) refl)

-- entries join
pub with_entries-append : (m : CellMap) (xs ys : List Entry) → with_entries m (xs ++ ys) ≡ with_entries (with_entries m xs) ys
with_entries-append m [] ys = refl
with_entries-append m (x ∷ xs) ys = with_entries-append (map.insert m x.label x.text) xs ys

-- a label that no entry has keeps its cell
pub get-with_entries_other : (m : CellMap) (es : List Entry) (q : List ℕ) → All (λ e. eq_by_cmp (slice_cmp nat_cmp) q e.label ≡ false) es → map.get (with_entries m es) q ≡ map.get m q
get-with_entries_other m [] q others = refl
get-with_entries_other m (e ∷ es) q others =
    let P : Entry → Type 0 = λ x. eq_by_cmp (slice_cmp nat_cmp) q x.label ≡ false in
    get-with_entries_other (map.insert m e.label e.text) es q (All-tail P e es others)
    ∙ map.get-insert nat_list_cmp_total m e.label e.text q
    ∙ ap (λ b. cond b (Some e.text) (map.get m q)) (All-head P e es others)

-- an entry's label has its cell, where no later entry has the label
pub get-with_entries_at : (m : CellMap) (xs : List Entry) (e : Entry) (ys : List Entry) → All (λ x. eq_by_cmp (slice_cmp nat_cmp) e.label x.label ≡ false) ys → map.get (with_entries m (xs ++ e ∷ ys)) e.label ≡ Some e.text
get-with_entries_at m xs e ys others =
    ap (λ n. map.get n e.label) (with_entries-append m xs (e ∷ ys))
    ∙ get-with_entries_other (map.insert (with_entries m xs) e.label e.text) ys e.label others
    ∙ map.get-insert nat_list_cmp_total (with_entries m xs) e.label e.text e.label
    ∙ ap (λ r. cond (Rattle.std.specs.Ordering.is_eq r) (Some e.text) (map.get (with_entries m xs) e.label)) (tied_itself nat_list_cmp_total e.label)

-- entries whose labels rise and aren't there are as many more
pub len-with_entries : (m : CellMap) (es : List Entry) → first_known m es ≡ None → Rises (labels_of es) → map.len (with_entries m es) ≡ map.len m + length es
len-with_entries m [] unknown rises = omega arith
len-with_entries m (e ∷ es) unknown rises =
    let behind = none_known_behind m e es unknown rises in
    let one : map.len (map.insert m e.label e.text) ≡ map.len m + 1 = map.len-insert nat_list_cmp_total m e.label e.text ∙ ap (λ o. cond (is_some o) (map.len m) (map.len m + 1)) behind.0 in
    len-with_entries (map.insert m e.label e.text) es behind.1 behind.2 ∙ omega (arith, one)
