-- The file of a disk in memory after one call more.
use Rattle.std.proofs.Common.{◌≡◌, ℕ, List, [], ◌∷◌, ◌++◌, sym, ◌∙◌, ap}
use Rattle.sse_outside.specs.Changes.{Change, behind, file_behind}
use Rattle.sse_outside.proofs.DiskLaws.{file_behind-push}
use Rattle.std.specs.Prelude.{Result, Ok, Err, OnOk, OnErr}

pub replayed_more : (first before after : List ℕ) (made now : List Change) (x : Change) → before ≡ file_behind first made → now ≡ made ++ x ∷ [] → after ≡ behind x before → after ≡ file_behind first now
replayed_more first before after made now x replayed grown is =
    is ∙ ap (behind x) replayed ∙ sym (file_behind-push first made x) ∙ ap (file_behind first) (sym grown)

-- after a call that is recorded or isn't, and that leaves the file as it reads
pub replayed_kept : {T E : Type 0} (r : Result T E) (first bytes : List ℕ) (made now : List Change) (x : Change) → bytes ≡ file_behind first made → ((file : List ℕ) → behind x file ≡ file) → OnOk r (now ≡ made ++ x ∷ []) → OnErr r (now ≡ made) → bytes ≡ file_behind first now
replayed_kept (Ok v) first bytes made now x replayed keeps grown none = replayed_more first bytes bytes made now x replayed grown (sym (keeps bytes))
replayed_kept (Err e) first bytes made now x replayed keeps none same = replayed ∙ ap (file_behind first) (sym same)
