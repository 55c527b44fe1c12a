-- Where memory is taken for a record, and where none is.
use Rattle.std.proofs.Common.{◌≡◌, ℕ, ◌+◌, ◌^◌, ◌<◌, ◌≤◌, Bool, true, false, List, ◌∷◌, ◌++◌, length, drop, Option, None, Some, Err, refl, sym, ap, subst, ◌∙◌, inl, inr}
use Rattle.std.specs.Prelude.{Result, IfSome, if◌then◌else◌}
use Rattle.std.specs.Int.{w16, w64, to_be_bytes}
use Rattle.std.specs.List.{flat_map}
use Rattle.std.proofs.Math.Seq.{drop-append-add}
use Rattle.client_registry.specs.Document.{Document}
use Rattle.client_registry.specs.DocumentRule.{IsDocument}
use Rattle.client_registry.specs.Documents.{docs_refusal}
use Rattle.client_registry.specs.declared.faults.DocsFault.{DocsFault}
use Rattle.client_registry.specs.declared.faults.DocsFault.TheVariants as docs
use Rattle.client_records.specs.Faults.{docs_fault}
use Rattle.client_records.specs.Records.{document_field, word_field}
use Rattle.client_records.specs.TakenMemory.{BeginsCounted, BeginsDocument, TakesMemory}
use Rattle.client_records.specs.declared.fault.ReadFault.TheVariants.{NoMemory}

-- an identifier was read, and how many words there are
pub begins_document : (bytes rest more : List ℕ) (id count : ℕ) → 1 ≤ id → id < 2 ^ 64 → bytes ≡ to_be_bytes w64 id ++ rest → rest ≡ to_be_bytes w16 count ++ more → BeginsDocument bytes
begins_document bytes rest more id count least fits first second = record {
  id = id;
  count = count;
  rest = more;
  least = least;
  fits = fits;
  are = first ∙ ap (λ (l : List ℕ). to_be_bytes w64 id ++ l) second;
}

-- a document was read
pub begins_with : (bytes more : List ℕ) (d : Document) → IsDocument d → bytes ≡ document_field d ++ more → BeginsDocument bytes
begins_with bytes more d is read = record {
  id = d.id;
  count = length d.words;
  rest = flat_map word_field d.words ++ more;
  least = is.some;
  fits = is.fits;
  are = read;
}

-- the documents of a setup begin behind its 22 bytes
pub setup_takes : (bytes mark rest : List ℕ) (b big pad : ℕ) → length mark ≡ 16 → bytes ≡ mark ++ (to_be_bytes w16 b ++ (to_be_bytes w16 big ++ (to_be_bytes w16 pad ++ rest))) → BeginsCounted rest → TakesMemory (0x14 ∷ bytes)
setup_takes bytes mark rest b big pad size read begins =
    let tail = to_be_bytes w16 b ++ (to_be_bytes w16 big ++ (to_be_bytes w16 pad ++ rest)) in
    let behind : drop 22 bytes ≡ rest = ap (drop 22) read ∙ ap (λ (n : ℕ). drop (n + 6) (mark ++ tail)) (sym size) ∙ drop-append-add mark tail 6 in
    (bytes, inr (inl (refl, subst BeginsCounted (sym behind) begins)))

-- and behind the 20 of an older one
pub old_setup_takes : (bytes mark rest : List ℕ) (b big : ℕ) → length mark ≡ 16 → bytes ≡ mark ++ (to_be_bytes w16 b ++ (to_be_bytes w16 big ++ rest)) → BeginsCounted rest → TakesMemory (0x11 ∷ bytes)
old_setup_takes bytes mark rest b big size read begins =
    let tail = to_be_bytes w16 b ++ (to_be_bytes w16 big ++ rest) in
    let behind : drop 20 bytes ≡ rest = ap (drop 20) read ∙ ap (λ (n : ℕ). drop (n + 4) (mark ++ tail)) (sym size) ∙ drop-append-add mark tail 4 in
    (bytes, inr (inr (refl, subst BeginsCounted (sym behind) begins)))

-- documents are refused for no want of memory
none_or : (a b c : Bool) (x y z : ℕ) → (if a then Some (docs.AlreadyLive x) else if b then Some (docs.TooManyDocuments y) else if c then Some (docs.TooManyPairs z) else None) ≡ Some docs.NoMemory → ⊥
none_or true b c x y z e = cc
none_or false true c x y z e = cc
none_or false false true x y z e = cc
none_or false false false x y z e = cc

-- so memory runs out only for one that isn't refused
pub not_refused : {A : Type 0} (before : List Document) (d : Document) (r : Result A DocsFault) (fault : DocsFault) → IfSome (docs_refusal before d) (λ f. r ≡ Err f) → r ≡ Err fault → docs_fault fault ≡ NoMemory → docs_refusal before d ≡ None
not_refused {A} before d r fault refused is memory = by (docs_refusal before d) refused (none_or _ _ _ _ _ _)
  where
    same : (f : DocsFault) → r ≡ Err f → docs_fault f ≡ NoMemory
    same f e = let one : fault ≡ f = cc in ap docs_fault (sym one) ∙ memory

    by : (o : Option DocsFault) → IfSome o (λ f. r ≡ Err f) → (o ≡ Some docs.NoMemory → ⊥) → o ≡ None
    by None e never = refl
    by (Some docs.NoMemory) e never = absurd (never refl)
    by (Some (docs.AlreadyLive id)) e never = absurd (let bad = same (docs.AlreadyLive id) e in cc)
    by (Some (docs.TooManyDocuments n)) e never = absurd (let bad = same (docs.TooManyDocuments n) e in cc)
    by (Some (docs.TooManyPairs n)) e never = absurd (let bad = same (docs.TooManyPairs n) e in cc)
