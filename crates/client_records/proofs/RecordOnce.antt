-- Bytes say one thing at most.
use Rattle.std.proofs.Common.{◌≡◌, ℕ, List, [], ◌++◌, drop, refl, sym, ap, ◌∙◌, inl, inr}
use Rattle.client_registry.specs.Document.{Document}
use Rattle.client_registry.specs.Setup.{Setup}
use Rattle.client_records.specs.Records.{RecordText, SetsUp, Adds, Deletes, Rekeys, IsRecordOf, IsSetupText, Spells}
use Rattle.client_records.proofs.Once.{cut_once, document_once, documents_once, number16_once, number64_once}
use Rattle.client_records.proofs.Setups.{differ, old_setup_tail, old_setup_record-tail, setup_tail, setup_record-tail}

module _ (m n : List ℕ) (s t : Setup) (is_s : IsSetupText m s) (is_t : IsSetupText n t) where
  setup_once : setup_tail m s ≡ setup_tail n t → SetsUp m s ≡ SetsUp n t
  setup_once e =
      let marks = cut_once m n _ _ (is_s.mark_size ∙ sym is_t.mark_size) e in
      let bs = number16_once s.shape.b t.shape.b _ _ is_s.b_fits is_t.b_fits marks.1 in
      let bigs = number16_once s.shape.big t.shape.big _ _ is_s.big_fits is_t.big_fits bs.1 in
      let pads = number16_once s.pad t.pad _ _ is_s.pad_fits is_t.pad_fits bigs.1 in
      let docs = documents_once s.documents t.documents is_s.collected is_t.collected pads.1 in
      λ i. SetsUp (marks.0 i) (record { documents = docs i; shape = record { b = bs.0 i; big = bigs.0 i }; pad = pads.0 i })

  old_setup_once : s.pad ≡ 1 → t.pad ≡ 1 → old_setup_tail m s ≡ old_setup_tail n t → SetsUp m s ≡ SetsUp n t
  old_setup_once one_s one_t e =
      let marks = cut_once m n _ _ (is_s.mark_size ∙ sym is_t.mark_size) e in
      let bs = number16_once s.shape.b t.shape.b _ _ is_s.b_fits is_t.b_fits marks.1 in
      let bigs = number16_once s.shape.big t.shape.big _ _ is_s.big_fits is_t.big_fits bs.1 in
      let docs = documents_once s.documents t.documents is_s.collected is_t.collected bigs.1 in
      let pads : s.pad ≡ t.pad = one_s ∙ sym one_t in
      λ i. SetsUp (marks.0 i) (record { documents = docs i; shape = record { b = bs.0 i; big = bigs.0 i }; pad = pads i })

  setups_once : (payload : List ℕ) → Spells payload (SetsUp m s) → Spells payload (SetsUp n t) → SetsUp m s ≡ SetsUp n t
  setups_once payload (inl e) (inl f) = setup_once (ap (drop 1) (sym (e ∙ setup_record-tail m s) ∙ f ∙ setup_record-tail n t))
  setups_once payload (inl e) (inr f) = absurd (differ 0x14 0x11 _ _ (sym (e ∙ setup_record-tail m s) ∙ f.1 ∙ old_setup_record-tail n t) refl)
  setups_once payload (inr e) (inl f) = absurd (differ 0x11 0x14 _ _ (sym (e.1 ∙ old_setup_record-tail m s) ∙ f ∙ setup_record-tail n t) refl)
  setups_once payload (inr e) (inr f) = old_setup_once e.0 f.0 (ap (drop 1) (sym (e.1 ∙ old_setup_record-tail m s) ∙ f.1 ∙ old_setup_record-tail n t))

-- a setup is neither an addition nor a deletion
no_addition : (payload m : List ℕ) (s : Setup) (d : Document) → Spells payload (SetsUp m s) → Spells payload (Adds d) → ⊥
no_addition payload m s d (inl e) f = differ 0x14 0x12 _ _ (sym (e ∙ setup_record-tail m s) ∙ f) refl
no_addition payload m s d (inr e) f = differ 0x11 0x12 _ _ (sym (e.1 ∙ old_setup_record-tail m s) ∙ f) refl

no_deletion : (payload m : List ℕ) (s : Setup) (id : ℕ) → Spells payload (SetsUp m s) → Spells payload (Deletes id) → ⊥
no_deletion payload m s id (inl e) f = differ 0x14 0x13 _ _ (sym (e ∙ setup_record-tail m s) ∙ f) refl
no_deletion payload m s id (inr e) f = differ 0x11 0x13 _ _ (sym (e.1 ∙ old_setup_record-tail m s) ∙ f) refl

-- nor a renewal
no_renewal : (payload m own : List ℕ) (s : Setup) → Spells payload (SetsUp m s) → Spells payload (Rekeys own) → ⊥
no_renewal payload m own s (inl e) f = differ 0x14 0x15 _ _ (sym (e ∙ setup_record-tail m s) ∙ f) refl
no_renewal payload m own s (inr e) f = differ 0x11 0x15 _ _ (sym (e.1 ∙ old_setup_record-tail m s) ∙ f) refl

-- Promise P118, also here
-- the same bytes are records of the same
pub record_once : (payload : List ℕ) (a b : RecordText) → IsRecordOf payload a → IsRecordOf payload b → a ≡ b
record_once payload (SetsUp m s) (SetsUp n t) x y = setups_once m n s t x.limits y.limits payload x.spelled y.spelled
record_once payload (SetsUp m s) (Adds d) x y = absurd (no_addition payload m s d x.spelled y.spelled)
record_once payload (SetsUp m s) (Deletes id) x y = absurd (no_deletion payload m s id x.spelled y.spelled)
record_once payload (Adds d) (SetsUp n t) x y = absurd (no_addition payload n t d y.spelled x.spelled)
record_once payload (Adds d) (Adds e) x y = ap Adds (document_once d e [] [] x.limits y.limits (ap (λ (l : List ℕ). drop 1 l ++ []) (sym x.spelled ∙ y.spelled))).0
record_once payload (Adds d) (Deletes id) x y = absurd (differ 0x12 0x13 _ _ (sym x.spelled ∙ y.spelled) refl)
record_once payload (Deletes id) (SetsUp n t) x y = absurd (no_deletion payload n t id y.spelled x.spelled)
record_once payload (Deletes id) (Adds e) x y = absurd (differ 0x13 0x12 _ _ (sym x.spelled ∙ y.spelled) refl)
record_once payload (Deletes id) (Deletes j) x y = ap Deletes (number64_once id j [] [] x.limits.1 y.limits.1 (ap (drop 1) (sym x.spelled ∙ y.spelled))).0
record_once payload (SetsUp m s) (Rekeys own) x y = absurd (no_renewal payload m own s x.spelled y.spelled)
record_once payload (Rekeys own) (SetsUp n t) x y = absurd (no_renewal payload n own t y.spelled x.spelled)
record_once payload (Adds d) (Rekeys own) x y = absurd (differ 0x12 0x15 _ _ (sym x.spelled ∙ y.spelled) refl)
record_once payload (Rekeys own) (Adds d) x y = absurd (differ 0x15 0x12 _ _ (sym x.spelled ∙ y.spelled) refl)
record_once payload (Deletes id) (Rekeys own) x y = absurd (differ 0x13 0x15 _ _ (sym x.spelled ∙ y.spelled) refl)
record_once payload (Rekeys own) (Deletes id) x y = absurd (differ 0x15 0x13 _ _ (sym x.spelled ∙ y.spelled) refl)
record_once payload (Rekeys own) (Rekeys other) x y = ap Rekeys (ap (drop 1) (sym x.spelled ∙ y.spelled))
