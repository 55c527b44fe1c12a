-- What the bytes of the record of a setup say, and why bytes say nothing.
use Rattle.std.proofs.Common.{◌≡◌, ℕ, ◌^◌, ◌<◌, false, nat_eq, List, ◌∷◌, ◌++◌, length, get_or, drop, refl, sym, ap, ◌∙◌, append_assoc, inl, inr, arith}
use Rattle.std.specs.Int.{w16, to_be_bytes}
use Rattle.std.proofs.lemmas.Bool.{eqb-false}
use Rattle.std.proofs.lemmas.List.{length-append}
use Rattle.client_registry.specs.Document.{Document}
use Rattle.client_registry.specs.DocumentRule.{IsDocument}
use Rattle.client_registry.specs.Documents.{IsCollected}
use Rattle.client_registry.specs.Setup.{Setup, setup_of, setup_with}
use Rattle.client_records.specs.Records.{SetsUp, Adds, Deletes, Rekeys, document_field, documents_field, setup_record, old_setup_record, IsNoRecord, IsRecordOf, IsSetupText}
use Rattle.client_records.specs.ReaderFaults.{IsNotWhole}
use Rattle.client_records.proofs.Once.{cut_once}

-- the first bytes tell kinds apart
pub differ : (k n : ℕ) (xs ys : List ℕ) → k ∷ xs ≡ n ∷ ys → nat_eq k n ≡ false → ⊥
differ k n xs ys e other = eqb-false k n other (ap (λ (l : List ℕ). get_or l 0 0) e)

nest : (a b c d e : List ℕ) → a ++ b ++ c ++ d ++ e ≡ a ++ (b ++ (c ++ (d ++ e)))
nest a b c d e = simp append_assoc

nest_old : (a b c d : List ℕ) → a ++ b ++ c ++ d ≡ a ++ (b ++ (c ++ d))
nest_old a b c d = simp append_assoc

-- what stands behind the first byte
abbrev pub setup_tail : List ℕ → Setup → List ℕ
setup_tail mark s = mark ++ (to_be_bytes w16 s.shape.b ++ (to_be_bytes w16 s.shape.big ++ (to_be_bytes w16 s.pad ++ documents_field s.documents)))

abbrev pub old_setup_tail : List ℕ → Setup → List ℕ
old_setup_tail mark s = mark ++ (to_be_bytes w16 s.shape.b ++ (to_be_bytes w16 s.shape.big ++ documents_field s.documents))

pub setup_record-tail : (mark : List ℕ) (s : Setup) → setup_record mark s ≡ 0x14 ∷ setup_tail mark s
setup_record-tail mark s =
    ap (λ (l : List ℕ). 0x14 ∷ l) (nest mark (to_be_bytes w16 s.shape.b) (to_be_bytes w16 s.shape.big) (to_be_bytes w16 s.pad) (documents_field s.documents))

pub old_setup_record-tail : (mark : List ℕ) (s : Setup) → old_setup_record mark s ≡ 0x11 ∷ old_setup_tail mark s
old_setup_record-tail mark s =
    ap (λ (l : List ℕ). 0x11 ∷ l) (nest_old mark (to_be_bytes w16 s.shape.b) (to_be_bytes w16 s.shape.big) (documents_field s.documents))

module _ (bytes : List ℕ) where
  -- a record that begins with 14 is a setup with its Q
  none_with_q : ((mark : List ℕ) (s : Setup) → IsSetupText mark s → bytes ≡ setup_tail mark s → ⊥) → IsNoRecord (0x14 ∷ bytes)
  none_with_q none (SetsUp mark s) is =
      elim is.spelled [
        | inl e ↦ none mark s is.limits (ap (drop 1) (e ∙ setup_record-tail mark s))
        | inr old ↦ differ 0x14 0x11 _ _ (old.1 ∙ old_setup_record-tail mark s) refl
      ]
  none_with_q none (Adds d) is = differ 0x14 0x12 _ _ is.spelled refl
  none_with_q none (Deletes id) is = differ 0x14 0x13 _ _ is.spelled refl
  none_with_q none (Rekeys own) is = differ 0x14 0x15 _ _ is.spelled refl

  -- a record that begins with 11 is a setup with none
  none_without_q : ((mark : List ℕ) (s : Setup) → IsSetupText mark s → bytes ≡ old_setup_tail mark s → ⊥) → IsNoRecord (0x11 ∷ bytes)
  none_without_q none (SetsUp mark s) is =
      elim is.spelled [
        | inl e ↦ differ 0x11 0x14 _ _ (e ∙ setup_record-tail mark s) refl
        | inr old ↦ none mark s is.limits (ap (drop 1) (old.1 ∙ old_setup_record-tail mark s))
      ]
  none_without_q none (Adds d) is = differ 0x11 0x12 _ _ is.spelled refl
  none_without_q none (Deletes id) is = differ 0x11 0x13 _ _ is.spelled refl
  none_without_q none (Rekeys own) is = differ 0x11 0x15 _ _ is.spelled refl

  -- a record that begins with 12 is an addition
  pub no_addition : IsNotWhole document_field IsDocument bytes → IsNoRecord (0x12 ∷ bytes)
  no_addition none (SetsUp mark s) is =
      elim is.spelled [
        | inl e ↦ differ 0x12 0x14 _ _ (e ∙ setup_record-tail mark s) refl
        | inr old ↦ differ 0x12 0x11 _ _ (old.1 ∙ old_setup_record-tail mark s) refl
      ]
  no_addition none (Adds d) is = none d is.limits (ap (drop 1) is.spelled)
  no_addition none (Deletes id) is = differ 0x12 0x13 _ _ is.spelled refl
  no_addition none (Rekeys own) is = differ 0x12 0x15 _ _ is.spelled refl

  -- too few bytes
  pub no_setup_short : length bytes < 26 → IsNoRecord (0x14 ∷ bytes)
  no_setup_short short =
      none_with_q (λ mark s is e. absurd (omega (arith, short, ap length e, length-append mark (to_be_bytes w16 s.shape.b ++ (to_be_bytes w16 s.shape.big ++ (to_be_bytes w16 s.pad ++ documents_field s.documents))), is.mark_size)))

  pub no_old_setup_short : length bytes < 24 → IsNoRecord (0x11 ∷ bytes)
  no_old_setup_short short =
      none_without_q (λ mark s is e. absurd (omega (arith, short, ap length e, length-append mark (to_be_bytes w16 s.shape.b ++ (to_be_bytes w16 s.shape.big ++ documents_field s.documents)), is.mark_size)))

  module _ (mark : List ℕ) (b big : ℕ) (rest : List ℕ) (size : length mark ≡ 16) where
    -- what stands behind Q is no documents
    pub no_setup_documents : (pad : ℕ) → bytes ≡ mark ++ (to_be_bytes w16 b ++ (to_be_bytes w16 big ++ (to_be_bytes w16 pad ++ rest))) → IsNotWhole documents_field IsCollected rest
        → IsNoRecord (0x14 ∷ bytes)
    no_setup_documents pad read none =
        none_with_q (λ m s is e. none s.documents is.collected (ap (drop 6) (cut_once mark m _ _ (size ∙ sym is.mark_size) (sym read ∙ e)).1))

    -- what stands behind B is none
    pub no_old_setup_documents : bytes ≡ mark ++ (to_be_bytes w16 b ++ (to_be_bytes w16 big ++ rest)) → IsNotWhole documents_field IsCollected rest → IsNoRecord (0x11 ∷ bytes)
    no_old_setup_documents read none =
        none_without_q (λ m s is e. none s.documents is.collected (ap (drop 4) (cut_once mark m _ _ (size ∙ sym is.mark_size) (sym read ∙ e)).1))

module _ (bytes mark : List ℕ) (docs : List Document) (b big : ℕ) (size : length mark ≡ 16) (fits : b < 2 ^ 16) (big_fits : big < 2 ^ 16) (collected : IsCollected docs) where
  -- what is read behind 14
  pub setup_read : (pad : ℕ) → pad < 2 ^ 16 → bytes ≡ mark ++ (to_be_bytes w16 b ++ (to_be_bytes w16 big ++ (to_be_bytes w16 pad ++ documents_field docs)))
      → IsRecordOf (0x14 ∷ bytes) (SetsUp mark (setup_with docs b big pad))
  setup_read pad pad_fits read =
      let s : Setup = setup_with docs b big pad in
      record {
        limits = record { mark_size = size; b_fits = fits; big_fits = big_fits; pad_fits = pad_fits; collected = collected };
        spelled = inl (ap (λ (l : List ℕ). 0x14 ∷ l) read ∙ sym (setup_record-tail mark s));
      }

  -- what is read behind 11
  pub old_setup_read : bytes ≡ mark ++ (to_be_bytes w16 b ++ (to_be_bytes w16 big ++ documents_field docs)) → IsRecordOf (0x11 ∷ bytes) (SetsUp mark (setup_of docs b big))
  old_setup_read read =
      let s : Setup = setup_of docs b big in
      record {
        limits = record { mark_size = size; b_fits = fits; big_fits = big_fits; pad_fits = omega arith; collected = collected };
        spelled = inr (refl, ap (λ (l : List ℕ). 0x11 ∷ l) read ∙ sym (old_setup_record-tail mark s));
      }
