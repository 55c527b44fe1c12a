-- The test of two names is true exactly of equal ones.
use Rattle.std.proofs.Common.{◌≡◌, true, ◌&&◌, refl, sym, subst, eqb-true}
use Rattle.std.specs.Bool.{Decides}
use Rattle.std.specs.Prelude.{◌==◌, bytes_eq}
use Rattle.std.proofs.lemmas.Bool.{true≢false, and_parts, and_from}
use Rattle.std.proofs.lemmas.Cmp.{nat_eq_equiv, nat_list_eq_equiv}
use Rattle.std.proofs.lemmas.Slice.Eq.{bytes_eq-Decides}
use Rattle.sse_model.specs.Names.{Kind, Token, ListLabel, ListPad, PlusLabel, PlusPad, Revocation, PlaceTag, DummyLabel, DummyCell, DummyTag, DummyBlock, Name, same_kind, same_name}

same_kind-true : (k j : Kind) → same_kind k j ≡ true → k ≡ j
same_kind-true Token Token h = refl
same_kind-true ListLabel ListLabel h = refl
same_kind-true ListPad ListPad h = refl
same_kind-true PlusLabel PlusLabel h = refl
same_kind-true PlusPad PlusPad h = refl
same_kind-true Revocation Revocation h = refl
same_kind-true PlaceTag PlaceTag h = refl
same_kind-true DummyLabel DummyLabel h = refl
same_kind-true DummyCell DummyCell h = refl
same_kind-true DummyTag DummyTag h = refl
same_kind-true DummyBlock DummyBlock h = refl
same_kind-true _ _ h = absurd (true≢false (sym h))

same_kind-refl : (k : Kind) → same_kind k k ≡ true
same_kind-refl Token = refl
same_kind-refl ListLabel = refl
same_kind-refl ListPad = refl
same_kind-refl PlusLabel = refl
same_kind-refl PlusPad = refl
same_kind-refl Revocation = refl
same_kind-refl PlaceTag = refl
same_kind-refl DummyLabel = refl
same_kind-refl DummyCell = refl
same_kind-refl DummyTag = refl
same_kind-refl DummyBlock = refl

same_name-true : (x y : Name) → same_name x y ≡ true → x ≡ y
same_name-true x y h =
    let numbers = and_parts (x.epoch == y.epoch && bytes_eq x.word y.word && same_kind x.kind y.kind) (x.number == y.number) h in
    let kinds = and_parts (x.epoch == y.epoch && bytes_eq x.word y.word) (same_kind x.kind y.kind) numbers.0 in
    let words = and_parts (x.epoch == y.epoch) (bytes_eq x.word y.word) kinds.0 in
    λ i. record {
      epoch = eqb-true x.epoch y.epoch words.0 i;
      word = (bytes_eq-Decides x.word y.word).0 words.1 i;
      kind = same_kind-true x.kind y.kind kinds.1 i;
      number = eqb-true x.number y.number numbers.1 i;
    }

same_name-refl : (x : Name) → same_name x x ≡ true
same_name-refl x =
    and_from (x.epoch == x.epoch && bytes_eq x.word x.word && same_kind x.kind x.kind) (x.number == x.number)
    (and_from (x.epoch == x.epoch && bytes_eq x.word x.word) (same_kind x.kind x.kind)
    (and_from (x.epoch == x.epoch) (bytes_eq x.word x.word) (nat_eq_equiv.refl x.epoch) (nat_list_eq_equiv.refl x.word)) (same_kind-refl x.kind))
    (nat_eq_equiv.refl x.number)

-- two names are the same exactly where the test is true
pub same_name-Decides : (x y : Name) → Decides (same_name x y) (x ≡ y)
same_name-Decides x y = (same_name-true x y, λ e. subst (λ z. same_name x z ≡ true) e (same_name-refl x))
