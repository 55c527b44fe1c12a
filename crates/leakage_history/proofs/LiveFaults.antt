-- What is answered where a renewal isn't taken: too much is live, its index is too large, or memory ran out.
use Rattle.std.proofs.Common.{◌≡◌, ◌≢◌, ◌^◌, ℕ, Bool, true, false, List, length, nat_lt, Option, None, Some, Ok, Err, refl, sym, ap, ◌∙◌, subst}
use Rattle.std.specs.Prelude.{IfSome, IsOk, IsOkUnless, IsSome, Result, if◌then◌else◌}
use Rattle.std.specs.Option.{option_and_then, option_or}
use Rattle.std.proofs.lemmas.Bool.{true≢false}
use Rattle.client_live_docs.specs.LiveAfter as live
use Rattle.client_registry.specs.Document.{Document}
use Rattle.client_registry.specs.Documents.{pairs_of}
use Rattle.client_registry.specs.Setup.{Setup, setup_with}
use Rattle.client_registry.specs.declared.faults.DocsFault.{DocsFault}
use Rattle.client_registry.specs.declared.faults.DocsFault.TheVariants as documents
use Rattle.client_registry.specs.declared.faults.SizeFault.{SizeFault}
use Rattle.leakage_history.specs.Renewals.{fault_of_docs, fault_of_size}
use Rattle.leakage_history.specs.declared.renewal_fault.RenewalFault.{RenewalFault}
use Rattle.leakage_history.specs.declared.renewal_fault.RenewalFault.TheVariants as faults

abbrev failed : (A E : Type 0) → E → Result A E
failed A E fault = Err fault

abbrev given : (A E : Type 0) → A → Result A E
given A E x = Ok x

-- a cause that documents are refused for is a renewal's
is_cause : (docs : List Document) → IfSome (live.live_refusal docs) (λ x. IsSome (fault_of_docs x))
is_cause docs = by (nat_lt (2 ^ 18) (length docs)) (nat_lt (2 ^ 20) (pairs_of docs))
  where
    by : (a b : Bool) → IfSome (if a then Some (documents.TooManyDocuments (length docs)) else if b then Some (documents.TooManyPairs (pairs_of docs)) else None) (λ x. IsSome (fault_of_docs x))
    by true b = refl
    by false true = refl
    by false false = tt

-- the fault of documents that aren't given
module _ (A : Type 0) (docs : List Document) (cause : DocsFault) (told : IfSome (live.live_refusal docs) (λ x. failed A DocsFault cause ≡ failed A DocsFault x))
    (accepted : live.live_refusal docs ≡ None → IsOkUnless (failed A DocsFault cause) documents.NoMemory) where
  pub is_told : IsSome (fault_of_docs cause)
  is_told = by (live.live_refusal docs) refl told (is_cause docs)
    where
      by : (o : Option DocsFault) → live.live_refusal docs ≡ o → IfSome o (λ x. failed A DocsFault cause ≡ failed A DocsFault x) → IfSome o (λ x. IsSome (fault_of_docs x)) → IsSome (fault_of_docs cause)
      by None e same some = let memory : cause ≡ documents.NoMemory = accepted e in subst (λ x. IsSome (fault_of_docs x)) (sym memory) refl
      by (Some x) e same some = let is : cause ≡ x = cc in subst (λ y. IsSome (fault_of_docs y)) (sym is) some

  -- the answer names it, where it isn't that memory ran out
  pub is_first : (B : Type 0) (fault : RenewalFault) → fault_of_docs cause ≡ Some fault → failed B RenewalFault fault ≢ failed B RenewalFault faults.NoMemory
      → Some fault ≡ option_and_then fault_of_docs (live.live_refusal docs)
  is_first B fault is other = by (live.live_refusal docs) refl told
    where
      by : (o : Option DocsFault) → live.live_refusal docs ≡ o → IfSome o (λ x. failed A DocsFault cause ≡ failed A DocsFault x) → Some fault ≡ option_and_then fault_of_docs o
      by None e same =
          let memory : cause ≡ documents.NoMemory = accepted e in
          let none : Some fault ≡ Some faults.NoMemory = sym is ∙ ap fault_of_docs memory in
          let out : fault ≡ faults.NoMemory = cc in
          absurd (other (ap (failed B RenewalFault) out))
      by (Some x) e same = let named : cause ≡ x = cc in sym is ∙ ap fault_of_docs named

-- documents that are given aren't refused
pub none_first : (A : Type 0) (x : A) (docs : List Document) → IfSome (live.live_refusal docs) (λ fault. given A DocsFault x ≡ failed A DocsFault fault) → None ≡ option_and_then fault_of_docs (live.live_refusal docs)
none_first A x docs = by (live.live_refusal docs)
  where
    by : (o : Option DocsFault) → IfSome o (λ fault. given A DocsFault x ≡ failed A DocsFault fault) → None ≡ option_and_then fault_of_docs o
    by None told = refl
    by (Some fault) told = absurd (cc)

-- a size that is given isn't refused
pub size_accepted : (A : Type 0) (x : A) (o : Option SizeFault) → IfSome o (λ fault. given A SizeFault x ≡ failed A SizeFault fault) → o ≡ None
size_accepted A x None told = refl
size_accepted A x (Some fault) told = absurd (cc)

-- a size that isn't given is refused for this
pub size_first : (A : Type 0) (p : Option RenewalFault) (refused : Option SizeFault) (cause : SizeFault) (fault : RenewalFault)
    → IfSome refused (λ x. failed A SizeFault cause ≡ failed A SizeFault x) → (refused ≡ None → IsOk (failed A SizeFault cause)) → fault_of_size cause ≡ Some fault
    → Some fault ≡ option_or (option_and_then fault_of_size refused) p
size_first A p None cause fault told accepted is = absurd (true≢false (sym (accepted refl)))
size_first A p (Some x) cause fault told accepted is = let named : cause ≡ x = cc in ap (λ first. option_or first p) (sym is ∙ ap fault_of_size named)

-- a setup, by its parts
pub by_parts : (docs : List Document) (s : Setup) (b big pad : ℕ) → b ≡ s.shape.b → big ≡ s.shape.big → pad ≡ s.pad → setup_with docs b big pad ≡ record { documents = docs; shape = s.shape; pad = s.pad }
by_parts docs s b big pad bs bigs pads = λ i. record { documents = docs; shape = record { b = bs i; big = bigs i }; pad = pads i }
