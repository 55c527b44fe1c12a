-- What is answered where the live documents aren't given: they are too many, or memory ran out. All lists of what is live are equal.
use Rattle.std.proofs.Common.{◌≡◌, ◌^◌, ℕ, Bool, true, false, List, length, nat_lt, Option, None, Some, Err, refl, sym, ap, ◌∙◌, subst}
use Rattle.std.specs.Prelude.{IfSome, IsOkUnless, IsSome, Result, if◌then◌else◌}
use Rattle.std.specs.Option.{option_or}
use Rattle.client_live_docs.specs.AreLive.{AreLive}
use Rattle.client_live_docs.specs.LiveAfter as live
use Rattle.client_registry.proofs.LiveOnce.{rising_once}
use Rattle.client_registry.specs.Document.{Document}
use Rattle.client_registry.specs.Documents.{pairs_of}
use Rattle.client_registry.specs.Setup.{setup_with}
use Rattle.client_registry.specs.declared.faults.DocsFault.{DocsFault}
use Rattle.client_registry.specs.declared.faults.DocsFault.TheVariants as documents
use Rattle.client_renewal.specs.Refusals.{fault_of_docs, live_refusal, refusal_to_send}
use Rattle.client_renewal.specs.declared.renewal_fault.RenewalFault.{RenewalFault}

abbrev failed : (A : Type 0) → DocsFault → Result A DocsFault
failed A fault = Err fault

-- a cause that the documents are refused for is a renewal's
is_cause : (docs : List Document) → IfSome (live.live_refusal docs) (λ x. IsSome (fault_of_docs x))
is_cause docs = by (nat_lt (2 ^ 18) (length docs)) (nat_lt (2 ^ 20) (pairs_of docs))
  where
    by : (a b : Bool) → IfSome (if a then Some (documents.TooManyDocuments (length docs)) else if b then Some (documents.TooManyPairs (pairs_of docs)) else None) (λ x. IsSome (fault_of_docs x))
    by true b = refl
    by false true = refl
    by false false = tt

-- the fault of documents that aren't given
module _ (A : Type 0) (docs : List Document) (cause : DocsFault) (told : IfSome (live.live_refusal docs) (λ x. failed A cause ≡ failed A x))
    (accepted : live.live_refusal docs ≡ None → IsOkUnless (failed A cause) documents.NoMemory) where
  pub is_told : IsSome (fault_of_docs cause)
  is_told = by (live.live_refusal docs) refl told (is_cause docs)
    where
      by : (o : Option DocsFault) → live.live_refusal docs ≡ o → IfSome o (λ x. failed A cause ≡ failed A x) → IfSome o (λ x. IsSome (fault_of_docs x)) → IsSome (fault_of_docs cause)
      by None e same some = let memory : cause ≡ documents.NoMemory = accepted e in subst (λ x. IsSome (fault_of_docs x)) (sym memory) refl
      by (Some x) e same some = let is : cause ≡ x = cc in subst (λ y. IsSome (fault_of_docs y)) (sym is) some

-- Lists of what is live.

module _ (known : ℕ → Option (List (List ℕ))) (docs others : List Document) (are : AreLive known docs) (also : AreLive known others) where
  pub one_list : docs ≡ others
  one_list = rising_once docs others are.rising also.rising (λ id. are.same id ∙ sym (also.same id))

  -- what is answered of one is answered of the other
  pub refused_alike : (x : Option RenewalFault) (n b big pad : ℕ) → None ≡ live_refusal docs → x ≡ refusal_to_send n (setup_with others b big pad)
      → x ≡ option_or (live_refusal docs) (refusal_to_send n (setup_with docs b big pad))
  refused_alike x n b big pad none is =
      is ∙ ap (λ ds. refusal_to_send n (setup_with ds b big pad)) (sym one_list) ∙ ap (λ o. option_or o (refusal_to_send n (setup_with docs b big pad))) none
