-- The documents that a renewal collects keep the limits of a setup's.
use Rattle.std.proofs.Common.{◌≡◌, ◌≤◌, ◌^◌, Bool, true, false, List, [], ◌∷◌, map, length, nat_lt, nat_eq, None, Some, refl, arith, ltb-false}
use Rattle.std.specs.Prelude.{All, nat_le, if◌then◌else◌}
use Rattle.std.specs.List.{IsDistinct, AllByRecursion}
use Rattle.std.proofs.lemmas.Bool.{ne_eqb}
use Rattle.std.proofs.lemmas.List.Elements.{All-cons, All-head, All-tail}
use Rattle.client_registry.proofs.HistoryLaws.{IsHistory-last}
use Rattle.client_registry.proofs.LiveOnce.{AllAbove, Rising, by_id-rising}
use Rattle.client_registry.proofs.OrderLaws.{AreApart-from_IsDistinct}
use Rattle.client_registry.proofs.ShownLaws.{live_apart}
use Rattle.client_registry.specs.Document.{Document}
use Rattle.client_registry.specs.DocumentRule.{IsDocument}
use Rattle.client_registry.specs.Documents.{IsCollected, pairs_of}
use Rattle.client_registry.specs.Epochs.{AreEpochs, insert_by_id, by_id, setup_renewed}
use Rattle.client_registry.specs.Live.{live}
use Rattle.client_registry.specs.Run.{Epochs, last_run}
use Rattle.sse_model.proofs.DrawnOnce.{live_are_documents}
use Rattle.sse_script.specs.declared.refusal.Refusal.TheVariants.{TooManyDocuments, TooManyPairs}
use Rattle.script_documents.proofs.Passed.{some-none}
use Rattle.def_script_meaning.specs.Refused.{live_refusal}

-- documents by rising identifier have different ones
distinct : (docs : List Document) → Rising docs → IsDistinct nat_eq (map (λ d. d.id) docs)
unfolding IsDistinct
distinct [] rising = tt
distinct (d ∷ docs) rising = (none docs rising.0, distinct docs rising.1)
  where
    none : (es : List Document) → AllAbove d.id es → AllByRecursion (λ y. nat_eq d.id y ≡ false) (map (λ e. e.id) es)
    none [] above = tt
    none (e ∷ es) above = (ne_eqb d.id e.id (λ same. omega (arith, above.0, same)), none es above.1)

valid-insert : (d : Document) (es : List Document) → IsDocument d → All IsDocument es → All IsDocument (insert_by_id d es)
valid-insert d [] one all = All-cons IsDocument d [] one all
valid-insert d (e ∷ es) one all = by (nat_le d.id e.id) (valid-insert d es one (All-tail IsDocument e es all))
  where
    by : (b : Bool) → All IsDocument (insert_by_id d es) → All IsDocument (if b then d ∷ e ∷ es else e ∷ insert_by_id d es)
    by true h = All-cons IsDocument d (e ∷ es) one all
    by false h = All-cons IsDocument e (insert_by_id d es) (All-head IsDocument e es all) h

valid-by_id : (docs : List Document) → All IsDocument docs → All IsDocument (by_id docs)
valid-by_id [] all = all
valid-by_id (d ∷ docs) all = valid-insert d (by_id docs) (All-head IsDocument d docs all) (valid-by_id docs (All-tail IsDocument d docs all))

live_few : (docs : List Document) → live_refusal docs ≡ None → (length docs ≤ 2 ^ 18) × (pairs_of docs ≤ 2 ^ 20)
live_few docs e = by (nat_lt (2 ^ 18) (length docs)) refl (nat_lt (2 ^ 20) (pairs_of docs)) refl e
  where
    by : (a : Bool) → nat_lt (2 ^ 18) (length docs) ≡ a → (b : Bool) → nat_lt (2 ^ 20) (pairs_of docs) ≡ b
        → (if a then Some (TooManyDocuments (length docs)) else if b then Some (TooManyPairs (pairs_of docs)) else None) ≡ None → (length docs ≤ 2 ^ 18) × (pairs_of docs ≤ 2 ^ 20)
    by true e b g h = absurd (some-none _ h)
    by false e true g h = absurd (some-none _ h)
    by false e false g h = (ltb-false (2 ^ 18) (length docs) e, ltb-false (2 ^ 20) (pairs_of docs) g)

pub IsCollected-renewed : (es : Epochs) → AreEpochs es → live_refusal (setup_renewed (last_run es)).documents ≡ None → IsCollected (setup_renewed (last_run es)).documents
IsCollected-renewed es are none =
    let run = last_run es in
    let history = IsHistory-last es are in
    let docs = live run.setup.documents run.later in
    let limits = live_few (by_id docs) none in record {
      documents = limits.0;
      pairs = limits.1;
      different = distinct (by_id docs) (by_id-rising docs (live_apart run.setup (AreApart-from_IsDistinct (map (λ d. d.id) run.setup.documents) history.collected.different) run.later history.accepted));
      are_documents = valid-by_id docs (live_are_documents run.setup.documents run.later history.collected.are_documents history.each);
    }
