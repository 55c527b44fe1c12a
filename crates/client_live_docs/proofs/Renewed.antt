-- The live documents of a history are those of the setup that a renewal makes of it.
use Rattle.std.proofs.Common.{◌≡◌, ℕ, List, Option, sym, ap, ◌∙◌}
use Rattle.client_registry.proofs.LiveOnce.{by_id-rising}
use Rattle.client_registry.proofs.OrderLaws.{AreApart, AreApart-from_IsDistinct}
use Rattle.client_registry.proofs.Restarted.{ids_of, words_with_id-by_id}
use Rattle.client_registry.proofs.ShownLaws.{live_apart}
use Rattle.client_registry.specs.Epochs.{setup_renewed}
use Rattle.client_registry.specs.Facts.{facts_of}
use Rattle.client_registry.specs.Live.{live}
use Rattle.client_registry.specs.Run.{Run}
use Rattle.client_registry.specs.Sized.{IsHistory}
use Rattle.client_live_docs.specs.AreLive.{AreLive}

-- Promise P207, also here
-- where the words known to be live are those of a history, the live documents are those of its renewal
pub renewed-are_live : (known : ℕ → Option (List (List ℕ))) (run : Run) → IsHistory run → known ≡ (facts_of run.setup run.later).live → AreLive known (setup_renewed run).documents
renewed-are_live known run history same =
    let docs = live run.setup.documents run.later in
    let apart : AreApart (ids_of docs) = live_apart run.setup (AreApart-from_IsDistinct (ids_of run.setup.documents) history.collected.different) run.later history.accepted in
    record {
      rising = by_id-rising docs apart;
      same = λ id. words_with_id-by_id docs id apart ∙ ap (λ k. k id) (sym same);
    }
