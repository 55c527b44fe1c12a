-- The meaning of the fields of a history's epochs.
use Rattle.client_registry.specs.Epochs.{AreEpochs}
use Rattle.leakage_history.specs.HashedEpochs.{HashedEpochs, epochs_in}
use Rattle.leakage_history.specs.declared.epochs.Epochs.TheInside.{Inside}

-- what contracts see of them
abbrev pub epochs_view : Inside → HashedEpochs
epochs_view h = record { before = h.before.items; last = h.last }

-- they keep the rules of the epochs of a history
abbrev pub AreKept : Inside → Type 0
AreKept h = AreEpochs (epochs_in (epochs_view h))
