use Rattle.std.proofs.Common.{◌≡◌, take}
use Rattle.client_registry.specs.Documents.{words_of}
use Rattle.keyed_fn.specs.KeyedFn.{keyed_fn}
use Rattle.index_setup.specs.Entries.{word_labels}
use Rattle.client_tag_order.specs.Tagged.{tagged_from}
use Rattle.index_setup.proofs.labels.labels_of.Given as goal

-- the labels of the first w words
abbrev pub invariant-loop-w : goal.invariant-loop-w
invariant-loop-w g l = l.labels.items ≡ tagged_from 0 (word_labels (keyed_fn g.K.Keyed.prf g.K.Keyed.pad) l.master (take l.w (words_of l.docs.documents)))
