use Rattle.std.proofs.Common.{◌≡◌, take}
use Rattle.client_registry.specs.Documents.{words_of}
use Rattle.keyed_fn.specs.KeyedFn.{keyed_fn}
use Rattle.index_setup.specs.Entries.{block_tags}
use Rattle.client_tag_order.specs.Tagged.{tagged_from}
use Rattle.index_setup.proofs.labels.tags_of.Given as goal

-- the tags of the blocks of the first w words
abbrev pub invariant-loop-w : goal.invariant-loop-w
invariant-loop-w g l =
    l.tags.items ≡ tagged_from 0 (block_tags (keyed_fn g.K.Keyed.prf g.K.Keyed.pad) l.master l.fn.size.shape l.docs.documents (take l.w (words_of l.docs.documents)))
