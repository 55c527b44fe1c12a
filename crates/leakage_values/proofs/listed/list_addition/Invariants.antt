use Rattle.std.proofs.Common.{◌&&◌, not, map, take}
use Rattle.std.specs.Prelude.{bytes_eq}
use Rattle.std.specs.List.{list_any}
use Rattle.client_registry.specs.IdNumber.{id_number}
use Rattle.client_registry.specs.Registered.{facts}
use Rattle.client_registry.specs.WordBytes.{word_bytes}
use Rattle.leakage_values.specs.Listed.{ListsFor}
use Rattle.leakage_values.proofs.listed.list_addition.Given as goal

abbrev pub invariant-loop-word : goal.invariant-loop-word
invariant-loop-word l =
    ListsFor l.initial.table.entries l.table.entries (id_number l.id) (λ w. list_any (bytes_eq w) (map word_bytes (take l.word-index l.words)) && not ((facts l.registry).listed w (id_number l.id)))
