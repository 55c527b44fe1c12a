use Rattle.std.proofs.Common.{not, map, take, drop, refl, subst, ◌+◌}
use Rattle.std.specs.Prelude.{bytes_eq}
use Rattle.std.specs.List.{IsDistinct}
use Rattle.client_registry.proofs.SeenWords.{front_more}
use Rattle.client_registry.specs.IdNumber.{id_number}
use Rattle.client_registry.specs.Registered.{facts}
use Rattle.client_registry.specs.WordBytes.{word_bytes}
use Rattle.leakage_values.proofs.FrontLaws.{front_rest}
use Rattle.leakage_values.proofs.ListedLaws.{lists-more, none_before}
use Rattle.leakage_values.proofs.More.{among-front}
use Rattle.leakage_values.proofs.listed.list_addition.Goals as goal

pub loop-word-preserved : goal.loop-word-preserved
loop-word-preserved c =
    let words = c.args.words.now in
    let i = c.loop-word.word-index in
    let word = c.word-item.result in
    let front = map word_bytes (take i words) in
    lists-more c.args.table.now.entries c.loop-word.table.entries c.list_if_new.new.table.entries (id_number c.args.id) front (map word_bytes (take (i + 1) words)) (word_bytes word)
    (λ w. not ((facts c.args.registry.now).listed w (id_number c.args.id)))
    (λ w. among-front w front _ (word_bytes word) (front_more word_bytes words i word (word_bytes word) c.loop-word-test.true c.word-item.is refl))
    (none_before front (word_bytes word) (map word_bytes (drop (i + 1) words)) (subst (IsDistinct bytes_eq) (front_rest word_bytes words i word c.loop-word-test.true c.word-item.is) c.requires))
    c.loop-word.invariant c.in_ok-list_if_new.ensures
