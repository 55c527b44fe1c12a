use Rattle.std.proofs.Common.{ℕ, List, [], ◌∷◌, ◌++◌, ap, ◌∙◌}
use Rattle.client_registry.specs.IdNumber.{id_number}
use Rattle.client_records.proofs.Sizes.{addition_put}
use Rattle.client_records.proofs.writer.write_add.Goals as goal

pub returns-clause-ok : goal.returns-clause-ok
returns-clause-ok c =
    addition_put c.args.out.now.items c.put.new.out.items c.put_head.new.out.items c.put_words.new.out.items c.args.doc.now (id_number c.id.result) c.words-words.result.now
    (c.put.ensures.items ∙ ap (λ (l : List ℕ). l ++ 0x12 ∷ []) c.reserve_exact.ensures.items) c.put_head.ensures.items c.put_words.ensures.items c.id.ensures c.words-words.ensures.words
