use Rattle.leakage_texts.proofs.line.push_leak.Goals as goal

pub returns-in-Delete : goal.returns-in-Delete
returns-in-Delete c = let deleted = rw c.as_slice-in-Delete.ensures at c.push_update-in-Delete.ensures in rw c.in-Delete.is deleted
