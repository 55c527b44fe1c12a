use Rattle.vault_script.proofs.printed_line.print_refusal.Goals as goal

pub returns-in-Zero-clause-text : goal.returns-in-Zero-clause-text
returns-in-Zero-clause-text g c = rw c.in-Zero.is c.print_bytes.ensures.text

pub returns-in-BodyThere-clause-text : goal.returns-in-BodyThere-clause-text
returns-in-BodyThere-clause-text g c = rw c.in-BodyThere.is c.print_one.ensures.text

pub returns-in-NoBody-clause-text : goal.returns-in-NoBody-clause-text
returns-in-NoBody-clause-text g c = rw c.in-NoBody.is c.print_one-in-NoBody.ensures.text

pub returns-in-TooLong-clause-text : goal.returns-in-TooLong-clause-text
returns-in-TooLong-clause-text g c = rw c.in-TooLong.is c.print_one-in-TooLong.ensures.text

pub returns-in-VaultFull-clause-text : goal.returns-in-VaultFull-clause-text
returns-in-VaultFull-clause-text g c = rw c.in-VaultFull.is c.print_bytes-in-VaultFull.ensures.text
