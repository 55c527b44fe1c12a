-- The text printed when a link did not carry a frame and its reply.
use Rattle.std.specs.Prelude.{ℕ, List, codes}
use Rattle.vault_link.specs.declared.link_fault.LinkFault.{LinkFault}
use Rattle.vault_link.specs.declared.link_fault.LinkFault.TheVariants.{Cut, NoMemory}

abbrev pub link_fault_text : LinkFault → List ℕ
link_fault_text Cut = codes "the link is cut"
link_fault_text NoMemory = codes "out of memory"
