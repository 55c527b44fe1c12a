-- The text printed when a frame isn't taken or a search gives no list.
use Rattle.std.specs.Prelude.{ℕ, List, ◌++◌, codes, decimal, ◌==◌, if◌then◌else◌}
use Rattle.server_core.specs.declared.refuse.Refuse.{Refuse}
use Rattle.server_core.specs.declared.refuse.Refuse.TheVariants as refusing
use Rattle.server_core.specs.declared.walk_fault.WalkFault.{WalkFault}
use Rattle.server_core.specs.declared.walk_fault.WalkFault.TheVariants.{OutOfPlace, BadList}

-- of a collision of this kind at this place of a frame's list
abbrev pub clash_text : (what place : ℕ) → List ℕ
clash_text what place =
    if what == 1 then codes "the server holds the label of entry " ++ decimal place ++ codes " from 0"
    else if what == 2 then codes "the server holds the label of addition " ++ decimal place ++ codes " from 0"
    else codes "revocation number " ++ decimal place ++ codes " from 0 is there already, or is not there"

abbrev pub refuse_text : Refuse → List ℕ
refuse_text (refusing.Number next) = codes "the next update frame has number " ++ decimal next
refuse_text refusing.OutOfPlace = codes "the frame is not one for the server's stage"
refuse_text (refusing.Clash what place) = clash_text what place
refuse_text refusing.NoMemory = codes "out of memory"

abbrev pub walk_fault_text : WalkFault → List ℕ
walk_fault_text OutOfPlace = codes "the setup is not whole"
walk_fault_text BadList = codes "what the token finds is no list"
