-- The text printed for how a connection ended.
use Rattle.std.specs.Prelude.{ℕ, List, codes}
use Rattle.tcp_service.specs.declared.conn_end.ConnEnd.{ConnEnd}
use Rattle.tcp_service.specs.declared.conn_end.ConnEnd.TheVariants.{Closed, CutShort, ReadFault, WriteFault, OutOfMemory, BadFrame, UnknownOwner, StoreFault}

abbrev pub conn_end_text : ConnEnd → List ℕ
conn_end_text Closed = codes "closed between two frames"
conn_end_text CutShort = codes "closed inside a frame"
conn_end_text ReadFault = codes "nothing more could be read, or not in time"
conn_end_text WriteFault = codes "a reply could not be written, or not in time"
conn_end_text OutOfMemory = codes "out of memory at a reply"
conn_end_text BadFrame = codes "what came was no frame"
conn_end_text UnknownOwner = codes "no owner has the number it began with"
conn_end_text StoreFault = codes "the disk kept an update from being stored"
