-- What `shrink_file` hands to `write_shrunk` is the shrunk file: the front of what the shrinking call left in its bytes. It is made of exactly the accepted files.
use Rattle.std.proofs.Common.{sym, arith}
use Rattle.std.proofs.Math.Seq.{length-take-le}
use Rattle.shrinking.proofs.Making.{made_is}
use Rattle.shrink.proofs.Accepting.{made_accepted, accepted_made}
use Rattle.shrink.proofs.shrink_file.Goals as goal

pub slice_bounds-out-end : goal.slice_bounds-out-end
slice_bounds-out-end g c = (made_is _ _ _ c.in-Ok.ensures).room

pub slice_bounds-write_shrunk-end : goal.slice_bounds-write_shrunk-end
slice_bounds-write_shrunk-end g c = sym (length-take-le _ _ (made_is _ _ _ c.in-Ok.ensures).room)

pub write_shrunk-requires : goal.write_shrunk-requires
write_shrunk-requires g c = (made_is _ _ _ c.in-Ok.ensures).front

pub returns-in-Ok-clause-refused : goal.returns-in-Ok-clause-refused
returns-in-Ok-clause-refused g c = λ refused. absurd (refused (made_accepted _ _ _ _ c.in-Ok.ensures))

pub returns-in-Err-clause-accepted : goal.returns-in-Err-clause-accepted
returns-in-Err-clause-accepted g c = λ accepted. absurd (accepted_made _ _ _ (omega arith) (omega arith) c.in-Err.ensures accepted)
