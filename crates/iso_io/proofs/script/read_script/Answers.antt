use Rattle.std.proofs.Common.{◌++◌, take, arith, length-append}
use Rattle.iso_io.proofs.Joined.{Consumes-then, no_more_than_room}
use Rattle.iso_io.proofs.script.read_script.Goals as goal

pub returns-then-n-left-clause-bytes : goal.returns-then-n-left-clause-bytes
returns-then-n-left-clause-bytes g c = (
  c.pieces.all.items ++ take c.in-Ok.n c.read.new.buf,
  Consumes-then _ _ _ _ _ c.pieces.invariant.consumed c.in-Ok.ensures.bytes.0,
  rw (length-append, ← c.in-Ok.ensures.bound.1) (omega (arith, no_more_than_room _ _ _ _ c.read.auto.buf c.in-Ok.ensures.bound.0)),
)

pub returns-then-is_err-clause-bytes : goal.returns-then-is_err-clause-bytes
returns-then-is_err-clause-bytes g c = (
  c.pieces.all.items ++ take c.in-Ok.n c.read.new.buf,
  Consumes-then _ _ _ _ _ c.pieces.invariant.consumed c.in-Ok.ensures.bytes.0,
  rw (length-append, ← c.in-Ok.ensures.bound.1) (omega (arith, no_more_than_room _ _ _ _ c.read.auto.buf c.in-Ok.ensures.bound.0)),
)
