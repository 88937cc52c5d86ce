use Rattle.std.proofs.Common.{refl}
use Rattle.iso_latch.specs.Told.{seen_of}
use Rattle.iso_serial.proofs.Begins.{first-taken}
use Rattle.iso_threads.proofs.lead.lead.Goals as goal

pub loop-init : goal.loop-init
loop-init g c = record {
  pass = c.requires.pass;
  keep = c.requires.keep;
  taken = first-taken c.args.script.now (seen_of c.args.pass.seat) c.new-director.result c.requires.none c.new-director.ensures.taken
      c.new-director.ensures.kept c.new-director.ensures.acyclic;
  all = c.requires.all;
  empty = c.requires.empty;
  room = c.requires.room;
  voices = λ x. refl;
}
