use Rattle.rw_sweep.proofs.PartsRead.{part-read}
use Rattle.rw_sweep.proofs.Refusing.{part-refused}
use Rattle.rw_sweep.proofs.joiner.reading.read_part.Goals as goal

pub returns : goal.returns
returns c = record {
  read = part-read c.read_lines.result c.args.text.now c.in-Some.lines.now c.args.slots.now.items c.read_lines.new.slots.items c.in-Some.ensures c.read_lines.ensures.read;
  fault = part-refused c.read_lines.result c.args.file c.args.text.now c.in-Some.lines.now c.args.slots.now.items c.in-Some.ensures c.read_lines.ensures.fault;
}
