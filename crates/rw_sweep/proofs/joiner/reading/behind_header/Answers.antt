use Rattle.rw_sweep.proofs.PartsRead.{behind-both}
use Rattle.rw_sweep.proofs.joiner.reading.behind_header.Goals as goal

pub returns : goal.returns
returns c = behind-both c.behind-2.result c.args.text.now c.in_ok-behind.field-0.now c.header_text.result.now c.in_ok-behind.ensures c.header_text.ensures c.behind-2.ensures
