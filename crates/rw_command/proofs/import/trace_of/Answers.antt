use Rattle.std.proofs.lemmas.Result.{IfErr-weaker}
use Rattle.rw_command.proofs.Imports.{csv-quiet}
use Rattle.rw_command.proofs.import.trace_of.Goals as goal

pub returns-in_default : goal.returns-in_default
returns-in_default g c = record {
  unwritten = IfErr-weaker c.import_csv.result _ _ (λ e why. csv-quiet c.args.layout.now c.args.reading.now c.args.log.now e why) c.import_csv.ensures.fault;
}
