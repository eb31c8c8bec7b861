-- The place of a name is what its column says.
use Rattle.std.proofs.Common.{◌∙◌, ℕ, Option, ap}
use Rattle.std.specs.List.{position}
use Rattle.std.specs.Option.{ok_or}
use Rattle.csv.specs.Records.{fields_of}
use Rattle.rw_trace.specs.Words.{Text}
use Rattle.rw_import.specs.Csv.{is_same_text}
use Rattle.rw_import.specs.declared.fault.ImportFault.TheVariants.{NoColumn}
use Rattle.rw_import.proofs.csv_log.place_of.Goals as goal

pub returns-in-Named : goal.returns-in-Named
returns-in-Named c =
    let found = c.find.ensures ∙ ap (λ (t : Text). position (λ field. is_same_text field t) (fields_of c.args.header.now)) c.as_slice.ensures.value in
    rw c.in-Named.is (c.ok_or.ensures.value ∙ ap (λ (o : Option ℕ). ok_or o (NoColumn c.args.part)) found)
