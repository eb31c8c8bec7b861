-- Columns that are not found are no failure of a writer.
use Rattle.std.proofs.Common.{sym, subst, ◌∙◌}
use Rattle.std.specs.Prelude.{◌≢◌, IfErr, Result}
use Rattle.csv.specs.Records.{fields_of}
use Rattle.rw_import.specs.declared.fault.ImportFault.{ImportFault}
use Rattle.rw_import.specs.declared.fault.ImportFault.TheVariants.{Output}
use Rattle.rw_import.specs.declared.layout.Places.{Places}
use Rattle.rw_import.proofs.Columns.{header-missing, places-not-output}
use Rattle.rw_import.proofs.csv_log.start.Goals as goal

pub returns-clause-output : goal.returns-clause-output
returns-clause-output g c =
    subst (λ (r : Result Places ImportFault). IfErr r (λ e. e ≢ Output)) (sym c.places_of.ensures) (places-not-output (fields_of c.if-has_header.fields) c.args.layout.now)

pub returns-then-not-branch-clause-fault : goal.returns-then-not-branch-clause-fault
returns-then-not-branch-clause-fault g c =
    let none = rw c.if-not-branch.true at c.in_ok-next_fields.ensures.gives in
    λ _. header-missing c.args.layout.now _ none (sym c.has_header.ensures ∙ c.if-has_header.true)
