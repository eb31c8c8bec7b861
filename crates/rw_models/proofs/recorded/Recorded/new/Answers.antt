use Rattle.std.proofs.Common.{◌∙◌, sym}
use Rattle.std.proofs.lemmas.List.{length-map}
use Rattle.rw_vt.specs.System.{rules}
use Rattle.rw_models.proofs.Recording.{each_of_records, each_of_states, keeps_records}
use Rattle.rw_models.proofs.recorded.Recorded.new.Goals as goal

pub returns-clause-ready : goal.returns-clause-ready
returns-clause-ready g c = λ records initial. (
  λ h. record {
    enough = length-map records (λ r. r.state) ∙ h.enough;
    well_formed = each_of_states (g.M.Model.IsWellFormed c.args.model) records h.well_formed;
    valid = h.valid;
  },
  λ h. record {
    enough = sym (length-map records (λ r. r.state)) ∙ h.enough;
    well_formed = each_of_records (g.M.Model.IsWellFormed c.args.model) records h.well_formed;
    valid = h.valid;
  },
)

pub returns-clause-runs : goal.returns-clause-runs
returns-clause-runs g c = λ records initial.
    keeps_records (rules g.M.Model g.M.Body.Ord.cmp c.args.model) (g.M.Model.is_valid c.args.model) records initial
