-- Initial events that a source gives, in whatever order.
use Rattle.std.proofs.Common.{◌≡◌, true, List, IsPermutation}
use Rattle.std.proofs.lemmas.List.Sorted.{All-permutation}
use Rattle.rw_vt.specs.declared.event.Event.{Event}
use Rattle.rw_vt.specs.declared.model.Model.{Ghosts}
use Rattle.rw_vt.specs.System.{IsReady}

-- what is ready stays so where its initial events are listed in another order
pub ready_from : {M S B U : Type 0} (model : Ghosts M S B U) (m : M) (starts : List S) {initial given : List (Event B)} → IsReady model m starts initial → IsPermutation initial given → IsReady model m starts given
ready_from model m starts {initial} {given} ready moved =
    record { enough = ready.enough; well_formed = ready.well_formed; valid = All-permutation (λ e. model.is_valid m e ≡ true) initial given moved ready.valid }
