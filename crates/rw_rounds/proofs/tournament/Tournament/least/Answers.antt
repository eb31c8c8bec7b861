use Rattle.std.proofs.Common.{◌≡◌, ◌<◌, ℕ, length, sym, ap, ◌∙◌, subst, None, Some, Option}
use Rattle.std.specs.Prelude.{slice_index_or, IfSome, IfNone}
use Rattle.std.specs.Option.{option_copied}
use denote.Bor.{Bor}
use Rattle.std.proofs.lemmas.Bool.{ltb-true}
use Rattle.std.proofs.lemmas.List.{get_or_default}
use Rattle.rw_vt.specs.declared.event.Event.{Event}
use Rattle.rw_vt.specs.Order.{event_cmp, AtMost}
use Rattle.rw_vt.proofs.EventOrder.{events_exact}
use Rattle.rw_rounds.specs.declared.tournament.Entry.{Entry}
use Rattle.rw_rounds.specs.Tournament.{node_at}
use Rattle.rw_rounds.proofs.Winning.{top_there, top_least, top_none}
use Rattle.rw_rounds.proofs.tournament.Tournament.least.Goals as goal

-- what follows of the entry that a reference stands for
of_copy : {B : Type 0} (r : Option (Bor (Entry B))) (a : Option (Entry B)) (P : Entry B → Type 0) → option_copied r ≡ a → ((e : Entry B) → a ≡ Some e → P e) → IfSome r (λ e. P e.now)
of_copy None a P is all = tt
of_copy (Some e) a P is all = all e.now (sym is)

of_none : {B : Type 0} (r : Option (Bor (Entry B))) (a : Option (Entry B)) (P : Type 0) → option_copied r ≡ a → (a ≡ None → P) → IfNone r P
of_none None a P is all = all (sym is)
of_none (Some e) a P is all = tt

pub returns-clause-there : goal.returns-clause-there
returns-clause-there g c =
    let x = c.self.inside in
    let inside : 1 < length c.deref.result.now = ltb-true 1 (length c.deref.result.now) (sym c.in_ok-get.ensures.lookup.0) in
    let top : node_at x.nodes.items 1 ≡ c.in_ok-get.field-0.now = ap (λ ns. node_at ns 1) (sym c.deref.ensures.value) ∙ get_or_default c.deref.result.now 1 None c.in_ok-get.field-0.now inside ∙ sym c.in_ok-get.ensures.lookup.1 in
    of_copy c.as_ref.result c.in_ok-get.field-0.now (λ e. slice_index_or c.args.self.now e.place None ≡ Some e.event) c.as_ref.ensures.value
    (λ e is. subst (λ ls. slice_index_or ls e.place None ≡ Some e.event) c.self.view_is (top_there x.places x.nodes.items c.self.invariant e (top ∙ is)))

pub returns-clause-least : goal.returns-clause-least
returns-clause-least g c =
    let x = c.self.inside in
    let o = events_exact (record { total = g.met.M.Body.Ord.total; same = g.met.M.Model.same }) in
    let inside : 1 < length c.deref.result.now = ltb-true 1 (length c.deref.result.now) (sym c.in_ok-get.ensures.lookup.0) in
    let top : node_at x.nodes.items 1 ≡ c.in_ok-get.field-0.now = ap (λ ns. node_at ns 1) (sym c.deref.ensures.value) ∙ get_or_default c.deref.result.now 1 None c.in_ok-get.field-0.now inside ∙ sym c.in_ok-get.ensures.lookup.1 in
    of_copy c.as_ref.result c.in_ok-get.field-0.now (λ e. (place : ℕ) (f : Event g.row.M-Body.Denot) → slice_index_or c.args.self.now place None ≡ Some f → AtMost (event_cmp g.M.Body.Ord.cmp) e.event f) c.as_ref.ensures.value
    (λ e is. subst (λ ls. (place : ℕ) (f : Event g.row.M-Body.Denot) → slice_index_or ls place None ≡ Some f → AtMost (event_cmp g.M.Body.Ord.cmp) e.event f) c.self.view_is (top_least x.places x.nodes.items c.self.invariant o e (top ∙ is)))

pub returns-clause-none : goal.returns-clause-none
returns-clause-none g c =
    let x = c.self.inside in
    let o = events_exact (record { total = g.met.M.Body.Ord.total; same = g.met.M.Model.same }) in
    let inside : 1 < length c.deref.result.now = ltb-true 1 (length c.deref.result.now) (sym c.in_ok-get.ensures.lookup.0) in
    let top : node_at x.nodes.items 1 ≡ c.in_ok-get.field-0.now = ap (λ ns. node_at ns 1) (sym c.deref.ensures.value) ∙ get_or_default c.deref.result.now 1 None c.in_ok-get.field-0.now inside ∙ sym c.in_ok-get.ensures.lookup.1 in
    of_none c.as_ref.result c.in_ok-get.field-0.now ((place : ℕ) → slice_index_or c.args.self.now place None ≡ None) c.as_ref.ensures.value
    (λ none. subst (λ ls. (place : ℕ) → slice_index_or ls place None ≡ None) c.self.view_is (top_none x.places x.nodes.items c.self.invariant o (top ∙ none)))

pub returns-in_err-get-clause-there : goal.returns-in_err-get-clause-there
returns-in_err-get-clause-there g c = rw c.from_residual.ensures tt

pub returns-in_err-get-clause-least : goal.returns-in_err-get-clause-least
returns-in_err-get-clause-least g c = rw c.from_residual.ensures tt
