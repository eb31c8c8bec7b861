use Rattle.std.proofs.Common.{◌≤◌, All, map, replicate, ap, ◌∙◌, subst, filter}
use Rattle.std.specs.Prelude.{◌%◌, ◌==◌}
use Rattle.rw_vt.proofs.Laws.{Laws, laws_of}
use Rattle.rw_windows.proofs.Fresh.{all_begun, first_bound, some_bound}
use Rattle.rw_windows.proofs.beginning.begin.Given as given
use Rattle.rw_windows.proofs.beginning.begin.Goals as goal

laws : (g : given.Over) → Laws g.M.Model g.M.Body.Ord.cmp
laws g = laws_of g.met.M.Model g.met.M.Body.Ord.total

pub returns : goal.returns
returns g c =
    let events = c.args.events.items in
    let bound = c.saturating_add-bound.result in
    let windows = c.args.windows in
    let parts = c.in_ok-parts.parts in
    let had = c.in_ok-parts.ensures in
    let ws = c.in_ok-shares.shares.items in
    let its = c.in_ok-shares.ensures in
    record {
      begun = all_begun (laws g) c.args.model.now windows bound c.args.states.items events c.requires.ready c.requires.ahead
          (first_bound events c.least_time-first.result windows.lookahead bound (subst (All (λ e. c.least_time-first.result ≤ e.time)) c.deref.ensures.value c.least_time-first.ensures.least) c.saturating_add-bound.ensures)
          (some_bound c.least_time-first.result windows.lookahead bound c.requires.lookahead c.saturating_add-bound.ensures)
          (map (λ h. h.items) parts.shares.items) had.shares.1
          (map (λ b. b.items) parts.inboxes.items) (λ i inside. had.inboxes.1 i inside ∙ ap (filter (λ e. e.to % windows.workers == i)) c.deref-2.ensures.value)
          parts.ports.items had.ports.0 had.ports.1 had.ports.2 had.first_sent.0 had.first_sent.1
          ws its.count its.numbers its.states its.given its.ports (its.starts ∙ ap (λ s. replicate windows.workers s.items) c.of-starts.ensures) its.new;
    }
