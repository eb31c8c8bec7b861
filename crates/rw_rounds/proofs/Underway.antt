-- A segment: round by round its parts stay whole and of one run, and its floor does not go back.
use Rattle.std.proofs.Common.{◌≡◌, ℕ, ◌+◌, ◌*◌, ◌<◌, ◌≤◌, List, length, map, get_or, refl, sym, ap, ◌∙◌, subst, arith, None}
use Rattle.std.specs.Prelude.{◌/◌, ◌%◌, slice_get}
use Rattle.std.specs.declared.cmp.Ordering.{Ordering}
use Rattle.std.specs.Global.{Global}
use Rattle.std.specs.declared.collections.vec_deque.VecDeque.{VecDeque}
use Rattle.std.proofs.lemmas.List.{same_lists, length-map}
use Rattle.std.proofs.lemmas.Option.{slice_get-get_or, get_or_from_slice_get}
use Rattle.rw_vt.specs.declared.event.Letter.{Letter}
use Rattle.rw_vt.specs.declared.model.Model.{Ghosts}
use Rattle.rw_vt.specs.System.{IsReady}
use Rattle.rw_vt.proofs.Laws.{Laws}
use Rattle.rw_lp.specs.Calls.{LogicalProcess}
use Rattle.rw_world.specs.declared.parts.Parts.{Parts}
use Rattle.rw_world.specs.Calls.{Simulation, simulation_of, system_of, world_of, IsWhole}
use Rattle.rw_world.specs.Sound.{Sound}
use Rattle.rw_world.specs.WorldState.{WorldState, floor}
use Rattle.rw_pool.specs.Shares.{of_shares}
use Rattle.rw_pool.proofs.Lists.{get_there}
use Rattle.rw_rounds.specs.declared.plan.Plan.{Plan}
use Rattle.rw_rounds.specs.declared.between.Between.{Between}
use Rattle.rw_rounds.specs.Plans.{IsInRanges}
use Rattle.rw_rounds.specs.Processes.{ProcessList}
use Rattle.rw_rounds.specs.Between.{IsBetween, RoundTo, IsSameParts, LeadsTo, LeadsFrom, IsUnderway}
use Rattle.rw_rounds.proofs.Rounding.{WorldLaws, round_leads}

-- Parts that have the same
module _ {M S B U : Type 0} (x z : Parts M S B U) (same : IsSameParts x z) where
  same_world : world_of z ≡ world_of x
  same_world =
      let w : List (LogicalProcess M S B) → List (Letter B) → ℕ → WorldState S B = λ ps ls g. record { processes = map (λ l. l.process) ps; letters = ls; collected = g } in
      ap (λ ps. w ps z.letters.items z.collected) same.processes_are ∙ (ap (λ ls. w x.processes.items ls z.collected) same.letters_are ∙ ap (w x.processes.items x.letters.items) same.collected_is)

  same_simulation : simulation_of z ≡ simulation_of x
  same_simulation =
      let s : M → List S → _ → WorldState S B → Simulation M S B = λ m ss es w. record { model = m; starts = ss; initial = es; world = w } in
      ap (λ m. s m z.starts.value.items z.initial.value.items (world_of z)) same.model_is
      ∙ (ap (λ ss. s x.model ss.value.items z.initial.value.items (world_of z)) same.starts_are
      ∙ (ap (λ es. s x.model x.starts.value.items es.value.items (world_of z)) same.initial_are
      ∙ ap (s x.model x.starts.value.items x.initial.value.items) same_world))

module _ {M S B U : Type 0} {model : Ghosts M S B U} {order : B → B → Ordering} where
  leads_more : (x y z : Parts M S B U) (r t : ℕ) → LeadsTo model order x y r → LeadsTo model order y z t → LeadsTo model order x z t
  leads_more x y z r t a b = record {
    before = a.before;
    after = b.after;
    model_is = b.model_is ∙ a.model_is;
    starts_are = b.starts_are ∙ a.starts_are;
    initial_are = b.initial_are ∙ a.initial_are;
    collected_is = b.collected_is ∙ a.collected_is;
    rises = omega (arith, a.rises, a.below, b.rises);
    below = b.below;
  }

  module _ (x z : Parts M S B U) (same : IsSameParts x z) where
    whole_still : IsWhole model order x → IsWhole model order z
    whole_still whole = record {
      ready =
          subst (λ m. IsReady model m z.starts.value.items z.initial.value.items) (sym same.model_is)
          (subst (λ ss. IsReady model x.model ss.value.items z.initial.value.items) (sym same.starts_are)
          (subst (λ es. IsReady model x.model x.starts.value.items es.value.items) (sym same.initial_are) whole.ready));
      numbered = λ p l at. (let known = whole.numbered p l (ap (λ ps. slice_get ps p) (sym same.processes_are) ∙ at) in (known.0 ∙ sym same.model_is, known.1));
      sound = subst (λ (s : Simulation M S B). Sound (system_of model order s) s.world) (sym (same_simulation x z same)) whole.sound;
    }

    leads_still : (first : Parts M S B U) (r : ℕ) → LeadsTo model order first x r → LeadsTo model order first z r
    leads_still first r a = record {
      before = a.before;
      after = whole_still a.after;
      model_is = same.model_is ∙ a.model_is;
      starts_are = same.starts_are ∙ a.starts_are;
      initial_are = same.initial_are ∙ a.initial_are;
      collected_is = same.collected_is ∙ a.collected_is;
      rises = a.rises;
      below = subst (λ w. r ≤ floor w) (sym (same_world x z same)) a.below;
    }

  module _ {G : Type 0} (n : ℕ) (s : Simulation M S B) where
    -- at the beginning
    pub underway_first : (x : Parts M S B U) (b : Between M G S B U) (r : ℕ) → IsWhole model order x → simulation_of x ≡ s → IsBetween n x b → r ≡ floor s.world → IsUnderway model order n s b r
    underway_first x b r whole of stands is =
        let at : r ≡ floor (world_of x) = is ∙ ap (λ (s : Simulation M S B). floor s.world) (sym of) in
        record {
          now = x;
          leads = record {
            first = x;
            of = of;
            leads = record { before = whole; after = whole; model_is = refl; starts_are = refl; initial_are = refl; collected_is = refl; rises = omega (arith, at); below = omega (arith, at) };
          };
          stands = stands;
        }

    -- after one round more
    pub underway_next : Laws model order → WorldLaws model order → (plan : Plan) (b c : Between M G S B U) (r t : ℕ) → IsInRanges plan → plan.workers ≡ n → IsUnderway model order n s b r → ((x : Parts M S B U) → IsWhole model order x → IsBetween plan.workers x b → RoundTo model order plan x c t) → IsUnderway model order n s c t
    underway_next laws worlds plan b c r t ranges same u round =
        let x = u.now in
        let whole = u.leads.leads.after in
        let to = round x whole (subst (λ k. IsBetween k x b) (sym same) u.stands) in
        record {
          now = to.after;
          leads = record {
            first = u.leads.first;
            of = u.leads.of;
            leads = leads_more u.leads.first x to.after r t u.leads.leads (round_leads laws worlds plan x to.after t ranges whole to.round);
          };
          stands = subst (λ k. IsBetween k to.after c) same to.stands;
        }

    -- what the segment has by the number of its shares
    pub stands_by_shares : (b : Between M G S B U) (r : ℕ) (u : IsUnderway model order n s b r) → IsBetween (length b.shares.items) u.now b
    stands_by_shares b r u = subst (λ k. IsBetween k u.now b) (sym u.stands.many) u.stands

    -- at the end
    pub underway_last : (b : Between M G S B U) (r : ℕ) (z : Parts M S B U) → IsUnderway model order n s b r → ((x : Parts M S B U) → IsBetween (length b.shares.items) x b → IsSameParts x z) → LeadsFrom model order s z r
    underway_last b r z u same = record {
      first = u.leads.first;
      of = u.leads.of;
      leads = leads_still u.now z (same u.now (stands_by_shares b r u)) u.leads.first r u.leads.leads;
    }

-- Joining

-- as many lists as shares
pub same_long : {M S B : Type 0} (lists : List (VecDeque (LogicalProcess M S B) Global)) (shares : List (ProcessList M S B)) → map (λ l. l.items) lists ≡ map (λ h. h.items) shares → length lists ≡ length shares
same_long lists shares same = sym (length-map lists (λ l. l.items)) ∙ (ap length same ∙ length-map shares (λ h. h.items))

module _ {M S B U G : Type 0} (b : Between M G S B U) (some : 0 < length b.shares.items) (x : Parts M S B U) (stands : IsBetween (length b.shares.items) x b) where
  -- by number, the shares have the processes
  pub in_shares : (shares : List (List (LogicalProcess M S B))) → shares ≡ map (λ h. h.items) b.shares.items → (n : ℕ) → n ≡ length b.shares.items → (q : ℕ) → of_shares n shares q ≡ slice_get x.processes.items q
  in_shares shares is n long q =
      let k : ℕ = length b.shares.items in
      let within : q % k < k = omega (arith, some) in
      let number : q % k + (q / k) * k ≡ q = omega (arith, some) in
      ap (λ hs. of_shares n hs q) is
      ∙ (ap (λ m. of_shares m (map (λ h. h.items) b.shares.items) q) long
      ∙ (stands.dealt (q % k) (q / k) within ∙ ap (slice_get x.processes.items) number))

  pub none_missing : (shares : List (List (LogicalProcess M S B))) → shares ≡ map (λ h. h.items) b.shares.items → (n : ℕ) → n ≡ length b.shares.items → (q : ℕ) → q < b.rest.count → of_shares n shares q ≡ None → ⊥
  none_missing shares is n long q within none =
      get_there x.processes.items q (subst (λ k. q < k) stands.count_is within) (sym (in_shares shares is n long q) ∙ none)

  pub joined_are : (shares : List (List (LogicalProcess M S B))) → shares ≡ map (λ h. h.items) b.shares.items → (n : ℕ) → n ≡ length b.shares.items → (all : List (LogicalProcess M S B)) → length all ≡ b.rest.count → ((q : ℕ) → q < b.rest.count → slice_get all q ≡ of_shares n shares q) → all ≡ x.processes.items
  joined_are shares is n long all count each =
      same_lists all x.processes.items (count ∙ stands.count_is)
      (λ q d within.
      let inside : q < length x.processes.items = subst (λ k. q < k) (count ∙ stands.count_is) within in
      get_or_from_slice_get all q (get_or x.processes.items q d) d
      (each q (subst (λ k. q < k) count within) ∙ (in_shares shares is n long q ∙ slice_get-get_or x.processes.items q d inside)))
