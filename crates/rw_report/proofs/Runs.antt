-- What a run asks and gives, at the caches of a configuration.
use Rattle.std.proofs.Common.{◌≡◌, ℕ, zero, suc, ◌+◌, List, [], ◌∷◌, ◌++◌, Some, true, refl, sym, ◌∙◌, ap, subst, length}
use Rattle.std.proofs.lemmas.List.FromFn.{length-map-range_with_len}
use Rattle.std.specs.Prelude.{All, slice_get}
use Rattle.rw_vt.specs.declared.event.Event.{Event}
use Rattle.rw_vt.specs.Limits.{end_of_time}
use Rattle.rw_vt.specs.System.{System, IsOutcome, IsReady, state_after, journal_below, map_from, system}
use Rattle.rw_trace.specs.declared.Row.{Row}
use Rattle.rw_photo.specs.declared.body.Body.{Body}
use Rattle.rw_photo.specs.declared.config.Config.{Config}
use Rattle.rw_photo.specs.declared.photo.Photo.{Photo}
use Rattle.rw_photo.specs.contracts.photo.PhotoVtModel.TheImpl as model
use Rattle.rw_photo.specs.contracts.body.BodyOrd.TheImpl as order
use Rattle.rw_photo.specs.Cache.{Cache, IsWellFormed, start}
use Rattle.rw_photo.specs.Events.{event_of, is_valid}
use Rattle.rw_photo.specs.Simulation.{simulation, starts_of}
use Rattle.rw_report.specs.Beginning.{IsBeginningOf}

-- what is said of each place, with one more
pub pushed : {X : Type 0} (P : ℕ → X → Type 0) (xs : List X) (x : X) → ((p : ℕ) (s : X) → slice_get xs p ≡ Some s → P p s) → P (length xs) x
    → (p : ℕ) (s : X) → slice_get (xs ++ x ∷ []) p ≡ Some s → P p s
pushed P [] x all new zero s is = let same : x ≡ s = cc in subst (P 0) same new
pushed P [] x all new (suc p) s is = cc
pushed P (y ∷ ys) x all new zero s is = all 0 s is
pushed P (y ∷ ys) x all new (suc p) s is = pushed (λ q. P (suc q)) ys x (λ q t h. all (suc q) t h) new p s is

length-map_from : {A C : Type 0} (k : ℕ) (f : ℕ → A → C) (xs : List A) → length (map_from k f xs) ≡ length xs
length-map_from k f [] = refl
length-map_from k f (x ∷ xs) = ap suc (length-map_from (k + 1) f xs)

-- the caches are ready for a run
pub ready : (c : Config) (starts : List Cache) (initial : List (Event Body)) → starts ≡ starts_of c
    → ((p : ℕ) (s : Cache) → slice_get starts p ≡ Some s → IsWellFormed c p s) → All (λ e. is_valid c e ≡ true) initial → IsReady model.ghosts (record { config = c }) starts initial
ready c starts initial is well valid =
    record { enough = ap length is ∙ length-map-range_with_len (start c) 0 (c.edges + c.origins); well_formed = well; valid = valid }

-- any model of the configuration may run them
pub ready-at : (c : Config) (m : Photo) (starts : List Cache) (initial : List (Event Body)) → m.config ≡ c → IsReady model.ghosts (record { config = c }) starts initial
    → IsReady model.ghosts m starts initial
ready-at c m starts initial is r = subst (λ (k : Config). IsReady model.ghosts (record { config = k }) starts initial) (sym is) r

-- the run is the simulation of the configuration
pub simulates : (c : Config) (m : Photo) (bytes : List ℕ) (starts : List Cache) (initial : List (Event Body)) → m.config ≡ c → (b : IsBeginningOf c bytes starts initial)
    → system model.ghosts order.ghosts.cmp m starts initial ≡ simulation c b.rows
simulates c m bytes starts initial config b i =
    record {
      rules = (simulation (config i) b.rows).rules;
      starts = b.starts_are i;
      initial = b.initial_are i;
    }

-- a state for each process
pub length-states : {S B : Type 0} (y : System S B) (t : ℕ) (journals : List (List (Event B))) (states : List S) → IsOutcome y t journals states → length states ≡ length y.starts
length-states y t journals states o = ap length o.states_are ∙ length-map_from 0 (λ q s. state_after (y.rules.step q) s (journal_below y t q)) y.starts

-- the run of rows is their simulation
pub runs-rows : (c : Config) (m : Photo) (rows : List Row) (starts : List Cache) (initial : List (Event Body)) → m.config ≡ c → starts ≡ starts_of c → initial ≡ map_from 0 event_of rows
    → system model.ghosts order.ghosts.cmp m starts initial ≡ simulation c rows
runs-rows c m rows starts initial config first events i =
    record {
      rules = (simulation (config i) rows).rules;
      starts = first i;
      initial = events i;
    }

-- there is a state for each cache
pub length-of-caches : (c : Config) (rows : List Row) (journals : List (List (Event Body))) (states : List Cache) → IsOutcome (simulation c rows) end_of_time journals states → length states ≡ c.edges + c.origins
length-of-caches c rows journals states outcome = length-states (simulation c rows) end_of_time journals states outcome ∙ length-map-range_with_len (start c) 0 (c.edges + c.origins)
