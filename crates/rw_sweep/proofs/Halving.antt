-- A search between two block counts: what is tried stays tried, and the range is halved.
use Rattle.std.proofs.Common.{◌≡◌, ◌<◌, ◌≤◌, ◌+◌, ◌-◌, ◌*◌, ◌/◌, ◌^◌, ◌∙◌, ℕ, suc, List, [], ◌∷◌, ◌++◌, All, Bool, true, false, inr, length, refl, sym, ap, subst, arith}
use native.Mathlib.Numerals.{unary_clauses}
use Rattle.std.specs.List.{Any}
use Rattle.std.proofs.lemmas.List.{get_or_append_left, length_push}
use Rattle.std.proofs.lemmas.List.Elements.{All-nil, All-push}
use Rattle.std.proofs.lemmas.List.Quantifiers.{Any-push}
use Rattle.rw_trace.specs.declared.Row.{Row}
use Rattle.rw_photo.specs.declared.config.Config.{Config}
use Rattle.rw_sweep.specs.declared.sizing.Search.{Search}
use Rattle.rw_sweep.specs.declared.sizing.Tier.{Tier}
use Rattle.rw_sweep.specs.declared.sizing.Tier.TheVariants as tier
use Rattle.rw_sweep.specs.declared.sizing.Try.{Try}
use Rattle.rw_sweep.specs.Sizing.{AddsTry, IsCrossing, IsTriedAt, IsTryOf, config_with, is_reached}

-- another number of blocks leaves the number of edges
pub edges-kept : (c : Config) (t : Tier) (n : ℕ) → (config_with c t n).edges ≡ c.edges
edges-kept c tier.Edges n = refl
edges-kept c tier.Origins n = refl

-- what holds of some element still does with one more
any-kept : {X : Type 0} (P : X → Type 0) (xs : List X) (y : X) → Any P xs → Any P (xs ++ y ∷ [])
any-kept P xs y (k, x, less, is, holds) =
    let more : k < length (xs ++ y ∷ []) = omega (arith, less, length_push xs y) in
    (k, x, more, get_or_append_left xs (y ∷ []) x k less ∙ is, holds)

-- what is tried stays tried
pub kept : (s : Search) (rows : List Row) (n m : ℕ) (b c : Bool) (old new : List Try) → AddsTry s rows m c old new → IsTriedAt s old n b → IsTriedAt s new n b
kept s rows n m b c old new h tried =
    subst (λ ts. IsTriedAt s ts n b) (sym h.after_is) (any-kept (λ t. (t.blocks ≡ n) × (is_reached s t.counters.items ≡ b)) old h.added tried)

-- what was just tried is tried
pub tried-now : (s : Search) (rows : List Row) (n : ℕ) (b : Bool) (old new : List Try) → AddsTry s rows n b old new → IsTriedAt s new n b
tried-now s rows n b old new h =
    subst (λ ts. IsTriedAt s ts n b) (sym h.after_is) (Any-push (λ t. (t.blocks ≡ n) × (is_reached s t.counters.items ≡ b)) old h.added (h.blocks, sym h.told))

-- all are tries of the search
pub all-tries : (s : Search) (rows : List Row) (n : ℕ) (b : Bool) (old new : List Try) → AddsTry s rows n b old new → All (IsTryOf s rows) old → All (IsTryOf s rows) new
all-tries s rows n b old new h all =
    subst (λ ts. All (IsTryOf s rows) ts) (sym h.after_is) (All-push (IsTryOf s rows) old h.added all h.is_try)

-- the first try is one of them
pub first-try : (s : Search) (rows : List Row) (n : ℕ) (b : Bool) (old new : List Try) → old ≡ [] → AddsTry s rows n b old new → All (IsTryOf s rows) new
first-try s rows n b old new none h =
    all-tries s rows n b old new h (subst (All (IsTryOf s rows)) (sym none) (All-nil (IsTryOf s rows)))

-- there is one more
pub one-more : (s : Search) (rows : List Row) (n : ℕ) (b : Bool) (old new : List Try) → AddsTry s rows n b old new → length new ≡ length old + 1
one-more s rows n b old new h = ap (λ ts. length ts) h.after_is ∙ length_push old h.added

-- a range of at most 2^(k + 1) is halved to one of at most 2^k
half : (k low middle high : ℕ) → high - low ≤ 2 * 2 ^ k → middle ≡ low + (high - low) / 2 → low < high → (middle - low ≤ 2 ^ k) × (high - middle ≤ 2 ^ k)
half k low middle high gap is less = (omega arith, omega arith)

power : (k : ℕ) → 2 ^ suc k ≡ 2 * 2 ^ k
power k = simp unary_clauses (omega arith)

pub halved : (i low middle high : ℕ) → i < 16 → high - low ≤ 2 ^ (16 - i) → middle ≡ low + (high - low) / 2 → low < high
    → (middle - low ≤ 2 ^ (16 - (i + 1))) × (high - middle ≤ 2 ^ (16 - (i + 1)))
halved i low middle high more gap is less =
    let next : 16 - i ≡ suc (16 - (i + 1)) = omega arith in
    let twice : 2 ^ (16 - i) ≡ 2 * 2 ^ (16 - (i + 1)) = ap (λ k. 2 ^ k) next ∙ power (16 - (i + 1)) in
    half (16 - (i + 1)) low middle high (subst (λ n. high - low ≤ n) twice gap) is less

-- after sixteen halvings one step is left
pub one-left : (i gap : ℕ) → 16 ≤ i → gap ≤ 2 ^ (16 - i) → gap ≤ 1
one-left i gap all h =
    let none : 16 - i ≡ 0 = omega arith in
    subst (λ k. gap ≤ 2 ^ k) none h

-- ---- a search that goes on between two block counts: the lower one misses the target, and the upper one reaches it
-- after so many halvings, and as many tries more than at first
pub record IsRange (s : Search) (rows : List Row) (first step missed reached : ℕ) (tries : List Try) : Type 0 where
  pub tried : All (IsTryOf s rows) tries
  pub misses : IsTriedAt s tries missed false
  pub reaches : IsTriedAt s tries reached true
  pub in_order : missed < reached
  pub least : s.least ≤ missed
  pub most : reached ≤ s.most
  pub gap : reached - missed ≤ 2 ^ (16 - step)
  pub few : length tries ≤ first + step

-- the block count in the middle reaches the target
pub lowered : (s : Search) (rows : List Row) (first i missed middle reached : ℕ) (old new : List Try) → IsRange s rows first i missed reached old → i < 16 → 1 < reached - missed
    → middle ≡ missed + (reached - missed) / 2 → AddsTry s rows middle true old new → IsRange s rows first (i + 1) missed middle new
lowered s rows first i missed middle reached old new r more wide is h =
    let below = r.in_order in
    let halves = halved i missed middle reached more r.gap is below in
    let count = one-more s rows middle true old new h in
    let most = r.most in
    let few = r.few in
    record {
      tried = all-tries s rows middle true old new h r.tried;
      misses = kept s rows missed middle false true old new h r.misses;
      reaches = tried-now s rows middle true old new h;
      in_order = omega arith;
      least = r.least;
      most = omega arith;
      gap = halves.0;
      few = omega arith;
    }

-- it does not
pub raised : (s : Search) (rows : List Row) (first i missed middle reached : ℕ) (old new : List Try) → IsRange s rows first i missed reached old → i < 16 → 1 < reached - missed
    → middle ≡ missed + (reached - missed) / 2 → AddsTry s rows middle false old new → IsRange s rows first (i + 1) middle reached new
raised s rows first i missed middle reached old new r more wide is h =
    let below = r.in_order in
    let halves = halved i missed middle reached more r.gap is below in
    let count = one-more s rows middle false old new h in
    let least = r.least in
    let few = r.few in
    record {
      tried = all-tries s rows middle false old new h r.tried;
      misses = tried-now s rows middle false old new h;
      reaches = kept s rows reached middle true false old new h r.reaches;
      in_order = omega arith;
      least = omega arith;
      most = r.most;
      gap = halves.1;
      few = omega arith;
    }

-- where nothing is left in between, the upper one is a crossing
pub crossing-of : (s : Search) (rows : List Row) (first i missed reached : ℕ) (tries : List Try) → IsRange s rows first i missed reached tries → reached - missed ≤ 1 → IsCrossing s tries reached
crossing-of s rows first i missed reached tries r narrow =
    let below = r.in_order in
    let next : missed ≡ reached - 1 = omega arith in
    record { reached = r.reaches; crossed = inr (subst (λ n. IsTriedAt s tries n false) next r.misses) }
