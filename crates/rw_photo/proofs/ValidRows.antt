-- The rows of a trace as events.
use Rattle.std.proofs.Common.{◌≡◌, ◌∙◌, ℕ, zero, suc, take, get_or, add-zero, ◌+◌, ◌^◌, ◌<◌, ◌≤◌, List, [], ◌∷◌, ◌++◌, true, refl, ap, arith, length}
use Rattle.std.specs.Prelude.{All}
use Rattle.std.proofs.lemmas.Bool.Decides.{nat_tests}
use Rattle.std.proofs.lemmas.List.Elements.{All-cons, All-nil, All-head, All-tail}
use Rattle.rw_vt.specs.System.{map_from}
use Rattle.rw_trace.specs.declared.Kind.{Kind}
use Rattle.rw_trace.specs.declared.Kind.TheVariants.{Get, Purge}
use Rattle.rw_trace.specs.declared.Row.{Row}
use Rattle.rw_trace.specs.Laws.{IsRow}
use Rattle.rw_photo.specs.declared.config.Config.{Config}
use Rattle.rw_photo.specs.Events.{is_valid, event_of}

-- a row in its ranges is a valid event, whatever its kind
valid-row : (c : Config) (n : ℕ) (r : Row) → n < 2 ^ 64 → IsRow c.edges r → is_valid c (event_of n r) ≡ true
valid-row c n r l i = go r.kind refl
  where
    go : (k : Kind) → r.kind ≡ k → is_valid c (event_of n r) ≡ true
    go Get is = rw is (grind (arith, nat_tests))
    go Purge is = rw is (grind (arith, nat_tests))

pub valid-rows : (c : Config) (n : ℕ) (rs : List Row) → n + length rs ≤ 2 ^ 64 → All (IsRow c.edges) rs → All (λ e. is_valid c e ≡ true) (map_from n event_of rs)
valid-rows c n [] l all = All-nil (λ e. is_valid c e ≡ true)
valid-rows c n (r ∷ rs) l all =
    All-cons (λ e. is_valid c e ≡ true) (event_of n r) (map_from (n + 1) event_of rs)
    (valid-row c n r (omega arith) (All-head (IsRow c.edges) r rs all))
    (valid-rows c (n + 1) rs (omega arith) (All-tail (IsRow c.edges) r rs all))

-- one row more
pub more-rows : {A C : Type 0} (f : ℕ → A → C) (k n : ℕ) (rs : List A) (d : A) → n < length rs → map_from k f (take (suc n) rs) ≡ map_from k f (take n rs) ++ f (k + n) (get_or rs n d) ∷ []
more-rows f k n [] d l = absurd (omega arith)
more-rows f k zero (x ∷ rs) d l = rw add-zero refl
more-rows f k (suc n) (x ∷ rs) d l =
    let next : (k + 1) + n ≡ k + suc n = omega arith in
    ap (λ l. f k x ∷ l) (more-rows f (k + 1) n rs d (omega arith) ∙ ap (λ m. map_from (k + 1) f (take n rs) ++ f m (get_or rs n d) ∷ []) next)
