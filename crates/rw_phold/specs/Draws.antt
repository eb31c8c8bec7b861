-- A linear congruence and its inverse.
use Rattle.std.specs.Prelude.{◌≡◌, ◌+◌, ◌-◌, ◌*◌, ◌%◌, ◌^◌, ◌<◌, ℕ, zero, suc, refl}
use Rattle.std.specs.Fn.{iterate}
use Rattle.std.proofs.Common.{arith, add-one}

-- the number that is drawn after another
abbrev pub drawn : ℕ → ℕ
drawn x = (x * 6364136223846793005 % 2 ^ 64 + 1442695040888963407) % 2 ^ 64

-- the number after which another is drawn
abbrev pub undrawn : ℕ → ℕ
undrawn y = (y + 2 ^ 64 - 1442695040888963407) % 2 ^ 64 * 13877824140714322085 % 2 ^ 64

-- what is drawn fits 64 bits
pub drawn_fits : (x : ℕ) → drawn x < 2 ^ 64
drawn_fits x = below (x * 6364136223846793005 % 2 ^ 64 + 1442695040888963407)
  where
    below : (n : ℕ) → n % 2 ^ 64 < 2 ^ 64
    below n = omega arith

pub draws_fit : (n x : ℕ) → x < 2 ^ 64 → iterate drawn n x < 2 ^ 64
draws_fit zero x h = h
draws_fit (suc n) x h = draws_fit n (drawn x) (drawn_fits x)

-- one more time is once more at the end
iterate-last : (h : ℕ → ℕ) (n x : ℕ) → iterate h (suc n) x ≡ h (iterate h n x)
iterate-last h zero x = refl
iterate-last h (suc n) x = iterate-last h n (h x)

pub draw_more : (n x : ℕ) → iterate drawn (n + 1) x ≡ drawn (iterate drawn n x)
draw_more n x = rw add-one (iterate-last drawn n x)

pub undraw_more : (n y : ℕ) → iterate undrawn (n + 1) y ≡ undrawn (iterate undrawn n y)
undraw_more n y = rw add-one (iterate-last undrawn n y)

-- a draw is taken back
pub undrawn_drawn : (x : ℕ) → x < 2 ^ 64 → undrawn (drawn x) ≡ x
undrawn_drawn x h = omega arith

-- so many draws are taken back by as many
pub draws_taken_back : (n x : ℕ) → x < 2 ^ 64 → iterate undrawn n (iterate drawn n x) ≡ x
draws_taken_back zero x h = refl
draws_taken_back (suc n) x h =
    rw (iterate-last drawn n x, undrawn_drawn (iterate drawn n x) (draws_fit n x h))
    (draws_taken_back n x h)
