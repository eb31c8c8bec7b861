-- All ports of one opening stay so, whatever goes through them.
use Rattle.std.proofs.Common.{◌≡◌, ℕ, zero, suc, ◌<◌, List, [], ◌∷◌, map, length, get_or, sym, refl, ap, ◌∙◌, subst, arith}
use Rattle.rw_exchange.specs.Rings.{cell, AllButOwn}
use Rattle.rw_exchange.specs.Ports.{PortState, IsOpening, SamePort, StayAnOpening, outs_of, intos_of}

map_same : {X Y : Type 0} (f : X → Y) (xs ys : List X) → length ys ≡ length xs → ((i : ℕ) (d : X) → i < length xs → f (get_or ys i d) ≡ f (get_or xs i d)) → map f ys ≡ map f xs
map_same f [] [] e h = refl
map_same f [] (y ∷ ys) e h = absurd (omega arith)
map_same f (x ∷ xs) [] e h = absurd (omega arith)
map_same f (x ∷ xs) (y ∷ ys) e h =
    let head : f y ≡ f x = h zero x (omega arith) in
    let tail : map f ys ≡ map f xs = map_same f xs ys (omega arith) (λ i d lt. h (suc i) d (omega arith)) in λ k. head k ∷ tail k

module _ {T : Type 0} where
  pub opening_kept : (fs gs : List (PortState T)) → IsOpening fs → length gs ≡ length fs → ((i : ℕ) (d : PortState T) → i < length fs → SamePort (get_or fs i d) (get_or gs i d)) → IsOpening gs
  opening_kept fs gs h long same =
      let out : outs_of gs ≡ outs_of fs = map_same (λ (f : PortState T). f.out) fs gs long (λ i d lt. (same i d lt).out) in
      let into : intos_of gs ≡ intos_of fs = map_same (λ (f : PortState T). f.into) fs gs long (λ i d lt. (same i d lt).into) in record {
        numbered = λ i d lt. let l : i < length fs = omega arith in (same i d l).worker ∙ h.numbered i d l;
        wide = λ i d lt.
            let l : i < length fs = omega arith in
            let w = h.wide i d l in
            let s = same i d l in
            (ap length s.out ∙ (w.0 ∙ sym long), ap length s.into ∙ (w.1 ∙ sym long), s.sent ∙ (w.2 ∙ sym long), s.received ∙ (w.3 ∙ sym long));
        others = λ i lt. subst (λ z. AllButOwn i (get_or z i [])) (sym out) (h.others i (omega arith));
        paired = λ i j l k. ap (λ z. cell z i j) out ∙ (h.paired i j (omega arith) (omega arith) ∙ ap (λ z. cell z j i) (sym into));
      }

  pub stay : (fs : List (PortState T)) → IsOpening fs → StayAnOpening fs
  stay fs h gs same = opening_kept fs gs h same.0 same.1
