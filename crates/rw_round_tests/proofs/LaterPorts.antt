-- The ports of an opening, later: taken out of their list and put back, or handed to threads.
use Rattle.std.proofs.Common.{◌≡◌, ℕ, zero, suc, ◌<◌, List, [], ◌∷◌, map, length, get_or, slice_index_or, remove, sym, ap, ◌∙◌, subst, Result, Ok, IfOk, arith}
use Rattle.std.proofs.lemmas.List.{length-map, get_or-map}
use Rattle.rw_exchange.specs.Ports.{PortState, SamePort, IsOpening, StayAnOpening}

some_of : {X : Type 0} (xs : List X) → 0 < length xs → X
some_of [] h = absurd (omega arith)
some_of (x ∷ xs) h = x

-- a list of two, of which the second was taken out, and then the first
pub are_two : {X : Type 0} (xs rest : List X) (first second : X) → length xs ≡ 2 → second ≡ slice_index_or xs 1 second → rest ≡ remove xs 1 → first ≡ slice_index_or rest 0 first → xs ≡ first ∷ second ∷ []
are_two [] rest first second two = absurd (omega arith)
are_two (x ∷ []) rest first second two = absurd (omega arith)
are_two (x ∷ y ∷ []) rest first second two = λ last left front. sym (ap (λ z. z ∷ second ∷ []) (front ∙ ap (λ l. slice_index_or l 0 first) left) ∙ ap (λ z. x ∷ z ∷ []) last)
are_two (x ∷ y ∷ z ∷ xs) rest first second two = absurd (omega arith)

module _ {T : Type 0} where
  pub same_then : (p q r : PortState T) → SamePort p q → SamePort q r → SamePort p r
  same_then p q r a b = record { worker = b.worker ∙ a.worker; capacity = b.capacity ∙ a.capacity; out = b.out ∙ a.out; into = b.into ∙ a.into; sent = b.sent ∙ a.sent; received = b.received ∙ a.received }

  both_same : (p q p' q' : PortState T) → SamePort p p' → SamePort q q' → (i : ℕ) (d : PortState T) → i < 2 → SamePort (get_or (p ∷ q ∷ []) i d) (get_or (p' ∷ q' ∷ []) i d)
  both_same p q p' q' s t zero d lt = s
  both_same p q p' q' s t (suc zero) d lt = t
  both_same p q p' q' s t (suc (suc i)) d lt = absurd (omega arith)

  pub two_stay : (p q p' q' : PortState T) → StayAnOpening (p ∷ q ∷ []) → SamePort p p' → SamePort q q' → IsOpening (p' ∷ q' ∷ [])
  two_stay p q p' q' stay s t = stay (p' ∷ q' ∷ []) (omega arith, both_same p q p' q' s t)

  -- what each of some threads gave back, none of which failed
  pub all_stay : {W E : Type 0} (port : W → PortState T) (ps qs : List (PortState T)) (ws : List W) (rs : List (Result W E)) → StayAnOpening ps → map (λ w. Ok w) ws ≡ rs → length rs ≡ length ps
      → ((i : ℕ) (d : PortState T) (e : Result W E) → i < length ps → IfOk (get_or rs i e) (λ w. SamePort (get_or ps i d) (port w))) → qs ≡ map port ws → IsOpening qs
  all_stay {W = W} {E = E} port ps qs ws rs stay all long each is =
      let wrap : W → Result W E = λ w. Ok w in
      let many : length ws ≡ length ps = sym (length-map ws wrap) ∙ (ap length all ∙ long) in
      stay qs (
        ap length is ∙ (length-map ws port ∙ many),
        λ i d lt.
            let w : W = some_of ws (omega arith) in
            let here : get_or rs i (Ok w) ≡ Ok (get_or ws i w) = ap (λ z. get_or z i (Ok w)) (sym all) ∙ get_or-map wrap ws i w (Ok w) (omega arith) in
            let there : get_or qs i d ≡ port (get_or ws i w) = ap (λ z. get_or z i d) is ∙ get_or-map port ws i w d (omega arith) in
            let same : SamePort (get_or ps i d) (port (get_or ws i w)) = subst (λ r. IfOk r (λ w. SamePort (get_or ps i d) (port w))) here (each i d (Ok w) lt) in
            subst (SamePort (get_or ps i d)) (sym there) same,
      )
