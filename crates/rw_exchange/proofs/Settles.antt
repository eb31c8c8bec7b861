-- What is left, one ring after another.
use Rattle.std.proofs.Common.{◌≡◌, ◌≢◌, ℕ, zero, suc, ◌+◌, ◌<◌, List, [], ◌∷◌, ◌++◌, map, length, get_or, refl, sym, ap, ◌∙◌, subst, Option, Some, None, is_some, not, false, eq-eqb, Vec, arith}
use Rattle.std.proofs.lemmas.List.{get_or_push, get_or_append_left, get_or-map, get_or_at, length-append, length-map, map-append, nil_from_length}
use Rattle.std.specs.declared.alloc.Global.{Global}
use Rattle.rtrb.specs.declared.producer.Producer.{Producer}
use Rattle.rtrb.specs.declared.consumer.Consumer.{Consumer}
use mathlib.Core.Logic.{dite}
use native.Mathlib.Decide.{ℕ_discrete}
use Rattle.rw_exchange.specs.Rings.{cell, out_rings, out_sent, out_table, in_table, sent_table}
use Rattle.rw_exchange.specs.Ports.{PortState, IsOpening, outs_of, intos_of, entry}
use Rattle.rw_exchange.proofs.Crossing.{at_or_before, row_fit}

-- an element that is next in a walk over a list stands in it at its number
pub walked_at : {A B : Type 0} (f : A → B) (yielded rest rest' whole : List A) (x : A) (n : ℕ) (d : B) → yielded ++ rest ≡ whole → rest ≡ x ∷ rest' → length yielded ≡ n → get_or (map f whole) n d ≡ f x
walked_at f yielded rest rest' whole x n d e r long =
    ap (λ z. get_or (map f z) n d) (sym e ∙ ap (λ z. yielded ++ z) r)
    ∙ (ap (λ z. get_or z n d) (map-append f yielded (x ∷ rest')) ∙ get_or_at (map f yielded) (f x) (map f rest') d n (length-map yielded f ∙ long))

module _ {T : Type 0} (n own : ℕ) (recv0 recv : List (List (List T))) where
  pub fifo_more : (lists lists' sents : List (List T)) (v s : List T) → length lists ≡ n → lists' ≡ lists ++ v ∷ [] → ((j : ℕ) → j < n → entry recv0 j own ++ get_or lists j [] ≡ get_or sents j [])
      → get_or recv n [] ≡ get_or recv0 n [] → entry recv n own ++ v ≡ s → get_or sents n [] ≡ s → (j : ℕ) → j < n + 1 → entry recv0 j own ++ get_or lists' j [] ≡ get_or sents j []
  fifo_more lists lists' sents v s long more old same new is j lt = at_or_before (λ j. entry recv0 j own ++ get_or lists' j [] ≡ get_or sents j []) n j lt
      (λ before. ap (λ ls. entry recv0 j own ++ get_or ls j []) more ∙ (ap (λ l. entry recv0 j own ++ l) (get_or_append_left lists (v ∷ []) [] j (omega arith)) ∙ old j before))
      (ap (λ ls. entry recv0 n own ++ get_or ls n []) more ∙ (ap (λ l. entry recv0 n own ++ l) (get_or_push lists v [] n long) ∙ (ap (λ r. get_or r own [] ++ v) (sym same) ∙ (new ∙ sym is)))) (ℕ_discrete j n)

  -- the same of what came out of each ring and what is left in it, whatever holds of the two
  pub each_of_row : (Q : List T → List T → Type 0) (lists lists' : List (List T)) (v : List T) → length lists ≡ n → lists' ≡ lists ++ v ∷ [] → ((j : ℕ) → j < n → Q (entry recv0 j own) (get_or lists j []))
      → get_or recv n [] ≡ get_or recv0 n [] → Q (entry recv n own) v → (j : ℕ) → j < n + 1 → Q (entry recv0 j own) (get_or lists' j [])
  each_of_row Q lists lists' v long more old same new j lt = at_or_before (λ j. Q (entry recv0 j own) (get_or lists' j [])) n j lt
      (λ before. subst (Q (entry recv0 j own)) (sym (ap (λ ls. get_or ls j []) more ∙ get_or_append_left lists (v ∷ []) [] j (omega arith))) (old j before))
      (subst (Q (entry recv0 n own)) (sym (ap (λ ls. get_or ls n []) more ∙ get_or_push lists v [] n long)) (subst (λ r. Q (get_or r own []) v) same new)) (ℕ_discrete j n)

  pub others_more : (recv' : List (List (List T))) → ((k : ℕ) → k ≢ n → get_or recv' k [] ≡ get_or recv k []) → ((k : ℕ) → k ≢ own → entry recv' n k ≡ entry recv n k)
      → ((j i : ℕ) → i ≢ own → entry recv j i ≡ entry recv0 j i) → (j i : ℕ) → i ≢ own → entry recv' j i ≡ entry recv0 j i
  others_more recv' rows places old j i other = dite (ℕ_discrete j n)
      (λ e. ap (λ k. entry recv' k i) e ∙ (places i other ∙ (ap (λ k. entry recv k i) (sym e) ∙ old j i other)))
      (λ ne. ap (λ r. get_or r i []) (rows j ne) ∙ old j i other)

pub table_more : {T : Type 0} (n count : ℕ) (recv0 recv lists lists' sents : List (List (List T))) (v s : List (List T)) → length lists ≡ n → lists' ≡ lists ++ v ∷ []
    → ((i j : ℕ) → i < n → j < count → entry recv0 j i ++ entry lists i j ≡ entry sents i j)
    → ((j : ℕ) → j < count → entry recv j n ++ get_or v j [] ≡ get_or s j []) → ((j : ℕ) → entry recv j n ≡ entry recv0 j n) → get_or sents n [] ≡ s
    → (i j : ℕ) → i < n + 1 → j < count → entry recv0 j i ++ entry lists' i j ≡ entry sents i j
table_more n count recv0 recv lists lists' sents v s long more old new same is i j lt within = at_or_before (λ i. entry recv0 j i ++ entry lists' i j ≡ entry sents i j) n i lt
    (λ before. ap (λ ls. entry recv0 j i ++ entry ls i j) more ∙ (ap (λ l. entry recv0 j i ++ get_or l j []) (get_or_append_left lists (v ∷ []) [] i (omega arith)) ∙ old i j before within))
    (ap (λ ls. entry recv0 j n ++ entry ls n j) more ∙ (ap (λ l. entry recv0 j n ++ get_or l j []) (get_or_push lists v [] n long) ∙ (ap (λ r. r ++ get_or v j []) (sym (same j)) ∙ (new j within ∙ ap (λ z. get_or z j []) (sym is))))) (ℕ_discrete i n)

pub each_of_table : {T : Type 0} (Q : List T → List T → Type 0) (n count : ℕ) (recv0 recv lists lists' : List (List (List T))) (v : List (List T)) → length lists ≡ n → lists' ≡ lists ++ v ∷ []
    → ((i j : ℕ) → i < n → j < count → Q (entry recv0 j i) (entry lists i j))
    → ((j : ℕ) → j < count → Q (entry recv j n) (get_or v j [])) → ((j : ℕ) → entry recv j n ≡ entry recv0 j n)
    → (i j : ℕ) → i < n + 1 → j < count → Q (entry recv0 j i) (entry lists' i j)
each_of_table Q n count recv0 recv lists lists' v long more old new same i j lt within = at_or_before (λ i. Q (entry recv0 j i) (entry lists' i j)) n i lt
    (λ before. subst (Q (entry recv0 j i)) (sym (ap (λ ls. entry ls i j) more ∙ ap (λ l. get_or l j []) (get_or_append_left lists (v ∷ []) [] i (omega arith)))) (old i j before within))
    (subst (Q (entry recv0 j n)) (sym (ap (λ ls. entry ls n j) more ∙ ap (λ l. get_or l j []) (get_or_push lists v [] n long))) (subst (λ r. Q r (get_or v j [])) (same j) (new j within))) (ℕ_discrete i n)

nil_after : {X : Type 0} (xs ys : List X) → xs ++ ys ≡ [] → ys ≡ []
nil_after xs ys e = nil_from_length ys (omega (arith, length-append xs ys, ap length e))

module _ {T P : Type 0} where
  -- where there is no ring, nothing was sent
  none_sent_in : (xs : List (Option (Producer T Global P))) (j : ℕ) → is_some (get_or (out_rings xs) j None) ≡ false → get_or (map out_sent xs) j [] ≡ []
  none_sent_in [] j e = refl
  none_sent_in (None ∷ xs) zero e = refl
  none_sent_in (Some p ∷ xs) zero e = cc
  none_sent_in (x ∷ xs) (suc j) e = none_sent_in xs j e

  none_sent : (rows : List (Vec (Option (Producer T Global P)) Global)) (i j : ℕ) → is_some (cell (out_table rows) i j) ≡ false → entry (sent_table rows) i j ≡ []
  none_sent [] i j e = refl
  none_sent (r ∷ rows) zero j e = none_sent_in r.items j e
  none_sent (r ∷ rows) (suc i) j e = none_sent rows i j e

module _ {T : Type 0} where
  none_to_itself : (ps : List (PortState T)) (i : ℕ) → IsOpening ps → i < length ps → is_some (cell (outs_of ps) i i) ≡ false
  none_to_itself [] i h lt = absurd (omega arith)
  none_to_itself (p ∷ ps) i h lt = h.others i lt i (subst (λ xs. i < length xs) (sym (get_or-map (λ (q : PortState T). q.out) (p ∷ ps) i p [] lt)) (omega (arith, (h.wide i p lt).0))) ∙ ap not (eq-eqb i i refl)

module _ {T P : Type 0} where
  -- nothing is left from a worker to itself
  pub none_left : (ps : List (PortState T)) (rows : List (Vec (Option (Producer T Global P)) Global)) (i : ℕ) (got left : List T) → IsOpening ps → out_table rows ≡ outs_of ps → i < length ps → got ++ left ≡ entry (sent_table rows) i i → left ≡ []
  none_left ps rows i got left h out lt fifo = nil_after got left (fifo ∙ none_sent rows i i (ap (λ t. is_some (cell t i i)) out ∙ none_to_itself ps i h lt))

  -- what a worker's row of rings is, in the walk over all rows
  pub row_here : (ps : List (PortState T)) (rows yielded rest rest' : List (Vec (Option (Producer T Global P)) Global)) (columns : List (Vec (Option (Consumer T Global P)) Global)) (row : Vec (Option (Producer T Global P)) Global) (n : ℕ) → IsOpening ps
      → out_table rows ≡ outs_of ps → in_table columns ≡ intos_of ps → yielded ++ rest ≡ rows → rest ≡ row ∷ rest' → length yielded ≡ n → n < length ps
      → (length (out_rings row.items) ≡ length ps) × (length (in_table columns) ≡ length ps) × ((j : ℕ) → j < length ps → n < length (get_or (in_table columns) j [])) × ((j : ℕ) → j < length ps → get_or (out_rings row.items) j None ≡ cell (in_table columns) j n)
  row_here ps rows yielded rest rest' columns row n h out into e r long lt = row_fit ps (out_table rows) (in_table columns) n (out_rings row.items) h out into lt (walked_at (λ v. out_rings v.items) yielded rest rest' rows row n [] e r long)
