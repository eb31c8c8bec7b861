-- The fewest edges of a grid: what a trace may name is in the range of each configuration.
use Rattle.std.proofs.Common.{◌≡◌, ℕ, ◌≤◌, List, [], ◌∷◌, ◌++◌, min, sym, ap, subst, ◌∙◌, arith, All}
use Rattle.std.proofs.lemmas.List.Elements.{All-append, All-cons, All-head, All-map, All-nil, All-tail, All-weaker}
use Rattle.rw_trace.specs.declared.Row.{Row}
use Rattle.rw_trace.specs.Laws.{IsRow}
use Rattle.rw_photo.specs.Limits.{most_edges}
use Rattle.rw_sweep.specs.declared.axes.Axes.{Axes}
use Rattle.rw_sweep.specs.declared.choice.Choice.{Choice}
use Rattle.rw_sweep.specs.declared.point.Point.{Point}
use Rattle.rw_sweep.specs.Grids.{along, choice_of, combinations, least_edges, least_of}
use Rattle.rw_sweep.specs.Points.{IsOfGrid}

-- one number more
pub least-more : (most : ℕ) (ns : List ℕ) (n : ℕ) → least_of most (ns ++ n ∷ []) ≡ min (least_of most ns) n
least-more most [] n = let turned : (a b : ℕ) → min a b ≡ min b a = λ a b. omega arith in turned n most
least-more most (m ∷ ns) n =
    let three : (a b c : ℕ) → min a (min b c) ≡ min (min a b) c = λ a b c. omega arith in
    ap (min m) (least-more most ns n) ∙ three m (least_of most ns) n

-- it is the least
least-below : (most : ℕ) (ns : List ℕ) → All (λ n. least_of most ns ≤ n) ns
least-below most [] = All-nil (λ n. most ≤ n)
least-below most (n ∷ ns) =
    let first : (a b : ℕ) → min a b ≤ a = λ a b. omega arith in
    let other : (a b c : ℕ) → b ≤ c → min a b ≤ c = λ a b c l. omega (arith, l) in
    All-cons (λ k. min n (least_of most ns) ≤ k) n ns (first n (least_of most ns))
    (All-weaker (λ k. least_of most ns ≤ k) (λ k. min n (least_of most ns) ≤ k) (λ k l. other n (least_of most ns) k l) ns (least-below most ns))

-- what holds of all that is made of each
all-made : {A B : Type 0} (P : B → Type 0) (f : A → List B) (xs : List A) → ((x : A) → All P (f x)) → All P (along xs f)
all-made P f [] h = All-nil P
all-made P f (x ∷ xs) h = All-append P (f x) (along xs f) (h x) (all-made P f xs h)

all-along : {A B : Type 0} (Q : A → Type 0) (P : B → Type 0) (f : A → List B) (xs : List A) → All Q xs → ((x : A) → Q x → All P (f x)) → All P (along xs f)
all-along Q P f [] q h = All-nil P
all-along Q P f (x ∷ xs) q h = All-append P (f x) (along xs f) (h x (All-head Q x xs q)) (all-along Q P f xs (All-tail Q x xs q) h)

-- no combination has fewer
fewest : (a : Axes) → All (λ x. least_edges a ≤ x.edges) (combinations a)
fewest a =
    let P : Choice → Type 0 = λ x. least_edges a ≤ x.edges in
    all-made P _ a.policies.items (λ p.
    all-made P _ a.sections.items (λ s.
    all-made P _ a.blocks.items (λ b.
    all-made P _ a.edge_blocks.items (λ e.
    all-made P _ a.origin_blocks.items (λ o.
    all-along (λ n. least_edges a ≤ n) P _ a.edges.items (least-below most_edges a.edges.items) (λ n l.
    all-made P _ a.origins.items (λ m.
    all-made P _ a.up.items (λ u.
    all-made P _ a.down.items (λ d.
    All-map P (λ k. choice_of p s b e o n m u d k) a.back.items (λ i k h. l))))))))))

pub edges-within : (a : Axes) (p : Point) → IsOfGrid a p → least_edges a ≤ p.config.edges
edges-within a p of =
    let (k, l, at) = of.among in
    subst (λ n. least_edges a ≤ n) (sym of.is.config_is.edges) (subst (λ (x : Choice). least_edges a ≤ x.edges) at (fewest a k p.choice l))

-- rows that name few edges are in the range of more
pub wider : (m n : ℕ) (rows : List Row) → m ≤ n → All (IsRow m) rows → All (IsRow n) rows
wider m n rows l ranges = All-weaker (IsRow m) (IsRow n) (λ row is. one row is) rows ranges
  where
    one : (row : Row) → IsRow m row → IsRow n row
    one row is = let edge = is.edge in record { time = is.time; edge = omega (arith, edge, l); object = is.object; some = is.some; few = is.few }
