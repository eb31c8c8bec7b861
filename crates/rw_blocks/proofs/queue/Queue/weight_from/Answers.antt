use Rattle.std.proofs.Common.{arith, sym, ap, subst, ◌≡◌, ◌∙◌, ◌<◌, ◌≤◌, ◌+◌, ◌^◌, ℕ, List, length, drop}
use Rattle.std.specs.Prelude.{sum_by}
use Rattle.std.specs.List.{list_any}
use Rattle.std.specs.Map.{values_of}
use Rattle.rw_blocks.specs.declared.Kind.{Kind}
use Rattle.rw_blocks.specs.declared.Place.{Place}
use Rattle.rw_blocks.specs.Sections.{section_in, has_serial}
use Rattle.rw_blocks.specs.State.{QueueState}
use Rattle.rw_blocks.specs.Rows.{size_of}
use Rattle.rw_blocks.specs.Loose.{IsLoose}
use Rattle.rw_blocks.specs.Index.{bytes_of, place_of}
use Rattle.rw_blocks.specs.Weights.{bytes_where}
use Rattle.rw_blocks.proofs.Weighed.{bytes_where-le}
use Rattle.rw_blocks.proofs.Parting.{weight-blocks, once-behind, next-weight, drop-past}
use Rattle.rw_blocks.proofs.queue.Queue.weight_from.Goals as goal

pub loop-position-init : goal.loop-position-init
loop-position-init c = omega arith

pub overflow_add-bytes : goal.overflow_add-bytes
overflow_add-bytes c =
    let rows : List (ℕ × Place) = c.self.inside.rows in
    let es : List (ℕ × Kind) = (section_in c.self.inside.sections c.args.section).sealed in
    let p : ℕ = c.loop-position.position in
    let end : c.sealed-position-end.result ≡ length es = c.sealed-position-end.ensures in
    let next = next-weight rows es p c.sealed_at-serial.result (let test = c.loop-position-test.true in omega arith) c.sealed_at-serial.ensures in
    let so_far : c.loop-position.bytes + sum_by (λ e. bytes_of place_of e.0 rows) (drop p es) ≡ sum_by (λ e. bytes_of place_of e.0 rows) (drop c.args.from es) = c.loop-position.invariant in
    let read : c.place_bytes-bytes.result ≡ bytes_of place_of c.sealed_at-serial.result.0 rows = c.place_bytes-bytes.ensures in
    let q : QueueState = record { shape = c.self.inside.shape; sections = c.self.inside.sections; rows = c.self.inside.rows; next = c.self.inside.next } in
    let loose : IsLoose q = subst IsLoose (sym c.self.view_is) c.requires.loose in
    let there = c.requires.there in
    let within : c.args.section < length q.sections = omega (arith, ap (λ (z : QueueState). length z.sections) c.self.view_is) in
    let whole : sum_by (λ e. bytes_of place_of e.0 rows) (drop c.args.from es) ≡ bytes_where rows (λ b. list_any (has_serial b) (drop c.args.from es)) =
    weight-blocks rows (drop c.args.from es) (λ b. once-behind q c.args.section c.args.from b loose within) in
    let le : bytes_where rows (λ b. list_any (has_serial b) (drop c.args.from es)) ≤ size_of (values_of rows) = bytes_where-le rows (λ b. list_any (has_serial b) (drop c.args.from es)) in
    let few : size_of (values_of rows) ≤ 2 ^ 48 = loose.within in
    omega (arith, next, so_far, read, whole, le, few)

pub loop-position-preserved : goal.loop-position-preserved
loop-position-preserved c =
    let rows : List (ℕ × Place) = c.self.inside.rows in
    let es : List (ℕ × Kind) = (section_in c.self.inside.sections c.args.section).sealed in
    let p : ℕ = c.loop-position.position in
    let end : c.sealed-position-end.result ≡ length es = c.sealed-position-end.ensures in
    let next = next-weight rows es p c.sealed_at-serial.result (let test = c.loop-position-test.true in omega arith) c.sealed_at-serial.ensures in
    let so_far : c.loop-position.bytes + sum_by (λ e. bytes_of place_of e.0 rows) (drop p es) ≡ sum_by (λ e. bytes_of place_of e.0 rows) (drop c.args.from es) = c.loop-position.invariant in
    let read : c.place_bytes-bytes.result ≡ bytes_of place_of c.sealed_at-serial.result.0 rows = c.place_bytes-bytes.ensures in
    omega (arith, next, so_far, read)

pub returns : goal.returns
returns c =
    let rows : List (ℕ × Place) = c.self.inside.rows in
    let es : List (ℕ × Kind) = (section_in c.self.inside.sections c.args.section).sealed in
    let p : ℕ = c.loop-position.position in
    let q : QueueState = record { shape = c.self.inside.shape; sections = c.self.inside.sections; rows = c.self.inside.rows; next = c.self.inside.next } in
    let loose : IsLoose q = subst IsLoose (sym c.self.view_is) c.requires.loose in
    let there = c.requires.there in
    let within : c.args.section < length q.sections = omega (arith, ap (λ (z : QueueState). length z.sections) c.self.view_is) in
    let whole : sum_by (λ e. bytes_of place_of e.0 rows) (drop c.args.from es) ≡ bytes_where rows (λ b. list_any (has_serial b) (drop c.args.from es)) =
    weight-blocks rows (drop c.args.from es) (λ b. once-behind q c.args.section c.args.from b loose within) in
    let end : c.sealed-position-end.result ≡ length es = c.sealed-position-end.ensures in
    let so_far : c.loop-position.bytes + sum_by (λ e. bytes_of place_of e.0 rows) (drop p es) ≡ sum_by (λ e. bytes_of place_of e.0 rows) (drop c.args.from es) = c.loop-position.invariant in
    let past : length es ≤ p = let test = c.loop-position-test.false in omega arith in
    let none : sum_by (λ e. bytes_of place_of e.0 rows) (drop p es) ≡ 0 = ap (λ (xs : List (ℕ × Kind)). sum_by (λ e. bytes_of place_of e.0 rows) xs) (drop-past p es past) in
    let is : c.loop-position.bytes ≡ bytes_where rows (λ b. list_any (has_serial b) (drop c.args.from es)) = omega (arith, so_far, none, whole) in
    is ∙ ap (λ (z : QueueState). bytes_where z.rows (λ b. list_any (has_serial b) (drop c.args.from (section_in z.sections c.args.section).sealed))) c.self.view_is
