use Rattle.std.proofs.Common.{◌≤◌, ◌+◌, ◌*◌, ◌^◌, arith}
use Rattle.std.proofs.lemmas.Nat.{mul-le}
use Rattle.rw_import.proofs.sheet.check_losses.Goals as goal

pub overflow_mul-from : goal.overflow_mul-from
overflow_mul-from c =
    let most = c.from-then-counts-ge1.result in
    let all = c.from.result + c.all_left_out-left_out.result in
    let low : most ≤ 100 = omega (arith, c.args.options.few_left_out) in
    let few : all ≤ 7 * 2 ^ 64 = omega (arith, c.all_left_out-left_out.ensures.bound) in
    omega (arith, mul-le most all 100 (7 * 2 ^ 64) low few)
