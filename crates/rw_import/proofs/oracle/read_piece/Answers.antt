-- A record is read number by number.
use Rattle.std.proofs.Common.{◌≡◌, ◌-◌, ◌∙◌, ap, arith, drop, length, take}
use Rattle.std.proofs.lemmas.List.{length-drop, length-take-le, take_all}
use Rattle.byteorder.specs.Endian.{little_number}
use Rattle.rw_import.proofs.Sheets.{piece-told}
use Rattle.rw_import.proofs.oracle.read_piece.Goals as goal

pub read_u32-size-requires : goal.read_u32-size-requires
read_u32-size-requires c =
    let p = c.args.piece.now in
    omega (arith, length-take-le (length p - 12) (drop 12 p) (omega (arith, length-drop 12 p)), c.if-piece-lt-PIECE.false)

pub read_u32-time-requires : goal.read_u32-time-requires
read_u32-time-requires c = omega (arith, c.if-piece-lt-PIECE.false)

pub read_u64-requires : goal.read_u64-requires
read_u64-requires c =
    let p = c.args.piece.now in
    omega (arith, length-take-le (length p - 4) (drop 4 p) (omega (arith, length-drop 4 p)), c.if-piece-lt-PIECE.false)

pub overflow_mul-entry : goal.overflow_mul-entry
overflow_mul-entry c = omega (arith, c.from.ensures, c.read_u32-time.type_inv)

pub returns-clause-said : goal.returns-clause-said
returns-clause-said c =
    let p = c.args.piece.now in
    let size : take (length p - 12) (drop 12 p) ≡ drop 12 p = take_all (length p - 12) (drop 12 p) (omega (arith, length-drop 12 p)) in
    let object : take (length p - 4) (drop 4 p) ≡ drop 4 p = take_all (length p - 4) (drop 4 p) (omega (arith, length-drop 4 p)) in
    piece-told p c.from.result c.from-2.result c.read_u64.result c.if-piece-lt-PIECE.false (omega (arith, c.from-2.ensures, c.if-size-eq0.false)) (c.from.ensures ∙ c.read_u32-time.ensures)
    (c.from-2.ensures ∙ c.read_u32-size.ensures ∙ ap (little_number 4) size) (c.read_u64.ensures ∙ ap (little_number 8) object)

pub returns-clause-short : goal.returns-clause-short
returns-clause-short c = omega (arith, c.from.ensures, c.read_u32-time.type_inv)

pub returns-clause-few : goal.returns-clause-few
returns-clause-few c = omega (arith, c.from-2.ensures, c.read_u32-size.type_inv)

pub returns-clause-object : goal.returns-clause-object
returns-clause-object c = c.read_u64.type_inv
