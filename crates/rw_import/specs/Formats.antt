-- The formats that no log is read in, and by which bytes each begins.
use Rattle.std.specs.Prelude.{Bool, Option, Some, None, [], ◌∷◌, if◌then◌else◌, nat_eq}
use Rattle.std.specs.List.{starts_with}
use Rattle.rw_trace.specs.Words.{Text}
use Rattle.rw_import.specs.declared.format.Format.{Format}
use Rattle.rw_import.specs.declared.format.Format.TheVariants.{Gzip, Zstandard, Xz, Lcs}

-- the bytes by which a format begins
abbrev pub magic_of : Format → Text
magic_of Gzip = 0x1f ∷ 0x8b ∷ []
magic_of Zstandard = 0x28 ∷ 0xb5 ∷ 0x2f ∷ 0xfd ∷ []
magic_of Xz = 0xfd ∷ 0x37 ∷ 0x7a ∷ 0x58 ∷ 0x5a ∷ 0x00 ∷ []
magic_of Lcs = 0xf0 ∷ 0xde ∷ 0xbc ∷ 0x9a ∷ 0x78 ∷ 0x56 ∷ 0x34 ∷ 0x12 ∷ []

-- whether some bytes begin as a format does
abbrev pub begins : Text → Format → Bool
begins bytes f = starts_with nat_eq bytes (magic_of f)

-- the format by which some bytes begin, if it is one of these
abbrev pub format_in : Text → Option Format
format_in bytes =
    if begins bytes Gzip then Some Gzip
    else if begins bytes Zstandard then Some Zstandard
    else if begins bytes Xz then Some Xz
    else if begins bytes Lcs then Some Lcs
    else None
